-- Parts of the rules of types, as the code takes them one by one.
use Rattle.std.specs.Prelude.{List}
use Rattle.mesa_base.specs.declared.identifier.Identifier.{Identifier}
use Rattle.mesa_base.specs.declared.place.Place.{Place}
use Rattle.syntax_trees.specs.Syntax as s
use Rattle.syntax_trees.specs.declared.syntax.TypeBase.{TypeBase}
use Rattle.check_types.specs.Elements.{all_elements}
use Rattle.check_rules.specs.Around.{Around}
use Rattle.check_rules.specs.Checking.{of_interval}
use Rattle.check_rules.specs.Names.{word_base}
use Rattle.check_rules.specs.Parts.{names_of}
use Rattle.interface_records.specs.PlainTypes as v
use Rattle.interface_records.specs.PlainTypes.{PlainField, PlainType, parts_of}
use Rattle.check_rules.specs.Steps.{Check, ◌>>=◌, pure}
use Rattle.check_rules.specs.TypeRules.{origin}

abbrev pub enumeration_type : Around → Place → List Identifier → PlainType
enumeration_type a p xs = v.Enumeration (origin a.known p) (names_of xs)

-- an enumeration, whose elements are declared
unfoldable pub enumeration : Around → Place → List Identifier → Check PlainType
enumeration a p xs = all_elements a (enumeration_type a p xs) p xs >>= (λ _. pure (enumeration_type a p xs))

-- a subrange between two bounds, of a base or not
unfoldable pub ranged : Around → TypeBase → s.Interval → Check PlainType
ranged a b i = word_base a b >>= (λ said. of_interval a said i)

abbrev pub record_type : Around → Place → List PlainField → PlainType
record_type a p fs = v.Record (origin a.known p) (parts_of fs)
