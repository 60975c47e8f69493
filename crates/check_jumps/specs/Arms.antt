-- One label of an arm, as the definition asks each of them.
use Rattle.std.specs.Prelude.{Bool, false, ◌&&◌, List}
use Rattle.syntax_trees.specs.declared.syntax.QualifiedName.{QualifiedName}
use Rattle.check_rules.specs.Around.{Around, ArmLabel, ForSignal, is_signal}
use Rattle.check_rules.specs.Names.{qualified, signal_by}
use Rattle.check_rules.specs.Parts.{last_of, same_fields, same_types}
use Rattle.interface_records.specs.PlainTypes.{PlainField, PlainItem}
use Rattle.check_rules.specs.Steps.{Check, ◌>>=◌, lift}

-- the signal or error that a name is of
abbrev pub signal : Around → QualifiedName → Check ArmLabel
signal a q = qualified a q >>= (λ m. lift (signal_by (last_of q).place m))

abbrev pub is_resumable : ArmLabel → Bool
is_resumable (ForSignal r i) = is_signal i.kind
is_resumable _ = false

-- whether what it is for gives these types
abbrev pub gives : List PlainField → ArmLabel → Bool
gives fs (ForSignal r i) = same_types i.gives fs
gives fs _ = false

-- whether what it is for is of one type with this head, names included
abbrev pub is_like : PlainItem → ArmLabel → Bool
is_like i (ForSignal r j) = same_fields j.takes i.takes && same_fields j.gives i.gives
is_like i _ = false
