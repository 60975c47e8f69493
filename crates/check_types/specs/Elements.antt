-- One element of an enumeration, and all of them within their limit.
use Rattle.std.specs.Prelude.{ℕ, List, Ok, not}
use Rattle.mesa_base.specs.declared.identifier.Identifier.{Identifier}
use Rattle.mesa_base.specs.declared.place.Place.{Place}
use Rattle.check_rules.specs.Around.{Around}
use Rattle.check_rules.specs.Meanings.{Constant}
use Rattle.check_rules.specs.Names.{announce, is_declared, element_in}
use Rattle.interface_records.specs.PlainTypes.{PlainType}
use Rattle.check_rules.specs.Steps.{Check, and_then, ◌>>=◌, fail, lift, only}
use Rattle.check_rules.specs.TypeRules.{elements, few}
use Rattle.check_rules.specs.declared.fault.Cause.TheVariants.{TwiceDeclared, TypeTooLarge}

unfoldable pub element : Around → PlainType → ℕ → Identifier → Check (Unit {0})
element a k n x = λ s. and_then (only (not (is_declared x.name s)) TwiceDeclared x.place) (λ _. Ok (tt, element_in a.is_outermost x.name (Constant k n) s))

abbrev pub all_elements : Around → PlainType → Place → List Identifier → Check (Unit {0})
all_elements a k p xs = elements a k 0 xs >>= (λ _. lift (few p xs))

-- more of them than there may be: the first that is declared twice is the fault, else that they are too many
abbrev pub too_many : Place → List Identifier → Check (Unit {0})
too_many p xs = announce xs >>= (λ _. fail TypeTooLarge p)
