-- One step of what is announced.
use Rattle.std.specs.Prelude.{Ok, not}
use Rattle.mesa_types.specs.mesa_base.specs.declared.identifier.Identifier.{Identifier}
use Rattle.check_rules.specs.Meanings.{Later}
use Rattle.check_rules.specs.Names.{is_declared, coming}
use Rattle.check_rules.specs.Steps.{Check, and_then, only}
use Rattle.check_rules.specs.declared.fault.Cause.TheVariants.{TwiceDeclared}

-- a name that must be new, and is taken from here on
unfoldable pub announced : Identifier → Check (Unit {0})
announced x = λ s. and_then (only (not (is_declared x.name s)) TwiceDeclared x.place) (λ _. Ok (tt, coming x.name Later s))
