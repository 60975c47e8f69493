-- The frame of a procedure, as the code takes its steps.
use Rattle.std.specs.Prelude.{◌+◌, List, nat_le}
use Rattle.mesa_base.specs.declared.limits.TheConstants.{LOCAL_WORDS}
use Rattle.mesa_base.specs.declared.place.Place.{Place}
use Rattle.mesa_types.specs.Shapes.{words_in_all}
use Rattle.interface_records.specs.PlainTypes.{PlainField, words_of_fields}
use Rattle.check_rules.specs.Steps.{State, Checked, only}
use Rattle.check_rules.specs.declared.fault.Cause.TheVariants.{FrameTooLarge}

-- the words of parameters, results, variables and hidden words together are limited
abbrev pub few_locals : List PlainField → List PlainField → Place → State → Checked (Unit {0})
few_locals takes gives p s = only (nat_le (words_of_fields takes + words_of_fields gives + words_in_all s.variables + s.hidden) LOCAL_WORDS) FrameTooLarge p
