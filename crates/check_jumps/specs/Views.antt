-- What the code's values stand for.
use Rattle.check_rules.specs.Statements as rule
use Rattle.check_state.specs.Views.{names}
use Rattle.check_jumps.specs.declared.entering.ArmPlace.{ArmPlace}

abbrev pub arm_place : ArmPlace → rule.ArmPlace
arm_place x = record { scope = names x.scope; first = x.first; count = x.count }
