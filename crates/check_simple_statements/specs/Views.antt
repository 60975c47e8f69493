-- What the code's values stand for.
use Rattle.std.specs.Prelude.{List, map}
use Rattle.mesa_types.specs.Plain as tree
use Rattle.mesa_types.specs.Plain.{condition}
use Rattle.mesa_types.specs.Typed as t
use Rattle.mesa_types.specs.declared.typed_tree.Target.{Target}
use Rattle.mesa_types.specs.declared.typed_tree.Test.{Test}
use Rattle.check_rules.specs.Statements as rule
use Rattle.check_declared.specs.Views.{rounds}
use Rattle.check_simple_statements.specs.declared.controls.Controlled.{Controlled}
use Rattle.check_simple_statements.specs.declared.controls.Counted.{Counted}
use Rattle.check_simple_statements.specs.declared.controls.Counted.TheVariants.{NotCounted, By}

unfoldable pub targets : List Target → t.Targets
targets xs = tree.chain (map tree.target xs) t.NoTargets

unfoldable pub tests : List Test → t.Tests
tests xs = tree.chain (map tree.test xs) t.NoTests

abbrev pub counted : Counted → rule.Counted
counted NotCounted = rule.NotCounted
counted (By g down r) = rule.By g down (rounds r)

abbrev pub controlled : Controlled → rule.Controlled
controlled c = record { count = counted c.count; condition = condition c.condition }
