use Rattle.std.proofs.Common.{◌≡◌, drop, map}
use Rattle.mesa_types.specs.Plain as tree
use Rattle.mesa_types.specs.Typed as t
use Rattle.check_state.specs.Views as view
use Rattle.check_statement_lists.specs.Turns.{one_arm}
use Rattle.check_statement_lists.proofs.Chaining.{behind, chained}
use Rattle.check_statement_lists.proofs.ListLaws.{always, stays}
use Rattle.check_statement_lists.proofs.phrases.NestedChecker.arms.Given as goal

abbrev pub invariant-loop-one : goal.invariant-loop-one
invariant-loop-one g l =
    chained (always (one_arm (view.around l.around))) stays t.NoArms tt l.all (view.state l.fn.state)
    ≡ behind (tree.chain (map tree.arm l.done)) (chained (always (one_arm (view.around l.around))) stays t.NoArms tt (drop l.one-index l.all) (view.state l.state))
