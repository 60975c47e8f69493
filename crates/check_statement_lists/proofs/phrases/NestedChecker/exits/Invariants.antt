use Rattle.std.proofs.Common.{◌≡◌, ℕ, List, [], drop, map}
use Rattle.mesa_types.specs.Plain as tree
use Rattle.mesa_types.specs.Typed as t
use Rattle.check_state.specs.Views as view
use Rattle.check_declared.specs.Naming.{HasNames}
use Rattle.check_statement_lists.proofs.Chaining.{behind, chained}
use Rattle.check_statement_lists.proofs.ListLaws.{exit_at, behind_exit}
use Rattle.check_statement_lists.proofs.phrases.NestedChecker.exits.Given as goal

abbrev pub invariant-loop-one : goal.invariant-loop-one
invariant-loop-one g l = record {
  names : List (List ℕ);
  knows : HasNames l.taken.names names;
  so : chained (exit_at (view.around l.around)) behind_exit t.NoExits ((view.around l.around).labelled, []) l.all (view.state l.fn.state)
      ≡ behind (tree.chain (map tree.exit l.done)) (chained (exit_at (view.around l.around)) behind_exit t.NoExits (l.taken.next, names) (drop l.one-index l.all) (view.state l.state));
}
