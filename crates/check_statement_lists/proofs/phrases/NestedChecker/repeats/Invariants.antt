use Rattle.std.proofs.Common.{◌≡◌, ℕ, List, [], false, drop}
use Rattle.std.specs.Prelude.{is_some}
use Rattle.check_state.specs.Views as view
use Rattle.check_declared.specs.Naming.{HasNames}
use Rattle.check_statement_lists.specs.Views.{no_more, onto}
use Rattle.check_statement_lists.proofs.Chaining.{behind, chained}
use Rattle.check_statement_lists.proofs.ListLaws.{before, behind_repeat, repeat_at}
use Rattle.check_statement_lists.proofs.phrases.NestedChecker.repeats.Given as goal

abbrev pub invariant-loop-one : goal.invariant-loop-one
invariant-loop-one g l = record {
  names : List (List ℕ);
  knows : HasNames l.taken.names names;
  so : chained (repeat_at (view.around l.around)) behind_repeat no_more (before (view.around l.around).labelled [] false) l.all (view.state l.fn.state)
      ≡ behind (onto l.done) (chained (repeat_at (view.around l.around)) behind_repeat no_more (before l.taken.next names (is_some l.done.finished)) (drop l.one-index l.all) (view.state l.state));
}
