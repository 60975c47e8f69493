use Rattle.std.proofs.Common.{[], ◌++◌, false, refl, rules, ◌∙◌}
use Rattle.std.specs.Prelude.{is_some}
use Rattle.check_rules.specs.Parts.{names_of}
use Rattle.check_rules.specs.Statements.{labels_of}
use Rattle.check_state.specs.Views as view
use Rattle.check_statement_lists.specs.Turns.{repeat_behind}
use Rattle.check_statement_lists.specs.Views as views
use Rattle.check_statement_lists.proofs.Chaining.{chained_end, made_at, made_turn}
use Rattle.check_statement_lists.proofs.Giving.{given, has_none, if_ok, on_ok}
use Rattle.check_statement_lists.proofs.ListLaws.{before, before_is, behind_repeat, nothing_left, repeat_at, repeats_are}
use Rattle.check_statement_lists.proofs.phrases.NestedChecker.repeats.Goals as goal

pub loop-one-init : goal.loop-one-init
unfolding view.around
loop-one-init g c = record { names = []; knows = has_none c.new.result c.new.ensures; so = nothing_left _ c.new-2.ensures refl _ }

pub loop-one-preserved : goal.loop-one-preserved
unfolding repeat_behind
loop-one-preserved g c =
    let now = c.loop-one.invariant in
    record {
      names = now.names ++ names_of (labels_of c.one-item.result.labels);
      knows = on_ok c.repeat.result c.in_ok-done.done c.repeat.ensures.names (search rules) now.names now.knows;
      so = now.so
          ∙ made_turn (repeat_at (view.around c.args.around.now)) behind_repeat views.no_more (before c.loop-one.taken.next now.names (is_some c.loop-one.done.finished))
          (before c.repeat.new.taken.next (now.names ++ names_of (labels_of c.one-item.result.labels)) (is_some c.in_ok-done.done.finished))
          (views.onto c.loop-one.done) (views.onto c.in_ok-done.done)
          c.args.all.now c.loop-one.one-index c.one-item.result (view.state c.loop-one.state) (view.state c.repeat.new.state)
          (search rules) (search rules) (given views.onto _ c.repeat.result (view.state c.repeat.new.state) c.in_ok-done.done (c.repeat.ensures.outcome now.names now.knows) (search rules))
          (before_is _ _ _ _ _ (on_ok c.repeat.result c.in_ok-done.done c.repeat.ensures.next (search rules)) (if_ok _ c.repeat.result c.in_ok-done.done c.repeat.ensures.finished (search rules)));
    }

pub returns-in_err-done : goal.returns-in_err-done
unfolding repeat_behind
returns-in_err-done g c =
    let now = c.loop-one.invariant in
    let told = c.repeat.ensures.outcome now.names now.knows in
    rw (repeats_are (view.around c.args.around.now) (before (view.around c.args.around.now).labelled [] false) c.args.all.now (view.state c.args.state.now)) (
    rw now.so (
    rw (made_at (repeat_at (view.around c.args.around.now)) behind_repeat views.no_more (before c.loop-one.taken.next now.names (is_some c.loop-one.done.finished)) (views.onto c.loop-one.done) c.args.all.now c.loop-one.one-index c.one-item.result (view.state c.loop-one.state) (search rules) (search rules))
    (search (rules, told))))

pub returns : goal.returns
returns g c =
    let now = c.loop-one.invariant in
    rw (repeats_are (view.around c.args.around.now) (before (view.around c.args.around.now).labelled [] false) c.args.all.now (view.state c.args.state.now)) (
    rw now.so (
    rw (chained_end (repeat_at (view.around c.args.around.now)) behind_repeat views.no_more (before c.loop-one.taken.next now.names (is_some c.loop-one.done.finished)) (views.onto c.loop-one.done) c.args.all.now c.loop-one.one-index (view.state c.loop-one.state) (search rules))
    (search rules)))
