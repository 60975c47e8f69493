use Rattle.std.proofs.Common.{[], ◌++◌, map, rules, ap, ◌∙◌}
use Rattle.mesa_types.specs.Plain as tree
use Rattle.mesa_types.specs.Typed as t
use Rattle.check_rules.specs.Parts.{names_of}
use Rattle.check_state.specs.Views as view
use Rattle.check_statement_lists.specs.Views as views
use Rattle.check_statement_lists.proofs.Chaining.{chained_at, chained_end, chained_turn, nothing_behind}
use Rattle.check_statement_lists.proofs.Giving.{given, has_none, on_ok}
use Rattle.check_statement_lists.proofs.ListLaws.{behind_exit, chain_onto, exit_at, exits_are}
use Rattle.check_statement_lists.proofs.phrases.NestedChecker.exits.Goals as goal

pub loop-one-init : goal.loop-one-init
unfolding view.around
loop-one-init g c = record { names = []; knows = has_none c.new.result c.new.ensures; so = rw c.new-done.ensures (nothing_behind _) }

pub loop-one-preserved : goal.loop-one-preserved
loop-one-preserved g c =
    let now = c.loop-one.invariant in
    record {
      names = now.names ++ names_of c.one-item.result.labels;
      knows = on_ok c.exit.result c.in_ok-held.exit c.exit.ensures.names (search rules) now.names now.knows;
      so = now.so
          ∙ chained_turn (exit_at (view.around c.args.around.now)) behind_exit t.NoExits (c.loop-one.taken.next, now.names) (c.exit.new.taken.next, now.names ++ names_of c.one-item.result.labels)
          (tree.chain (map tree.exit c.loop-one.done)) (tree.chain (map tree.exit c.in_ok-done.done)) (tree.exit c.in_ok-held.exit)
          c.args.all.now c.loop-one.one-index c.one-item.result (view.state c.loop-one.state) (view.state c.exit.new.state)
          (search rules) (search rules) (given tree.exit _ c.exit.result (view.state c.exit.new.state) c.in_ok-held.exit (c.exit.ensures.outcome now.names now.knows) (search rules))
          (chain_onto tree.exit c.loop-one.done c.in_ok-done.done c.in_ok-held.exit (search rules))
          (ap (λ n. (n, now.names ++ names_of c.one-item.result.labels)) (on_ok c.exit.result c.in_ok-held.exit c.exit.ensures.next (search rules)));
    }

pub returns-in_err-held : goal.returns-in_err-held
returns-in_err-held g c =
    let now = c.loop-one.invariant in
    let told = c.exit.ensures.outcome now.names now.knows in
    rw (exits_are (view.around c.args.around.now) ((view.around c.args.around.now).labelled, []) c.args.all.now (view.state c.args.state.now)) (
    rw now.so (
    rw (chained_at (exit_at (view.around c.args.around.now)) behind_exit t.NoExits (c.loop-one.taken.next, now.names) (tree.chain (map tree.exit c.loop-one.done)) c.args.all.now c.loop-one.one-index c.one-item.result (view.state c.loop-one.state) (search rules) (search rules))
    (search (rules, told))))

pub returns : goal.returns
unfolding views.exits
returns g c =
    let now = c.loop-one.invariant in
    rw (exits_are (view.around c.args.around.now) ((view.around c.args.around.now).labelled, []) c.args.all.now (view.state c.args.state.now)) (
    rw now.so (
    rw (chained_end (exit_at (view.around c.args.around.now)) behind_exit t.NoExits (c.loop-one.taken.next, now.names) (tree.chain (map tree.exit c.loop-one.done)) c.args.all.now c.loop-one.one-index (view.state c.loop-one.state) (search rules))
    (search rules)))
