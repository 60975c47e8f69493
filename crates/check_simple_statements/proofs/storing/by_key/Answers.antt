use Rattle.std.proofs.Common.{map, rules}
use Rattle.mesa_types.specs.Plain.{target}
use Rattle.check_state.specs.Views as words
use Rattle.check_simple_statements.specs.Views as view
use Rattle.check_simple_statements.proofs.Chains.{onto_none}
use Rattle.check_simple_statements.proofs.TargetLaws.{by_key_at, by_key_end, none_taken, one_more_taken, taken_more, targets_more}
use Rattle.check_simple_statements.proofs.storing.by_key.Goals as goal

pub loop-one-init : goal.loop-one-init
loop-one-init g c = record {
  taken = none_taken c.args.all.now c.new-taken.result c.new-taken.ensures;
  so_far = rw c.new-done.ensures (onto_none _);
}

pub loop-one-preserved : goal.loop-one-preserved
loop-one-preserved g c = record {
  taken =
      rw (taken_more c.args.all.now c.loop-one.one-index c.one-item.result (search rules) (search rules))
      (one_more_taken _ _ _ _ (search rules) c.loop-one.invariant.taken);
  so_far =
      rw c.loop-one.invariant.so_far
      (rw (by_key_at (words.around c.args.around.now) c.args.start (map target c.loop-one.done) (words.fields c.args.spots.now.fields.now) _ c.loop-one.taken c.args.all.now c.loop-one.one-index c.one-item.result (words.state c.loop-one.state) c.loop-one.invariant.taken (search rules) (search rules))
      (rw (taken_more c.args.all.now c.loop-one.one-index c.one-item.result (search rules) (search rules)) (search (rules, targets_more))));
}

pub returns-in_err-held : goal.returns-in_err-held
returns-in_err-held g c =
    rw c.loop-one.invariant.so_far
    (rw (by_key_at (words.around c.args.around.now) c.args.start (map target c.loop-one.done) (words.fields c.args.spots.now.fields.now) _ c.loop-one.taken c.args.all.now c.loop-one.one-index c.one-item.result (words.state c.loop-one.state) c.loop-one.invariant.taken (search rules) (search rules))
    (search rules))

pub returns : goal.returns
unfolding view.targets
returns g c =
    rw c.loop-one.invariant.so_far
    (rw (by_key_end (words.around c.args.around.now) c.args.start (map target c.loop-one.done) (words.fields c.args.spots.now.fields.now) _ c.args.all.now c.loop-one.one-index (words.state c.loop-one.state) (search rules)) (search rules))
