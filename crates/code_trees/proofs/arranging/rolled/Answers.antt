use Rattle.std.proofs.Common.{◌+◌, ◌++◌, ◌∙◌, ap, sym, length, arith}
use Rattle.code_rules.specs.OwnCode.{size_after, size_for}
use Rattle.code_trees.specs.Excess.{excess_in}
use Rattle.code_trees.proofs.Places.{first_fits, lift_is, no_place_left, nothing_more, rest_code, rest_fits}
use Rattle.code_trees.proofs.Taken.{rolls_stay}
use Rattle.code_trees.proofs.arranging.rolled.Goals as goal

pub put_lift-requires : goal.put_lift-requires
put_lift-requires c =
    let size = c.in_ok-words.ensures.size ∙ ap (λ l. size_for c.loop-step.place c.args.places.now l) c.as_slice.ensures in
    let after = c.in_ok-words.ensures.after ∙ ap (λ l. size_after c.loop-step.place c.args.places.now l) c.as_slice.ensures in
    ap excess_in (lift_is _ _ _ _ _ c.loop-step.moved size after c.in_ok-together.ensures)
    ∙ first_fits c.loop-step.place (length c.args.places.now) c.loop-step.step c.args.places.now c.loop-step.left c.loop-step.moved
    c.loop-step-test.true c.loop-step.invariant.fits

pub loop-step-preserved : goal.loop-step-preserved
loop-step-preserved c =
    let size = c.in_ok-words.ensures.size ∙ ap (λ l. size_for c.loop-step.place c.args.places.now l) c.as_slice.ensures in
    let after = c.in_ok-words.ensures.after ∙ ap (λ l. size_after c.loop-step.place c.args.places.now l) c.as_slice.ensures in
    let moved = c.in_ok-moved.ensures ∙ ap (λ n. c.loop-step.moved + n) size in
    let put = c.in_ok-put_lift.ensures ∙ ap (λ l. c.loop-step.code ++ l) (lift_is _ _ _ _ _ c.loop-step.moved size after c.in_ok-together.ensures) in
    record {
      code = rest_code c.loop-step.place (length c.args.places.now) c.loop-step.step c.args.places.now c.loop-step.left c.loop-step.moved
          c.loop-step-test.true c.in_ok-place.place c.in_ok-left-2.left c.in_ok-moved.moved c.loop-step.code c.put_lift.new.code _
          c.in_ok-place.ensures c.in_ok-left-2.ensures moved put c.loop-step.invariant.code;
      fits = rest_fits c.loop-step.place (length c.args.places.now) c.loop-step.step c.args.places.now c.loop-step.left c.loop-step.moved
          c.loop-step-test.true c.in_ok-place.place c.in_ok-left-2.left c.in_ok-moved.moved
          c.in_ok-place.ensures c.in_ok-left-2.ensures moved c.loop-step.invariant.fits;
    }

pub returns : goal.returns
returns c =
    sym (nothing_more c.loop-step.code)
    ∙ ap (λ l. c.loop-step.code ++ l) (sym (no_place_left c.loop-step.place (length c.args.places.now) c.loop-step.step c.args.places.now
    c.loop-step.left c.loop-step.moved (omega (arith, c.loop-step-test.false))))
    ∙ c.loop-step.invariant.code
    ∙ sym (rolls_stay c.args.first (length c.args.places.now) c.args.places.now c.args.sizes.now 0)
