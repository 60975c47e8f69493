use Rattle.std.proofs.Common.{◌≡◌, ◌∙◌, ap, sym, drop, get_or, arith}
use Rattle.code_rules.specs.OwnCode.{arrange_from}
use Rattle.code_trees.proofs.Places.{in_its_place, sizes_end}
use Rattle.code_trees.proofs.arranging.arranged.Goals as goal

pub returns-then-begun-sizes : goal.returns-then-begun-sizes
returns-then-begun-sizes c =
    c.new.ensures
    ∙ sym (sizes_end c.args.places.now c.args.sizes.now c.loop-place.at (omega (arith, c.if-begun-sizes.true)))
    ∙ c.loop-place.invariant.1

pub loop-place-preserved : goal.loop-place-preserved
loop-place-preserved c =
    let here : get_or c.args.places.now c.loop-place.place-index 0 ≡ c.loop-place.at = omega (arith, c.if-place-at.false) in (
      omega (arith, c.in_ok-at.ensures, c.loop-place.invariant.0),
      ap (λ n. arrange_from n (drop n c.args.places.now) (drop n c.args.sizes.now)) c.in_ok-at.ensures
          ∙ sym (in_its_place c.args.places.now c.args.sizes.now c.loop-place.at
          (omega (arith, c.loop-place-test.true, c.loop-place.invariant.0)) (omega (arith, c.if-begun-sizes.false))
          (ap (λ n. get_or c.args.places.now n 0) c.loop-place.invariant.0 ∙ here))
          ∙ c.loop-place.invariant.1,
    )
