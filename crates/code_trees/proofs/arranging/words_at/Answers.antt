use Rattle.std.proofs.Common.{◌+◌, ◌∙◌, ap, sym, drop, arith}
use Rattle.code_rules.specs.OwnCode.{total}
use Rattle.code_trees.proofs.Places.{found_after, rest_of}
use Rattle.code_trees.proofs.arranging.words_at.Goals as goal

pub returns-in_ok-total-clause-after : goal.returns-in_ok-total-clause-after
returns-in_ok-total-clause-after c =
    c.in_ok-total.ensures
    ∙ ap total (rest_of (c.in_ok-at.field-0 + 1) c.args.sizes.now)
    ∙ ap (λ n. total (drop (n + 1) c.args.sizes.now)) c.in_ok-at.ensures
    ∙ sym (found_after c.args.place c.args.places.now c.args.sizes.now
    (omega (arith, c.if-at-places.true, c.in_ok-at.ensures)) (omega (arith, c.if-at-sizes.true, c.in_ok-at.ensures)))
