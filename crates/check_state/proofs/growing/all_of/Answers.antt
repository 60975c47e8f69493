-- One part more.
use Rattle.std.proofs.Common.{ap, sym, ◌∙◌, ◌++◌, [], refl, take}
use Rattle.check_state.specs.Growing.{together}
use Rattle.check_state.proofs.GrowingLaws.{no_part, part_more}
use Rattle.check_state.proofs.growing.all_of.Goals as goal

pub loop-part-init : goal.loop-part-init
loop-part-init c = c.new-all.ensures ∙ sym (no_part [] refl)

pub loop-part-preserved : goal.loop-part-preserved
loop-part-preserved c =
    let parts = c.args.parts.now in
    c.in_ok-put_copies.ensures ∙ ap (λ l. l ++ c.as_slice.result.now) c.loop-part.invariant
    ∙ ap (λ part. together (take c.loop-part.part-index parts) ++ part) (c.as_slice.ensures ∙ c.get.ensures)
    ∙ part_more parts c.loop-part.part-index c.part-item.result c.loop-part-test.true c.part-item.is
