-- Two that are joined are together what both were.
use Rattle.std.proofs.Common.{ap, ◌∙◌, ◌++◌}
use Rattle.check_state.specs.Growing.{together}
use Rattle.check_state.proofs.GrowingLaws.{two_joined}
use Rattle.check_state.proofs.growing.merge.Goals as goal

pub loop-newer-preserved : goal.loop-newer-preserved
loop-newer-preserved c =
    ap together c.in_ok-push-4.ensures.items
    ∙ two_joined c.loop-newer.parts.items c.pop.new.self.items c.pop-in-Some.new.self.items c.in-Some.newer c.in-Some-pop.older c.in_ok-new.field-0
    c.in-Some.ensures.items c.in-Some-pop.ensures.items
    (c.in_ok-new.ensures ∙ c.in_ok-all.ensures ∙ ap (λ l. l ++ c.get-in-Some-3.result.now) c.get-in-Some-2.ensures
    ∙ ap (λ l. c.in-Some-pop.older ++ l) c.get-in-Some-3.ensures)
    ∙ c.loop-newer.invariant
