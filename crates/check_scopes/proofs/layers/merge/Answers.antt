-- Two that are joined say what both said.
use Rattle.std.proofs.Common.{ap, ◌∙◌}
use Rattle.check_scopes.specs.Scopes.{over}
use Rattle.check_scopes.specs.Shows.{layered, valued}
use Rattle.check_scopes.proofs.LayerLaws.{two_joined}
use Rattle.check_scopes.proofs.layers.merge.Goals as goal

pub loop-newer-preserved : goal.loop-newer-preserved
loop-newer-preserved g c =
    ap layered c.in_ok-push-4.ensures.items
    ∙ two_joined c.loop-newer.layers.items c.pop.new.self.items c.pop-in-Some.new.self.items c.in-Some.newer c.in-Some-pop.older c.in_ok-new.field-0
    c.in-Some.ensures.items c.in-Some-pop.ensures.items
    (ap valued c.in_ok-new.ensures ∙ c.in_ok-both.ensures
    ∙ ap (λ i. over (valued i) (valued c.get-in-Some-2.result.now)) c.get-in-Some-3.ensures
    ∙ ap (λ i. over (valued c.in-Some.newer) (valued i)) c.get-in-Some-2.ensures)
    ∙ c.loop-newer.invariant
