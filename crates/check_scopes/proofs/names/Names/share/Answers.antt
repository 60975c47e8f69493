-- Nothing over what was shared.
use Rattle.std.proofs.Common.{ap, ◌∙◌}
use Rattle.check_scopes.specs.Scopes.{over}
use Rattle.check_scopes.specs.Shows.{means, layered}
use Rattle.check_scopes.proofs.LayerLaws.{valued-nothing}
use Rattle.check_scopes.proofs.names.Names.share.Goals as goal

pub returns-clause-same : goal.returns-clause-same
unfolding means
returns-clause-same g c =
    ap (λ s. over s (layered c.in_ok-frozen.frozen.items)) (valued-nothing c.new-2.result c.new-2.ensures)
    ∙ ap layered (c.in_ok-frozen.ensures ∙ c.as_slice.ensures.value) ∙ c.in_ok-freeze.ensures

pub returns-clause-stays : goal.returns-clause-stays
unfolding means
returns-clause-stays g c =
    ap (λ s. over s (layered c.freeze.new.self.frozen.items)) (valued-nothing c.new.result c.new.ensures) ∙ c.in_ok-freeze.ensures
