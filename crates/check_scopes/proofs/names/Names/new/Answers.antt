-- Nothing over nothing.
use Rattle.std.proofs.Common.{ap, ◌∙◌}
use Rattle.check_scopes.specs.Scopes.{over}
use Rattle.check_scopes.specs.Shows.{means, layered}
use Rattle.check_scopes.proofs.LayerLaws.{valued-nothing, not_there}
use Rattle.check_scopes.proofs.names.Names.new.Goals as goal

pub returns : goal.returns
unfolding means
returns g c =
    ap (λ s. over s (layered c.new-2.result.items)) (valued-nothing c.new.result c.new.ensures) ∙ not_there c.new-2.result.items c.new-2.ensures.items
