-- Copies say what was copied.
use Rattle.std.proofs.Common.{ap, ◌∙◌}
use Rattle.check_scopes.specs.Scopes.{over}
use Rattle.check_scopes.specs.Shows.{valued}
use Rattle.check_scopes.proofs.LayerLaws.{valued-over}
use Rattle.check_scopes.proofs.layers.joined.Goals as goal

pub returns : goal.returns
returns g c =
    valued-over c.in_ok-copied.field-0 c.in_ok-both.both c.declare_all.new.self c.in_ok-declare_all.ensures
    ∙ ap (λ s. over s (valued c.in_ok-both.both)) c.in_ok-copied.ensures ∙ ap (over (valued c.args.newer.now)) c.in_ok-both.ensures
