-- Names over the newest ones are over all.
use Rattle.std.proofs.Common.{ap, ◌∙◌}
use Rattle.check_scopes.specs.Scopes.{over}
use Rattle.check_scopes.specs.Shows.{means, valued, layered}
use Rattle.check_scopes.proofs.Innermost.{ok_also}
use Rattle.check_scopes.proofs.LayerLaws.{valued-over, over-over}
use Rattle.check_scopes.proofs.names.Names.declare_all.Goals as goal

pub returns : goal.returns
unfolding means
returns g c =
    let frozen = c.args.self.now.frozen.items in
    ok_also c.declare_all.result (λ h.
    ap (λ s. over s (layered frozen)) (valued-over c.in_ok-names.names c.args.self.now.newest c.declare_all.new.self h)
    ∙ over-over (valued c.in_ok-names.names) (valued c.args.self.now.newest) (layered frozen)
    ∙ ap (λ s. over s (over (valued c.args.self.now.newest) (layered frozen))) c.in_ok-names.ensures)
    c.declare_all.ensures
