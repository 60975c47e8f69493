-- A name that is declared over the others is declared in all.
use Rattle.std.proofs.Common.{ap, ◌∙◌}
use Rattle.check_scopes.specs.Scopes.{over, with_name}
use Rattle.check_scopes.specs.Shows.{means, valued, layered}
use Rattle.check_scopes.proofs.Innermost.{ok_also, err_also}
use Rattle.check_scopes.proofs.Laws.{over-with_name}
use Rattle.check_scopes.proofs.LayerLaws.{valued-named, valued-same}
use Rattle.check_scopes.proofs.names.Names.declare.Goals as goal

pub returns-clause-ok : goal.returns-clause-ok
unfolding means
returns-clause-ok g c =
    let frozen = c.args.self.now.frozen.items in
    ok_also c.declare.result (λ h.
    ap (λ s. over s (layered frozen)) (valued-named c.args.self.now.newest c.declare.new.self c.args.name.now c.in_ok-meaning.meaning h)
    ∙ over-with_name c.args.name.now c.in_ok-meaning.meaning.value (valued c.args.self.now.newest) (layered frozen)
    ∙ ap (λ m. with_name c.args.name.now m (over (valued c.args.self.now.newest) (layered frozen))) c.in_ok-meaning.ensures.ok)
    c.declare.ensures.ok

pub returns-clause-err : goal.returns-clause-err
unfolding means
returns-clause-err g c =
    err_also c.declare.result
    (λ h. ap (λ s. over s (layered c.args.self.now.frozen.items)) (valued-same c.args.self.now.newest c.declare.new.self h)) c.declare.ensures.err
