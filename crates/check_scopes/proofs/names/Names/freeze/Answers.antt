-- What was newest is over what was shared.
use Rattle.std.proofs.Common.{ap, sym, ◌∙◌}
use Rattle.check_scopes.specs.Scopes.{over}
use Rattle.check_scopes.specs.Shows.{means, valued, layered}
use Rattle.check_scopes.proofs.Innermost.{ok_also}
use Rattle.check_scopes.proofs.LayerLaws.{valued-nothing, layered-pushed}
use Rattle.check_scopes.proofs.names.Names.freeze.Goals as goal

pub returns-then-is_empty : goal.returns-then-is_empty
unfolding means
returns-then-is_empty g c =
    sym (ap (λ s. over s (layered c.args.self.now.frozen.items)) (valued-nothing c.args.self.now.newest (c.is_empty.ensures c.if-is_empty.true)))

pub returns : goal.returns
unfolding means
returns g c =
    let frozen = c.args.self.now.frozen.items in
    ok_also c.merge.result (λ h.
    h ∙ ap layered c.in_ok-push.ensures.items ∙ layered-pushed frozen c.in_ok-new.field-0
    ∙ ap (λ i. over (valued i) (layered frozen)) (c.in_ok-new.ensures ∙ c.replace-newest.ensures.value))
    c.merge.ensures
