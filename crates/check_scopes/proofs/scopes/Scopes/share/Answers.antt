-- Where a scope is open, the last of the code is the innermost one, and all is as it was.
use Rattle.std.proofs.Common.{◌≡◌, refl, ◌∙◌}
use Rattle.check_scopes.specs.Shows.{shows}
use Rattle.check_scopes.proofs.Innermost.{innermost_last, last_as_before, ok_also, if_ok_also}
use Rattle.check_scopes.proofs.scopes.Scopes.share.Goals as goal

pub returns-in-Some-clause-same : goal.returns-in-Some-clause-same
unfolding shows
returns-in-Some-clause-same g c =
    if_ok_also c.share.result
    (λ names h. h ∙ innermost_last c.args.self.now.scopes.items c.args.self.now.scopes.len c.in-Some.names.now c.args.self.now.scopes.ok.0 (c.in-Some.ensures.variant.0 refl) c.in-Some.ensures.value)
    c.share.ensures.same

pub returns-in-Some-clause-stays : goal.returns-in-Some-clause-stays
unfolding shows
returns-in-Some-clause-stays g c =
    ok_also c.share.result
    (last_as_before c.args.self.now.scopes.items c.args.self.now.scopes.len c.in-Some.names.now c.share.new.self c.args.self.now.scopes.ok.0 (c.in-Some.ensures.variant.0 refl) c.in-Some.ensures.value)
    c.share.ensures.stays
