-- Where a scope is open, the last of the code is the innermost one, and what stands around it is as it was.
use Rattle.std.proofs.Common.{refl}
use Rattle.check_scopes.specs.Scopes.{over}
use Rattle.check_scopes.specs.Shows.{means, shows}
use Rattle.check_scopes.proofs.Innermost.{changed_in_last, ok_also}
use Rattle.check_scopes.proofs.scopes.Scopes.declare_all.Goals as goal

pub returns-in-Some : goal.returns-in-Some
unfolding shows
returns-in-Some g c =
    ok_also c.declare_all.result
    (changed_in_last c.args.self.now.scopes.items c.args.self.now.scopes.len c.in-Some.innermost.now c.declare_all.new.self (over (means c.args.names)) c.args.self.now.scopes.ok.0 (c.in-Some.ensures.variant.0 refl) c.in-Some.ensures.value)
    c.declare_all.ensures
