-- Where a scope is open, the last of the code is the innermost one, and what stands around it is as it was.
use Rattle.std.proofs.Common.{refl}
use Rattle.check_scopes.specs.Scopes.{with_name}
use Rattle.check_scopes.specs.Shows.{shows}
use Rattle.check_scopes.proofs.Innermost.{changed_in_last, last_as_before, ok_also, err_also}
use Rattle.check_scopes.proofs.scopes.Scopes.declare.Goals as goal

pub returns-in-Some-clause-ok : goal.returns-in-Some-clause-ok
unfolding shows
returns-in-Some-clause-ok g c =
    ok_also c.declare.result
    (changed_in_last c.args.self.now.scopes.items c.args.self.now.scopes.len c.in-Some.names.now c.declare.new.self (with_name c.args.name.now c.args.meaning) c.args.self.now.scopes.ok.0 (c.in-Some.ensures.variant.0 refl) c.in-Some.ensures.value)
    c.declare.ensures.ok

pub returns-in-Some-clause-err : goal.returns-in-Some-clause-err
unfolding shows
returns-in-Some-clause-err g c =
    err_also c.declare.result
    (last_as_before c.args.self.now.scopes.items c.args.self.now.scopes.len c.in-Some.names.now c.declare.new.self c.args.self.now.scopes.ok.0 (c.in-Some.ensures.variant.0 refl) c.in-Some.ensures.value)
    c.declare.ensures.err
