-- What checking a statement is that only jumps, for the function that matches on statements.
use Rattle.std.proofs.Common.{◌≡◌, refl}
use Rattle.mesa_base.specs.declared.identifier.Identifier.{Identifier}
use Rattle.mesa_base.specs.declared.place.Place.{Place}
use Rattle.syntax_trees.specs.Syntax as s
use Rattle.check_rules.specs.Typed as t
use Rattle.check_rules.specs.Around.{Around, exit_loop, next_round, go_to, reject, retry, continue}
use Rattle.check_rules.specs.Checking as spec
use Rattle.check_rules.specs.Steps.{lift, pure}

pub null_is : (a : Around) (p : Place) → spec.statement a (s.Null p) ≡ pure t.Null
unfolding spec.check
null_is a p = refl

pub exit_is : (a : Around) (p : Place) → spec.statement a (s.ExitLoop p) ≡ lift (exit_loop a p)
unfolding spec.check
exit_is a p = refl

pub next_is : (a : Around) (p : Place) → spec.statement a (s.NextTurn p) ≡ lift (next_round a p)
unfolding spec.check
next_is a p = refl

pub goto_is : (a : Around) (p : Place) (x : Identifier) → spec.statement a (s.Goto p x) ≡ lift (go_to a p x)
unfolding spec.check
goto_is a p x = refl

pub reject_is : (a : Around) (p : Place) → spec.statement a (s.Reject p) ≡ lift (reject a p)
unfolding spec.check
reject_is a p = refl

pub retry_is : (a : Around) (p : Place) → spec.statement a (s.Retry p) ≡ lift (retry a p)
unfolding spec.check
retry_is a p = refl

pub continue_is : (a : Around) (p : Place) → spec.statement a (s.Continue p) ≡ lift (continue a p)
unfolding spec.check
continue_is a p = refl

pub ruleset jump_clauses = (null_is, exit_is, next_is, goto_is, reject_is, retry_is, continue_is)
