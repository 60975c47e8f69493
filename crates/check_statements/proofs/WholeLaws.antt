-- A block with a number, where it has an ENABLE.
use Rattle.std.proofs.Common.{◌≡◌, Bool, true, false, Ok, Err, refl}
use Rattle.check_rules.specs.Typed as t
use Rattle.check_rules.specs.Around.{Around}
use Rattle.check_rules.specs.Statements.{numbered}
use Rattle.check_rules.specs.Steps.{Check, Checked, State, and_then}
use Rattle.check_statements.specs.Rules.{within, marked_if}

pub numbered_is : (a : Around) (has_phrase : Bool) (rule : Around → Check t.Stmt)
    → numbered a has_phrase rule ≡ (λ σ. and_then (rule (within has_phrase a) σ) (λ r. Ok (marked_if has_phrase a r.0, r.1)))
numbered_is a true rule = refl
numbered_is a false rule = λ i σ. same (rule a σ) i
  where
    same : (m : Checked (t.Stmt × State)) → m ≡ and_then m (λ r. Ok (r.0, r.1))
    same (Ok r) = refl
    same (Err e) = refl
