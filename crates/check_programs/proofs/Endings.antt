-- EXITS behind statements that are checked.
use Rattle.std.proofs.Common.{◌≡◌, Result, Ok, ap, subst, sym}
use Rattle.syntax_trees.specs.Syntax as s
use Rattle.check_rules.specs.Typed as t
use Rattle.check_rules.specs.Around.{Around}
use Rattle.check_rules.specs.Checking.{statements}
use Rattle.check_rules.specs.Parts.{join_stmts}
use Rattle.check_rules.specs.Steps.{State, Checked, and_then}
use Rattle.check_rules.specs.declared.fault.CheckFault.{CheckFault}
use Rattle.check_state.specs.Gives.{Gives}
use Rattle.check_programs.specs.Shown.{ends, with_exits}

module _ (a b : Around) (inner : s.Inner) (before : t.Stmts) where
  abbrev behind_statements : Checked (t.Stmts × State) → Checked ((t.Stmts × t.Exits) × State)
  behind_statements p = and_then p (λ x. with_exits a inner x.0 x.1)

  abbrev pub joined_at : State → Checked (t.Stmts × State)
  joined_at σ = and_then (statements b inner.statements σ) (λ r. Ok (join_stmts before r.0, r.1))

  after_statements : (ss : t.Stmts) (σ τ : State) → joined_at σ ≡ Ok (ss, τ) → ends a b inner before σ ≡ with_exits a inner ss τ
  after_statements ss σ τ e = ap behind_statements e

  pub giving : {B : Type 0} (view : B → t.Stmts × t.Exits) (r : Result B CheckFault) (new : State) (ss : t.Stmts) (σ τ : State) → joined_at σ ≡ Ok (ss, τ)
      → Gives view (with_exits a inner ss τ) r new → Gives view (ends a b inner before σ) r new
  giving view r new ss σ τ e told = subst (λ o. Gives view o r new) (sym (after_statements ss σ τ e)) told
