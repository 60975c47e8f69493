-- A procedure whose body was checked, and whose words are few.
use Rattle.std.proofs.Common.{◌≡◌, ℕ, ◌+◌, List, Ok, nat_le, refl, subst, arith}
use Rattle.mesa_base.specs.declared.identifier.Identifier.{Identifier}
use Rattle.mesa_base.specs.declared.limits.TheConstants.{OPERAND_WORDS}
use Rattle.syntax_trees.specs.Syntax as s
use Rattle.interface_records.specs.PlainTypes.{PlainItem, item_of}
use Rattle.interface_records.specs.check_scopes.specs.Scopes.{Scope}
use Rattle.check_rules.specs.declared.fault.Cause.TheVariants.{FrameTooLarge}
use Rattle.check_rules.specs.Around.{Known, body_of}
use Rattle.check_rules.specs.Checking.{block}
use Rattle.check_rules.specs.Meanings.{Meaning}
use Rattle.check_rules.specs.Parts.{first_name}
use Rattle.check_rules.specs.Programs.{fresh, procedure}
use Rattle.check_rules.specs.Steps.{State, in_scope, only}
use Rattle.check_rules.specs.Typed as t
use Rattle.check_programs.specs.Frames.{few_locals}

pub procedure_done : (known : Known) (xs : List Identifier) (i : PlainItem) (scope : Scope Meaning) (operands : ℕ) (b : s.Block) (before after : State) (does : t.Stmt)
    → in_scope scope (block (body_of known i.takes i.gives) b) (fresh before) ≡ Ok (does, after) → few_locals i.takes i.gives (first_name xs) after ≡ Ok tt
    → only (nat_le (0 + operands) OPERAND_WORDS) FrameTooLarge (first_name xs) ≡ Ok tt
    → procedure known xs i scope operands b before
    ≡ Ok (record { head = item_of i; body = record { variables = after.variables; does = does } }, record after { variables = before.variables; hidden = before.hidden })
unfolding procedure
procedure_done known xs i scope operands b before after does body locals words =
    let counted : 0 + operands ≡ operands = omega arith in
    let few : only (nat_le operands OPERAND_WORDS) FrameTooLarge (first_name xs) ≡ Ok tt =
    subst (λ (n : ℕ). only (nat_le n OPERAND_WORDS) FrameTooLarge (first_name xs) ≡ Ok tt) counted words in
    rw body (rw locals (rw few refl))
