-- A jump within its procedure is no pause that touches more.
use Rattle.std.proofs.Common.{◌≡◌, ℕ, List, Bool, true, false, refl, sym}
use Rattle.std.specs.Prelude.{if◌then◌else◌, nat_eq}
use Rattle.code_forms.specs.declared.instruction.Instruction.{Instruction}
use Rattle.code_forms.specs.declared.instruction.Instruction.TheVariants.{Jump, JumpIf, JumpIfNot, JumpBack}
use Rattle.machine_topmost.specs.declared.registers.Why.TheVariants.{Touches, Spent}
use Rattle.machine_topmost.specs.Flat.{Flat, Went, Paused, flat}
use Rattle.machine_topmost.proofs.Going.{paused_not}
use Rattle.frame_machine.specs.SoFar.{IsNoJump}

spends_or_goes : (b : Bool) (x : Flat) → (if b then Paused Spent else Went x) ≡ Paused Touches → ⊥
spends_or_goes true x h = cc
spends_or_goes false x h = cc

pub no_jump_at : (texts : ℕ → ℕ → List ℕ) (number : ℕ) (i : Instruction) (target : ℕ) (s : Flat) → flat texts number i target s ≡ Paused Touches → IsNoJump i
unfolding flat
no_jump_at texts number (Jump offset) target s e = absurd (paused_not Touches _ (sym e))
no_jump_at texts number (JumpIf offset) target s e = absurd (paused_not Touches _ (sym e))
no_jump_at texts number (JumpIfNot offset) target s e = absurd (paused_not Touches _ (sym e))
no_jump_at texts number (JumpBack offset) target s e = absurd (spends_or_goes (nat_eq s.turns 0) _ e)
no_jump_at texts number _ target s e = (refl, refl)
