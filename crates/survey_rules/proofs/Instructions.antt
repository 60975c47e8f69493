-- In code that is valid each reached offset is that of an instruction.
use Rattle.std.proofs.Common.{ℕ, [], sym, subst, ◌∙◌}
use Rattle.std.proofs.lemmas.Option.{same_Some}
use Rattle.code_forms.specs.declared.instruction.Instruction.{Instruction}
use Rattle.code_forms.specs.declared.instruction.Instruction.TheVariants.{Jump, JumpIf, JumpIfNot, JumpBack, Leave}
use Rattle.code_forms.specs.declared.module_code.CodeProcedure.{CodeProcedure}
use Rattle.code_forms.specs.declared.module_code.ModuleCode.{ModuleCode}
use Rattle.code_forms.specs.Jumps.{JumpsRightly}
use Rattle.code_forms.specs.Routine.{Routine, routine, spots, IsStart}
use Rattle.object_files.specs.declared.image.Image.{Image}
use Rattle.machine_rules.proofs.Going.{frame_fits}
use Rattle.machine_rules.proofs.Holding.{arm_filled}
use Rattle.machine_rules.proofs.Located.{World, Starts, start_there, stands_at, next as next_stands}
use Rattle.survey_rules.specs.Escapes.{IsCode}
use Rattle.survey_rules.specs.Reached.{LeadsTo, Reached, first, onward, jumped, in_arm}
use Rattle.survey_rules.proofs.Codes.{has_code}

leads_start : (r : Routine) (at target : ℕ) (i : Instruction) → JumpsRightly r at i → LeadsTo i target → IsStart r.code target
leads_start r at target (Jump goal) j e = subst (λ x. IsStart r.code x) e j.start
leads_start r at target (JumpIf goal) j e = subst (λ x. IsStart r.code x) e j.start
leads_start r at target (JumpIfNot goal) j e = subst (λ x. IsStart r.code x) e j.start
leads_start r at target (JumpBack goal) j e = subst (λ x. IsStart r.code x) e j.start
leads_start r at target (Leave arms goal) j e = subst (λ x. IsStart r.code x) e j.start
leads_start r at target _ j e = absurd e

pub reached_starts : (image : Image) → World image → (j n : ℕ) (m : ModuleCode) (p : CodeProcedure) → IsCode image j n m p → (at : ℕ) → Reached m p at → Starts p.code at
reached_starts image w j n m p c _ first =
    let f = frame_fits image w j n p c.is_procedure [] tt in
    subst (λ (x : CodeProcedure). Starts x.code 0) (same_Some (f.at).p p (sym (f.at).is ∙ c.is_procedure)) (f.at).starts
reached_starts image w j n m p c _ (onward at i before is goes) =
    let h = has_code image w j n m p c in (next_stands image j p h at i (stands_at image j p h at i is) goes).starts
reached_starts image w j n m p c _ (jumped at target i before is leads) =
    let h = has_code image w j n m p c in
    start_there p.code target (leads_start (routine m p) at target i (stands_at image j p h at i is).stood.jump leads)
reached_starts image w j n m p c _ (in_arm at number k i phrase arm before there is covered arm_is) =
    let h = has_code image w j n m p c in
    start_there p.code arm.start
    (arm_filled (spots p.code) p.phrases h.valid.phrases (record { phrase = number; arm = k }) arm (record { phrase = phrase; is = is; there = arm_is })).0
