-- The code of a procedure of an instance, of an image that can be run.
use Rattle.std.proofs.Common.{◌≡◌, ℕ, Some, sym, subst, ◌∙◌}
use Rattle.std.specs.Prelude.{slice_get}
use Rattle.std.proofs.lemmas.Option.{same_Some, slice_get_within}
use Rattle.code_forms.specs.declared.instruction.Instruction.{Instruction}
use Rattle.code_forms.specs.declared.module_code.CodeProcedure.{CodeProcedure}
use Rattle.code_forms.specs.declared.module_code.ModuleCode.{ModuleCode}
use Rattle.object_files.specs.declared.image.Image.{Image}
use Rattle.machine_rules.specs.Laws.{CanRun}
use Rattle.machine_rules.specs.State.{Activation}
use Rattle.machine_rules.specs.LookUps.{procedure_of, instruction_at, procedure_under, instruction_under}
use Rattle.machine_rules.proofs.Located.{World, Has, right, has as has_procedure}
use Rattle.survey_rules.specs.Escapes.{IsCode}
use Rattle.survey_rules.proofs.OneRange.{keeps}

pub world : (image : Image) → CanRun image → World image
world image ready = record { ready = ready; keeps = λ n o e. keeps o }

pub procedure_there : (image : Image) (j n : ℕ) (m : ModuleCode) (p : CodeProcedure) → IsCode image j n m p → slice_get m.procedures n ≡ Some p
unfolding procedure_of
procedure_there image j n m p c = rw c.is_module at c.is_procedure

-- with this module
abbrev pub has_code : (image : Image) → World image → (j n : ℕ) (m : ModuleCode) (p : CodeProcedure) → IsCode image j n m p → Has image j p
has_code image w j n m p c =
    let there = procedure_there image j n m p c in
    record {
      code = m;
      is = c.is_module;
      number = n;
      there = there;
      valid = (right image w j m c.is_module).valid n p (slice_get_within m.procedures n p there) there;
      order = (has_procedure image w j n p c.is_procedure).order;
      ranges = (right image w j m c.is_module).ranges;
    }

pub code_there : (image : Image) (j n : ℕ) (p : CodeProcedure) → procedure_of image j n ≡ Some p → (h : Has image j p) → IsCode image j n h.code p
code_there image j n p e h = record { is_module = h.is; is_procedure = e }

-- it is one
pub one_code : (P : ModuleCode → CodeProcedure → Type 0) (image : Image) (j n : ℕ) (m m' : ModuleCode) (p p' : CodeProcedure) → IsCode image j n m p → IsCode image j n m' p'
    → P m p → P m' p'
one_code P image j n m m' p p' c c' x =
    subst (λ q. P m' q) (same_Some p p' (sym c.is_procedure ∙ c'.is_procedure)) (subst (λ k. P k p) (same_Some m m' (sym c.is_module ∙ c'.is_module)) x)

-- the instruction at which an activation stands
pub under_at : {X : Type 0} (image : Image) (a : Activation X) (p : CodeProcedure) (i : Instruction) → procedure_of image a.instance a.procedure ≡ Some p
    → instruction_under image a ≡ Some i → instruction_at p.code a.offset ≡ Some i
unfolding instruction_under procedure_under
under_at image a p i e is = rw e at is
