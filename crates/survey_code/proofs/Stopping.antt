-- An arm lets a signal past no phrase exactly where its ending says so.
use Rattle.std.proofs.Common.{◌≡◌, ⊎_elim, ℕ, true, Option, Some, None, sym, subst, ◌∙◌}
use Rattle.std.proofs.lemmas.Bool.{eqb-true, false≢true}
use Rattle.code_forms.specs.declared.instruction.Instruction.TheVariants.{ArmEnd, Resume}
use Rattle.code_forms.specs.declared.module_code.Arm.{Arm}
use Rattle.code_forms.specs.declared.module_code.CodeKind.{CodeKind}
use Rattle.code_forms.specs.declared.module_code.CodeKind.TheVariants.{Procedure, Signal, Error}
use Rattle.code_forms.specs.declared.module_code.CodeProcedure.{CodeProcedure}
use Rattle.code_forms.specs.declared.module_code.CodeSignal.{CodeSignal}
use Rattle.code_forms.specs.declared.module_code.ModuleCode.{ModuleCode}
use Rattle.object_files.specs.declared.image.Image.{Image}
use Rattle.signaller.specs.declared.signal_id.SignalId.{SignalId}
use Rattle.signaller.specs.declared.signal_id.SignalId.TheVariants.{Own, BoundsFault, ZeroDivisor, NoInput, Unnamed}
use Rattle.machine_rules.specs.LookUps.{signal_of}
use Rattle.machine_rules.specs.Signals.{takes_of, takes_in, takes_back}
use Rattle.survey_rules.specs.Escapes.{StopsSignal}
use Rattle.survey_rules.specs.Reached.{StandsIn}
use Rattle.survey_code.specs.declared.surveyed.Ending.{Ending}
use Rattle.survey_code.specs.declared.surveyed.Ending.TheVariants.{Stops, Resumes, Passes}
use Rattle.survey_code.specs.Laws.{StopsByEnding}
use Rattle.survey_code.specs.Sites.{IsEnding, StopsBy}

-- A signal takes back one number of words.

kind_once : (kind : CodeKind) (results n k : ℕ) → takes_of kind results n ≡ true → takes_of kind results k ≡ true → n ≡ k
unfolding takes_of
kind_once Signal results n k e f = sym (eqb-true results n e) ∙ eqb-true results k f
kind_once Procedure results n k e f = absurd (false≢true e)
kind_once Error results n k e f = absurd (false≢true e)

signal_once : (s : Option CodeSignal) (n k : ℕ) → takes_in s n ≡ true → takes_in s k ≡ true → n ≡ k
unfolding takes_in
signal_once None n k e f = absurd (false≢true e)
signal_once (Some s) n k e f = kind_once s.kind s.results n k e f

takes_once : (image : Image) (s : SignalId) (n k : ℕ) → takes_back image s n ≡ true → takes_back image s k ≡ true → n ≡ k
unfolding takes_back
takes_once image (Own j i) n k e f = signal_once (signal_of image j i) n k e f
takes_once image BoundsFault n k e f = absurd (false≢true e)
takes_once image ZeroDivisor n k e f = absurd (false≢true e)
takes_once image NoInput n k e f = absurd (false≢true e)
takes_once image Unnamed n k e f = absurd (false≢true e)

stops : (image : Image) (m : ModuleCode) (p : CodeProcedure) (s : SignalId) (arm : Arm) (ending : Ending) → IsEnding m p arm ending
    → StopsSignal image m p s arm → StopsBy image s ending
stops image m p s arm Stops is stopped = tt
stops image m p s arm (Resumes words) is stopped = stopped.resumes words is.1
stops image m p s arm Passes is stopped = ⊎_elim
    (λ (end : StandsIn m p arm ArmEnd). stopped.no_end end)
    (λ (two : (words others : ℕ) × StandsIn m p arm (Resume words) × StandsIn m p arm (Resume others) × (words ≡ others → ⊥)).
    two.4 (takes_once image s two.0 two.1 (stopped.resumes two.0 two.2) (stopped.resumes two.1 two.3)))
    is

stopped : (image : Image) (m : ModuleCode) (p : CodeProcedure) (s : SignalId) (arm : Arm) (ending : Ending) → IsEnding m p arm ending
    → StopsBy image s ending → StopsSignal image m p s arm
stopped image m p s arm Stops is by = record { no_end = is.0; resumes = λ words there. absurd (is.1 words there) }
stopped image m p s arm (Resumes words) is by = record {
  no_end = is.0;
  resumes = λ others there. subst (λ k. takes_back image s k ≡ true) (sym (is.2 others there)) by;
}
stopped image m p s arm Passes is by = absurd by

pub stops_by_ending : StopsByEnding
stops_by_ending image m p s arm ending is = (stops image m p s arm ending is, stopped image m p s arm ending is)
