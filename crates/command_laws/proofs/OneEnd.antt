-- The run of what was configured ends in one way over an input that is told, where no call failed.
use Rattle.std.proofs.Common.{◌≡◌, ◌≢◌, ℕ, List, Option, Some, IfSome, Result, Ok, Err, sym, ◌∙◌, ap, subst}
use Rattle.mesa_base.specs.declared.status.Status.TheVariants as status
use Rattle.source_meaning.specs.Program.{Program}
use Rattle.source_meaning.specs.Means.{Means, outcome}
use Rattle.source_meaning.specs.State.{End, Answer, Normal, Gives, Go, Resumed, Rejected, Retried, Continued, Uncaught, Spent, FrameLimit, Broken}
use Rattle.machine_rules.specs.declared.end.End as machine
use Rattle.machine_rules.specs.declared.end.End.TheVariants as end
use Rattle.object_files.specs.declared.image.Image.{Image}
use Rattle.command_rules.specs.frame_machine.specs.declared.outcome.Outcome.{Outcome}
use Rattle.command_rules.specs.frame_machine.specs.declared.outcome.RunFault.{RunFault}
use Rattle.command_rules.specs.frame_machine.specs.declared.outcome.RunFault.TheVariants as fault
use Rattle.command_rules.specs.frame_machine.specs.Running.{AreBytes, IsInput}
use Rattle.line_pieces.specs.Outputs.{PrintsAll}
use Rattle.command_rules.specs.Case.{Case, status_of}
use Rattle.command_rules.specs.Complete.{Does}
use Rattle.command_rules.specs.Exercise.{IsNoEnd}
use Rattle.command_rules.specs.Ends.{Ends, AsMeant, IsMeant, Runs, RunsTo, TellsBytes, TellsInput, ended, read_fault, write_fault}
use Rattle.command_rules.specs.Shown.{Names, IsShownAs, case_of_end, case_of_run}
use Rattle.command_rules.specs.Worlds.{Scene}
use Rattle.command_laws.specs.Laws.{NoStreamFailed, RunsEndOnce}

-- one end is shown as one case
one_shown : (P : Program) (a : Answer) (x y : Case) → IsShownAs P a x → IsShownAs P a y → x ≡ y
one_shown P Normal x y h k = h ∙ sym k
one_shown P (Uncaught s) x y h k = h ∙ sym k
one_shown P Spent x y h k = h ∙ sym k
one_shown P FrameLimit x y h k = h ∙ sym k
one_shown P Broken x y h k = absurd h
one_shown P (Gives vs) x y h k = absurd h
one_shown P (Go f p) x y h k = absurd h
one_shown P (Resumed vs) x y h k = absurd h
one_shown P Rejected x y h k = absurd h
one_shown P (Retried n) x y h k = absurd h
one_shown P (Continued n) x y h k = absurd h

-- a program means one end and one output for an input

same_end : (P : Program) (turns : ℕ) (i j o q : List ℕ) (a b : Answer) (l m s t : ℕ) → i ≡ j → Means P i End turns o a l s → Means P j End turns q b m t → a ≡ b
same_end P turns i j o q a b l m s t e x y = sym x.its_end ∙ ap (λ z. (outcome P z End turns).answer) e ∙ y.its_end

same_output : (P : Program) (turns : ℕ) (i j o q : List ℕ) (a b : Answer) (l m s t : ℕ) → i ≡ j → Means P i End turns o a l s → Means P j End turns q b m t → o ≡ q
same_output P turns i j o q a b l m s t e x y = sym x.its_output ∙ ap (λ z. (outcome P z End turns).state.output) e ∙ y.its_output

same_left : (P : Program) (turns : ℕ) (i j o q : List ℕ) (a b : Answer) (l m s t : ℕ) → i ≡ j → Means P i End turns o a l s → Means P j End turns q b m t → l ≡ m
same_left P turns i j o q a b l m s t e x y = sym x.its_turns ∙ ap (λ z. (outcome P z End turns).state.turns) e ∙ y.its_turns

pub told_is : (told : Option (List ℕ)) (input used : List ℕ) → told ≡ Some input → IsInput told used → used ≡ input
told_is told input used e is = sym (subst (λ x. IfSome x (λ all. all ≡ used)) e is.same)

shown_alike : (P : Program) (a b : Answer) (x y : Case) → a ≡ b → IsShownAs P a x → IsShownAs P b y → x ≡ y
shown_alike P a b x y e h k = one_shown P a x y h (subst (λ z. IsShownAs P z y) (sym e) k)

pub told_bytes : (old : Scene) (input : List ℕ) → TellsInput old input → TellsBytes old
told_bytes old input tells = subst (λ x. IfSome x AreBytes) (sym tells.0) tells.1

-- a run, and what is meant
pub run_does : (P : Program) (turns : ℕ) (old new : Scene) (output : List ℕ) (case x : Case) (d : Does P turns old output x) (o : Outcome)
    → IsMeant P turns o old new case → (case ≡ x) × PrintsAll output old.out new.out
run_does P turns old new output case x d o it =
    let e : it.ran.input ≡ d.input = told_is old.input.left d.input it.ran.input d.tells.0 it.ran.is_input in (
      shown_alike P it.ran.answer d.end case x
          (same_end P turns it.ran.input d.input it.ran.output output it.ran.answer d.end o.left d.left it.ran.taken d.taken e it.ran.means d.means)
          it.is_case d.is_case,
      subst (λ z. PrintsAll z old.out new.out)
          (same_output P turns it.ran.input d.input it.ran.output output it.ran.answer d.end o.left d.left it.ran.taken d.taken e it.ran.means d.means)
          it.ran.appends,
    )

-- and the turns that are left
pub run_left : (P : Program) (turns : ℕ) (old new : Scene) (output : List ℕ) (case x : Case) (d : Does P turns old output x) (o : Outcome)
    → IsMeant P turns o old new case → o.left ≡ d.left
run_left P turns old new output case x d o it =
    same_left P turns it.ran.input d.input it.ran.output output it.ran.answer d.end o.left d.left it.ran.taken d.taken
    (told_is old.input.left d.input it.ran.input d.tells.0 it.ran.is_input) it.ran.means d.means

-- a run that has come to its end is meant
pub meant_at : (P : Program) (turns : ℕ) (old new : Scene) (case : Case) (r : Result Outcome RunFault) (o : Outcome) → TellsBytes old → r ≡ Ok o
    → AsMeant P turns old new case r → IsMeant P turns o old new case
meant_at P turns old new case r o tells e meant =
    let ok : AsMeant P turns old new case (Ok o) = subst (AsMeant P turns old new case) e meant in ok tells

-- a program's end is shown as no case that is none
pub shown_end : (P : Program) (a : Answer) (x : Case) → IsShownAs P a x → IsNoEnd x → ⊥
shown_end P Normal x h none = subst IsNoEnd h none
shown_end P (Uncaught s) x h none = subst IsNoEnd h none
shown_end P Spent x h none = subst IsNoEnd h none
shown_end P FrameLimit x h none = subst IsNoEnd h none
shown_end P Broken x h none = h
shown_end P (Gives vs) x h none = h
shown_end P (Go f p) x h none = h
shown_end P (Resumed vs) x h none = h
shown_end P Rejected x h none = h
shown_end P (Retried n) x h none = h
shown_end P (Continued n) x h none = h

HasEnded : Result Outcome RunFault → Type 0
HasEnded (Ok o) = Unit {0}
HasEnded (Err why) = ⊥

-- where neither the input nor `out` failed a run has come to its end
came_to_end : (image : Image) (turns : ℕ) (old new : Scene) (r : Result Outcome RunFault) → NoStreamFailed old new → Runs image turns old new r → HasEnded r
unfolding HasEnded
came_to_end image turns old new _ calm (ended o counts) = tt
came_to_end image turns old new _ calm (read_fault rose counts) = absurd (calm.no_input_fault rose)
came_to_end image turns old new _ calm (write_fault rose counts) = absurd (calm.no_out_fault rose)

does_at : (P : Program) (turns : ℕ) (old new : Scene) (output : List ℕ) (case x : Case) (d : Does P turns old output x) (r : Result Outcome RunFault)
    → HasEnded r → AsMeant P turns old new case r → (case ≡ x) × PrintsAll output old.out new.out
unfolding HasEnded
does_at P turns old new output case x d (Ok o) ok meant = run_does P turns old new output case x d o (meant (told_bytes old d.input d.tells))
does_at P turns old new output case x d (Err why) broken meant = absurd broken

pub does : (P : Program) (image : Image) (turns : ℕ) (old new : Scene) (output : List ℕ) (case x : Case) (d : Does P turns old output x)
    → NoStreamFailed old new → Ends P image turns old new case → (case ≡ x) × PrintsAll output old.out new.out
does P image turns old new output case x d calm it =
    does_at P turns old new output case x d it.machine.end (came_to_end image turns old new it.machine.end calm it.machine.runs) it.meant

both_ran : (P : Program) (turns : ℕ) (old new last : Scene) (input : List ℕ) (x y : Case) (o q : Outcome) → TellsInput old input
    → IsMeant P turns o old new x → IsMeant P turns q old last y → x ≡ y
both_ran P turns old new last input x y o q e it so =
    shown_alike P it.ran.answer so.ran.answer x y
    (same_end P turns it.ran.input so.ran.input it.ran.output so.ran.output it.ran.answer so.ran.answer o.left q.left it.ran.taken so.ran.taken
    (told_is old.input.left input it.ran.input e.0 it.ran.is_input ∙ sym (told_is old.input.left input so.ran.input e.0 so.ran.is_input))
    it.ran.means so.ran.means) it.is_case so.is_case

both_at : (P : Program) (turns : ℕ) (old new last : Scene) (input : List ℕ) (x y : Case) (r s : Result Outcome RunFault) → TellsInput old input
    → HasEnded r → HasEnded s → AsMeant P turns old new x r → AsMeant P turns old last y s → x ≡ y
unfolding HasEnded
both_at P turns old new last input x y (Ok o) (Ok q) e ok well meant means =
    both_ran P turns old new last input x y o q e (meant (told_bytes old input e)) (means (told_bytes old input e))
both_at P turns old new last input x y (Err why) s e broken well meant means = absurd broken
both_at P turns old new last input x y r (Err why) e ok broken meant means = absurd broken

-- a second run ends as the first
pub one_run : RunsEndOnce
one_run P image other turns old new last input x y e calm still a b =
    both_at P turns old new last input x y a.machine.end b.machine.end e
    (came_to_end image turns old new a.machine.end calm a.machine.runs) (came_to_end other turns old last b.machine.end still b.machine.runs) a.meant b.meant

end_used : (names : Names) (e : machine.End) → status_of (case_of_end names e) ≢ status.Usage
end_used names end.Done h = cc
end_used names (end.Uncaught signal) h = cc
end_used names end.Spent h = cc
end_used names end.FrameLimit h = cc

case_used : (names : Names) (r : Result Outcome RunFault) → status_of (case_of_run names r) ≢ status.Usage
case_used names (Ok o) h = end_used names o.end h
case_used names (Err fault.ReadFault) h = cc
case_used names (Err fault.WriteFault) h = cc

-- no run is answered Usage
pub run_used : (names : Names) (image : Image) (turns : ℕ) (old new : Scene) (case : Case) → RunsTo names image turns old new case → status_of case ≢ status.Usage
run_used names image turns old new case it e = case_used names it.end (sym (ap status_of it.is_case) ∙ e)
