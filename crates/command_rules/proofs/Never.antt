-- What a form never answers.
use Rattle.std.proofs.Common.{◌≡◌, ◌≢◌, ℕ, List, Result, sym, ◌∙◌, ap, subst, inl, inr, arith}
use Rattle.mesa_base.specs.Outside.{Shelf, Rose}
use Rattle.mesa_base.specs.declared.status.Status.TheVariants as status
use Rattle.machine_rules.specs.declared.end.End as machine
use Rattle.machine_rules.specs.declared.end.End.TheVariants as end
use Rattle.object_files.specs.declared.image.Image.{Image}
use Rattle.linked_programs.specs.frame_machine.specs.declared.outcome.Outcome.{Outcome}
use Rattle.linked_programs.specs.frame_machine.specs.declared.outcome.RunFault.{RunFault}
use Rattle.command_rules.specs.Case.{Case, Refused, Absent, FolderFault, status_of, IsBeforeRun}
use Rattle.command_rules.specs.declared.trouble.Trouble.TheVariants.{TooLarge}
use Rattle.command_rules.specs.Comes.{Goes, not_configured, Upgrades, not_held, Exercised, Exercises, no_end, ended, not_summed}
use Rattle.command_rules.specs.Configurations.{program, source_in}
use Rattle.command_rules.specs.Ends as run
use Rattle.command_rules.specs.Ends.{Runs}
use Rattle.command_rules.specs.Exercise.{chain, exercise_shelf, within}
use Rattle.command_rules.specs.Forms.{Source, OfConfig, FileKind, kind_file}
use Rattle.command_rules.specs.Listing.{listing_in, value_in}
use Rattle.command_rules.specs.Order.{NeverAnswered}
use Rattle.command_rules.specs.Passes.{Pass, Trail}
use Rattle.command_rules.specs.Passing.{Fails, refused, failed, memory}
use Rattle.command_rules.specs.Planning.{plan_in}
use Rattle.command_rules.specs.Printing.{Report, Prints}
use Rattle.command_rules.specs.Shown.{Names, case_of_end, case_of_run, program_names}
use Rattle.command_rules.specs.Surveying.{survey_in}
use Rattle.command_rules.specs.Worlds.{Scene}
use Rattle.command_rules.specs.Writing.{Target, NotStored}
use Rattle.command_rules.proofs.Order.{fails_before, not_stored_before, not_stored_run}
use Rattle.command_rules.proofs.Stopping.{IsOfFiles, PassStopsSo, listing_so, plan_so, source_so, survey_so, value_so}

-- what is before a run is no fault of the input or of `out`

not_read : (case : Case) → IsBeforeRun (status_of case) → status_of case ≢ status.ReadFault
not_read case h e = subst IsBeforeRun e h

not_printed_so : (case : Case) → IsBeforeRun (status_of case) → status_of case ≢ status.WriteFault
not_printed_so case h e = subst IsBeforeRun e h

-- ---- list, plan and survey

prints_read : (p : Pass Case Report) → PassStopsSo p → (folder folder' : Shelf) (old new : Scene) (case : Case) → Prints p folder folder' old new case
    → status_of case ≢ status.ReadFault
prints_read p so folder folder' old new case (Prints.not_read _ why onward same) e = not_read case (fails_before p so folder folder' case why) e
prints_read p so folder folder' old new case (Prints.no_memory r gives same) e = cc
prints_read p so folder folder' old new case (Prints.printed r gives missed prints input steps) e = cc
prints_read p so folder folder' old new case (Prints.not_printed r gives rose prints input steps) e = cc

-- ---- upgrade

-- what it answers but Done is before a run
upgrade_read : (kind : FileKind) (base : List ℕ) (folder folder' : Shelf) (case : Case) → Upgrades kind base folder folder' case
    → status_of case ≢ status.ReadFault
upgrade_read kind base folder folder' case (not_held _ why onward) e =
    not_read case (fails_before (value_in kind (kind_file kind base)) (value_so kind (kind_file kind base)) folder folder' case why) e
upgrade_read kind base folder folder' case (Upgrades.no_memory v gives) e = cc
upgrade_read kind base folder folder' case (Upgrades.stored v trail comes s) e = cc
upgrade_read kind base folder folder' case (Upgrades.not_stored v trail _ comes it) e = not_read case (not_stored_run _ trail folder folder' case it) e

upgrade_write : (kind : FileKind) (base : List ℕ) (folder folder' : Shelf) (case : Case) → Upgrades kind base folder folder' case
    → status_of case ≢ status.WriteFault
upgrade_write kind base folder folder' case (not_held _ why onward) e =
    not_printed_so case (fails_before (value_in kind (kind_file kind base)) (value_so kind (kind_file kind base)) folder folder' case why) e
upgrade_write kind base folder folder' case (Upgrades.no_memory v gives) e = cc
upgrade_write kind base folder folder' case (Upgrades.stored v trail comes s) e = cc
upgrade_write kind base folder folder' case (Upgrades.not_stored v trail _ comes it) e =
    not_printed_so case (not_stored_run _ trail folder folder' case it) e

fails_small : {A : Type 0} (p : Pass Case A) → PassStopsSo p → (folder folder' : Shelf) (file : List ℕ) → Fails p folder folder' (Refused file TooLarge) → ⊥
fails_small p so folder folder' file (refused trail _ comes missed called) = so folder.files trail (Refused file TooLarge) comes

upgrade_large : (kind : FileKind) (base file : List ℕ) (folder folder' : Shelf) → Upgrades kind base folder folder' (Refused file TooLarge) → ⊥
upgrade_large kind base file folder folder' (not_held _ why onward) =
    fails_small (value_in kind (kind_file kind base)) (value_so kind (kind_file kind base)) folder folder' file why
upgrade_large kind base file folder folder' (Upgrades.not_stored v trail _ comes it) =
    not_stored_before _ trail folder folder' (Refused file TooLarge) it tt

-- ---- exercise

rose_zero : (n : ℕ) → n ≡ 0 → Rose 0 n → ⊥
rose_zero n e (inl less) = omega (arith, e, less)
rose_zero n e (inr last) = omega (arith, e, last)

of_files_folder : (case : Case) → IsOfFiles case → status_of case ≢ status.FolderFault
of_files_folder (Refused file why) h e = cc
of_files_folder (Absent file) h e = cc
of_files_folder (FolderFault file) h e = h
of_files_folder _ h e = cc

abbrev IsStill : Shelf → Shelf → Type 0
IsStill folder folder' = (file : List ℕ) → ¬ (Rose (folder.faults file) (folder'.faults file))

fails_folder : {A : Type 0} (p : Pass Case A) → PassStopsSo p → (folder folder' : Shelf) (case : Case) → IsStill folder folder' → Fails p folder folder' case
    → status_of case ≢ status.FolderFault
fails_folder p so folder folder' case still (refused trail _ comes missed called) e = of_files_folder case (so folder.files trail case comes) e
fails_folder p so folder folder' case still (failed trail file asks rose called) e = still file rose
fails_folder p so folder folder' case still memory e = cc

not_stored_folder : (targets : List Target) (trail : Trail) (folder folder' : Shelf) (case : Case) → IsStill folder folder'
    → NotStored targets trail folder folder' case → status_of case ≢ status.FolderFault
not_stored_folder targets trail folder folder' case still (NotStored.failed before after t is files rose called) e = still t.file rose
not_stored_folder targets trail folder folder' case still (NotStored.memory before after t is files) e = cc

end_folder : (names : Names) (e : machine.End) → status_of (case_of_end names e) ≢ status.FolderFault
end_folder names end.Done h = cc
end_folder names (end.Uncaught signal) h = cc
end_folder names end.Spent h = cc
end_folder names end.FrameLimit h = cc

end_read : (names : Names) (e : machine.End) → status_of (case_of_end names e) ≢ status.ReadFault
end_read names end.Done h = cc
end_read names (end.Uncaught signal) h = cc
end_read names end.Spent h = cc
end_read names end.FrameLimit h = cc

runs_folder : (names : Names) (image : Image) (turns : ℕ) (old new : Scene) (r : Result Outcome RunFault) → Runs image turns old new r
    → status_of (case_of_run names r) ≢ status.FolderFault
runs_folder names image turns old new r (run.ended outcome counts) h = end_folder names outcome.end h
runs_folder names image turns old new r (run.read_fault rose counts) h = cc
runs_folder names image turns old new r (run.write_fault rose counts) h = cc

runs_read : (names : Names) (image : Image) (turns : ℕ) (old new : Scene) (r : Result Outcome RunFault) → ¬ (Rose old.input.faults new.input.faults)
    → Runs image turns old new r → status_of (case_of_run names r) ≢ status.ReadFault
runs_read names image turns old new r dry (run.ended outcome counts) h = end_read names outcome.end h
runs_read names image turns old new r dry (run.read_fault rose counts) h = dry rose
runs_read names image turns old new r dry (run.write_fault rose counts) h = cc

goes_folder : (source : Source) (base : List ℕ) (turns : ℕ) (folder folder' : Shelf) (old new : Scene) (case : Case) → IsStill folder folder'
    → Goes source base turns folder folder' old new case → status_of case ≢ status.FolderFault
goes_folder source base turns folder folder' old new case still (not_configured _ why onward same) e =
    fails_folder (source_in source base) (source_so source base) folder folder' case still why e
goes_folder source base turns folder folder' old new case still (Goes.too_large trail m file first asked same) e = cc
goes_folder source base turns folder folder' old new case still (Goes.unresolved trail m i small first asked same) e = cc
goes_folder source base turns folder folder' old new case still (Goes.no_memory k gives same) e = cc
goes_folder source base turns folder folder' old new case still (Goes.not_stored trail m _ small all it same) e =
    not_stored_folder _ trail folder folder' case still it e
goes_folder source base turns folder folder' old new case still (Goes.ran trail m _ all stored it) e =
    let names = program_names (program m.configured) in
    runs_folder names _ turns old new it.machine.end it.machine.runs (sym (ap status_of it.machine.is_case) ∙ e)

goes_read : (source : Source) (base : List ℕ) (turns : ℕ) (folder folder' : Shelf) (old new : Scene) (case : Case)
    → ¬ (Rose old.input.faults new.input.faults) → Goes source base turns folder folder' old new case → status_of case ≢ status.ReadFault
goes_read source base turns folder folder' old new case dry (not_configured _ why onward same) e =
    not_read case (fails_before (source_in source base) (source_so source base) folder folder' case why) e
goes_read source base turns folder folder' old new case dry (Goes.too_large trail m file first asked same) e = cc
goes_read source base turns folder folder' old new case dry (Goes.unresolved trail m i small first asked same) e = cc
goes_read source base turns folder folder' old new case dry (Goes.no_memory k gives same) e = cc
goes_read source base turns folder folder' old new case dry (Goes.not_stored trail m _ small all it same) e =
    not_read case (not_stored_run _ trail folder folder' case it) e
goes_read source base turns folder folder' old new case dry (Goes.ran trail m _ all stored it) e =
    let names = program_names (program m.configured) in
    runs_read names _ turns old new it.machine.end dry it.machine.runs (sym (ap status_of it.machine.is_case) ∙ e)

-- the case of a run that has come to an end
ended_is : (links turns : ℕ) (old mid : Scene) (case : Case) (e : Exercised links turns old mid case)
    → case ≡ case_of_end (program_names (program e.made.configured)) e.outcome.end
ended_is links turns old mid case e = e.ends.machine.is_case ∙ ap (case_of_run (program_names (program e.made.configured))) e.ended

exercise_folder : (links turns : ℕ) (old new : Scene) (case : Case) → Exercises links turns old new case → status_of case ≢ status.FolderFault
exercise_folder links turns old new case (Exercises.no_memory same) h = cc
exercise_folder links turns old new case (no_end folder mid _ goes none still dry out input steps) h =
    goes_folder OfConfig chain turns (exercise_shelf links) folder (within old) mid case
    (λ file rose. rose_zero (folder.faults file) (λ i. still i file) rose) goes h
exercise_folder links turns old new case (ended mid _ e prints input steps) h =
    end_folder (program_names (program e.made.configured)) e.outcome.end (sym (ap status_of (ended_is links turns old mid case e)) ∙ h)
exercise_folder links turns old new case (not_summed mid _ e rose prints input steps) h = cc

exercise_read : (links turns : ℕ) (old new : Scene) (case : Case) → Exercises links turns old new case → status_of case ≢ status.ReadFault
exercise_read links turns old new case (Exercises.no_memory same) h = cc
exercise_read links turns old new case (no_end folder mid _ goes none still dry out input steps) h =
    goes_read OfConfig chain turns (exercise_shelf links) folder (within old) mid case (rose_zero mid.input.faults dry) goes h
exercise_read links turns old new case (ended mid _ e prints input steps) h =
    end_read (program_names (program e.made.configured)) e.outcome.end (sym (ap status_of (ended_is links turns old mid case e)) ∙ h)
exercise_read links turns old new case (not_summed mid _ e rose prints input steps) h = cc

pub never_answered : NeverAnswered
never_answered = record {
  list_read = λ kind base. prints_read (listing_in kind (kind_file kind base)) (listing_so kind (kind_file kind base));
  plan_read = λ bases. prints_read (plan_in bases) (plan_so bases);
  survey_read = λ base. prints_read (survey_in base) (survey_so base);
  upgrade_read = upgrade_read;
  upgrade_write = upgrade_write;
  upgrade_large = upgrade_large;
  exercise_folder = exercise_folder;
  exercise_read = exercise_read;
}
