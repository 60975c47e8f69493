-- TooLarge comes only where a file is too large and the size sum is above.
use Rattle.std.proofs.Common.{◌≡◌, ℕ, ◌<◌, List, [], ◌∷◌, All, Some, refl, sym, ◌∙◌, subst, nat_lt, Bool, true, false, ltb-true, ltb-false}
use Rattle.std.specs.Prelude.{Result, Ok, Err}
use Rattle.mesa_base.specs.Outside.{Shelf, Files}
use Rattle.command_rules.specs.frame_machine.specs.declared.outcome.Outcome.{Outcome}
use Rattle.command_rules.specs.frame_machine.specs.declared.outcome.RunFault.{RunFault}
use Rattle.command_rules.specs.frame_machine.specs.declared.outcome.RunFault.TheVariants as fault
use Rattle.machine_rules.specs.declared.end.End as machine
use Rattle.machine_rules.specs.declared.end.End.TheVariants as end
use Rattle.object_files.specs.declared.image.Image.{Image}
use Rattle.command_rules.specs.Binding.{bound_in}
use Rattle.command_rules.specs.Case.{Case, Refused}
use Rattle.command_rules.specs.declared.trouble.Trouble.TheVariants.{TooLarge}
use Rattle.command_rules.specs.Comes.{Compiles, not_compiled, compiled, Defines, not_defined, defined, Binds, not_bound, bound, Loads, not_read, Goes, not_configured, Made, targets_of, Exercises, no_end, ended}
use Rattle.command_rules.specs.Complete.{MakesOver}
use Rattle.command_rules.specs.Configurations.{program, source_in}
use Rattle.command_rules.specs.Exercise.{chain, exercise_shelf, within}
use Rattle.command_rules.specs.Forms.{Form, Source, OfConfig, Compile, Define, Bind, Run, Go, Show, Upgrade, Exercise, Plan, Survey, image_file, interface_file, kind_file, module_file, object_file}
use Rattle.command_rules.specs.Listing.{listing_in}
use Rattle.command_rules.specs.Modules.{interface_in, module_in}
use Rattle.command_rules.specs.Loading.{runnable_in}
use Rattle.command_rules.specs.Passes.{Has, Trail, Pass}
use Rattle.command_rules.specs.Passing.{Fails, refused, failed, memory}
use Rattle.command_rules.specs.Planning.{plan_in}
use Rattle.command_rules.specs.Printing.{Report, Prints}
use Rattle.command_rules.specs.Shown.{Names, case_of_end, case_of_run, image_names, program_names}
use Rattle.command_rules.specs.Surveying.{survey_in}
use Rattle.command_rules.specs.Worlds.{Scene}
use Rattle.command_rules.specs.Ends.{RunsTo}
use Rattle.command_rules.specs.Writing.{Target, holding, OfInterface, OfObject, OfImage, IsSmall, IsFirstTooLarge, NotStored, Written}
use Rattle.command_rules.specs.Order.{NeverAnswered}
use Rattle.command_rules.proofs.Stopping.{IsOfFiles, PassStopsSo, source_so, module_so, interface_in_so, bound_so, listing_so, plan_so, runnable_so, survey_so}
use Rattle.command_laws.proofs.OneCase.{FormComes, of_its_form}
use Rattle.command_laws.proofs.Sizes.{are_small, is_first, none_first}
use Rattle.exercise_texts.specs.Files.{exercise_files}
use Rattle.command_sizes.specs.Laws.{FilesAreSmall, HasTexts, IsAbove, SumsAreTold, TooLargeComesOnlySo}
use Rattle.command_sizes.specs.Sum.{IsSizeSum, most}

-- ---- where the answer does not come from

abbrev Large : Case → List ℕ → Type 0
Large case file = case ≡ Refused file TooLarge

of_files_not : (case : Case) (file : List ℕ) → IsOfFiles case → Large case file → ⊥
of_files_not case file h e = subst IsOfFiles e h

fails_not : {A : Type 0} (p : Pass Case A) → PassStopsSo p → (folder folder' : Shelf) (case : Case) (file : List ℕ) → Fails p folder folder' case → Large case file → ⊥
fails_not p so folder folder' case file (refused trail _ comes missed called) e = of_files_not case file (so folder.files trail case comes) e
fails_not p so folder folder' case file (failed trail other asks rose called) e = cc
fails_not p so folder folder' case file memory e = cc

not_stored_not : (targets : List Target) (trail : Trail) (folder folder' : Shelf) (case : Case) (file : List ℕ) → NotStored targets trail folder folder' case
    → Large case file → ⊥
not_stored_not targets trail folder folder' case file (NotStored.failed before after t is files rose called) e = cc
not_stored_not targets trail folder folder' case file (NotStored.memory before after t is files) e = cc

end_not : (names : Names) (e : machine.End) (file : List ℕ) → Large (case_of_end names e) file → ⊥
end_not names end.Done file h = cc
end_not names (end.Uncaught signal) file h = cc
end_not names end.Spent file h = cc
end_not names end.FrameLimit file h = cc

run_not : (names : Names) (r : Result Outcome RunFault) (file : List ℕ) → Large (case_of_run names r) file → ⊥
run_not names (Ok o) file h = end_not names o.end file h
run_not names (Err fault.ReadFault) file h = cc
run_not names (Err fault.WriteFault) file h = cc

runs_not : (names : Names) (image : Image) (turns : ℕ) (old new : Scene) (case : Case) (file : List ℕ) → RunsTo names image turns old new case → Large case file → ⊥
runs_not names image turns old new case file it e = run_not names it.end file (sym it.is_case ∙ e)

loads_not : (bases : List (List ℕ)) (turns : ℕ) (folder folder' : Shelf) (old new : Scene) (case : Case) (file : List ℕ) → Loads bases turns folder folder' old new case
    → Large case file → ⊥
loads_not bases turns folder folder' old new case file (not_read _ why onward same) e = fails_not (runnable_in bases) (runnable_so bases) folder folder' case file why e
loads_not bases turns folder folder' old new case file (Loads.unresolved parts base i gives first same) e = cc
loads_not bases turns folder folder' old new case file (Loads.no_memory parts gives same) e = cc
loads_not bases turns folder folder' old new case file (Loads.ran parts image _ gives is all it) e = runs_not (image_names image) image turns old new case file it e

prints_not : (p : Pass Case Report) → PassStopsSo p → (folder folder' : Shelf) (old new : Scene) (case : Case) (file : List ℕ) → Prints p folder folder' old new case
    → Large case file → ⊥
prints_not p so folder folder' old new case file (Prints.not_read _ why onward same) e = fails_not p so folder folder' case file why e
prints_not p so folder folder' old new case file (Prints.no_memory r gives same) e = cc
prints_not p so folder folder' old new case file (Prints.printed r gives missed all same_input same_steps) e = cc
prints_not p so folder folder' old new case file (Prints.not_printed r gives fault part same_input same_steps) e = cc

-- ---- where it comes from

named_of : (f g : List ℕ) → Large (Refused f TooLarge) g → f ≡ g
named_of f g e = cc

written_large : (targets : List Target) (trail : Trail) (folder folder' : Shelf) (case : Case) (file : List ℕ) → Written targets trail folder folder' case
    → Large case file → IsFirstTooLarge targets file
written_large targets trail folder folder' case file (Written.too_large f first asked) e = subst (IsFirstTooLarge targets) (named_of f file e) first
written_large targets trail folder folder' case file (Written.no_memory asked) e = absurd cc
written_large targets trail folder folder' case file (Written.stored s) e = absurd cc
written_large targets trail folder folder' case file (Written.not_stored _ small it) e = absurd (not_stored_not targets trail folder folder' case file it e)

record IsMade (form : Form) (files : Files) (file : List ℕ) : Type 0 where
  targets : List Target
  makes : MakesOver form files targets
  first : IsFirstTooLarge targets file

module _ (files : Files) (folder folder' : Shelf) (told : folder.files ≡ Some files) (file : List ℕ) where
  so : {A : Type 0} (p : Pass Case A) (trail : Trail) (a : A) → p.comes folder.files trail (Has a) → p.comes (Some files) trail (Has a)
  so p trail a comes = subst (λ f. p.comes f trail (Has a)) told comes

  compiles_large : (base : List ℕ) (case : Case) → Compiles base folder folder' case → Large case file → IsMade (Compile base) files file
  compiles_large base case (not_compiled _ why onward) e =
      absurd (fails_not (module_in (module_file base)) (module_so (module_file base)) folder folder' case file why e)
  compiles_large base case (compiled m o trail _ comes is written) e = record {
    targets = holding (object_file base) (OfObject o) ∷ [];
    makes = (trail, m, o, so (module_in (module_file base)) trail m comes, is, refl);
    first = written_large _ trail folder folder' case file written e;
  }

  defines_large : (base : List ℕ) (stamp : ℕ) (case : Case) → Defines base stamp folder folder' case → Large case file → IsMade (Define base stamp) files file
  defines_large base stamp case (not_defined _ why onward) e =
      absurd (fails_not (interface_in (module_file base) stamp) (interface_in_so (module_file base) stamp) folder folder' case file why e)
  defines_large base stamp case (defined i trail _ comes written) e = record {
    targets = holding (interface_file base) (OfInterface i) ∷ [];
    makes = (trail, i, so (interface_in (module_file base) stamp) trail i comes, refl);
    first = written_large _ trail folder folder' case file written e;
  }

  binds_large : (base : List ℕ) (case : Case) → Binds base folder folder' case → Large case file → IsMade (Bind base) files file
  binds_large base case (not_bound _ why onward) e = absurd (fails_not (bound_in base) (bound_so base) folder folder' case file why e)
  binds_large base case (bound b image trail _ comes is written) e = record {
    targets = holding (image_file base) (OfImage image) ∷ [];
    makes = (trail, b, image, so (bound_in base) trail b comes, is, refl);
    first = written_large _ trail folder folder' case file written e;
  }

  goes_large : (source : Source) (base : List ℕ) (turns : ℕ) (old new : Scene) (case : Case) → Goes source base turns folder folder' old new case → Large case file
      → IsMade (Go source base turns) files file
  goes_large source base turns old new case (not_configured _ why onward same) e =
      absurd (fails_not (source_in source base) (source_so source base) folder folder' case file why e)
  goes_large source base turns old new case (Goes.too_large trail m f first asked same) e =
      let comes = so (source_in source base) trail m.configured m.comes in
      let made : Made source base (Some files) trail = record { configured = m.configured; comes = comes; objects = m.objects; their = m.their } in
      record { targets = targets_of base made; makes = (trail, made, refl); first = subst (IsFirstTooLarge (targets_of base made)) (named_of f file e) first }
  goes_large source base turns old new case (Goes.unresolved trail m i small first asked same) e = absurd cc
  goes_large source base turns old new case (Goes.no_memory k gives same) e = absurd cc
  goes_large source base turns old new case (Goes.not_stored trail m _ small all it same) e = absurd (not_stored_not _ trail folder folder' case file it e)
  goes_large source base turns old new case (Goes.ran trail m _ all stored ends) e =
      absurd (runs_not (program_names (program m.configured)) _ turns old new case file ends.machine e)

-- an exercise makes its files as its own `go` does
within_large : (links turns : ℕ) (files : Files) (old new : Scene) (case : Case) (file : List ℕ) → Exercises links turns old new case → Large case file
    → IsMade (Exercise links turns) files file
within_large links turns files old new case file (no_end folder mid _ it no_end_is no_folder no_input out input steps) e =
    let made = goes_large (exercise_files links) (exercise_shelf links) folder refl file OfConfig chain turns (within old) mid case it e in
    record { targets = made.targets; makes = made.makes; first = made.first }
within_large links turns files old new case file (Exercises.no_memory same) e = absurd cc
within_large links turns files old new case file (ended mid _ it all input steps) e =
    absurd (runs_not (program_names (program it.made.configured)) _ turns (within old) mid case file it.ends.machine e)
within_large links turns files old new case file (Exercises.not_summed mid _ it fault part input steps) e = absurd cc

module _ (never : NeverAnswered) (files : Files) (folder folder' : Shelf) (told : folder.files ≡ Some files) (file : List ℕ) where
  form_large : (form : Form) (old new : Scene) → FormComes form folder folder' old new (Refused file TooLarge) → IsMade form files file
  form_large (Compile base) old new it = compiles_large files folder folder' told file base (Refused file TooLarge) it refl
  form_large (Define base stamp) old new it = defines_large files folder folder' told file base stamp (Refused file TooLarge) it refl
  form_large (Bind base) old new it = binds_large files folder folder' told file base (Refused file TooLarge) it refl
  form_large (Run bases turns) old new it = absurd (loads_not bases turns folder folder' old new (Refused file TooLarge) file it refl)
  form_large (Go source base turns) old new it = goes_large files folder folder' told file source base turns old new (Refused file TooLarge) it refl
  form_large (Show kind base) old new it =
      absurd (prints_not (listing_in kind (kind_file kind base)) (listing_so kind (kind_file kind base)) folder folder' old new (Refused file TooLarge) file it refl)
  form_large (Upgrade kind base) old new it = absurd (never.upgrade_large kind base file folder folder' it)
  form_large (Exercise links turns) old new it = within_large links turns files old new (Refused file TooLarge) file it refl
  form_large (Plan bases) old new it = absurd (prints_not (plan_in bases) (plan_so bases) folder folder' old new (Refused file TooLarge) file it refl)
  form_large (Survey base) old new it = absurd (prints_not (survey_in base) (survey_so base) folder folder' old new (Refused file TooLarge) file it refl)

-- ---- the sum

never_first : (targets : List Target) (file : List ℕ) → All IsSmall targets → IsFirstTooLarge targets file → ⊥
never_first targets file small first = none_first _ file (are_small targets small) (is_first targets file first)

module _ (sums : SumsAreTold) (small : FilesAreSmall) (never : NeverAnswered) where
  summed : (form : Form) (files : Files) (file : List ℕ) → HasTexts form files → IsMade form files file → (sum : ℕ) × IsSizeSum form files sum × (most < sum)
  summed form files file texts it =
      let s = sums.some form files texts in
      (s.0, s.1, by s.0 s.1 (nat_lt most s.0) refl)
    where
      by : (sum : ℕ) → IsSizeSum form files sum → (b : Bool) → nat_lt most sum ≡ b → most < sum
      by sum h true e = ltb-true most sum e
      by sum h false e = absurd (never_first it.targets file (small form files it.targets sum it.makes h (ltb-false most sum e)) it.first)

  above : (form : Form) (files : Files) (file : List ℕ) → IsMade form files file → IsAbove form files
  above (Compile base) files file it = let m = it.makes in summed (Compile base) files file (m.0, m.1, m.3) it
  above (Define base stamp) files file it = tt
  above (Bind base) files file it = tt
  above (Run bases turns) files file it = absurd it.makes
  above (Go source base turns) files file it =
      let m = it.makes in summed (Go source base turns) files file (m.0, (m.1).configured, (m.1).comes) it
  above (Show kind base) files file it = absurd it.makes
  above (Upgrade kind base) files file it = absurd it.makes
  above (Plan bases) files file it = absurd it.makes
  above (Survey base) files file it = absurd it.makes
  above (Exercise links turns) files file it =
      let m = it.makes in summed (Exercise links turns) files file (m.0, (m.1).configured, (m.1).comes) it

  pub only_so : TooLargeComesOnlySo
  only_so words form files folder folder' old new file has told comes =
      let it = form_large never files folder folder' told file form old new (of_its_form words folder folder' old new form (Refused file TooLarge) has comes) in
      record { targets = it.targets; makes = it.makes; first = it.first; above = above form files file it }
