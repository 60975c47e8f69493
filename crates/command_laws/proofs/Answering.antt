-- What a call answers, from its case and its line.
use Rattle.std.proofs.Common.{◌≡◌, ◌≢◌, ℕ, ◌⊎◌, ◌↔◌, List, All, Some, refl, sym, ◌∙◌, ap, subst, inl, inr}
use Rattle.mesa_base.specs.Outside.{Shelf, Stream, Files}
use Rattle.mesa_base.specs.declared.status.Status.{Status}
use Rattle.mesa_base.specs.declared.status.Status.TheVariants as status
use Rattle.depth_laws.specs.Laws.{DepthsDoNotMatter}
use Rattle.loader_rules.specs.Laws.{LoadsAreAlike}
use Rattle.line_pieces.specs.Outputs.{PrintsAll}
use Rattle.command_rules.specs.Binding.{bound_in}
use Rattle.command_rules.specs.Case.{Case, Absent, Done, Memory, Refused, Usage, status_of}
use Rattle.command_rules.specs.declared.trouble.Trouble.TheVariants.{TooLarge}
use Rattle.command_rules.specs.Comes.{Compiles, not_compiled, compiled, Defines, not_defined, defined, Binds, not_bound, bound, Loads, not_read, Goes, not_configured, Upgrades, not_held, Exercises, no_end, ended, not_summed, Comes}
use Rattle.command_rules.specs.Complete.{NoFault, Tells, IsAnswer, IsCall, StopsOver, MakesOver, IsRefused, IsTooLarge, IsUnresolved, IsUnresolvedWithin, IsNotLoaded, IsStored, IsComplete, IsRun, IsListed, IsPlanned, IsSurveyed, IsUpgraded, IsExercised, Answered}
use Rattle.command_rules.specs.Configurations.{program, source_in}
use Rattle.command_rules.specs.Exercise.{chain, exercise_shelf, within}
use Rattle.command_rules.specs.Forms.{Source, OfConfig, FileKind, Form, Compile, Define, Bind, Run, Go, Show, Upgrade, Exercise, Plan, Survey, HasNoForm, WritesAlone, kind_file, module_file}
use Rattle.command_rules.specs.Listing.{listing_in, value_in}
use Rattle.command_rules.specs.Modules.{interface_in, module_in}
use Rattle.command_rules.specs.Loading.{runnable_in}
use Rattle.command_rules.specs.Passes.{Has, IsExact, Trail, Pass}
use Rattle.command_rules.specs.Passing.{Fails, refused, failed, memory}
use Rattle.command_rules.specs.Planning.{plan_in}
use Rattle.command_rules.specs.Printing.{Report, Prints}
use Rattle.command_rules.specs.Shown.{image_names, program_names}
use Rattle.command_rules.specs.Surveying.{survey_in}
use Rattle.command_rules.specs.Worlds.{Scene, World}
use Rattle.command_rules.specs.Writing.{Target, IsSmall, IsFirstTooLarge, NotStored, StoresAll, Written}
use Rattle.command_rules.proofs.Stopping.{IsOfFiles, PassStopsSo, source_so, module_so, interface_in_so, bound_so, listing_so, runnable_so, plan_so, survey_so, value_so}
use Rattle.command_laws.specs.Laws.{PassesAreExact, CasesAreAnswers}
use Rattle.command_laws.proofs.Came.{streams}
use Rattle.command_laws.proofs.Exercising.{exercised_stopped, exercised_large, exercised_lacking, exercised_whole}
use Rattle.command_laws.proofs.Going.{goes_so, went_stopped, went_large, went_lacking, went_whole}
use Rattle.command_laws.proofs.Loading.{loads_so, loaded_stopped, loaded_lacking, loaded_run}
use Rattle.command_laws.proofs.Making.{OfCompile, OfDefine, OfBind, compile_made, define_made, bind_made, compiles_likely, defines_likely, binds_likely, made_stopped, made_large, made_whole}
use Rattle.command_laws.proofs.OneCase.{FormComes, Meets, no_form, of_form, meets, of_its_form}
use Rattle.command_laws.proofs.OneEnd.{run_used}
use Rattle.command_laws.proofs.Showing.{over, prints_so, printed_stopped, printed_whole, upgrades_so, renewed_stopped, renewed_whole}
use Rattle.command_laws.proofs.Sizes.{is_first, are_small}

-- ---- Usage

of_files_used : (case : Case) → IsOfFiles case → status_of case ≢ status.Usage
of_files_used (Refused file why) h e = cc
of_files_used (Absent file) h e = cc
of_files_used Usage h e = h
of_files_used _ h e = cc

fails_used : {A : Type 0} (p : Pass Case A) → PassStopsSo p → (folder folder' : Shelf) (case : Case) → Fails p folder folder' case → status_of case ≢ status.Usage
fails_used p so folder folder' case (refused trail _ comes missed called) e = of_files_used case (so folder.files trail case comes) e
fails_used p so folder folder' case (failed trail file asks rose called) e = cc
fails_used p so folder folder' case memory e = cc

not_stored_used : (targets : List Target) (trail : Trail) (folder folder' : Shelf) (case : Case) → NotStored targets trail folder folder' case
    → status_of case ≢ status.Usage
not_stored_used targets trail folder folder' case (NotStored.failed before after t is files rose called) e = cc
not_stored_used targets trail folder folder' case (NotStored.memory before after t is files) e = cc

written_used : (targets : List Target) (trail : Trail) (folder folder' : Shelf) (case : Case) → Written targets trail folder folder' case
    → status_of case ≢ status.Usage
written_used targets trail folder folder' case (Written.too_large file first asked) e = cc
written_used targets trail folder folder' case (Written.no_memory asked) e = cc
written_used targets trail folder folder' case (Written.stored s) e = cc
written_used targets trail folder folder' case (Written.not_stored _ small it) e = not_stored_used targets trail folder folder' case it e

compiles_used : (base : List ℕ) (folder folder' : Shelf) (case : Case) → Compiles base folder folder' case → status_of case ≢ status.Usage
compiles_used base folder folder' case (not_compiled _ why onward) e =
    fails_used (module_in (module_file base)) (module_so (module_file base)) folder folder' case why e
compiles_used base folder folder' case (compiled m o trail _ comes is written) e = written_used _ trail folder folder' case written e

defines_used : (base : List ℕ) (stamp : ℕ) (folder folder' : Shelf) (case : Case) → Defines base stamp folder folder' case → status_of case ≢ status.Usage
defines_used base stamp folder folder' case (not_defined _ why onward) e =
    fails_used (interface_in (module_file base) stamp) (interface_in_so (module_file base) stamp) folder folder' case why e
defines_used base stamp folder folder' case (defined i trail _ comes written) e = written_used _ trail folder folder' case written e

binds_used : (base : List ℕ) (folder folder' : Shelf) (case : Case) → Binds base folder folder' case → status_of case ≢ status.Usage
binds_used base folder folder' case (not_bound _ why onward) e = fails_used (bound_in base) (bound_so base) folder folder' case why e
binds_used base folder folder' case (bound b image trail _ comes is written) e = written_used _ trail folder folder' case written e

loads_used : (bases : List (List ℕ)) (turns : ℕ) (folder folder' : Shelf) (old new : Scene) (case : Case) → Loads bases turns folder folder' old new case
    → status_of case ≢ status.Usage
loads_used bases turns folder folder' old new case (not_read _ why onward same) e =
    fails_used (runnable_in bases) (runnable_so bases) folder folder' case why e
loads_used bases turns folder folder' old new case (Loads.unresolved parts base i gives first same) e = cc
loads_used bases turns folder folder' old new case (Loads.no_memory parts gives same) e = cc
loads_used bases turns folder folder' old new case (Loads.ran parts image _ gives is all it) e = run_used (image_names image) image turns old new case it e

goes_used : (source : Source) (base : List ℕ) (turns : ℕ) (folder folder' : Shelf) (old new : Scene) (case : Case) → Goes source base turns folder folder' old new case
    → status_of case ≢ status.Usage
goes_used source base turns folder folder' old new case (not_configured _ why onward same) e =
    fails_used (source_in source base) (source_so source base) folder folder' case why e
goes_used source base turns folder folder' old new case (Goes.too_large trail m file first asked same) e = cc
goes_used source base turns folder folder' old new case (Goes.unresolved trail m i small first asked same) e = cc
goes_used source base turns folder folder' old new case (Goes.no_memory k gives same) e = cc
goes_used source base turns folder folder' old new case (Goes.not_stored trail m _ small all it same) e = not_stored_used _ trail folder folder' case it e
goes_used source base turns folder folder' old new case (Goes.ran trail m _ all stored ends) e =
    run_used (program_names (program m.configured)) _ turns old new case ends.machine e

prints_used : (p : Pass Case Report) → PassStopsSo p → (folder folder' : Shelf) (old new : Scene) (case : Case) → Prints p folder folder' old new case
    → status_of case ≢ status.Usage
prints_used p so folder folder' old new case (Prints.not_read _ why onward same) e = fails_used p so folder folder' case why e
prints_used p so folder folder' old new case (Prints.no_memory r gives same) e = cc
prints_used p so folder folder' old new case (Prints.printed r gives missed prints input steps) e = cc
prints_used p so folder folder' old new case (Prints.not_printed r gives rose prints input steps) e = cc

upgrades_used : (kind : FileKind) (base : List ℕ) (folder folder' : Shelf) (case : Case) → Upgrades kind base folder folder' case
    → status_of case ≢ status.Usage
upgrades_used kind base folder folder' case (not_held _ why onward) e =
    fails_used (value_in kind (kind_file kind base)) (value_so kind (kind_file kind base)) folder folder' case why e
upgrades_used kind base folder folder' case (Upgrades.no_memory v gives) e = cc
upgrades_used kind base folder folder' case (Upgrades.stored v trail comes s) e = cc
upgrades_used kind base folder folder' case (Upgrades.not_stored v trail _ comes it) e = not_stored_used _ trail folder folder' case it e

exercises_used : (links turns : ℕ) (old new : Scene) (case : Case) → Exercises links turns old new case → status_of case ≢ status.Usage
exercises_used links turns old new case (Exercises.no_memory same) e = cc
exercises_used links turns old new case (no_end folder mid _ goes none still dry out input steps) e =
    goes_used OfConfig chain turns (exercise_shelf links) folder (within old) mid case goes e
exercises_used links turns old new case (ended mid _ x prints input steps) e =
    run_used (program_names (program x.made.configured)) _ turns (within old) mid case x.ends.machine e
exercises_used links turns old new case (not_summed mid _ x rose prints input steps) e = cc

form_used : (form : Form) (folder folder' : Shelf) (old new : Scene) (case : Case) → FormComes form folder folder' old new case → status_of case ≢ status.Usage
form_used (Compile base) folder folder' old new case it e = compiles_used base folder folder' case it e
form_used (Define base stamp) folder folder' old new case it e = defines_used base stamp folder folder' case it e
form_used (Bind base) folder folder' old new case it e = binds_used base folder folder' case it e
form_used (Run bases turns) folder folder' old new case it e = loads_used bases turns folder folder' old new case it e
form_used (Go source base turns) folder folder' old new case it e = goes_used source base turns folder folder' old new case it e
form_used (Show kind base) folder folder' old new case it e =
    prints_used (listing_in kind (kind_file kind base)) (listing_so kind (kind_file kind base)) folder folder' old new case it e
form_used (Upgrade kind base) folder folder' old new case it e = upgrades_used kind base folder folder' case it e
form_used (Exercise links turns) folder folder' old new case it e = exercises_used links turns old new case it e
form_used (Plan bases) folder folder' old new case it e = prints_used (plan_in bases) (plan_so bases) folder folder' old new case it e
form_used (Survey base) folder folder' old new case it e = prints_used (survey_in base) (survey_so base) folder folder' old new case it e

usage_only : (words : List (List ℕ)) (folder folder' : Shelf) (old new : Scene) (case : Case) → Meets words folder folder' old new case
    → status_of case ≡ status.Usage → HasNoForm words
usage_only words folder folder' old new case (no_form none) e = none
usage_only words folder folder' old new case (of_form form _ has it) e = absurd (form_used form folder folder' old new case it e)

used : (words : List (List ℕ)) (folder folder' : Shelf) (old new : Scene) (case : Case) → HasNoForm words → Meets words folder folder' old new case → status_of case ≡ status.Usage
used words folder folder' old new case none (no_form _) = refl
used words folder folder' old new case none (of_form form _ has it) = absurd (none form has)

-- the words have no form exactly where the answer is Usage
usage_exact : (words : List (List ℕ)) (folder folder' : Shelf) (old new : Scene) (case : Case) → Comes words folder folder' old new case
    → (status_of case ≡ status.Usage) ↔ HasNoForm words
usage_exact words folder folder' old new case comes =
    let met = meets words folder folder' old new case comes in
    (usage_only words folder folder' old new case met, λ none. used words folder folder' old new case none met)

-- ---- answers

answered : (case c : Case) (said said' : Stream) (s : Status) → Tells case said said' s → (case ≡ Memory) ⊎ (case ≡ c) → IsAnswer c said said' s
answered case c said said' s tells (inl e) = inr (tells.status_is ∙ ap status_of e)
answered case c said said' s tells (inr e) = inl (subst (λ x. Tells x said said' s) e tells)

told : (case c : Case) (R : Type 0) (said said' : Stream) (s : Status) → Tells case said said' s → ((case ≡ c) × R) ⊎ (case ≡ Memory)
    → (Tells c said said' s × R) ⊎ (s ≡ status.Memory)
told case c R said said' s tells (inl it) = inl (subst (λ x. Tells x said said' s) it.0 tells, it.1)
told case c R said said' s tells (inr e) = inr (tells.status_is ∙ ap status_of e)

told_both : (case c : Case) (R Q : Type 0) (said said' : Stream) (s : Status) → Tells case said said' s → ((case ≡ c) × R × Q) ⊎ (case ≡ Memory)
    → (Tells c said said' s × R × Q) ⊎ (s ≡ status.Memory)
told_both case c R Q said said' s tells (inl it) = inl (subst (λ x. Tells x said said' s) it.0 tells, it.1, it.2)
told_both case c R Q said said' s tells (inr e) = inr (tells.status_is ∙ ap status_of e)

module _ (exact : PassesAreExact) (law : DepthsDoNotMatter) (alike : LoadsAreAlike) where
  -- what stops a form, over files that are told and without faults
  form_stopped : (form : Form) (folder folder' : Shelf) (old new : Scene) (files : Files) (case c : Case) → folder.files ≡ Some files
      → NoFault folder folder' old new → StopsOver form files c → FormComes form folder folder' old new case → (case ≡ Memory) ⊎ (case ≡ c)
  form_stopped (Compile base) folder folder' old new files case c e calm it x =
      made_stopped (module_in (module_file base)) (OfCompile base) files (exact.modules (module_file base)) (compiles_likely base) folder folder' case c
      (record { trail = it.0; comes = it.1 }) (compile_made base files folder folder' case e calm.no_folder_fault x)
  form_stopped (Define base stamp) folder folder' old new files case c e calm it x =
      made_stopped (interface_in (module_file base) stamp) (OfDefine base) files (exact.definitions (module_file base) stamp) (defines_likely base) folder folder' case c
      (record { trail = it.0; comes = it.1 }) (define_made base stamp files folder folder' case e calm.no_folder_fault x)
  form_stopped (Bind base) folder folder' old new files case c e calm it x =
      made_stopped (bound_in base) (OfBind base) files (exact.bound base) (binds_likely base) folder folder' case c
      (record { trail = it.0; comes = it.1 }) (bind_made base files folder folder' case e calm.no_folder_fault x)
  form_stopped (Run bases turns) folder folder' old new files case c e calm it x =
      loaded_stopped law alike bases turns files (exact.runs bases) old new case c
      (record { trail = it.0; comes = it.1 }) (loads_so bases turns files folder folder' old new case e calm.no_folder_fault x)
  form_stopped (Go source base turns) folder folder' old new files case c e calm it x =
      went_stopped source base turns files (exact.sources source base) folder folder' old new case c
      (record { trail = it.0; comes = it.1 }) (goes_so source base turns files folder folder' old new case e calm.no_folder_fault x)
  form_stopped (Show kind base) folder folder' old new files case c e calm it x =
      printed_stopped (listing_in kind (kind_file kind base)) files (exact.listings kind (kind_file kind base)) old new case c
      (record { trail = it.0; comes = it.1 })
      (prints_so (listing_in kind (kind_file kind base)) files folder folder' old new case e calm.no_folder_fault calm.no_out_fault x)
  form_stopped (Upgrade kind base) folder folder' old new files case c e calm it x =
      renewed_stopped kind base files folder folder' case c
      (record { trail = it.0; comes = it.1 }) (upgrades_so kind base files folder folder' case e calm.no_folder_fault x)
  form_stopped (Exercise links turns) folder folder' old new files case c e calm it x =
      exercised_stopped links turns (exact.sources OfConfig chain) old new calm.no_out_fault case c (record { trail = it.0; comes = it.1 }) x
  form_stopped (Plan bases) folder folder' old new files case c e calm it x =
      printed_stopped (plan_in bases) files (exact.plans bases) old new case c (record { trail = it.0; comes = it.1 })
      (prints_so (plan_in bases) files folder folder' old new case e calm.no_folder_fault calm.no_out_fault x)
  form_stopped (Survey base) folder folder' old new files case c e calm it x =
      printed_stopped (survey_in base) files (exact.surveys base) old new case c (record { trail = it.0; comes = it.1 })
      (prints_so (survey_in base) files folder folder' old new case e calm.no_folder_fault calm.no_out_fault x)

  -- the first file that would be too large
  form_large : (form : Form) (folder folder' : Shelf) (old new : Scene) (files : Files) (case : Case) (targets : List Target) (file : List ℕ) → folder.files ≡ Some files
      → NoFault folder folder' old new → MakesOver form files targets → IsFirstTooLarge targets file → FormComes form folder folder' old new case
      → (case ≡ Memory) ⊎ (case ≡ Refused file TooLarge)
  form_large (Compile base) folder folder' old new files case targets file e calm it first x =
      made_large (module_in (module_file base)) (OfCompile base) files (exact.modules (module_file base)) (compiles_likely base) folder folder' case it.1 targets file
      (record { trail = it.0; comes = it.3 }) (it.2, it.4, it.5) first (compile_made base files folder folder' case e calm.no_folder_fault x)
  form_large (Define base stamp) folder folder' old new files case targets file e calm it first x =
      made_large (interface_in (module_file base) stamp) (OfDefine base) files (exact.definitions (module_file base) stamp) (defines_likely base) folder folder' case it.1 targets file
      (record { trail = it.0; comes = it.2 }) it.3 first (define_made base stamp files folder folder' case e calm.no_folder_fault x)
  form_large (Bind base) folder folder' old new files case targets file e calm it first x =
      made_large (bound_in base) (OfBind base) files (exact.bound base) (binds_likely base) folder folder' case it.1 targets file
      (record { trail = it.0; comes = it.3 }) (it.2, it.4, it.5) first (bind_made base files folder folder' case e calm.no_folder_fault x)
  form_large (Run bases turns) folder folder' old new files case targets file e calm it first x = absurd it
  form_large (Go source base turns) folder folder' old new files case targets file e calm it first x =
      went_large source base turns files (exact.sources source base) folder folder' old new it.1.configured it.1.objects
      (record { trail = it.0; comes = it.1.comes }) it.1.their case file (is_first _ file (subst (λ ts. IsFirstTooLarge ts file) it.2 first))
      (goes_so source base turns files folder folder' old new case e calm.no_folder_fault x)
  form_large (Show kind base) folder folder' old new files case targets file e calm it first x = absurd it
  form_large (Upgrade kind base) folder folder' old new files case targets file e calm it first x = absurd it
  form_large (Plan bases) folder folder' old new files case targets file e calm it first x = absurd it
  form_large (Survey base) folder folder' old new files case targets file e calm it first x = absurd it
  form_large (Exercise links turns) folder folder' old new files case targets file e calm it first x =
      exercised_large links turns (exact.sources OfConfig chain) old new calm.no_out_fault it.1.configured it.1.objects
      (record { trail = it.0; comes = it.1.comes }) it.1.their case file (is_first _ file (subst (λ ts. IsFirstTooLarge ts file) it.2 first)) x

  -- compile and bind
  form_stored : (form : Form) (folder folder' : Shelf) (old new : Scene) (files : Files) (case : Case) (targets : List Target) → folder.files ≡ Some files
      → NoFault folder folder' old new → WritesAlone form → MakesOver form files targets → All IsSmall targets → FormComes form folder folder' old new case
      → ((case ≡ Done) × StoresAll targets folder.files folder'.files) ⊎ (case ≡ Memory)
  form_stored (Compile base) folder folder' old new files case targets e calm is it small x =
      made_whole (module_in (module_file base)) (OfCompile base) files (exact.modules (module_file base)) (compiles_likely base) folder folder' case it.1 targets
      (record { trail = it.0; comes = it.3 }) (it.2, it.4, it.5) small (compile_made base files folder folder' case e calm.no_folder_fault x)
  form_stored (Define base stamp) folder folder' old new files case targets e calm is it small x =
      made_whole (interface_in (module_file base) stamp) (OfDefine base) files (exact.definitions (module_file base) stamp) (defines_likely base) folder folder' case it.1 targets
      (record { trail = it.0; comes = it.2 }) it.3 small (define_made base stamp files folder folder' case e calm.no_folder_fault x)
  form_stored (Bind base) folder folder' old new files case targets e calm is it small x =
      made_whole (bound_in base) (OfBind base) files (exact.bound base) (binds_likely base) folder folder' case it.1 targets
      (record { trail = it.0; comes = it.3 }) (it.2, it.4, it.5) small (bind_made base files folder folder' case e calm.no_folder_fault x)
  form_stored (Run bases turns) folder folder' old new files case targets e calm is it small x = absurd is
  form_stored (Go source base turns) folder folder' old new files case targets e calm is it small x = absurd is
  form_stored (Show kind base) folder folder' old new files case targets e calm is it small x = absurd is
  form_stored (Upgrade kind base) folder folder' old new files case targets e calm is it small x = absurd it
  form_stored (Exercise links turns) folder folder' old new files case targets e calm is it small x = absurd is
  form_stored (Plan bases) folder folder' old new files case targets e calm is it small x = absurd is
  form_stored (Survey base) folder folder' old new files case targets e calm is it small x = absurd is

  module _ (words : List (List ℕ)) (before after : World) (s : Status) (case : Case) (comes : Comes words before.folder after.folder before.scene after.scene case)
      (tells : Tells case before.err after.err s) where
    comes_of : (form : Form) (files : Files) → IsCall words before after form files → FormComes form before.folder after.folder before.scene after.scene case
    comes_of form files it = of_its_form words before.folder after.folder before.scene after.scene form case it.has comes

    refuses : IsRefused words before after s
    refuses form files c call stops =
        answered case c before.err after.err s tells
        (form_stopped form before.folder after.folder before.scene after.scene files case c call.told call.no_fault stops (comes_of form files call))

    refuses_large : IsTooLarge words before after s
    refuses_large form files targets file call makes first =
        answered case (Refused file TooLarge) before.err after.err s tells
        (form_large form before.folder after.folder before.scene after.scene files case targets file call.told call.no_fault makes first (comes_of form files call))

    lacking : IsUnresolved words before after s
    lacking source base turns files trail i call m small first =
        answered case _ before.err after.err s tells
        (went_lacking source base turns files (exact.sources source base) before.folder after.folder before.scene after.scene m.configured m.objects
        (record { trail = trail; comes = m.comes }) m.their case i (are_small _ small) first
        (goes_so source base turns files before.folder after.folder before.scene after.scene case call.told call.no_fault.no_folder_fault
        (comes_of (Go source base turns) files call)))

    lacking_within : IsUnresolvedWithin words before after s
    lacking_within links turns trail i has calm m small first =
        answered case _ before.err after.err s tells
        (exercised_lacking links turns (exact.sources OfConfig chain) before.scene after.scene calm.no_out_fault m.configured m.objects
        (record { trail = trail; comes = m.comes }) m.their case i (are_small _ small) first
        (of_its_form words before.folder after.folder before.scene after.scene (Exercise links turns) case has comes))

    lacking_image : IsNotLoaded words before after s
    lacking_image bases turns files trail parts base i call reads first =
        answered case _ before.err after.err s tells
        (loaded_lacking law alike bases turns files (exact.runs bases) before.scene after.scene parts (record { trail = trail; comes = reads }) case base i first
        (loads_so bases turns files before.folder after.folder before.scene after.scene case call.told call.no_fault.no_folder_fault
        (comes_of (Run bases turns) files call)))

    stores : IsStored words before after s
    stores form files targets call is makes small =
        told case Done (StoresAll targets before.folder.files after.folder.files) before.err after.err s tells
        (form_stored form before.folder after.folder before.scene after.scene files case targets call.told call.no_fault is makes small (comes_of form files call))

    complete : IsComplete words before after s
    complete source base turns files trail output c call m small all d =
        told_both case c _ _ before.err after.err s tells
        (went_whole source base turns files (exact.sources source base) before.folder after.folder before.scene after.scene m.configured m.objects
        (record { trail = trail; comes = m.comes }) m.their case output c
        (streams before.folder after.folder before.scene after.scene call.no_fault) (are_small _ small) all d
        (goes_so source base turns files before.folder after.folder before.scene after.scene case call.told call.no_fault.no_folder_fault
        (comes_of (Go source base turns) files call)))

    runs_image : IsRun words before after s
    runs_image bases turns files trail parts image output c call reads of_image all d =
        told case c _ before.err after.err s tells
        (loaded_run law alike bases turns files (exact.runs bases) before.scene after.scene parts (record { trail = trail; comes = reads }) case image output c
        (streams before.folder after.folder before.scene after.scene call.no_fault) of_image all d
        (loads_so bases turns files before.folder after.folder before.scene after.scene case call.told call.no_fault.no_folder_fault
        (comes_of (Run bases turns) files call)))

    prints : (p : Pass Case Report) (form : Form) (files : Files) (trail : Trail) (r : Report) → IsExact p → IsCall words before after form files
        → p.comes (Some files) trail (Has r) → Prints p before.folder after.folder before.scene after.scene case
        → (Tells Done before.err after.err s × PrintsAll r.text before.scene.out after.scene.out) ⊎ (s ≡ status.Memory)
    prints p form files trail r one call reads it =
        told case Done (PrintsAll r.text before.scene.out after.scene.out) before.err after.err s tells
        (printed_whole p files one before.scene after.scene case r (record { trail = trail; comes = reads })
        (prints_so p files before.folder after.folder before.scene after.scene case call.told call.no_fault.no_folder_fault call.no_fault.no_out_fault it))

    lists : IsListed words before after s
    lists kind base files trail r call reads =
        prints (listing_in kind (kind_file kind base)) (Show kind base) files trail r (exact.listings kind (kind_file kind base)) call reads
        (comes_of (Show kind base) files call)

    plans : IsPlanned words before after s
    plans bases files trail r call reads =
        prints (plan_in bases) (Plan bases) files trail r (exact.plans bases) call reads (comes_of (Plan bases) files call)

    surveys : IsSurveyed words before after s
    surveys base files trail r call reads =
        prints (survey_in base) (Survey base) files trail r (exact.surveys base) call reads (comes_of (Survey base) files call)

    upgrades : IsUpgraded words before after s
    upgrades kind base files trail v call reads =
        told case Done (StoresAll (over kind base v) before.folder.files after.folder.files) before.err after.err s tells
        (renewed_whole kind base files before.folder after.folder case v (record { trail = trail; comes = reads })
        (upgrades_so kind base files before.folder after.folder case call.told call.no_fault.no_folder_fault (comes_of (Upgrade kind base) files call)))

    exercises : IsExercised words before after s
    exercises links turns trail output c has calm m small all d =
        told case c _ before.err after.err s tells
        (exercised_whole links turns (exact.sources OfConfig chain) before.scene after.scene calm.no_out_fault m.configured m.objects
        (record { trail = trail; comes = m.comes }) m.their (are_small _ small) all output c d case
        (of_its_form words before.folder after.folder before.scene after.scene (Exercise links turns) case has comes))

    answer : Answered words before after s
    answer = record {
      case = case;
      comes = comes;
      tells = tells;
      usage = subst (λ z. (z ≡ status.Usage) ↔ HasNoForm words) (sym tells.status_is)
          (usage_exact words before.folder after.folder before.scene after.scene case comes);
      refused = refuses;
      too_large = refuses_large;
      unresolved = lacking;
      unresolved_within = lacking_within;
      not_loaded = lacking_image;
      stored = stores;
      complete = complete;
      run = runs_image;
      listed = lists;
      upgraded = upgrades;
      exercised = exercises;
      planned = plans;
      surveyed = surveys;
    }

  pub is_answered : CasesAreAnswers
  is_answered words before after s it = answer words before after s it.0 it.1 it.2
