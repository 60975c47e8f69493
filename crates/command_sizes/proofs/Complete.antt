-- Calls whose size sum is small are complete.
use Rattle.std.proofs.Common.{◌≡◌, ◌⊎◌, ℕ, ◌≤◌, List, [], ◌∷◌, All, Some, refl, ◌∙◌, ap, subst, inl, inr}
use Rattle.mesa_base.specs.Outside.{Files}
use Rattle.mesa_base.specs.declared.status.Status.{Status}
use Rattle.mesa_base.specs.declared.status.Status.TheVariants as status
use Rattle.mesa_types.specs.Typed.{Module}
use Rattle.interface_records.specs.Hosts.{IsHostItem}
use Rattle.object_files.specs.declared.object.Object.{Object}
use Rattle.command_rules.specs.linked_programs.specs.Objects.{IsObjectOf, AreObjectsOf}
use Rattle.line_pieces.specs.Outputs.{PrintsAll}
use Rattle.command_rules.specs.Case.{Case, Done, Memory, status_of}
use Rattle.command_rules.specs.Comes.{Made, targets_of}
use Rattle.command_rules.specs.Complete.{Answered, Does, IsCall, MakesOver, Tells}
use Rattle.command_rules.specs.Configurations.{Configured, left_to_loader, program, source_in}
use Rattle.command_rules.specs.Forms.{Source, Compile, Go, module_file, object_file}
use Rattle.command_rules.specs.Modules.{module_in}
use Rattle.command_rules.specs.Passes.{Has, Trail}
use Rattle.command_rules.specs.Worlds.{World}
use Rattle.command_rules.specs.Writing.{Target, holding, OfObject, StoresAll}
use Rattle.command_laws.specs.Laws.{PassesAreExact}
use Rattle.command_laws.proofs.Came.{same_value, never_both}
use Rattle.command_laws.proofs.Going as going
use Rattle.command_laws.proofs.Going.{Went, goes_so}
use Rattle.command_laws.proofs.Making as making
use Rattle.command_laws.proofs.Making.{OfCompile, compile_made}
use Rattle.command_laws.proofs.OneCase.{of_its_form}
use Rattle.command_sizes.specs.Laws.{FilesAreSmall, SmallCallsAreComplete, made_of}
use Rattle.command_sizes.specs.Sum.{HasSize, HasSum, most}

module _ (exact : PassesAreExact) (small : FilesAreSmall) (words : List (List ℕ)) (before after : World) (s : Status) (a : Answered words before after s) where
  no_memory : a.case ≡ Memory → s ≡ status.Memory
  no_memory e = a.tells.status_is ∙ ap status_of e

  -- ---- compile

  module _ (base : List ℕ) (files : Files) (trail : Trail) (m : Module) (size : ℕ) (call : IsCall words before after (Compile base) files)
      (comes : (module_in (module_file base)).comes (Some files) trail (Has m)) (h : HasSize files base size) (few : size ≤ most) where
    abbrev Stored : Type 0
    Stored = (Tells Done before.err after.err s × (o : Object) × IsObjectOf m o
        × StoresAll (holding (object_file base) (OfObject o) ∷ []) before.folder.files after.folder.files) ⊎ (s ≡ status.Memory)

    stored_with : (o : Object) → IsObjectOf m o → Stored
    stored_with o its =
        by (a.stored (Compile base) files targets call tt makes (small (Compile base) files targets size makes h few))
      where
        targets : List Target
        targets = holding (object_file base) (OfObject o) ∷ []

        makes : MakesOver (Compile base) files targets
        makes = (trail, m, o, comes, its, refl)

        by : (Tells Done before.err after.err s × StoresAll targets before.folder.files after.folder.files) ⊎ (s ≡ status.Memory) → Stored
        by (inl it) = inl (it.0, o, its, it.1)
        by (inr e) = inr e

    of_case : (case : Case) → a.case ≡ case → making.Made (module_in (module_file base)) (OfCompile base) files before.folder after.folder case → Stored
    of_case case e (making.stopped _ came) =
        absurd (never_both (module_in (module_file base)) files m case (exact.modules (module_file base)) (record { trail = trail; comes = comes }) came)
    of_case case e (making.wrote n targets _ came r kept) =
        let same = same_value (module_in (module_file base)) files n m (exact.modules (module_file base)) came (record { trail = trail; comes = comes }) in
        stored_with r.0 (subst (λ x. IsObjectOf x r.0) same r.1)
    of_case case e making.no_memory = inr (no_memory e)

    compiled_whole : Stored
    compiled_whole =
        of_case a.case refl (compile_made base files before.folder after.folder a.case call.told call.no_fault.no_folder_fault
        (of_its_form words before.folder after.folder before.scene after.scene (Compile base) a.case call.has a.comes))

  -- ---- go

  module _ (source : Source) (base : List ℕ) (turns : ℕ) (files : Files) (trail : Trail) (c : Configured) (sum : ℕ) (output : List ℕ) (end : Case)
      (call : IsCall words before after (Go source base turns) files) (comes : (source_in source base).comes (Some files) trail (Has c)) (h : HasSum files c sum)
      (few : sum ≤ most) (all : All IsHostItem (left_to_loader c)) (does : Does (program c) turns before.scene output end) where
    abbrev Ended : Type 0
    Ended = (Tells end before.err after.err s × PrintsAll output before.scene.out after.scene.out × (objects : List Object) × (their : AreObjectsOf c.modules objects)
        × StoresAll (targets_of base (made_of source base files trail c comes objects their)) before.folder.files after.folder.files) ⊎ (s ≡ status.Memory)

    ended_with : (objects : List Object) → AreObjectsOf c.modules objects → Ended
    ended_with objects their =
        let m : Made source base (Some files) trail = made_of source base files trail c comes objects their in
        by (a.complete source base turns files trail output end call m
        (small (Go source base turns) files (targets_of base m) sum (trail, m, refl) (trail, c, comes, h) few) all does)
      where
        by : (Tells end before.err after.err s × PrintsAll output before.scene.out after.scene.out
            × StoresAll (targets_of base (made_of source base files trail c comes objects their)) before.folder.files after.folder.files) ⊎ (s ≡ status.Memory) → Ended
        by (inl it) = inl (it.0, it.1, objects, their, it.2)
        by (inr e) = inr e

    gone : (case : Case) → a.case ≡ case → Went source base turns files before.folder after.folder before.scene after.scene case → Ended
    gone case e (going.halted _ came) =
        absurd (never_both (source_in source base) files c case (exact.sources source base) (record { trail = trail; comes = comes }) came)
    gone case e (going.went k objects _ came their it) =
        let same = same_value (source_in source base) files k c (exact.sources source base) came (record { trail = trail; comes = comes }) in
        ended_with objects (subst (λ (x : Configured). AreObjectsOf x.modules objects) same their)
    gone case e going.no_run = inr (no_memory e)

    run_whole : Ended
    run_whole =
        gone a.case refl (goes_so source base turns files before.folder after.folder before.scene after.scene a.case call.told call.no_fault.no_folder_fault
        (of_its_form words before.folder after.folder before.scene after.scene (Go source base turns) a.case call.has a.comes))

pub small_calls_are_complete : PassesAreExact → FilesAreSmall → SmallCallsAreComplete
small_calls_are_complete exact small = record { compiled = compiled_whole exact small; run = run_whole exact small }
