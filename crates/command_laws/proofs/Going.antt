-- The cases of `go`, over files that are told and without faults.
use Rattle.std.proofs.Common.{◌≡◌, ◌≢◌, ◌⊎◌, ℕ, List, [], ◌∷◌, ◌++◌, map, All, Some, refl, sym, ap, subst, inl, inr}
use Rattle.mesa_base.specs.Outside.{Shelf, Files}
use Rattle.interface_records.specs.Hosts.{IsHostItem}
use Rattle.interface_records.specs.declared.wanted.WantedItem.{WantedItem}
use Rattle.machine_ready.specs.Hosts.{IsFirstUnresolved}
use Rattle.machine_ready.proofs.Offered.{one_unresolved, none_unresolved}
use Rattle.object_files.specs.declared.object.Object.{Object}
use Rattle.link_tables.specs.Linked.{image_of}
use Rattle.command_rules.specs.linked_programs.specs.Objects.{AreObjectsOf}
use Rattle.line_pieces.specs.Outputs.{PrintsAll}
use Rattle.command_rules.specs.Case.{Case, Refused, Memory}
use Rattle.command_rules.specs.declared.trouble.Trouble.TheVariants.{TooLarge, Unresolved}
use Rattle.command_rules.specs.Comes.{each_holding, Goes, not_configured}
use Rattle.command_rules.specs.Complete.{NoFault, Does}
use Rattle.command_rules.specs.Configurations.{Configured, left_to_loader, program, source_in}
use Rattle.command_rules.specs.Ends.{Ends, TellsInput}
use Rattle.command_rules.specs.Forms.{Source, image_file}
use Rattle.command_rules.specs.Passes.{Has, Stops, Trail, IsExact}
use Rattle.command_rules.specs.Worlds.{Scene}
use Rattle.command_rules.specs.Writing.{Target, holding, OfImage, NotStored, StoresAll}
use Rattle.command_laws.specs.Laws.{NoStreamFailed}
use Rattle.command_laws.proofs.Came.{Came, IsStill, came_to_stop, came_so, same_stop, same_value, never_both, streams}
use Rattle.command_laws.proofs.Likeness.{AreLike, same_sizes, stored_like, one_like, objects_as, each_like, image_like}
use Rattle.command_laws.proofs.OneEnd.{does, one_run}
use Rattle.command_laws.proofs.Sizes.{sized, IsFirst, AreSmall, one_first, none_first, is_first, are_small, stored_small}

-- what is written for what was configured and the objects of its modules
abbrev pub to_write : (base : List ℕ) → Configured → List Object → List Target
to_write base k objects = each_holding k.bases objects ++ holding (image_file base) (OfImage (image_of k.tree objects)) ∷ []

-- what comes of them
pub data Did (base : List ℕ) (turns : ℕ) (k : Configured) (objects : List Object) (folder folder' : Shelf) (old new : Scene) : Case → Type 0 where
  large : (file : List ℕ) → IsFirst (map sized (to_write base k objects)) file → Did base turns k objects folder folder' old new (Refused file TooLarge)
  lacks : (i : WantedItem) → AreSmall (map sized (to_write base k objects)) → IsFirstUnresolved (left_to_loader k) i
      → Did base turns k objects folder folder' old new (Refused (image_file base) (Unresolved i))
  runs : (case : Case) → All IsHostItem (left_to_loader k) → StoresAll (to_write base k objects) folder.files folder'.files
      → Ends (program k) (image_of k.tree objects) turns old new case → Did base turns k objects folder folder' old new case

pub data Went (source : Source) (base : List ℕ) (turns : ℕ) (files : Files) (folder folder' : Shelf) (old new : Scene) : Case → Type 0 where
  halted : (case : Case) → Came (source_in source base) files (Stops case) → Went source base turns files folder folder' old new case
  went : (k : Configured) (objects : List Object) (case : Case) → Came (source_in source base) files (Has k) → AreObjectsOf k.modules objects
      → Did base turns k objects folder folder' old new case → Went source base turns files folder folder' old new case
  no_run : Went source base turns files folder folder' old new Memory

went_stop : (source : Source) (base : List ℕ) (turns : ℕ) (files : Files) (folder folder' : Shelf) (old new : Scene) (case : Case)
    → (case ≡ Memory) ⊎ Came (source_in source base) files (Stops case) → Went source base turns files folder folder' old new case
went_stop source base turns files folder folder' old new case (inl e) = subst (λ z. Went source base turns files folder folder' old new z) (sym e) no_run
went_stop source base turns files folder folder' old new case (inr came) = halted case came

not_stored_went : (source : Source) (base : List ℕ) (turns : ℕ) (files : Files) (folder folder' : Shelf) (old new : Scene) (targets : List Target) (trail : Trail)
    (case : Case) → IsStill folder folder' → NotStored targets trail folder folder' case → Went source base turns files folder folder' old new case
not_stored_went source base turns files folder folder' old new targets trail case still (NotStored.failed before after t is stored rose called) = absurd (still t.file rose)
not_stored_went source base turns files folder folder' old new targets trail case still (NotStored.memory before after t is stored) = no_run

pub goes_so : (source : Source) (base : List ℕ) (turns : ℕ) (files : Files) (folder folder' : Shelf) (old new : Scene) (case : Case) → folder.files ≡ Some files
    → IsStill folder folder' → Goes source base turns folder folder' old new case → Went source base turns files folder folder' old new case
goes_so source base turns files folder folder' old new case e still (not_configured _ why onward same) =
    went_stop source base turns files folder folder' old new case (came_to_stop (source_in source base) folder folder' files case e still why)
goes_so source base turns files folder folder' old new case e still (Goes.too_large trail m file first asked same) =
    went m.configured m.objects (Refused file TooLarge) (came_so (source_in source base) folder files trail (Has m.configured) e m.comes) m.their (large file (is_first _ file first))
goes_so source base turns files folder folder' old new case e still (Goes.unresolved trail m i small first asked same) =
    went m.configured m.objects (Refused (image_file base) (Unresolved i)) (came_so (source_in source base) folder files trail (Has m.configured) e m.comes) m.their
    (lacks i (are_small _ small) first)
goes_so source base turns files folder folder' old new case e still (Goes.no_memory k gives same) = no_run
goes_so source base turns files folder folder' old new case e still (Goes.not_stored trail m _ small all it same) =
    not_stored_went source base turns files folder folder' old new _ trail case still it
goes_so source base turns files folder folder' old new case e still (Goes.ran trail m _ all stored ends) =
    went m.configured m.objects case (came_so (source_in source base) folder files trail (Has m.configured) e m.comes) m.their (runs case all stored.files ends)

-- ---- objects of the same modules have the same files

pub likely : (base : List ℕ) (k : Configured) (xs ys : List Object) → AreObjectsOf k.modules xs → AreObjectsOf k.modules ys
    → AreLike (to_write base k xs) (to_write base k ys)
likely base k xs ys of_xs of_ys =
    let h = objects_as k.modules xs ys of_xs of_ys in
    each_like k.bases xs ys _ _ h (one_like _ _ (image_like (image_file base) k.tree xs ys h))

module _ (base : List ℕ) (turns : ℕ) (k : Configured) (xs ys : List Object) (like : AreLike (to_write base k xs) (to_write base k ys)) where
  first_so : (file : List ℕ) → IsFirst (map sized (to_write base k xs)) file → IsFirst (map sized (to_write base k ys)) file
  first_so file first = subst (λ l. IsFirst l file) (same_sizes _ _ like) first

  small_so : AreSmall (map sized (to_write base k xs)) → AreSmall (map sized (to_write base k ys))
  small_so small = subst AreSmall (same_sizes _ _ like) small

  one_did : (folder folder' last : Shelf) (old new other : Scene) (input : List ℕ) (c d : Case) → TellsInput old input → NoStreamFailed old new → NoStreamFailed old other
      → Did base turns k xs folder folder' old new c → Did base turns k ys folder last old other d → c ≡ d
  one_did folder folder' last old new other input c d e calm still (large f p) (large g q) = ap (λ x. Refused x TooLarge) (one_first _ f g (first_so f p) q)
  one_did folder folder' last old new other input c d e calm still (large f p) (lacks i small first) = absurd (none_first _ f small (first_so f p))
  one_did folder folder' last old new other input c d e calm still (large f p) (runs _ all s ends) =
      absurd (none_first _ f (stored_small _ folder.files last.files s) (first_so f p))
  one_did folder folder' last old new other input c d e calm still (lacks i small first) (large g q) = absurd (none_first _ g (small_so small) q)
  one_did folder folder' last old new other input c d e calm still (lacks i small first) (lacks j few also) =
      ap (λ x. Refused (image_file base) (Unresolved x)) (one_unresolved (left_to_loader k) i j first also)
  one_did folder folder' last old new other input c d e calm still (lacks i small first) (runs _ all s ends) =
      absurd (none_unresolved (left_to_loader k) i all first)
  one_did folder folder' last old new other input c d e calm still (runs _ all s ends) (large g q) =
      absurd (none_first _ g (small_so (stored_small _ folder.files folder'.files s)) q)
  one_did folder folder' last old new other input c d e calm still (runs _ all s ends) (lacks i small first) =
      absurd (none_unresolved (left_to_loader k) i all first)
  one_did folder folder' last old new other input c d e calm still (runs _ all s ends) (runs _ each r others) =
      one_run (program k) (image_of k.tree xs) (image_of k.tree ys) turns old new other input c d e calm still ends others

  -- what must come, by the objects that are named

  did_large : (folder folder' : Shelf) (old new : Scene) (case : Case) (file : List ℕ) → IsFirst (map sized (to_write base k ys)) file
      → Did base turns k xs folder folder' old new case → case ≡ Refused file TooLarge
  did_large folder folder' old new case file first (large f p) = ap (λ x. Refused x TooLarge) (one_first _ f file (first_so f p) first)
  did_large folder folder' old new case file first (lacks i small also) = absurd (none_first _ file (small_so small) first)
  did_large folder folder' old new case file first (runs _ all s ends) =
      absurd (none_first _ file (small_so (stored_small _ folder.files folder'.files s)) first)

  did_lack : (folder folder' : Shelf) (old new : Scene) (case : Case) (i : WantedItem) → AreSmall (map sized (to_write base k ys))
      → IsFirstUnresolved (left_to_loader k) i → Did base turns k xs folder folder' old new case → case ≡ Refused (image_file base) (Unresolved i)
  did_lack folder folder' old new case i small first (large f p) = absurd (none_first _ f small (first_so f p))
  did_lack folder folder' old new case i small first (lacks j few also) =
      ap (λ x. Refused (image_file base) (Unresolved x)) (one_unresolved (left_to_loader k) j i also first)
  did_lack folder folder' old new case i small first (runs _ all s ends) = absurd (none_unresolved (left_to_loader k) i all first)

  did_run : (folder folder' : Shelf) (old new : Scene) (output : List ℕ) (case c : Case) → NoStreamFailed old new → AreSmall (map sized (to_write base k ys))
      → All IsHostItem (left_to_loader k) → Does (program k) turns old output c → Did base turns k xs folder folder' old new case
      → (case ≡ c) × PrintsAll output old.out new.out × StoresAll (to_write base k ys) folder.files folder'.files
  did_run folder folder' old new output case c calm small all d (large f p) = absurd (none_first _ f small (first_so f p))
  did_run folder folder' old new output case c calm small all d (lacks i few first) = absurd (none_unresolved (left_to_loader k) i all first)
  did_run folder folder' old new output case c calm small all d (runs _ each s ends) =
      let h = does (program k) (image_of k.tree xs) turns old new output case c d calm ends in
      (h.0, h.1, stored_like _ _ like folder.files folder'.files s)

module _ (source : Source) (base : List ℕ) (turns : ℕ) (files : Files) (one : IsExact (source_in source base)) where
  -- the objects of what was configured are those of another value that is the same
  objects_of : (k l : Configured) (objects : List Object) → Came (source_in source base) files (Has k) → Came (source_in source base) files (Has l)
      → AreObjectsOf l.modules objects → AreObjectsOf k.modules objects
  objects_of k l objects x y their = subst (λ (z : Configured). AreObjectsOf z.modules objects) (same_value (source_in source base) files l k one y x) their

  did_of : (k l : Configured) (objects : List Object) (folder folder' : Shelf) (old new : Scene) (case : Case) → Came (source_in source base) files (Has k)
      → Came (source_in source base) files (Has l) → Did base turns l objects folder folder' old new case → Did base turns k objects folder folder' old new case
  did_of k l objects folder folder' old new case x y it =
      subst (λ z. Did base turns z objects folder folder' old new case) (same_value (source_in source base) files l k one y x) it

  pub one_went : (folder folder' last : Shelf) (old new other : Scene) (input : List ℕ) (c d : Case) → TellsInput old input → NoFault folder folder' old new
      → NoFault folder last old other → c ≢ Memory → d ≢ Memory → Went source base turns files folder folder' old new c
      → Went source base turns files folder last old other d → c ≡ d
  one_went folder folder' last old new other input c d e calm still m n no_run y = absurd (m refl)
  one_went folder folder' last old new other input c d e calm still m n x no_run = absurd (n refl)
  one_went folder folder' last old new other input c d e calm still m n (halted _ x) (halted _ y) = same_stop (source_in source base) files c d one x y
  one_went folder folder' last old new other input c d e calm still m n (halted _ x) (went k os _ y their it) =
      absurd (never_both (source_in source base) files k c one y x)
  one_went folder folder' last old new other input c d e calm still m n (went k os _ y their it) (halted _ x) =
      absurd (never_both (source_in source base) files k d one y x)
  one_went folder folder' last old new other input c d e calm still m n (went k xs _ x their it) (went l ys _ y others also) =
      one_did base turns k xs ys (likely base k xs ys their (objects_of k l ys x y others)) folder folder' last old new other input c d e
      (streams folder folder' old new calm) (streams folder last old other still) it (did_of k l ys folder last old other d x y also)

  -- ---- what must come

  pub went_stopped : (folder folder' : Shelf) (old new : Scene) (case c : Case) → Came (source_in source base) files (Stops c)
      → Went source base turns files folder folder' old new case → (case ≡ Memory) ⊎ (case ≡ c)
  went_stopped folder folder' old new case c x no_run = inl refl
  went_stopped folder folder' old new case c x (halted _ y) = inr (same_stop (source_in source base) files case c one y x)
  went_stopped folder folder' old new case c x (went k os _ y their it) = absurd (never_both (source_in source base) files k c one y x)

  module _ (folder folder' : Shelf) (old new : Scene) (k : Configured) (ys : List Object) (x : Came (source_in source base) files (Has k))
      (their : AreObjectsOf k.modules ys) where
    pub went_large : (case : Case) (file : List ℕ) → IsFirst (map sized (to_write base k ys)) file → Went source base turns files folder folder' old new case
        → (case ≡ Memory) ⊎ (case ≡ Refused file TooLarge)
    went_large case file first no_run = inl refl
    went_large case file first (halted _ y) = absurd (never_both (source_in source base) files k case one x y)
    went_large case file first (went l xs _ y others it) =
        inr (did_large base turns k xs ys (likely base k xs ys (objects_of k l xs x y others) their) folder folder' old new case file first
        (did_of k l xs folder folder' old new case x y it))

    pub went_lacking : (case : Case) (i : WantedItem) → AreSmall (map sized (to_write base k ys)) → IsFirstUnresolved (left_to_loader k) i
        → Went source base turns files folder folder' old new case → (case ≡ Memory) ⊎ (case ≡ Refused (image_file base) (Unresolved i))
    went_lacking case i small first no_run = inl refl
    went_lacking case i small first (halted _ y) = absurd (never_both (source_in source base) files k case one x y)
    went_lacking case i small first (went l xs _ y others it) =
        inr (did_lack base turns k xs ys (likely base k xs ys (objects_of k l xs x y others) their) folder folder' old new case i small first
        (did_of k l xs folder folder' old new case x y it))

    pub went_whole : (case : Case) (output : List ℕ) (c : Case) → NoStreamFailed old new → AreSmall (map sized (to_write base k ys)) → All IsHostItem (left_to_loader k)
        → Does (program k) turns old output c → Went source base turns files folder folder' old new case
        → ((case ≡ c) × PrintsAll output old.out new.out × StoresAll (to_write base k ys) folder.files folder'.files) ⊎ (case ≡ Memory)
    went_whole case output c calm small all d no_run = inr refl
    went_whole case output c calm small all d (halted _ y) = absurd (never_both (source_in source base) files k case one x y)
    went_whole case output c calm small all d (went l xs _ y others it) =
        inl (did_run base turns k xs ys (likely base k xs ys (objects_of k l xs x y others) their) folder folder' old new output case c calm small all d
        (did_of k l xs folder folder' old new case x y it))
