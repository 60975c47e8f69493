-- From the files of a program to what is made, or why it is not.
use Rattle.std.proofs.Common.{◌≡◌, ℕ, zero, suc, ◌<◌, ◌≤◌, ⊎_elim, List, [], ◌∷◌, ◌++◌, length, map, take, drop, get_or, All, Some, codes, refl, sym, ◌∙◌, ap, subst, arith}
use Rattle.std.specs.Prelude.{slice_get}
use Rattle.std.specs.List.{AllZip}
use Rattle.std.specs.Str.{IsAscii}
use Rattle.std.proofs.lemmas.List.{append-nil, take-append-drop, length-map}
use Rattle.std.proofs.lemmas.List.Elements.{All-nil, All-cons, All-append, All-head, All-tail}
use Rattle.std.proofs.lemmas.Option.{same_Some, slice_get_read, slice_get_within}
use Rattle.mesa_base.specs.declared.limits.TheConstants.{FILE_BYTES}
use Rattle.mesa_types.specs.Plain.{plain}
use Rattle.machine_ready.specs.Hosts.{IsFault}
use Rattle.machine_ready.specs.declared.fault.ReadyFault.{ReadyFault}
use Rattle.machine_ready.specs.declared.fault.ReadyFault.TheVariants as ready
use Rattle.object_files.specs.declared.image.Image.{Image}
use Rattle.object_files.specs.declared.object.Object.{Object}
use Rattle.file_forms.specs.Files.{IsFile, versioned}
use Rattle.file_forms.specs.Forms.{Form}
use Rattle.face_rules.specs.InterfaceForms.{interface}
use Rattle.object_rules.specs.ImageFiles.{IsImageFile}
use Rattle.object_rules.specs.ImageForms.{parts_of_image, image_form}
use Rattle.object_rules.specs.ModuleForms.{module_form}
use Rattle.object_rules.specs.ObjectFiles.{IsObjectFile}
use Rattle.object_rules.specs.Parts.{parts_of}
use Rattle.object_writers.specs.ObjectBytes.{object_file as object_bytes, image_file as image_bytes}
use Rattle.link_tables.specs.Linked.{image_of}
use Rattle.linked_objects.specs.linked_programs.specs.Objects.{AreObjectsOf}
use Rattle.linked_objects.specs.linked_programs.specs.Programs.{IsMachineOf}
use Rattle.program_files.specs.Files.{AreFilesFor, IsFirstTooLarge, ObjectsFit}
use Rattle.linked_objects.specs.filed_images.specs.Files as files
use Rattle.program_files.specs.declared.filing.FiledProgram.{FiledProgram}
use Rattle.command_passes.specs.command_rules.specs.Case.{Case, Refused}
use Rattle.command_passes.specs.command_rules.specs.declared.trouble.Trouble.TheVariants.{TooLarge}
use Rattle.command_passes.specs.command_rules.specs.Comes.{each_holding}
use Rattle.command_passes.specs.command_rules.specs.Configurations.{Configured, left_to_loader}
use Rattle.command_passes.specs.command_rules.specs.Forms.{image_file, object_file}
use Rattle.command_passes.specs.command_rules.specs.Writing.{Value, OfInterface, OfObject, OfImage, IsFileOf, size_of, Target, holding, IsSmall}
use Rattle.command_sources.specs.Bound.{IsBound}
use Rattle.command_sources.specs.Made.{IsMadeOf, Unmade, too_large, unresolved, no_memory, targets_for, linked_from}
use Rattle.command_sources.specs.Stops.{IsOrMemory, ready_case}
use Rattle.command_sources.specs.declared.sources.BoundSource.{BoundSource}

-- ---- what has a file is not too large

few_so : {A : Type 0} (letters : List ℕ) (f : ℕ → Form A) (version : ℕ) (a : A) (bytes : List ℕ) → IsFile letters f version a bytes
    → length (letters ++ (versioned f).spell (version, a)) ≤ FILE_BYTES
few_so letters f version a bytes h =
    let same : bytes ≡ letters ++ (versioned f).spell (version, a) =
    sym (take-append-drop 3 bytes) ∙ ap (λ x. x ++ drop 3 bytes) h.begins
    ∙ ap (λ x. letters ++ x) (h.spells.text ∙ append-nil ((versioned f).spell (version, a))) in
    subst (λ b. length b ≤ FILE_BYTES) same h.few

pub file_small : (value : Value) (bytes : List ℕ) → IsFileOf value bytes → size_of value ≤ FILE_BYTES
file_small (OfInterface i) bytes h = few_so (codes "MIF") interface 2 i bytes h
file_small (OfObject o) bytes h = few_so (codes "MOB") module_form 2 (parts_of o) bytes h.file
file_small (OfImage i) bytes h = few_so (codes "MIM") image_form 2 (parts_of_image i) bytes h.file

objects_small : (bases : List (List ℕ)) (objects : List Object) → ObjectsFit objects → All IsSmall (each_holding bases objects)
unfolding each_holding
objects_small [] objects h = All-nil IsSmall
objects_small (b ∷ bases) [] h = All-nil IsSmall
objects_small (b ∷ bases) (o ∷ objects) h =
    All-cons IsSmall (holding (object_file b) (OfObject o)) (each_holding bases objects) (h zero o (omega arith))
    (objects_small bases objects (λ k d less. h (suc k) d (omega (arith, less))))

files_fit : (objects : List Object) (all : List (List ℕ)) → AllZip (IsObjectFile 2) objects all → ObjectsFit objects
files_fit [] all h = All-nil (λ (x : Object). files.FitsFile (object_bytes x))
files_fit (o ∷ objects) [] h = absurd h
files_fit (o ∷ objects) (f ∷ all) h =
    All-cons (λ (x : Object). files.FitsFile (object_bytes x)) o objects (file_small (OfObject o) f h.0) (files_fit objects all h.1)

module _ (c : Configured) (base : List ℕ) (objects : List Object) where
  pub all_small : (all : List (List ℕ)) (image : List ℕ) → AllZip (IsObjectFile 2) objects all → IsImageFile 2 (linked_from c objects) image
      → All IsSmall (targets_for base c objects)
  all_small all image h its =
      All-append IsSmall (each_holding c.bases objects) (holding (image_file base) (OfImage (linked_from c objects)) ∷ [])
      (objects_small c.bases objects (files_fit objects all h))
      (All-cons IsSmall (holding (image_file base) (OfImage (linked_from c objects))) []
      (file_small (OfImage (linked_from c objects)) image its) (All-nil IsSmall))

-- ---- the first that is too large

-- at this number stands the file of an object, and those before it are small
object_there : (bases : List (List ℕ)) (objects : List Object) (rest : List Target) (number : ℕ) (base : List ℕ) (o : Object) → slice_get bases number ≡ Some base
    → slice_get objects number ≡ Some o → ObjectsFit (take number objects)
    → (slice_get (each_holding bases objects ++ rest) number ≡ Some (holding (object_file base) (OfObject o)))
    × All IsSmall (take number (each_holding bases objects ++ rest))
unfolding each_holding
object_there [] objects rest number base o at its before = absurd cc
object_there (b ∷ bases) [] rest number base o at its before = absurd cc
object_there (b ∷ bases) (p ∷ objects) rest zero base o at its before = (
  ap (λ x. Some (holding (object_file x) (OfObject p))) (same_Some b base at) ∙ ap (λ x. Some (holding (object_file base) (OfObject x))) (same_Some p o its),
  All-nil IsSmall,
)
object_there (b ∷ bases) (p ∷ objects) rest (suc number) base o at its before =
    let r = object_there bases objects rest number base o at its (λ k d less. before (suc k) d (omega (arith, less))) in
    (r.0, All-cons IsSmall (holding (object_file b) (OfObject p)) _ (before zero p (omega arith)) r.1)

last_there : (targets : List Target) (t : Target) → All IsSmall targets
    → (slice_get (targets ++ t ∷ []) (length targets) ≡ Some t) × All IsSmall (take (length targets) (targets ++ t ∷ []))
last_there [] t h = (refl, All-nil IsSmall)
last_there (x ∷ targets) t h =
    let r = last_there targets t (All-tail IsSmall x targets h) in
    (r.0, All-cons IsSmall x _ (All-head IsSmall x targets h) r.1)

unmade_so : (c : Configured) (base : List ℕ) (expected case : Case) → Unmade c base expected → IsOrMemory expected case → Unmade c base case
unmade_so c base expected case h is = ⊎_elim (λ e. subst (Unmade c base) (sym e) h) (λ e. subst (Unmade c base) (sym e) no_memory) is

module _ (c : Configured) (base : List ℕ) (objects : List Object) (their : AreObjectsOf c.modules objects) where
  pub object_large : (number : ℕ) (name : List ℕ) (case : Case) → slice_get c.bases number ≡ Some name → IsFirstTooLarge objects number
      → IsOrMemory (Refused (object_file name) TooLarge) case → Unmade c base case
  object_large number name case at first is =
      let r = object_there c.bases objects (holding (image_file base) (OfImage (linked_from c objects)) ∷ []) number name first.object at first.is_there first.before in
      unmade_so c base (Refused (object_file name) TooLarge) case
      (too_large objects (object_file name) their
      (record {
        number = number;
        target = holding (object_file name) (OfObject first.object);
        is = r.0;
        before = r.1;
        large = first.its;
        named = refl;
      }))
      is

  pub image_large : (case : Case) → ObjectsFit objects → files.IsTooLarge (image_bytes (image_of c.tree objects)) → IsOrMemory (Refused (image_file base) TooLarge) case
      → Unmade c base case
  image_large case fit large is =
      let t = holding (image_file base) (OfImage (linked_from c objects)) in
      let r = last_there (each_holding c.bases objects) t (objects_small c.bases objects fit) in
      unmade_so c base (Refused (image_file base) TooLarge) case
      (too_large objects (image_file base) their
      (record { number = length (each_holding c.bases objects); target = t; is = r.0; before = r.1; large = large; named = refl }))
      is

-- ---- the machine

module _ (c : Configured) (base : List ℕ) (f : FiledProgram) (filed : AreFilesFor c.tree c.modules f) where
  small : All IsSmall (targets_for base c filed.objects)
  small = all_small c base filed.objects f.objects f.image_file filed.files (subst (λ i. IsImageFile 2 i f.image_file) filed.linked filed.image)

  pub is_made : (machine : Image) → machine ≡ f.image → IsMachineOf c.tree c.modules machine
      → IsMadeOf c base (record { objects = f.objects; image_file = f.image_file; machine = machine })
  is_made machine same is = record {
    objects = filed.objects;
    their = filed.their;
    small = small;
    files = filed.files;
    image_file = subst (λ i. IsImageFile 2 i f.image_file) filed.linked filed.image;
    same = same ∙ filed.linked;
    machine = is;
  }

  unready : (fault : ReadyFault) → IsFault (left_to_loader c) fault → Unmade c base (ready_case (image_file base) fault)
  unready (ready.Unresolved i) h = unresolved filed.objects i filed.their small h
  unready ready.Memory h = no_memory

  pub not_ready : (fault : ReadyFault) (case : Case) → IsFault (left_to_loader c) fault → IsOrMemory (ready_case (image_file base) fault) case → Unmade c base case
  not_ready fault case h is = unmade_so c base (ready_case (image_file base) fault) case (unready fault h) is

-- ---- bases by number

module _ (b : BoundSource) (bound : IsBound b) (objects : List Object) (their : AreObjectsOf (map plain b.modules) objects) (number : ℕ)
    (first : IsFirstTooLarge objects number) where
  pub base_there : number < length b.bases
  base_there =
      let less : number < length objects = slice_get_within objects number first.object first.is_there in
      omega (arith, less, their.as_many, length-map b.modules plain, bound.as_many)

  pub base_is : (name : List ℕ) → name ≡ get_or b.bases number name → slice_get b.bases number ≡ Some name
  base_is name is = slice_get_read b.bases (length b.bases) number name refl base_there is

  pub base_plain : (name : List ℕ) → name ≡ get_or b.bases number name → IsAscii name
  base_plain name is = subst IsAscii (sym is) (bound.plain_bases number name base_there)
