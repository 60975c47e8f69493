-- The files of objects, one after the other, and the first that is too large.
use Rattle.std.proofs.Common.{◌≡◌, ℕ, ◌+◌, ◌<◌, inl, inr, List, [], ◌∷◌, ◌++◌, length, take, get_or, Result, Ok, Err, refl, sym, ap, subst, ◌∙◌, arith}
use Rattle.std.specs.Prelude.{◌≢◌, ◌↔◌, All, IfErr, OnOk}
use Rattle.std.specs.List.{AllZip}
use Rattle.std.proofs.lemmas.Bool.{cases_lt}
use Rattle.std.proofs.lemmas.List.{take_more, length-take-le}
use Rattle.std.proofs.lemmas.List.Elements.{All-nil, All-cons}
use Rattle.std.proofs.lemmas.Option.{slice_get_read}
use Rattle.std.proofs.lemmas.Slice.Zip.{AllZip-long, all_zipped_more}
use Rattle.mesa_base.specs.declared.limits.TheConstants.{FILE_BYTES}
use Rattle.mesa_base.specs.declared.file_fault.WriteFault.{WriteFault}
use Rattle.mesa_base.specs.declared.file_fault.WriteFault.TheVariants.{TooLarge, Memory}
use Rattle.mesa_types.specs.Typed.{Module}
use Rattle.config_rules.specs.declared.tree.Tree.{Tree}
use Rattle.object_files.specs.declared.image.Image.{Image}
use Rattle.object_files.specs.declared.object.Object.{Object}
use Rattle.object_rules.specs.ObjectFiles.{IsObjectFile}
use Rattle.object_writers.specs.ObjectBytes.{object_file, image_file}
use Rattle.link_tables.specs.Linked.{image_of}
use Rattle.linked_programs.specs.Objects.{AreObjectsOf}
use Rattle.filed_images.specs.Files.{FitsFile, IsTooLarge}
use Rattle.program_files.specs.Files.{ObjectsFit, AreFilesOf, IsFirstTooLarge, IsSizeFault}
use Rattle.program_files.specs.Objects.{HasFile, IsOneMore, IsFaultOf, IsFaultAmong, fault_of}
use Rattle.program_files.specs.declared.size_fault.SizeFault.{SizeFault}
use Rattle.program_files.specs.declared.size_fault.SizeFault.TheVariants as fault

-- want of memory aside, it is TooLarge exactly where these bytes are too many
abbrev pub SaysTooLarge : List ℕ → Result (List ℕ) WriteFault → Type 0
SaysTooLarge bytes r = r ≢ Err Memory → (r ≡ Err TooLarge ↔ IsTooLarge bytes)

-- ---- one file more

fits_by : (bytes file : List ℕ) → SaysTooLarge bytes (Ok file) → FitsFile bytes
fits_by bytes file says =
    elim (cases_lt FILE_BYTES (length bytes)) [
      | inl more ↦ let large : Ok file ≡ Err TooLarge = (says (λ e. cc)).1 more in absurd cc
      | inr few ↦ few
    ]

one_more : (o : Object) (file : List ℕ) (old new : List (List ℕ)) → new ≡ old ++ file ∷ [] → IsObjectFile 2 o file → SaysTooLarge (object_file o) (Ok file) → IsOneMore o old new
one_more o file old new grown is says = record { file = file; behind = grown; its = record { is_file = is; fits = fits_by (object_file o) file says } }

pub put_more : {A : Type 0} (o : Object) (file : List ℕ) (old new : List (List ℕ)) (r : Result A SizeFault) → OnOk r (new ≡ old ++ file ∷ []) → IsObjectFile 2 o file
    → SaysTooLarge (object_file o) (Ok file) → OnOk r (IsOneMore o old new)
put_more o file old new (Ok a) grown is says = one_more o file old new grown is says
put_more o file old new (Err f) grown is says = tt

pub put_fails : {A : Type 0} (o : Object) (number : ℕ) (r : Result A SizeFault) → IfErr r (λ f. f ≡ fault.Memory) → IfErr r (IsFaultOf o number)
put_fails o number (Ok a) h = tt
put_fails o number (Err f) h = subst (IsFaultOf o number) (sym h) tt

too_large : (bytes : List ℕ) → SaysTooLarge bytes (Err TooLarge) → IsTooLarge bytes
too_large bytes says = (says (λ e. cc)).0 refl

none_more : (o : Object) (number count : ℕ) (f : WriteFault) → count ≡ number → SaysTooLarge (object_file o) (Err f) → IsFaultOf o number (fault_of f (fault.Object count))
none_more o number count TooLarge same says = (same, too_large (object_file o) says)
none_more o number count Memory same says = tt

pub no_more : (o : Object) (number count : ℕ) (f : WriteFault) (g : SizeFault) → count ≡ number → g ≡ fault_of f (fault.Object count) → SaysTooLarge (object_file o) (Err f) → IsFaultOf o number g
no_more o number count f g same is says = subst (IsFaultOf o number) (sym is) (none_more o number count f same says)

-- ---- the files so far

pub none_yet : (objects : List Object) (files : List (List ℕ)) → files ≡ [] → AllZip HasFile (take 0 objects) files
none_yet objects files e = subst (λ (fs : List (List ℕ)). AllZip HasFile (take 0 objects) fs) (sym e) tt

pub at : (P : Object → Type 0) (objects : List Object) (i : ℕ) (o : Object) → All P objects → i < length objects → o ≡ get_or objects i o → P o
at P objects i o h less is = subst P (sym is) (h i o less)

pub next_file : (objects : List Object) (i : ℕ) (o : Object) (old new : List (List ℕ)) → i < length objects → o ≡ get_or objects i o → AllZip HasFile (take i objects) old
    → IsOneMore o old new → AllZip HasFile (take (i + 1) objects) new
next_file objects i o old new less is h more =
    subst (λ (fs : List (List ℕ)). AllZip HasFile (take (i + 1) objects) fs) (sym more.behind)
    (subst (λ (os : List Object). AllZip HasFile os (old ++ more.file ∷ [])) (ap (λ x. take i objects ++ x ∷ []) is ∙ sym (take_more objects i o less))
    (all_zipped_more HasFile (take i objects) old o more.file h more.its))

-- what is so of each object with a file is so of all
pub all_first : (P : Object → Type 0) → ((o : Object) (f : List ℕ) → HasFile o f → P o) → (objects : List Object) (files : List (List ℕ)) → AllZip HasFile objects files → All P objects
all_first P each [] [] h = All-nil P
all_first P each [] (f ∷ files) h = absurd h
all_first P each (o ∷ objects) [] h = absurd h
all_first P each (o ∷ objects) (f ∷ files) h = All-cons P o objects (each o f h.0) (all_first P each objects files h.1)

all_fit : (objects : List Object) (files : List (List ℕ)) → AllZip HasFile objects files → ObjectsFit objects
all_fit objects files h = all_first (λ (o : Object). FitsFile (object_file o)) (λ o f x. x.fits) objects files h

pub files_of : (objects : List Object) (files : List (List ℕ)) → AllZip HasFile objects files → AreFilesOf objects files
files_of [] [] h = tt
files_of [] (f ∷ files) h = absurd h
files_of (o ∷ objects) [] h = absurd h
files_of (o ∷ objects) (f ∷ files) h = (h.0.is_file, files_of objects files h.1)

-- ---- faults

pub first_fault : (objects : List Object) (i : ℕ) (o : Object) (files : List (List ℕ)) (f : SizeFault) → i < length objects → o ≡ get_or objects i o
    → AllZip HasFile (take i objects) files → IsFaultOf o (length files) f → IsFaultAmong objects f
first_fault objects i o files (fault.Object n) less is h e =
    let long : n ≡ i = e.0 ∙ (AllZip-long HasFile (take i objects) files h ∙ length-take-le i objects (omega (arith, less))) in
    subst (IsFirstTooLarge objects) (sym long)
    (record { object = o; is_there = slice_get_read objects (length objects) i o refl less is; its = e.1; before = all_fit (take i objects) files h })
first_fault objects i o files fault.Image less is h e = absurd e
first_fault objects i o files fault.Memory less is h e = tt

pub of_objects : (t : Tree) (modules : List Module) (objects slice : List Object) (f : SizeFault) → AreObjectsOf modules objects → slice ≡ objects → IsFaultAmong slice f
    → IsSizeFault t modules f
of_objects t modules objects slice (fault.Object n) are same h = (objects, are, subst (λ (os : List Object). IsFirstTooLarge os n) same h)
of_objects t modules objects slice fault.Image are same h = absurd h
of_objects t modules objects slice fault.Memory are same h = tt

image_fault : (t : Tree) (modules : List Module) (objects : List Object) (files : List (List ℕ)) (image : Image) (f : WriteFault) → AreObjectsOf modules objects
    → AllZip HasFile objects files → image ≡ image_of t objects → SaysTooLarge (image_file image) (Err f) → IsSizeFault t modules (fault_of f fault.Image)
image_fault t modules objects files image TooLarge are h is says =
    (objects, are, all_fit objects files h, subst (λ (i : Image). IsTooLarge (image_file i)) is (too_large (image_file image) says))
image_fault t modules objects files image Memory are h is says = tt

pub of_image : (t : Tree) (modules : List Module) (objects : List Object) (files : List (List ℕ)) (image : Image) (f : WriteFault) (g : SizeFault) → AreObjectsOf modules objects
    → AllZip HasFile objects files → image ≡ image_of t objects → g ≡ fault_of f fault.Image → SaysTooLarge (image_file image) (Err f) → IsSizeFault t modules g
of_image t modules objects files image f g are h is same says = subst (IsSizeFault t modules) (sym same) (image_fault t modules objects files image f are h is says)
