-- The objects of an image, and the first module with a fault.
use Rattle.std.proofs.Common.{◌≡◌, ◌≢◌, ℕ, zero, suc, ◌<◌, ◌^◌, List, [], ◌∷◌, ◌++◌, length, map, get_or, Some, Result, Ok, Err, refl, sym, ap, subst, ◌∙◌, append_assoc, arith}
use Rattle.std.specs.Prelude.{All, IfOk, IfErr, MatchResult, slice_get, codes}
use Rattle.std.proofs.lemmas.List.{map-append, length-map, get_or-map}
use Rattle.file_forms.specs.Files.{FirstFault}
use Rattle.held_objects.specs.declared.rows.ModuleRows.{ModuleRows}
use Rattle.image_readers.proofs.Turns.{at_end}
use Rattle.image_readers.specs.Rows.{image_part, AreInRange, HasOneFault}
use Rattle.image_readers.specs.declared.image_rows.ImageRows.{ImageRows}
use Rattle.mesa_base.specs.declared.file_fault.FileFault.{FileFault}
use Rattle.mesa_base.specs.declared.file_fault.FileFault.TheVariants as file
use Rattle.object_files.specs.declared.image.Image.{Image}
use Rattle.object_files.specs.declared.object.Object.{Object}
use Rattle.object_readers.proofs.Wholes.{rows_in_range}
use Rattle.object_readers.specs.Built.{HasFault}
use Rattle.object_readers.specs.Rows.{module_part, RowsFit}
use Rattle.object_rules.proofs.ImageFileLaws.{one_image, one_image_fault, image_or_fault, whole_are_valid}
use Rattle.object_rules.proofs.AllFit.{there}
use Rattle.object_rules.specs.Exact.{IsSameImage}
use Rattle.object_rules.specs.ImageFiles.{IsLinkedFile, IsImageFile, IsNoImageFile, no_file, bad_code}
use Rattle.object_rules.specs.ImageForms.{ImagePart, parts_of_image, image_form}
use Rattle.object_rules.specs.ModuleForms.{module_form}
use Rattle.object_rules.specs.ObjectFiles.{file_fault}
use Rattle.object_rules.specs.Parts.{ModulePart, parts_of, IsWhole, HasValidCode}
use Rattle.object_rules.specs.declared.object_fault.ObjectFault.{ObjectFault}
use Rattle.object_rules.specs.declared.object_fault.ObjectFault.TheVariants.{BadMagic, TooLong, Cut, BadField, TrailingBytes, Code, Memory}

-- ---- one object more

pub parts_next : (all : List Object) (left : List ModuleRows) (more : List Object) (o : Object) (m : ModuleRows) (whole : List ModulePart)
    → map parts_of all ++ map module_part (m ∷ left) ≡ whole → more ≡ all ++ o ∷ [] → parts_of o ≡ module_part m → map parts_of more ++ map module_part left ≡ whole
parts_next all left more o m whole so grown same =
    ap (λ os. map parts_of os ++ map module_part left) grown ∙ ap (λ ps. ps ++ map module_part left) (map-append parts_of all (o ∷ []))
    ∙ append_assoc (map parts_of all) (parts_of o ∷ []) (map module_part left) ∙ ap (λ (p : ModulePart). map parts_of all ++ p ∷ map module_part left) same ∙ so

before_end : (xs ys : List ModulePart) (n : ℕ) (m : ModulePart) → n < length xs → slice_get (xs ++ ys) n ≡ Some m → slice_get xs n ≡ Some m
before_end [] ys n m less e = absurd (omega (arith, less))
before_end (x ∷ xs) ys zero m less e = e
before_end (x ∷ xs) ys (suc n) m less e = before_end xs ys n m (omega (arith, less)) e

-- the module at which the objects end has a fault, and those before have valid code
pub fault_there : (all : List Object) (left : List ModuleRows) (m : ModuleRows) (modules : List ModulePart) (number : ℕ) (e : ObjectFault)
    → map parts_of all ++ map module_part (m ∷ left) ≡ modules → All IsWhole all → length all ≡ number → HasFault number (module_part m) e → HasOneFault modules e
fault_there all left m modules number e so whole made h =
    let far : length (map parts_of all) ≡ number = length-map all parts_of ∙ made in
    record {
      number = number;
      bad = h.bad;
      is = h.is;
      first = record {
        found = module_part m;
        is = ap (slice_get modules) (sym far) ∙ ap (λ ms. slice_get ms (length (map parts_of all))) (sym so) ∙ at_end (map parts_of all) (map module_part left) (module_part m);
        before = λ n p less is. there HasValidCode (map parts_of all) n p (whole_are_valid all whole)
            (before_end (map parts_of all) (map module_part (m ∷ left)) n p (omega (arith, far, less)) (ap (λ ms. slice_get ms n) so ∙ is));
        fault = h.first;
      };
    }

-- ---- ranges

pub all_in_range : (version : ℕ) (rows : List ModuleRows) → All RowsFit rows → All (module_form version).fits (map module_part rows) → All AreInRange rows
all_in_range version rows fit fits k d less =
    rows_in_range version (get_or rows k d) (fit k d less)
    (subst (module_form version).fits (get_or-map module_part rows k d (module_part d) less) (fits k (module_part d) (omega (arith, less, length-map rows module_part))))

-- a file has no more modules than its count may say
pub few_modules : (version : ℕ) (i : ImagePart) (rows : List ModuleRows) → i.modules ≡ map module_part rows → (image_form version).fits i → length rows < 2 ^ 32
unfolding image_form
few_modules version i rows same fits = omega (arith, fits.0.0.0, ap length same, length-map rows module_part)

-- ---- an image of its rows

abbrev pub image_with : List ModulePart → ImageRows → ImagePart
image_with modules r = record {
  modules = modules;
  wanted = r.head.wanted;
  instances = r.tail.instances;
  links = r.tail.links;
  offered = r.tail.offered;
  control = r.tail.control;
}

pub image_made : (rows : ImageRows) (modules : List Object) → map parts_of modules ≡ map module_part rows.head.modules
    → image_with (map parts_of modules) rows ≡ image_part rows
image_made rows modules same = ap (λ (ms : List ModulePart). image_with ms rows) same

-- ---- files

pub image_found : (bytes : List ℕ) (version : ℕ) (rows : ImageRows) (r : Result Image ObjectFault) → IsLinkedFile version (image_part rows) bytes
    → IfOk r (λ i. (parts_of_image i ≡ image_part rows) × All IsWhole i.modules) → IfOk r (λ i. (v : ℕ) × IsImageFile v i bytes)
image_found bytes version rows (Ok i) file made = (version, record { file = subst (λ p. IsLinkedFile version p bytes) (sym made.0) file; whole = made.1 })
image_found bytes version rows (Err e) file made = tt

pub code_fault_found : (bytes : List ℕ) (version : ℕ) (rows : ImageRows) (r : Result Image ObjectFault) → IsLinkedFile version (image_part rows) bytes
    → IfErr r (λ e. e ≢ Memory → HasOneFault (map module_part rows.head.modules) e) → IfErr r (λ e. e ≢ Memory → IsNoImageFile bytes e)
code_fault_found bytes version rows (Ok i) file fault = tt
code_fault_found bytes version rows (Err e) file fault = λ other.
    let h = fault other in subst (IsNoImageFile bytes) (sym h.is) (bad_code version (image_part rows) h.number h.bad file h.first)

pub file_fault_found : (bytes : List ℕ) (fault : FileFault) (e : ObjectFault) → e ≡ file_fault fault → (fault ≢ file.Memory → FirstFault (codes "MIM") image_form bytes fault)
    → e ≢ Memory → IsNoImageFile bytes e
file_fault_found bytes fault e is first other = subst (IsNoImageFile bytes) (sym is) (no_file fault (first (λ none. other (is ∙ ap file_fault none))))

pub only_one : (bytes : List ℕ) (result : Result Image ObjectFault)
    → IfOk result (λ i. (version : ℕ) × IsImageFile version i bytes) → IfErr result (λ e. e ≢ Memory → IsNoImageFile bytes e)
    → (version : ℕ) (i : Image) → IsImageFile version i bytes → MatchResult result (λ j. IsSameImage j i) (λ e. e ≡ Memory)
only_one bytes (Ok j) found fault version i holds = (one_image found.0 version j i bytes found.1 holds).1
only_one bytes (Err e) found fault version i holds = memory e (λ other. image_or_fault version i bytes e holds (fault other))
  where
    memory : (e : ObjectFault) → (e ≢ Memory → ⊥) → e ≡ Memory
    memory BadMagic wrong = absurd (wrong (λ h. cc))
    memory TooLong wrong = absurd (wrong (λ h. cc))
    memory (Cut at) wrong = absurd (wrong (λ h. cc))
    memory (BadField at field) wrong = absurd (wrong (λ h. cc))
    memory (TrailingBytes at) wrong = absurd (wrong (λ h. cc))
    memory (Code m p fault) wrong = absurd (wrong (λ h. cc))
    memory Memory wrong = refl

pub first_one : (bytes : List ℕ) (result : Result Image ObjectFault)
    → IfOk result (λ i. (version : ℕ) × IsImageFile version i bytes) → IfErr result (λ e. e ≢ Memory → IsNoImageFile bytes e)
    → (e : ObjectFault) → IsNoImageFile bytes e → MatchResult result (λ _. ⊥) (λ d. d ≢ Memory → d ≡ e)
first_one bytes (Ok j) found fault e holds = image_or_fault found.0 j bytes e found.1 holds
first_one bytes (Err d) found fault e holds = λ other. one_image_fault bytes d e (fault other) holds
