-- A file holds one image and is its one spelling; a fault is the one first fault; no bytes have both.
use Rattle.std.proofs.Common.{◌≡◌, ℕ, ◌<◌, ◌≤◌, ⊎_elim, arith, List, [], map, refl, sym, ap, ap₂, subst, ◌∙◌}
use Rattle.std.specs.Prelude.{All, slice_get, codes}
use Rattle.std.proofs.lemmas.Bool.{cases_lt}
use Rattle.std.proofs.lemmas.Option.{same_Some}
use Rattle.code_forms.specs.declared.bad_code.BadCode.{BadCode}
use Rattle.file_forms.proofs.FileLaws.{one_file, one_first_fault, file_or_fault}
use Rattle.object_files.specs.declared.object.Object.{Object}
use Rattle.object_rules.specs.declared.object_fault.ObjectFault.{ObjectFault}
use Rattle.object_rules.specs.declared.object_fault.ObjectFault.TheVariants.{Code}
use Rattle.object_rules.specs.Exact.{OneImage, OneImageSpelling, OneImageFault, ImageOrFault}
use Rattle.object_rules.specs.ImageFiles.{HasModuleFault, no_file, bad_code}
use Rattle.object_rules.specs.ImageForms.{ImagePart, parts_of_image, image_form}
use Rattle.object_rules.specs.ModuleForms.{module_form}
use Rattle.object_rules.specs.ObjectFiles.{file_fault}
use Rattle.object_rules.specs.Parts.{ModulePart, parts_of, IsWhole, HasValidCode, HasCodeFault}
use Rattle.object_rules.proofs.AllFit.{all_fit, all_mapped, there}
use Rattle.object_rules.proofs.ImageLaws.{image_law}
use Rattle.object_rules.proofs.ObjectLaws.{one_spelling}
use Rattle.object_rules.proofs.WholeLaws.{whole_is_valid, valid_or_fault, one_code_fault, same_objects}

neither_below : (m n : ℕ) → (m < n → ⊥) → (n < m → ⊥) → m ≡ n
neither_below m n f g =
    ⊎_elim (λ (less : m < n). absurd (f less)) (λ (most : n ≤ m). ⊎_elim (λ (less : n < m). absurd (g less)) (λ (least : m ≤ n). omega (arith, most, least)) (cases_lt n m)) (cases_lt m n)

pub one_image : OneImage
one_image version other a b bytes s t =
    let same = one_file (codes "MIM") image_form image_law version other (parts_of_image a) (parts_of_image b) bytes s.file t.file in (
      same.0,
      record {
        modules = same_objects a.modules b.modules s.whole t.whole (ap (λ (i : ImagePart). i.modules) same.1);
        wanted = ap (λ (i : ImagePart). i.wanted) same.1;
        instances = ap (λ (i : ImagePart). i.instances) same.1;
        links = ap (λ (i : ImagePart). i.links) same.1;
        offered = ap (λ (i : ImagePart). i.offered) same.1;
        control = ap (λ (i : ImagePart). i.control) same.1;
      },
    )

pub one_image_spelling : OneImageSpelling
one_image_spelling version i bytes others s t = one_spelling (codes "MIM") image_form version (parts_of_image i) bytes others s.file t.file

-- each module of a file fits
pub modules_fit : (version : ℕ) (i : ImagePart) → (image_form version).fits i → All (module_form version).fits i.modules
unfolding image_form
modules_fit version i fits = all_fit (module_form version).fits (λ _. module_form version) (λ _ m h. h) [] i.modules fits.0.1.1

abbrev fault_in : ℕ → BadCode → ObjectFault
fault_in number bad = Code number bad.procedure bad.fault

one_module_fault : (version : ℕ) (modules : List ModulePart) (m n : ℕ) (a b : BadCode) → All (module_form version).fits modules → HasModuleFault modules m a → HasModuleFault modules n b → fault_in m a ≡ fault_in n b
one_module_fault version modules m n a b fit f g =
    let number : m ≡ n = neither_below m n (λ less. valid_or_fault f.found a (g.before m f.found less f.is) f.fault) (λ less. valid_or_fault g.found b (f.before n g.found less g.is) g.fault) in
    let found : f.found ≡ g.found = same_Some f.found g.found (sym f.is ∙ ap (λ k. slice_get modules k) number ∙ g.is) in
    ap₂ fault_in number (one_code_fault version g.found a b (there (module_form version).fits modules n g.found fit g.is) (subst (λ (x : ModulePart). HasCodeFault x a) found f.fault) g.fault)

pub one_image_fault : OneImageFault
one_image_fault bytes _ _ (no_file d f) (no_file e g) = ap file_fault (one_first_fault (codes "MIM") image_form image_law refl bytes d e f g)
one_image_fault bytes _ _ (no_file d f) (bad_code v i n b s g) = absurd (file_or_fault (codes "MIM") image_form image_law refl v i bytes d s f)
one_image_fault bytes _ _ (bad_code v i m a s f) (no_file e g) = absurd (file_or_fault (codes "MIM") image_form image_law refl v i bytes e s g)
one_image_fault bytes _ _ (bad_code v i m a s f) (bad_code w j n b t g) =
    let same = one_file (codes "MIM") image_form image_law v w i j bytes s t in
    one_module_fault v i.modules m n a b (modules_fit v i s.spells.fits.1) f (subst (λ (x : ImagePart). HasModuleFault x.modules n b) (sym same.1) g)

pub whole_are_valid : (objects : List Object) → All IsWhole objects → All HasValidCode (map parts_of objects)
whole_are_valid objects whole = all_mapped HasValidCode parts_of objects (λ k d less. whole_is_valid _ (whole k d less))

pub image_or_fault : ImageOrFault
image_or_fault version i bytes _ s (no_file d f) = file_or_fault (codes "MIM") image_form image_law refl version (parts_of_image i) bytes d s.file f
image_or_fault version i bytes _ s (bad_code v j n bad t f) =
    let same = one_file (codes "MIM") image_form image_law version v (parts_of_image i) j bytes s.file t in
    let valid = subst (λ (x : ImagePart). All HasValidCode x.modules) same.1 (whole_are_valid i.modules s.whole) in
    valid_or_fault f.found bad (there HasValidCode j.modules n f.found valid f.is) f.fault
