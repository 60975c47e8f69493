-- A file holds one object and is its one spelling; a fault is the one first fault; no bytes have both.
use Rattle.std.proofs.Common.{◌≡◌, ℕ, List, [], ◌++◌, refl, sym, ap, ap₂, subst, ◌∙◌}
use Rattle.std.specs.Prelude.{codes}
use Rattle.std.proofs.lemmas.List.{take-append-drop}
use Rattle.code_forms.specs.declared.bad_code.BadCode.{BadCode}
use Rattle.file_forms.specs.Files.{IsFile, versioned}
use Rattle.file_forms.specs.Forms.{Form}
use Rattle.file_forms.proofs.FileLaws.{one_file, one_first_fault, file_or_fault}
use Rattle.object_rules.specs.declared.object_fault.ObjectFault.TheVariants.{Code}
use Rattle.object_rules.specs.Exact.{OneObject, OneObjectSpelling, OneObjectFault, ObjectOrFault}
use Rattle.object_rules.specs.ModuleForms.{module_form}
use Rattle.object_rules.specs.ObjectFiles.{file_fault, no_file, bad_code}
use Rattle.object_rules.specs.Parts.{parts_of, HasValidCode, HasCodeFault}
use Rattle.object_rules.proofs.ModuleLaws.{module_law}
use Rattle.object_rules.proofs.WholeLaws.{whole_is_valid, valid_or_fault, one_code_fault, same_object}

pub one_spelling : {A : Type 0} (letters : List ℕ) (f : ℕ → Form A) (version : ℕ) (a : A) (bytes others : List ℕ) → IsFile letters f version a bytes → IsFile letters f version a others → bytes ≡ others
one_spelling letters f version a bytes others s t = spelled bytes s ∙ sym (spelled others t)
  where
    spelled : (all : List ℕ) → IsFile letters f version a all → all ≡ letters ++ ((versioned f).spell (version, a) ++ [])
    spelled all h = sym (take-append-drop 3 all) ∙ ap₂ (λ (xs ys : List ℕ). xs ++ ys) h.begins h.spells.text

pub one_object : OneObject
one_object version other a b bytes s t =
    let same = one_file (codes "MOB") module_form module_law version other (parts_of a) (parts_of b) bytes s.file t.file in
    (same.0, same_object a b s.whole t.whole same.1)

pub one_object_spelling : OneObjectSpelling
one_object_spelling version o bytes others s t = one_spelling (codes "MOB") module_form version (parts_of o) bytes others s.file t.file

pub one_object_fault : OneObjectFault
one_object_fault bytes _ _ (no_file d f) (no_file e g) = ap file_fault (one_first_fault (codes "MOB") module_form module_law refl bytes d e f g)
one_object_fault bytes _ _ (no_file d f) (bad_code v m bad s g) = absurd (file_or_fault (codes "MOB") module_form module_law refl v m bytes d s f)
one_object_fault bytes _ _ (bad_code v m bad s f) (no_file e g) = absurd (file_or_fault (codes "MOB") module_form module_law refl v m bytes e s g)
one_object_fault bytes _ _ (bad_code v m bad s f) (bad_code w n other t g) =
    let same = one_file (codes "MOB") module_form module_law v w m n bytes s t in
    ap (λ (b : BadCode). Code 0 b.procedure b.fault) (one_code_fault v m bad other s.spells.fits.1 f (subst (λ x. HasCodeFault x other) (sym same.1) g))

pub object_or_fault : ObjectOrFault
object_or_fault version o bytes _ s (no_file d f) = file_or_fault (codes "MOB") module_form module_law refl version (parts_of o) bytes d s.file f
object_or_fault version o bytes _ s (bad_code v m bad t f) =
    let same = one_file (codes "MOB") module_form module_law version v (parts_of o) m bytes s.file t in
    valid_or_fault m bad (subst HasValidCode same.1 (whole_is_valid o s.whole)) f
