-- Tests of the code that are those of the definitions.
use Rattle.std.proofs.Common.{◌≡◌, ◌↔◌, ℕ, ◌+◌, ◌^◌, ◌<◌, ◌≤◌, Bool, true, false, not, IsTrue, List, [], ◌∷◌, length, decimal, Some, None, refl, sym, ap, arith, if◌then◌else◌}
use Rattle.std.specs.Prelude.{nat_le}
use Rattle.std.specs.Char.{digit_value}
use Rattle.std.specs.List.{list_all}
use Rattle.std.specs.Str.Parse.{AllDigits}
use Rattle.std.proofs.lemmas.Bool.{and_from, le-leb}
use Rattle.std.proofs.lemmas.Bool.Decides.{nat_tests}
use Rattle.std.proofs.lemmas.Str.Parse.{digit_from_value}
use Rattle.std.proofs.lemmas.Fmt.{decimal_is_IsNumeral, length-decimal-le}
use Rattle.mesa_base.specs.Name as names
use Rattle.mesa_base.specs.Name.{IsName, is_letter_or_digit, begins_with_letter}
use Rattle.mesa_base.specs.declared.limits.TheConstants.{IDENTIFIER_BYTES}
use Rattle.mesa_types.specs.declared.faces.Face.{Face}
use Rattle.mesa_types.specs.declared.faces.Item.{Item}
use Rattle.interface_records.specs.Faces.{SameFace, SameSignature}
use Rattle.object_rules.specs.ImageForms.{same_signature}
use Rattle.object_rules.proofs.SameTypes.{signature_same, signature_alike}
use Rattle.loader_rules.specs.SameFaces.{same_face}
use Rattle.loader_rules.proofs.Faces.{same_faces_are_equal}
use Rattle.load_checks.specs.Givers.{name_of}

one_test : (r s : Bool) → (IsTrue r → s ≡ true) → (s ≡ true → IsTrue r) → r ≡ s
one_test true s f g = sym (f refl)
one_test false true f g = g refl
one_test false false f g = refl

pub other_is : (r : Bool) (a b : Face) → IsTrue r ↔ SameFace a b → not r ≡ not (same_face a b)
other_is r a b h = ap not (one_test r (same_face a b) (λ t. (same_faces_are_equal a b).1 (h.0 t)) (λ e. h.1 ((same_faces_are_equal a b).0 e)))

pub like_is : (r : Bool) (a b : Item) → IsTrue r ↔ SameSignature a b → r ≡ same_signature a b
like_is r a b h = one_test r (same_signature a b) (λ t. signature_alike a b (h.0 t)) (λ e. h.1 (signature_same a b e))

-- ---- the name of an image

digit : (b : ℕ) → digit_value b < 10 → is_letter_or_digit b ≡ true
digit b h = let at = digit_from_value b h in grind (arith, nat_tests)

digits : (ds : List ℕ) → AllDigits 10 ds → list_all is_letter_or_digit ds ≡ true
digits [] h = refl
digits (d ∷ ds) h = and_from (is_letter_or_digit d) (list_all is_letter_or_digit ds) (digit d h.0) (digits ds h.1)

pub is_its_name : (n : ℕ) → n < 2 ^ 32 → IsName (name_of n)
is_its_name n small =
    let short : length (decimal (n + 1)) ≤ 10 = length-decimal-le 10 (n + 1) (omega arith) (omega (arith, small)) (omega (arith, small)) in
    let numeral : list_all is_letter_or_digit (decimal (n + 1)) ≡ true = digits (decimal (n + 1)) (decimal_is_IsNumeral (n + 1) (omega (arith, small))).0.1 in
    let letters : list_all is_letter_or_digit (name_of n) ≡ true = and_from (is_letter_or_digit 73) (list_all is_letter_or_digit (decimal (n + 1))) refl numeral in
    and_from (begins_with_letter (name_of n)) _ refl
    (and_from (list_all is_letter_or_digit (name_of n)) (nat_le (length (name_of n)) IDENTIFIER_BYTES) letters (le-leb (length (name_of n)) 255 (omega (arith, short))))

pub named_so : (n : ℕ) → n < 2 ^ 32 → names.name_of (name_of n) ≡ Some (name_of n)
named_so n small = ap (λ b. if b then Some (name_of n) else None) (is_its_name n small)
