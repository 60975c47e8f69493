-- What is a name has a form in files, and nothing else has.
use Rattle.std.proofs.Common.{◌≡◌, ℕ, zero, suc, ◌≤◌, ◌<◌, true, false, List, [], ◌∷◌, length, refl, arith}
use Rattle.std.specs.Prelude.{nat_le}
use Rattle.std.specs.List.{list_all}
use Rattle.std.proofs.lemmas.Bool.{and_parts, leb-true, not-true, not_from_false}
use Rattle.std.proofs.lemmas.Bool.Decides.{nat_tests}
use Rattle.mesa_base.specs.Name.{IsName, is_letter_or_digit, begins_with_letter}
use Rattle.mesa_base.specs.declared.limits.TheConstants.{IDENTIFIER_BYTES}
use Rattle.file_forms.specs.Forms.{AreBytes}
use Rattle.file_forms.specs.Names.{short_text, is_some_text, is_among, name, fresh_name}

byte : (b : ℕ) → is_letter_or_digit b ≡ true → b < 256
byte b e = grind (arith, nat_tests)

bytes : (x : List ℕ) → list_all is_letter_or_digit x ≡ true → AreBytes x
bytes [] e i = omega arith
bytes (b ∷ x) e zero = byte b (and_parts (is_letter_or_digit b) (list_all is_letter_or_digit x) e).0
bytes (b ∷ x) e (suc i) = bytes x (and_parts (is_letter_or_digit b) (list_all is_letter_or_digit x) e).1 i

some_text : (x : List ℕ) → begins_with_letter x ≡ true → is_some_text x ≡ true
some_text [] e = e
some_text (b ∷ x) e = refl

pub text_fits : (x : List ℕ) → IsName x → short_text.fits x
unfolding short_text
text_fits x h =
    let p = and_parts (begins_with_letter x) _ h in
    let q = and_parts (list_all is_letter_or_digit x) (nat_le (length x) IDENTIFIER_BYTES) p.1 in
    let few : length x ≤ 255 = leb-true (length x) 255 q.1 in
    (omega (arith, few), (refl, bytes x q.0))

pub name_is_text : (x : List ℕ) → IsName x → is_some_text x ≡ true
name_is_text x h = some_text x (and_parts (begins_with_letter x) _ h).0

pub name_fits : (x : List ℕ) → IsName x → name.fits x
unfolding name
name_fits x h = ((text_fits x h, name_is_text x h), h)

pub name_is : (x : List ℕ) → name.fits x → IsName x
unfolding name
name_is x h = h.1

pub fresh_fits : (seen : List (List ℕ)) (x : List ℕ) → IsName x → is_among seen x ≡ false → (fresh_name seen).fits x
unfolding fresh_name
fresh_fits seen x h e = (name_fits x h, not_from_false (is_among seen x) e)

pub fresh_is : (seen : List (List ℕ)) (x : List ℕ) → (fresh_name seen).fits x → IsName x × (is_among seen x ≡ false)
unfolding fresh_name
fresh_is seen x h = (name_is x h.0, not-true (is_among seen x) h.1)
