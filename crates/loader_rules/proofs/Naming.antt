-- The names that are put before paths: each is a name, and no two are one.
use Rattle.std.proofs.Common.{◌≡◌, ℕ, zero, suc, ◌+◌, ◌<◌, ◌≤◌, true, List, [], ◌∷◌, ◌++◌, length, codes, decimal, refl, arith}
use Rattle.std.specs.Prelude.{nat_le}
use Rattle.std.specs.Char.{digit_value}
use Rattle.std.specs.List.{list_all}
use Rattle.std.specs.Str.Parse.{AllDigits}
use Rattle.std.proofs.lemmas.Bool.{and_from, and_parts, le-leb}
use Rattle.std.proofs.lemmas.Bool.Decides.{nat_tests}
use Rattle.std.proofs.lemmas.Str.Parse.{digit_from_value}
use Rattle.std.proofs.lemmas.Fmt.{decimal_injective, decimal_is_IsNumeral, length-decimal-le_succ}
use Rattle.mesa_base.specs.Name.{IsName, is_letter_or_digit, begins_with_letter}
use Rattle.mesa_base.specs.declared.limits.TheConstants.{IDENTIFIER_BYTES}
use Rattle.file_forms.specs.Forms.{AreBytes}
use Rattle.file_forms.specs.Names.{short_text, name}

digit : (b : ℕ) → digit_value b < 10 → is_letter_or_digit b ≡ true
digit b h = let at = digit_from_value b h in grind (arith, nat_tests)

digits : (ds : List ℕ) → AllDigits 10 ds → list_all is_letter_or_digit ds ≡ true
digits [] h = refl
digits (d ∷ ds) h = and_from (is_letter_or_digit d) (list_all is_letter_or_digit ds) (digit d h.0) (digits ds h.1)

byte : (b : ℕ) → is_letter_or_digit b ≡ true → b < 256
byte b e = grind (arith, nat_tests)

bytes : (x : List ℕ) → list_all is_letter_or_digit x ≡ true → AreBytes x
bytes [] e i = omega arith
bytes (b ∷ x) e zero = byte b (and_parts (is_letter_or_digit b) (list_all is_letter_or_digit x) e).0
bytes (b ∷ x) e (suc i) = bytes x (and_parts (is_letter_or_digit b) (list_all is_letter_or_digit x) e).1 i

abbrev of_number : ℕ → List ℕ
of_number n = codes "I" ++ decimal (n + 1)

module _ (n : ℕ) (small : n < 16) where
  numeral : list_all is_letter_or_digit (decimal (n + 1)) ≡ true
  numeral = digits (decimal (n + 1)) (decimal_is_IsNumeral (n + 1) (omega (arith, small))).0.1

  letters : list_all is_letter_or_digit (of_number n) ≡ true
  letters = and_from (is_letter_or_digit 73) (list_all is_letter_or_digit (decimal (n + 1))) refl numeral

  long : length (of_number n) ≤ 18
  long = let m = length-decimal-le_succ (n + 1) (omega (arith, small)) in omega (arith, m, small)

  is_its_name : IsName (of_number n)
  is_its_name =
      and_from (begins_with_letter (of_number n)) _ refl
      (and_from (list_all is_letter_or_digit (of_number n)) (nat_le (length (of_number n)) IDENTIFIER_BYTES) letters (le-leb (length (of_number n)) 255 (omega (arith, long))))

  pub name_fits : name.fits (of_number n)
  unfolding name short_text
  name_fits = (((omega (arith, long), (refl, bytes (of_number n) letters)), refl), is_its_name)

tails : {x : ℕ} {xs ys : List ℕ} → x ∷ xs ≡ x ∷ ys → xs ≡ ys
tails e = cc

pub names_differ : (m n : ℕ) → m < 16 → n < 16 → of_number m ≡ of_number n → m ≡ n
names_differ m n a b e =
    let same : m + 1 ≡ n + 1 = decimal_injective (m + 1) (n + 1) (omega (arith, a)) (omega (arith, b)) (tails e) in
    omega (arith, same)
