-- The turns of a loop over the elements of a list: what is still read from here is what is read from the start.
use Rattle.std.proofs.Common.{◌≡◌, ℕ, suc, ◌+◌, ◌-◌, ◌<◌, ◌≤◌, List, [], ◌∷◌, ◌++◌, Ok, Err, refl, sym, ap, ◌∙◌, arith}
use Rattle.file_forms.specs.declared.stopped.Stopped.{Stopped}
use Rattle.file_forms.specs.Forms.{Reading, Form, read_each}

abbrev cut : {A : Type 0} → Stopped → Reading A
cut why = Err why

abbrev got : {A : Type 0} → A → List ℕ → Reading A
got a rest = Ok (a, rest)

module _ {A : Type 0} (each : List A → Form A) where
  goes_on : (n : ℕ) (before : List A) (a : A) (bytes rest : List ℕ) → (each before).read bytes ≡ Ok (a, rest) → read_each each (suc n) before bytes ≡ read_each each n (before ++ a ∷ []) rest
  unfolding read_each
  goes_on n before a bytes rest e = rw e refl

  is_cut : (n : ℕ) (before : List A) (why : Stopped) (bytes : List ℕ) → (each before).read bytes ≡ Err why → read_each each (suc n) before bytes ≡ Err why
  unfolding read_each
  is_cut n before why bytes e = rw e refl

  is_done : (before : List A) (bytes : List ℕ) → read_each each 0 before bytes ≡ Ok (before, bytes)
  unfolding read_each
  is_done before bytes = refl

  pub each_goes_on : (count i : ℕ) (before after : List A) (a : A) (bytes rest : List ℕ) (whole : Reading (List A)) → i < count
      → read_each each (count - i) before bytes ≡ whole → (each before).read bytes ≡ Ok (a, rest) → after ≡ before ++ a ∷ [] → read_each each (count - (i + 1)) after rest ≡ whole
  each_goes_on count i before after a bytes rest whole less so e pushed =
      let one : count - i ≡ suc (count - (i + 1)) = omega arith in
      ap (λ xs. read_each each (count - (i + 1)) xs rest) pushed ∙ sym (goes_on (count - (i + 1)) before a bytes rest e) ∙ ap (λ k. read_each each k before bytes) (sym one) ∙ so

  pub each_is_cut : (count i : ℕ) (before : List A) (why : Stopped) (bytes : List ℕ) (whole : Reading (List A)) → i < count
      → read_each each (count - i) before bytes ≡ whole → (each before).read bytes ≡ Err why → whole ≡ Err why
  each_is_cut count i before why bytes whole less so e =
      let one : count - i ≡ suc (count - (i + 1)) = omega arith in
      sym so ∙ ap (λ k. read_each each k before bytes) one ∙ is_cut (count - (i + 1)) before why bytes e

  pub each_is_done : (count i : ℕ) (before : List A) (bytes : List ℕ) (whole : Reading (List A)) → count ≤ i
      → read_each each (count - i) before bytes ≡ whole → whole ≡ Ok (before, bytes)
  each_is_done count i before bytes whole more so =
      let none : count - i ≡ 0 = omega arith in
      sym so ∙ ap (λ k. read_each each k before bytes) none ∙ is_done before bytes

  pub each_begins : (count : ℕ) (all : List A) (bytes : List ℕ) → all ≡ [] → read_each each (count - 0) all bytes ≡ read_each each count [] bytes
  each_begins count all bytes e = ap (λ xs. read_each each (count - 0) xs bytes) e ∙ ap (λ k. read_each each k [] bytes) (none_less count)
    where
      none_less : (n : ℕ) → n - 0 ≡ n
      none_less n = omega arith
