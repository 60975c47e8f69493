-- Tables with nothing in them, row after row.
use Rattle.std.proofs.Common.{◌≡◌, ⊎_elim, ℕ, zero, suc, ◌+◌, ◌<◌, ◌≤◌, List, [], ◌∷◌, ◌++◌, length, Some, refl, sym, ap, subst, ◌∙◌, arith}
use Rattle.std.specs.Prelude.{Contains}
use Rattle.std.proofs.lemmas.Bool.{cases_lt}
use Rattle.std.proofs.lemmas.List.{length_push}
use Rattle.std.proofs.lemmas.Option.{same_Some}
use Rattle.code_forms.specs.declared.module_code.ModuleCode.{ModuleCode}
use Rattle.code_forms.specs.Valid.{Valid}
use Rattle.object_files.specs.declared.image.Image.{Image}
use Rattle.machine_rules.specs.LookUps.{code_of}
use Rattle.place_walks.specs.declared.place.Place.{Place}
use Rattle.place_walks.specs.Table.{part, cell}
use Rattle.signal_survey.specs.Ranges.{AreValid}
use Rattle.signal_survey.specs.Shapes.{HasShape, IsEmptyRow, raisers_width, callers_width, signals_in, procedures_in}
use Rattle.signal_survey.proofs.Added.{nothing_in}
use Rattle.signal_survey.proofs.Happened.{instance_within}

part_left : {X : Type 0} (xs : List (List X)) (y : List X) (i : ℕ) → i < length xs → part (xs ++ y ∷ []) i ≡ part xs i
part_left [] y i l = absurd (omega arith)
part_left (x ∷ xs) y zero l = refl
part_left (x ∷ xs) y (suc i) l = part_left xs y i (omega (arith, l))

part_last : {X : Type 0} (xs : List (List X)) (y : List X) → part (xs ++ y ∷ []) (length xs) ≡ y
part_last [] y = refl
part_last (x ∷ xs) y = part_last xs y

part_past : {X : Type 0} (xs : List (List X)) (i : ℕ) → length xs ≤ i → part xs i ≡ []
part_past [] i l = refl
part_past (x ∷ xs) zero l = absurd (omega (arith, l))
part_past (x ∷ xs) (suc i) l = part_past xs i (omega (arith, l))

-- what holds of each row and of no row holds of each part
each_part : {X : Type 0} (P : List X → Type 0) (xs : List (List X)) (y : List X) → P y → P [] → ((i : ℕ) → P (part xs i)) → (i : ℕ) → P (part (xs ++ y ∷ []) i)
each_part P xs y is none each i =
    ⊎_elim
    (λ (l : i < length xs). subst P (sym (part_left xs y i l)) (each i))
    (λ (g : length xs ≤ i). ⊎_elim
    (λ (l : i < length xs + 1). (let same : length xs ≡ i = omega (arith, g, l) in subst (λ k. P (part (xs ++ y ∷ []) k)) same (subst P (sym (part_last xs y)) is)))
    (λ (p : length xs + 1 ≤ i). subst P (sym (part_past (xs ++ y ∷ []) i (let e = length_push xs y in omega (arith, p, e)))) none) (cases_lt i (length xs + 1)))
    (cases_lt i (length xs))

abbrev pub HoldsNone : List (List Place) → Type 0
HoldsNone row = (k : ℕ) (x : Place) → Contains (part row k) x → ⊥

none_in_none : HoldsNone []
none_in_none k x c = nothing_in x c

pub row_none : (row : List (List Place)) → row ≡ [] → IsEmptyRow 0 row
row_none row e = record { many = ap length e; empty = subst HoldsNone (sym e) none_in_none }

pub row_more : (count : ℕ) (row new : List (List Place)) (y : List Place) → new ≡ row ++ y ∷ [] → y ≡ [] → IsEmptyRow count row → IsEmptyRow (count + 1) new
row_more count row new y e none r = record {
  many = (let l = length_push row y in let m = r.many in let n = ap length e in omega (arith, l, m, n));
  empty = subst HoldsNone (sym e) (each_part (λ xs. (x : Place) → Contains xs x → ⊥) row y (λ x c. nothing_in x (subst (λ xs. Contains xs x) none c)) (λ x c. nothing_in x c) r.empty);
}

pub row_all : (count many : ℕ) (row : List (List Place)) → count ≡ many → IsEmptyRow count row → IsEmptyRow many row
row_all count many row e r = subst (λ n. IsEmptyRow n row) e r

pub shape_none : (width : ℕ → ℕ) (table : List (List (List Place))) → table ≡ [] → HasShape width 0 table
shape_none width table e = record {
  rows = ap length e;
  empty = λ i k x c. none_in_none k x (subst (λ (t : List (List (List Place))). Contains (cell t i k) x) e c);
  cells = λ i l. absurd (omega (arith, l));
}

pub shape_more : (width : ℕ → ℕ) (count cells : ℕ) (table new : List (List (List Place))) (row : List (List Place)) → new ≡ table ++ row ∷ [] → cells ≡ width count → IsEmptyRow cells row
    → HasShape width count table → HasShape width (count + 1) new
shape_more width count cells table new row e wide r s =
    let made : HasShape width (count + 1) (table ++ row ∷ []) = record {
      rows = (let l = length_push table row in let m = s.rows in omega (arith, l, m));
      empty = λ i. each_part HoldsNone table row r.empty none_in_none (λ k. s.empty k) i;
      cells = λ i l. ⊎_elim
          (λ (low : i < count). ap length (part_left table row i (let m = s.rows in omega (arith, low, m))) ∙ s.cells i low)
          (λ (g : count ≤ i). (let same : length table ≡ i = (let m = s.rows in omega (arith, l, g, m)) in
          let at : count ≡ i = omega (arith, l, g) in
          subst (λ k. length (part (table ++ row ∷ []) k) ≡ width i) same (ap length (part_last table row) ∙ r.many ∙ wide ∙ ap width at))) (cases_lt i count);
    } in
    subst (λ t. HasShape width (count + 1) t) (sym e) made

pub shape_all : (width : ℕ → ℕ) (count many : ℕ) (table : List (List (List Place))) → count ≡ many → HasShape width count table → HasShape width many table
shape_all width count many table e s = subst (λ n. HasShape width n table) e s

pub signals_wide : (image : Image) (j : ℕ) (m : ModuleCode) → code_of image j ≡ Some m → length m.signals ≡ signals_in (code_of image j)
signals_wide image j m is = sym (ap signals_in is)

pub raisers_wide : (image : Image) (j : ℕ) (m : ModuleCode) → code_of image j ≡ Some m → length m.signals ≡ raisers_width image (j + 1)
raisers_wide image j m is = signals_wide image j m is ∙ ap (raisers_width image) (let e : suc j ≡ j + 1 = omega arith in e)

pub callers_wide : (image : Image) (j : ℕ) (m : ModuleCode) → code_of image j ≡ Some m → length m.procedures ≡ callers_width image j
callers_wide image j m is = sym (ap procedures_in is)

-- the code of the first so many instances is valid
abbrev pub ValidBelow : Image → ℕ → Type 0
ValidBelow image count = (j : ℕ) (m : ModuleCode) → j < count → code_of image j ≡ Some m → Valid m

pub valid_none : (image : Image) → ValidBelow image 0
valid_none image j m l is = absurd (omega (arith, l))

pub valid_more : (image : Image) (k : ℕ) (n : ModuleCode) → code_of image k ≡ Some n → Valid n → ValidBelow image k → ValidBelow image (k + 1)
valid_more image k n here v before j m l is =
    ⊎_elim
    (λ (low : j < k). before j m low is)
    (λ (g : k ≤ j). (let same : j ≡ k = omega (arith, l, g) in subst Valid (same_Some n m (sym here ∙ ap (code_of image) (sym same) ∙ is)) v)) (cases_lt j k)

pub valid_all : (image : Image) (k : ℕ) → length image.instances ≤ k → ValidBelow image k → AreValid image
valid_all image k past before j m is = before j m (let l = instance_within image j m is in omega (arith, l, past)) is
