-- What stands in the cells of a table after one has changed.
use Rattle.std.proofs.Common.{◌≡◌, ◌⊎◌, inl, inr, ⊎_elim, ℕ, zero, suc, ◌+◌, ◌<◌, ◌≤◌, List, [], ◌∷◌, ◌++◌, length, take, get_or, Some, refl, sym, ap, subst, ◌∙◌, arith}
use Rattle.std.specs.Prelude.{slice_get, unwrap_or, Contains}
use Rattle.std.proofs.Math.ListN.{set, length-set}
use Rattle.std.proofs.lemmas.Bool.{cases_eq, cases_lt}
use Rattle.std.proofs.lemmas.List.{take_more}
use Rattle.std.proofs.lemmas.List.Elements.{Contains-append_left, Contains-push, Contains-push_cases}
use Rattle.place_walks.specs.declared.edges.Edge.{Edge}
use Rattle.place_walks.specs.declared.place.Place.{Place}
use Rattle.place_walks.specs.Edges.{IsEmpty, IsCell, SameCells, Leads, Holds}
use Rattle.place_walks.specs.Table.{part, cell, with_cell}

pub get_set_same : {X : Type 0} (xs : List X) (i : ℕ) (v : X) → i < length xs → slice_get (set xs i v) i ≡ Some v
get_set_same [] i v h = absurd (omega arith)
get_set_same (x ∷ xs) zero v h = refl
get_set_same (x ∷ xs) (suc i) v h = get_set_same xs i v (omega arith)

pub get_set_other : {X : Type 0} (xs : List X) (i j : ℕ) (v : X) → (i ≡ j → ⊥) → slice_get (set xs i v) j ≡ slice_get xs j
get_set_other [] i j v ne = refl
get_set_other (x ∷ xs) zero zero v ne = absurd (ne refl)
get_set_other (x ∷ xs) zero (suc j) v ne = refl
get_set_other (x ∷ xs) (suc i) zero v ne = refl
get_set_other (x ∷ xs) (suc i) (suc j) v ne = get_set_other xs i j v (λ e. ne (ap suc e))

pub part_same : {X : Type 0} (xs : List (List X)) (i : ℕ) (v : List X) → i < length xs → part (set xs i v) i ≡ v
part_same xs i v h = ap (λ o. unwrap_or o []) (get_set_same xs i v h)

part_other : {X : Type 0} (xs : List (List X)) (i j : ℕ) (v : List X) → (i ≡ j → ⊥) → part (set xs i v) j ≡ part xs j
part_other xs i j v ne = ap (λ o. unwrap_or o []) (get_set_other xs i j v ne)

part_past : {X : Type 0} (xs : List (List X)) (i : ℕ) (v : List X) → length xs ≤ i → part (set xs i v) i ≡ part xs i
part_past [] i v h = refl
part_past (x ∷ xs) zero v h = absurd (omega arith)
part_past (x ∷ xs) (suc i) v h = part_past xs i v (omega arith)

-- one that has something is there
pub part_get : {X : Type 0} (xs : List (List X)) (i k : ℕ) → k < length (part xs i) → slice_get xs i ≡ Some (part xs i)
part_get [] i k h = absurd (omega arith)
part_get (x ∷ xs) zero k h = refl
part_get (x ∷ xs) (suc i) k h = part_get xs i k h

pub part_within : {X : Type 0} (xs : List (List X)) (i k : ℕ) → k < length (part xs i) → i < length xs
part_within [] i k h = absurd (omega arith)
part_within (x ∷ xs) zero k h = omega arith
part_within (x ∷ xs) (suc i) k h = let l = part_within xs i k h in omega (arith, l)

pub cell_same : {X : Type 0} (t : List (List (List X))) (i k : ℕ) (v : List X) → k < length (part t i) → cell (with_cell t i k v) i k ≡ v
cell_same t i k v h = ap (λ row. part row k) (part_same t i (set (part t i) k v) (part_within t i k h)) ∙ part_same (part t i) k v h

cell_past : {X : Type 0} (t : List (List (List X))) (i k : ℕ) (v : List X) → length (part t i) ≤ k → cell (with_cell t i k v) i k ≡ cell t i k
cell_past [] i k v h = refl
cell_past (r ∷ rs) zero k v h = part_past r k v h
cell_past (r ∷ rs) (suc i) k v h = cell_past rs i k v h

pub cell_column : {X : Type 0} (t : List (List (List X))) (i k q : ℕ) (v : List X) → (k ≡ q → ⊥) → cell (with_cell t i k v) i q ≡ cell t i q
cell_column [] i k q v ne = refl
cell_column (r ∷ rs) zero k q v ne = part_other r k q v ne
cell_column (r ∷ rs) (suc i) k q v ne = cell_column rs i k q v ne

pub cell_row : {X : Type 0} (t : List (List (List X))) (i j k q : ℕ) (v : List X) → (i ≡ j → ⊥) → cell (with_cell t i k v) j q ≡ cell t j q
cell_row t i j k q v ne = ap (λ row. part row q) (part_other t i j (set (part t i) k v) ne)

row_long : {X : Type 0} (t : List (List (List X))) (i k : ℕ) (v : List X) → length (part (with_cell t i k v) i) ≡ length (part t i)
row_long [] i k v = refl
row_long (r ∷ rs) zero k v = length-set r k v
row_long (r ∷ rs) (suc i) k v = row_long rs i k v

rows_long : {X : Type 0} (t : List (List (List X))) (i k : ℕ) (v : List X) (j : ℕ) → length (part (with_cell t i k v) j) ≡ length (part t j)
rows_long t i k v j = elim (cases_eq i j) [
  | inl e ↦ subst (λ x. length (part (with_cell t i k v) x) ≡ length (part t x)) e (row_long t i k v)
  | inr ne ↦ ap length (part_other t i j (set (part t i) k v) ne)
]

-- ---- an item is put behind those of a cell

abbrev pushed : {X : Type 0} → List (List (List X)) → (i k : ℕ) → X → List (List (List X))
pushed t i k x = with_cell t i k (cell t i k ++ x ∷ [])

record IsPushed {X : Type 0} (t : List (List (List X))) (i k : ℕ) (x : X) (j q : ℕ) : Type 0 where
  row : i ≡ j
  column : k ≡ q
  is : cell (pushed t i k x) j q ≡ cell t j q ++ x ∷ []

at_cell : {X : Type 0} (t : List (List (List X))) (i k : ℕ) (x : X) → IsPushed t i k x i k ⊎ (cell (pushed t i k x) i k ≡ cell t i k)
at_cell t i k x =
    ⊎_elim
    (λ (l : k < length (part t i)). inl (record { row = refl; column = refl; is = cell_same t i k (cell t i k ++ x ∷ []) l }))
    (λ (l : length (part t i) ≤ k). inr (cell_past t i k (cell t i k ++ x ∷ []) l))
    (cases_lt k (length (part t i)))

push_cases : {X : Type 0} (t : List (List (List X))) (i k : ℕ) (x : X) (j q : ℕ) → IsPushed t i k x j q ⊎ (cell (pushed t i k x) j q ≡ cell t j q)
push_cases t i k x j q = elim (cases_eq i j) [
  | inl e ↦ elim (cases_eq k q) [
    | inl f ↦
        subst (λ a. IsPushed t i k x a q ⊎ (cell (pushed t i k x) a q ≡ cell t a q)) e
        (subst (λ b. IsPushed t i k x i b ⊎ (cell (pushed t i k x) i b ≡ cell t i b)) f (at_cell t i k x))
    | inr ne ↦ inr (subst (λ a. cell (pushed t i k x) a q ≡ cell t a q) e (cell_column t i k q (cell t i k ++ x ∷ []) ne))
  ]
  | inr ne ↦ inr (cell_row t i j k q (cell t i k ++ x ∷ []) ne)
]

-- ---- edges

more_leads : (edges : List Edge) (e : Edge) (i k : ℕ) (x : Place) → Leads edges i k x → Leads (edges ++ e ∷ []) i k x
more_leads edges e i k x l =
    record { edge = l.edge; contains = Contains-append_left edges (e ∷ []) l.edge l.contains; row_is = l.row_is; column_is = l.column_is; to_is = l.to_is }

still_contained : (t : List (List (List Place))) (i k : ℕ) (x : Place) (j q : ℕ) (y : Place) → Contains (cell t j q) y → Contains (cell (pushed t i k x) j q) y
still_contained t i k x j q y c =
    ⊎_elim
    (λ (p : IsPushed t i k x j q). subst (λ l. Contains l y) (sym p.is) (Contains-append_left (cell t j q) (x ∷ []) y c))
    (λ (same : cell (pushed t i k x) j q ≡ cell t j q). subst (λ l. Contains l y) (sym same) c)
    (push_cases t i k x j q)

sound_more : (t : List (List (List Place))) (edges : List Edge) (e : Edge) → Holds t edges → (j q : ℕ) (y : Place) → Contains (cell (pushed t e.row e.column e.to) j q) y
    → Leads (edges ++ e ∷ []) j q y
sound_more t edges e h j q y c =
    ⊎_elim
    (λ (p : IsPushed t e.row e.column e.to j q).
    ⊎_elim
    (λ (old : Contains (cell t j q) y). more_leads edges e j q y (h.sound j q y old))
    (λ (same : e.to ≡ y). let l : Leads (edges ++ e ∷ []) j q y = record { edge = e; contains = Contains-push edges e; row_is = p.row; column_is = p.column; to_is = same } in l)
    (Contains-push_cases (cell t j q) e.to y (subst (λ l. Contains l y) p.is c)))
    (λ (same : cell (pushed t e.row e.column e.to) j q ≡ cell t j q). more_leads edges e j q y (h.sound j q y (subst (λ l. Contains l y) same c)))
    (push_cases t e.row e.column e.to j q)

whole_more : (t : List (List (List Place))) (edges : List Edge) (e : Edge) → Holds t edges → (f : Edge) → Contains (edges ++ e ∷ []) f
    → IsCell (pushed t e.row e.column e.to) f.row f.column → Contains (cell (pushed t e.row e.column e.to) f.row f.column) f.to
whole_more t edges e h f c there =
    let long = rows_long t e.row e.column (cell t e.row e.column ++ e.to ∷ []) in
    ⊎_elim
    (λ (old : Contains edges f). still_contained t e.row e.column e.to f.row f.column f.to (h.whole f old (subst (λ n. f.column < n) (long f.row) there)))
    (λ (same : e ≡ f).
    subst (λ (g : Edge). Contains (cell (pushed t e.row e.column e.to) g.row g.column) g.to) same
    (let within : e.column < length (part t e.row) = subst (λ n. e.column < n) (long e.row) (subst (λ (g : Edge). IsCell (pushed t e.row e.column e.to) g.row g.column) (sym same) there) in
    subst (λ l. Contains l e.to) (sym (cell_same t e.row e.column (cell t e.row e.column ++ e.to ∷ []) within)) (Contains-push (cell t e.row e.column) e.to)))
    (Contains-push_cases edges e f c)

holds_more : (t : List (List (List Place))) (edges : List Edge) (e : Edge) → Holds t edges → Holds (pushed t e.row e.column e.to) (edges ++ e ∷ [])
holds_more t edges e h = record { sound = sound_more t edges e h; whole = whole_more t edges e h }

pub fill_more : (t new : List (List (List Place))) (edges : List Edge) (i : ℕ) (d : Edge) → i < length edges
    → new ≡ with_cell t (get_or edges i d).row (get_or edges i d).column (cell t (get_or edges i d).row (get_or edges i d).column ++ (get_or edges i d).to ∷ [])
    → Holds t (take i edges) → Holds new (take (i + 1) edges)
fill_more t new edges i d l e h =
    subst (λ x. Holds x (take (i + 1) edges)) (sym e)
    (subst (λ x. Holds (pushed t (get_or edges i d).row (get_or edges i d).column (get_or edges i d).to) x) (sym (take_more edges i d l)) (holds_more t (take i edges) (get_or edges i d) h))

pub same_more : (first t new : List (List (List Place))) (i k : ℕ) (v : List Place) → new ≡ with_cell t i k v → SameCells first t → SameCells first new
same_more first t new i k v e s =
    record { same = λ j. ap (λ x. length (part x j)) e ∙ rows_long t i k v j ∙ s.same j }

pub fill_none : (t : List (List (List Place))) → IsEmpty t → Holds t []
fill_none t empty = record { sound = λ i k x c. absurd (empty i k x c); whole = λ e c there. (let l : c.0 < 0 = c.1 in absurd (omega arith)) }

pub same_cells : (t : List (List (List Place))) → SameCells t t
same_cells t = record { same = λ i. refl }
