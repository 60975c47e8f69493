-- Rows of marks as lists after one of them has changed.
use Rattle.std.proofs.Common.{◌≡◌, ℕ, zero, suc, ◌+◌, ◌<◌, ◌≤◌, Bool, true, List, [], ◌∷◌, ◌++◌, length, map, take, get_or, refl, sym, ap, ◌∙◌, arith}
use Rattle.std.proofs.Math.ListN.{set}
use Rattle.std.proofs.lemmas.List.{map-append, map_more}
use Rattle.std.specs.declared.vec.Vec.{Vec}
use Rattle.std.specs.declared.alloc.Global.{Global}
use Rattle.check_scopes.specs.Marks.{with_mark}

abbrev pub lists : List (Vec Bool Global) → List (List Bool)
lists = map (λ (r : Vec Bool Global). r.items)

pub marked_row : (rows : List (Vec Bool Global)) (m n : ℕ) (now new : Vec Bool Global) → now ≡ get_or rows m now
    → new.items ≡ set now.items n true → lists (set rows m new) ≡ with_mark m n (lists rows)
marked_row [] m n now new is_it e = refl
marked_row (r ∷ rs) zero n now new is_it e = ap (λ row. row ∷ lists rs) (e ∙ ap (λ (v : Vec Bool Global). set v.items n true) is_it)
marked_row (r ∷ rs) (suc m) n now new is_it e = ap (λ rows. r.items ∷ rows) (marked_row rs m n now new is_it e)

pub no_row : (rows : List (Vec Bool Global)) (m : ℕ) (marks : List Bool) → length rows ≤ m → lists rows ≡ set (lists rows) m marks
no_row [] m marks h = refl
no_row (r ∷ rs) zero marks h = absurd (omega arith)
no_row (r ∷ rs) (suc m) marks h = ap (λ rows. r.items ∷ rows) (no_row rs m marks (omega arith))

-- one row more that is copied
pub row_more : (all done : List (Vec Bool Global)) (i : ℕ) (row copy : Vec Bool Global) → i < length all → row ≡ get_or all i row
    → copy.items ≡ row.items → lists done ≡ lists (take i all) → lists (done ++ copy ∷ []) ≡ lists (take (i + 1) all)
row_more all done i row copy inside here same so_far =
    map-append (λ (r : Vec Bool Global). r.items) done (copy ∷ []) ∙ ap (λ l. l ++ copy.items ∷ []) so_far
    ∙ ap (λ r. lists (take i all) ++ r ∷ []) (same ∙ ap (λ (r : Vec Bool Global). r.items) here) ∙ sym (map_more (λ (r : Vec Bool Global). r.items) all i row inside)
