-- Tables as lists, after one of their cells has changed.
use Rattle.std.proofs.Common.{◌≡◌, ℕ, zero, suc, ◌≤◌, List, [], ◌∷◌, length, map, get_or, refl, ap, ◌∙◌, arith}
use Rattle.std.proofs.Math.ListN.{set}
use Rattle.std.specs.declared.vec.Vec.{Vec}
use Rattle.std.specs.declared.alloc.Global.{Global}
use Rattle.place_walks.specs.Table.{part, cell, with_cell}

abbrev pub lists : {X : Type 0} → List (Vec (List X) Global) → List (List (List X))
lists {X} = map (λ (r : Vec (List X) Global). r.items)

pub put_row : {X : Type 0} (f : List X → List X) (rows : List (Vec (List X) Global)) (i k : ℕ) (now new : Vec (List X) Global) → now ≡ get_or rows i now
    → new.items ≡ set now.items k (f (part now.items k)) → lists (set rows i new) ≡ with_cell (lists rows) i k (f (cell (lists rows) i k))
put_row f [] i k now new is e = refl
put_row {X} f (r ∷ rs) zero k now new is e = ap (λ row. row ∷ lists rs) (e ∙ ap (λ (v : Vec (List X) Global). set v.items k (f (part v.items k))) is)
put_row f (r ∷ rs) (suc i) k now new is e = ap (λ rows. r.items ∷ rows) (put_row f rs i k now new is e)

pub no_row : {X : Type 0} (rows : List (Vec (List X) Global)) (i : ℕ) (row : List (List X)) → length rows ≤ i → lists rows ≡ set (lists rows) i row
no_row [] i row h = refl
no_row (r ∷ rs) zero row h = absurd (omega arith)
no_row (r ∷ rs) (suc i) row h = ap (λ rows. r.items ∷ rows) (no_row rs i row (omega arith))
