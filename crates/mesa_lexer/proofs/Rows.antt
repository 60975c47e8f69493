-- What a table's spellings have in common, what is found in it has too.
use Rattle.std.proofs.Common.{◌≡◌, ℕ, Bool, true, false, List, [], ◌∷◌, Some, refl}
use Rattle.std.specs.List.{list_all}
use Rattle.std.specs.Str.{bytes_eq}
use Rattle.std.proofs.lemmas.Slice.Eq.{bytes_eq-Decides}
use Rattle.std.proofs.lemmas.Bool.{and_parts}
use Rattle.mesa_lexer.specs.Words.{spelled}

pub spelled_passes : {A : Type 0} (P : List ℕ → Bool) (rows : List (List ℕ × A)) (bytes : List ℕ) (x : A)
    → list_all (λ row. P row.0) rows ≡ true → spelled rows bytes ≡ Some x → P bytes ≡ true
spelled_passes P [] bytes x all found = cc
spelled_passes P (row ∷ rows) bytes x all found =
    let parts = and_parts (P row.0) (list_all (λ r. P r.0) rows) all in
    go (bytes_eq bytes row.0) refl parts.0 (spelled_passes P rows bytes x parts.1)
  where
    go : (b : Bool) → bytes_eq bytes row.0 ≡ b → P row.0 ≡ true → (spelled rows bytes ≡ Some x → P bytes ≡ true) → P bytes ≡ true
    go true e here more = rw ((bytes_eq-Decides bytes row.0).0 e) here
    go false e here more = more (rw e at found)
