-- Paths as keys of an index.
use Rattle.std.specs.Prelude.{ℕ, List, [], ◌∷◌, ◌++◌, map, flat_map}
use Rattle.object_files.specs.declared.image.Instance.{Instance}

-- each byte behind a 1, and a 0 at the end, so that no name begins with another
abbrev pub marked : List ℕ → List ℕ
marked name = flat_map (λ b. 1 ∷ b ∷ []) name ++ 0 ∷ []

abbrev pub key_of : List (List ℕ) → List ℕ
key_of path = flat_map marked path

abbrev pub keys_of : List Instance → List (List ℕ)
keys_of instances = map (λ (x : Instance). key_of x.path) instances
