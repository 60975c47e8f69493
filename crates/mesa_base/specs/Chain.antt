-- What each part of a list puts before the rest.
use Rattle.std.specs.Prelude.{List, [], ◌∷◌}

abbrev pub chain : {A : Type 0} → List (A → A) → A → A
chain [] end = end
chain (f ∷ fs) end = f (chain fs end)
