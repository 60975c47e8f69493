-- Parts of a list, one behind the other.
use Rattle.std.specs.Prelude.{List, [], ◌∷◌, ◌++◌}

abbrev pub together : {A : Type 0} → List (List A) → List A
together [] = []
together (part ∷ parts) = part ++ together parts
