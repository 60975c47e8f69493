-- Scopes in one another, and what a name means in them (Language Manual, chapter 3; which scope is outside which is a rule
-- of this project).
use Rattle.std.specs.Prelude.{ℕ, Bool, false, ◌||◌, List, [], ◌∷◌, Option, Some, None, bytes_eq}
use Rattle.std.specs.Option.{option_or}
use Rattle.std.specs.Map.{update}

-- what each name means in a scope, if anything
abbrev pub Scope : Type 0 → Type 0
Scope T = List ℕ → Option T

abbrev pub nothing : {T : Type 0} → Scope T
nothing x = None

abbrev pub with_name : {T : Type 0} → List ℕ → T → Scope T → Scope T
with_name x m scope = update bytes_eq scope x (Some m)

-- what the inner scope says hides what the outer one says
abbrev pub over : {T : Type 0} → Scope T → Scope T → Scope T
over inner outer x = option_or (inner x) (outer x)

-- in scopes in one another, the innermost first
abbrev pub find : {T : Type 0} → List ℕ → List (Scope T) → Option T
find x [] = None
find x (s ∷ ss) = option_or (s x) (find x ss)

abbrev pub innermost : {T : Type 0} → List (Scope T) → Scope T
innermost [] = nothing
innermost (s ∷ ss) = s

abbrev pub outer : {T : Type 0} → List (Scope T) → List (Scope T)
outer [] = []
outer (s ∷ ss) = ss

unfoldable pub has : List ℕ → List (List ℕ) → Bool
has x [] = false
has x (y ∷ ys) = bytes_eq x y || has x ys
