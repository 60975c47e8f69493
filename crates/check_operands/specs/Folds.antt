-- One part of a list after the other, with what has been made of those before.
use Rattle.std.specs.Prelude.{List, [], ◌∷◌}
use Rattle.check_rules.specs.Steps.{Check, ◌>>=◌, pure}

unfoldable pub folded : {A B : Type 0} → (B → A → Check B) → B → List A → Check B
folded step done [] = pure done
folded step done (x ∷ xs) = step done x >>= (λ more. folded step more xs)
