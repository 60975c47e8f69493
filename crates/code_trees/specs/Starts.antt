-- Where each of some variables that lie one behind the other ends.
use Rattle.std.specs.Prelude.{ℕ, ◌+◌, List, [], ◌∷◌}
use Rattle.mesa_types.specs.Typed.{Kinds, NoKinds, AndKind}
use Rattle.mesa_types.specs.Shapes.{words_in}

-- the first of them lies at n
unfoldable pub ends_from : (n : ℕ) → Kinds → List ℕ
ends_from n NoKinds = []
ends_from n (AndKind k ks) = (n + words_in k) ∷ ends_from (n + words_in k) ks
