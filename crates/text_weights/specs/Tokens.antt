-- What the names and the string literals among tokens weigh (rule of this project).
use Rattle.std.specs.Prelude.{ℕ, ◌+◌, List, [], ◌∷◌}
use Rattle.mesa_lexer.specs.declared.token.Kind.{Kind}
use Rattle.mesa_lexer.specs.declared.token.Kind.TheVariants as k
use Rattle.mesa_lexer.specs.declared.token.Token.{Token}
use Rattle.checking_laws.specs.Weights.{Weights}

abbrev pub kind_weight : Weights → Kind → ℕ
kind_weight w (k.Name bytes) = w.of_name bytes
kind_weight w (k.Text value) = w.of_text value
kind_weight w _ = 0

unfoldable pub tokens_weight : Weights → List Token → ℕ
tokens_weight w [] = 0
tokens_weight w (t ∷ ts) = kind_weight w t.kind + tokens_weight w ts
