-- Tokens within their limits: what is written as a name is one, and a string's value has at most its bytes (rule of this project
-- over the forms of the Language Manual, chapter 2).
use Rattle.std.specs.Prelude.{◌≤◌, List, [], ◌∷◌, length}
use Rattle.mesa_base.specs.Name.{IsName}
use Rattle.mesa_base.specs.declared.limits.TheConstants.{STRING_BYTES}
use Rattle.mesa_lexer.specs.declared.token.Kind.{Kind}
use Rattle.mesa_lexer.specs.declared.token.Kind.TheVariants as k
use Rattle.mesa_lexer.specs.declared.token.Token.{Token}

abbrev pub IsWithin : Kind → Type 0
IsWithin (k.Name bytes) = IsName bytes
IsWithin (k.Text value) = length value ≤ STRING_BYTES
IsWithin _ = Unit {0}

abbrev pub AreWithin : List Token → Type 0
AreWithin [] = Unit {0}
AreWithin (t ∷ ts) = IsWithin t.kind × AreWithin ts
