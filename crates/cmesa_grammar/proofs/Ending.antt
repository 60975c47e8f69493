-- What stands behind a text, in the words of the cursor.
use Rattle.std.proofs.Common.{◌≡◌, List, [], ◌∷◌, Some, None, refl}
use Rattle.mesa_base.specs.declared.place.Place.{Place}
use Rattle.mesa_lexer.specs.declared.token.Token.{Token}
use Rattle.token_cursor.specs.Parsing.{Got, Stop, Unexpected}
use Rattle.cmesa_grammar.specs.declared.syntax.Config.{Config}
use Rattle.cmesa_grammar.specs.Answer.{place_at}
use Rattle.token_cursor.specs.Running.{next}
use Rattle.cmesa_grammar.specs.ReadConfigs.{at_end}

pub ended_none : (x : Config) (ts : List Token) → next ts ≡ None → at_end x ts ≡ Got x ts
unfolding next
ended_none x [] e = refl
ended_none x (t ∷ ts) e = absurd (cc e)

pub ended_some : (x : Config) (ts : List Token) (t : Token) → next ts ≡ Some t → at_end x ts ≡ Stop Unexpected ts
unfolding next
ended_some x [] t e = absurd (cc e)
ended_some x (u ∷ ts) t e = refl

pub place_none : (ts : List Token) (end : Place) → next ts ≡ None → place_at ts end ≡ end
unfolding next
place_none [] end e = refl
place_none (t ∷ ts) end e = absurd (cc e)

pub place_some : (ts : List Token) (end : Place) (t : Token) → next ts ≡ Some t → place_at ts end ≡ t.place
unfolding next
place_some [] end t e = absurd (cc e)
place_some (u ∷ ts) end t e = cc e
