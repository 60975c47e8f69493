-- A parser that takes a token by a test, by what the cursor found.
use Rattle.std.proofs.Common.{◌≡◌, Bool, true, false, cond, List, Option, Some, None, ap, ◌∙◌, sym}
use Rattle.mesa_base.specs.declared.place.Place.{Place}
use Rattle.mesa_lexer.specs.declared.token.Token.{Token}
use Rattle.mesa_lexer.specs.declared.token.Kind.{Kind}
use Rattle.token_cursor.specs.Parsing.{Parser, choose, when}
use Rattle.token_cursor.specs.Running.{next_is, taken, behind}
use Rattle.token_cursor.proofs.Taking.{chosen, choose_by, when_by}

pub choose_none : {O A : Type 0} (f : Kind → Option O) (p : O → Place → Parser A) (q : Parser A) (ts us : List Token) → taken f ts ≡ None → us ≡ behind f ts → choose f p q ts ≡ q us
choose_none f p q ts us e h = choose_by f p q ts ∙ (ap (λ v. chosen v p q (behind f ts)) e ∙ ap q (sym h))

pub choose_some : {O A : Type 0} (f : Kind → Option O) (p : O → Place → Parser A) (q : Parser A) (ts us : List Token) (o : O) (place : Place) → taken f ts ≡ Some (o, place) → us ≡ behind f ts → choose f p q ts ≡ p o place us
choose_some f p q ts us o place e h = choose_by f p q ts ∙ (ap (λ v. chosen v p q (behind f ts)) e ∙ ap (p o place) (sym h))

pub when_true : {A : Type 0} (f : Kind → Bool) (p q : Parser A) (ts : List Token) → next_is f ts ≡ true → when f p q ts ≡ p ts
when_true f p q ts e = when_by f p q ts ∙ ap (λ b. cond b p q ts) e

pub when_false : {A : Type 0} (f : Kind → Bool) (p q : Parser A) (ts : List Token) → next_is f ts ≡ false → when f p q ts ≡ q ts
when_false f p q ts e = when_by f p q ts ∙ ap (λ b. cond b p q ts) e

pub if_true : {A : Type 0} (b : Bool) (p q : Parser A) (ts : List Token) → b ≡ true → cond b p q ts ≡ p ts
if_true b p q ts e = ap (λ b. cond b p q ts) e

pub if_false : {A : Type 0} (b : Bool) (p q : Parser A) (ts : List Token) → b ≡ false → cond b p q ts ≡ q ts
if_false b p q ts e = ap (λ b. cond b p q ts) e
