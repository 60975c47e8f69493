-- A parser that takes a token by a test, in the words of the cursor.
use Rattle.std.proofs.Common.{◌≡◌, ◌<◌, ◌-◌, length, take, drop, slice_get, Bool, true, false, cond, List, [], ◌∷◌, Option, Some, None, refl, ap, ◌∙◌, arith}
use Rattle.std.proofs.Math.Seq.{take-length}
use Rattle.mesa_base.specs.declared.place.Place.{Place}
use Rattle.mesa_lexer.specs.declared.token.Token.{Token}
use Rattle.mesa_lexer.specs.declared.token.Kind.{Kind}
use Rattle.token_cursor.specs.Parsing.{Out, Got, Stop, Parser, ◌>>=◌, and_then, pure, exactly, choose, when, picked, found, Turned, Again, Done, go_on, and_again, many_turn, many, ended_turn, ended}
use Rattle.token_cursor.proofs.Loops.{Eats, unroll}
use Rattle.token_cursor.specs.Running.{next, next_is, skip, taken, behind, with_place}

abbrev pub chosen : {O A : Type 0} → Option (O × Place) → (O → Place → Parser A) → Parser A → Parser A
chosen (Some (o, place)) p q = p o place
chosen None p q = q

picked_by : {O A : Type 0} (p : O → Place → Parser A) (q : Parser A) (t : Token) (ts : List Token) (r : Option O) → picked r p q t ts ≡ chosen (with_place t.place r) p q (cond (found r) ts (t ∷ ts))
picked_by p q t ts (Some o) = refl
picked_by p q t ts None = refl

pub choose_by : {O A : Type 0} (f : Kind → Option O) (p : O → Place → Parser A) (q : Parser A) (ts : List Token) → choose f p q ts ≡ chosen (taken f ts) p q (behind f ts)
unfolding choose taken behind next skip
choose_by f p q [] = refl
choose_by f p q (t ∷ ts) = picked_by p q t ts (f t.kind)

-- ---- one turn of a loop

goes_then : {A B : Type 0} (out : Out A) (f : A → Parser B) → and_then (and_then out (λ a. pure {A = Turned A B} (Again a))) (go_on f) ≡ and_then out f
goes_then (Got a rest) f = refl
goes_then (Stop why rest) f = refl

many_taken : {O A : Type 0} (f : Kind → Option O) (step : A → O → Place → Parser A) (a : A) (ts : List Token) (v : Option (O × Place)) (us : List Token)
    → and_then (chosen v (λ o p. and_again (step a o p)) (pure (Done a)) us) (go_on (many f step)) ≡ chosen v (λ o p. step a o p >>= many f step) (pure a) us
many_taken f step a ts (Some (o, p)) us = goes_then (step a o p us) (many f step)
many_taken f step a ts None us = refl

pub many_by : {O A : Type 0} (f : Kind → Option O) (step : A → O → Place → Parser A) → Eats (many_turn f step) → (a : A) (ts : List Token)
    → many f step a ts ≡ chosen (taken f ts) (λ o p. step a o p >>= many f step) (pure a) (behind f ts)
unfolding many_turn
many_by f step eats a ts = unroll (many_turn f step) eats a ts
    ∙ (ap (λ out. and_then out (go_on (many f step))) (choose_by f (λ o p. and_again (step a o p)) (pure (Done a)) ts) ∙ many_taken f step a ts (taken f ts) (behind f ts))

pub many_falls : {O A : Type 0} (f : Kind → Option O) (step : A → O → Place → Parser A) → Eats (many_turn f step) → (a b : A) (ts rest : List Token)
    → chosen (taken f ts) (λ o p. and_again {B = A} (step a o p)) (pure (Done a)) (behind f ts) ≡ Got (Again b) rest → length rest < length ts
unfolding many_turn
many_falls f step eats a b ts rest e = eats.eats a b ts rest (choose_by f (λ o p. and_again (step a o p)) (pure (Done a)) ts ∙ e)

-- the tokens go one way or the other by what comes next
pub when_by : {A : Type 0} (f : Kind → Bool) (p q : Parser A) (ts : List Token) → when f p q ts ≡ cond (next_is f ts) p q ts
unfolding when next_is next
when_by f p q [] = refl
when_by f p q (t ∷ ts) = refl

ended_when : {A : Type 0} (begins : Kind → Bool) (step : A → Parser A) (loop : A → Parser A) (a : A) (us : List Token) (b : Bool)
    → and_then (cond b (and_again (step a)) (pure (Done a)) us) (go_on loop) ≡ cond b (step a >>= loop) (pure a) us
ended_when begins step loop a us true = goes_then (step a us) loop
ended_when begins step loop a us false = refl

ended_taken : {A : Type 0} (begins : Kind → Bool) (step : A → Parser A) (loop : A → Parser A) (a : A) (v : Option (Unit {0} × Place)) (us : List Token)
    → and_then (chosen v (λ _ p. when begins (and_again (step a)) (pure (Done a))) (pure (Done a)) us) (go_on loop) ≡ chosen v (λ _ p vs. cond (next_is begins vs) (step a >>= loop) (pure a) vs) (pure a) us
ended_taken begins step loop a (Some (o, p)) us = ap (λ out. and_then out (go_on loop)) (when_by begins (and_again (step a)) (pure (Done a)) us) ∙ ended_when begins step loop a us (next_is begins us)
ended_taken begins step loop a None us = refl

pub ended_by : {A : Type 0} (separator : Kind) (begins : Kind → Bool) (step : A → Parser A) → Eats (ended_turn separator begins step) → (a : A) (ts : List Token)
    → ended separator begins step a ts ≡ chosen (taken (exactly separator) ts) (λ _ p us. cond (next_is begins us) (step a >>= ended separator begins step) (pure a) us) (pure a) (behind (exactly separator) ts)
unfolding ended_turn
ended_by separator begins step eats a ts = unroll (ended_turn separator begins step) eats a ts
    ∙ (ap (λ out. and_then out (go_on (ended separator begins step))) (choose_by (exactly separator) (λ _ p. when begins (and_again (step a)) (pure (Done a))) (pure (Done a)) ts)
    ∙ ended_taken begins step (ended separator begins step) a (taken (exactly separator) ts) (behind (exactly separator) ts))

step_taken : {A : Type 0} (begins : Kind → Bool) (step : A → Parser A) (a : A) (v : Option (Unit {0} × Place)) (us : List Token)
    → chosen v (λ _ p. when begins (and_again {B = A} (step a)) (pure (Done a))) (pure (Done a)) us ≡ chosen v (λ _ p vs. cond (next_is begins vs) (and_again {B = A} (step a)) (pure (Done a)) vs) (pure (Done a)) us
step_taken {A = A} begins step a (Some (o, p)) us = when_by begins (and_again {B = A} (step a)) (pure (Done a)) us
step_taken begins step a None us = refl

pub ended_falls : {A : Type 0} (separator : Kind) (begins : Kind → Bool) (step : A → Parser A) → Eats (ended_turn separator begins step) → (a b : A) (ts rest : List Token)
    → chosen (taken (exactly separator) ts) (λ _ p us. cond (next_is begins us) (and_again {B = A} (step a)) (pure (Done a)) us) (pure (Done a)) (behind (exactly separator) ts) ≡ Got (Again b) rest → length rest < length ts
unfolding ended_turn
ended_falls {A = A} separator begins step eats a b ts rest e = eats.eats a b ts rest
    (choose_by (exactly separator) (λ _ p. when begins (and_again {B = A} (step a)) (pure (Done a))) (pure (Done a)) ts ∙ (step_taken begins step a (taken (exactly separator) ts) (behind (exactly separator) ts) ∙ e))

-- ---- the cursor

pub get_next : (ts : List Token) → slice_get ts 0 ≡ next ts
unfolding next
get_next [] = refl
get_next (t ∷ ts) = refl

pub skip_none : (ts : List Token) → length ts < 1 → ts ≡ skip ts
unfolding skip
skip_none [] h = refl
skip_none (t ∷ ts) h = absurd (omega arith)

pub skip_some : (ts : List Token) → take (length ts - 1) (drop 1 ts) ≡ skip ts
unfolding skip
skip_some [] = refl
skip_some (t ∷ ts) = let e : length (t ∷ ts) - 1 ≡ length ts = omega arith in rw e (take-length ts)
