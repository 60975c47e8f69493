-- Parsers that repeat a step.
use Rattle.std.proofs.Common.{◌≡◌, ℕ, zero, suc, ◌<◌, ◌≤◌, length, arith, Bool, cond, true, false, List, [], ◌∷◌, Option, Some, None, refl, sym, ap, subst, ◌∙◌}
use Rattle.mesa_base.specs.declared.place.Place.{Place}
use Rattle.mesa_lexer.specs.declared.token.Token.{Token}
use Rattle.mesa_lexer.specs.declared.token.Kind.{Kind}
use Rattle.token_cursor.specs.Parsing.{token, first, Out, Got, Stop, Parser, and_then, ◌>>=◌, pure, refuse, exactly, picked, choose, when, Turned, Again, Done, go_on, turns, repeat, and_again, many_turn, many, ended_turn, ended}
use Rattle.token_cursor.proofs.Exact.{Test, Rel, first_none, first_assoc, Holds, Sample, Keeps, bound, change, done, Then, Took, implied, imply, bind, shrinks, Pre}
use Rattle.token_cursor.proofs.Branches.{somewhere, choose_or, option_or, when_keeps}

-- what a step tells of the state before it, where R says what the loop reads from a state
abbrev pub Turn : {A B : Type 0} → (A → Rel B) → A → Rel (Turned A B)
Turn {B = B} R a ts (Again a') mid o = (x : B) (rest : List Token) (o' : Option (List Token)) → R a' mid x rest o' → R a ts x rest (first o o')
Turn R a ts (Done b) rest o = R a ts b rest o

-- a step that goes on takes a token
pub record Eats {A B : Type 0} (body : A → Parser (Turned A B)) : Type 0 where
  pub eats : (a b : A) (ts rest : List Token) → body a ts ≡ Got (Again b) rest → length rest < length ts

module _ {A B : Type 0} (body : A → Parser (Turned A B)) (eating : Eats body) where
  alike : (f g : A → Parser B) (a : A) (ts : List Token) (out : Out (Turned A B)) → body a ts ≡ out → ((b : A) (rest : List Token) → length rest < length ts → f b rest ≡ g b rest) → and_then out (go_on f) ≡ and_then out (go_on g)
  alike f g a ts (Got (Again b) rest) e h = h b rest (eating.eats a b ts rest e)
  alike f g a ts (Got (Done b) rest) e h = refl
  alike f g a ts (Stop why rest) e h = refl

  enough : (n m : ℕ) (a : A) (ts : List Token) → length ts ≤ n → length ts ≤ m → turns body n a ts ≡ turns body m a ts
  unfolding turns
  enough zero zero a ts h h' = refl
  enough zero (suc m) a ts h h' = alike (λ _. refuse) (turns body m) a ts (body a ts) refl (λ b rest lt. absurd (omega arith))
  enough (suc n) zero a ts h h' = alike (turns body n) (λ _. refuse) a ts (body a ts) refl (λ b rest lt. absurd (omega arith))
  enough (suc n) (suc m) a ts h h' = alike (turns body n) (turns body m) a ts (body a ts) refl (λ b rest lt. enough n m b rest (omega arith) (omega arith))

  one_turn : (n : ℕ) (a : A) (ts : List Token) → length ts ≤ n → turns body (suc n) a ts ≡ and_then (body a ts) (go_on (repeat body))
  unfolding turns repeat
  one_turn n a ts h = alike (turns body n) (repeat body) a ts (body a ts) refl (λ b rest lt. enough n (length rest) b rest (omega arith) (omega arith))

  pub unroll : (a : A) (ts : List Token) → repeat body a ts ≡ and_then (body a ts) (go_on (repeat body))
  unfolding repeat
  unroll a ts = enough (length ts) (suc (length ts)) a ts (omega arith) (omega arith) ∙ one_turn (length ts) a ts (omega arith)

  module _ (c : Test) (R : A → Rel B) (turn : (a : A) → Keeps c c (Turn R a) (body a)) (stops : (a : A) → Sample c c (R a)) where
    sampled : (a : A) (s : Turned A B) → Sample c c (Then (Turn R a) (R a) s)
    sampled a (Again b) = record { text = (stops b).text; made = (stops b).made; viable = λ ws e. let v = (stops b).viable ws e in (v.0, (λ us o' d. d _ _ _ v.1), v.2) }
    sampled a (Done x) = record { text = []; made = x; viable = λ ws e. (None, (λ us o' d. subst (λ z. R a us x ws z) (sym (first_none o')) d), e) }

    next_turn : (a : A) (ts : List Token) → ((b : A) (rest : List Token) → length rest < length ts → Holds c c (R b) (repeat body b) rest (repeat body b rest))
        → (s : Turned A B) (mid : List Token) → body a ts ≡ Got s mid → Holds c c (Then (Turn R a) (R a) s) (go_on (repeat body) s) mid (go_on (repeat body) s mid)
    next_turn a ts hyp (Again b) mid e = implied c c (R b) (Then (Turn R a) (R a) (Again b)) (repeat body b) (λ ts x rest o r us o' d. d x rest o r) mid (repeat body b mid) (hyp b mid (eating.eats a b ts mid e))
    next_turn a ts hyp (Done x) mid e = (done {c = c} {R = Then (Turn R a) (R a) (Done x)} x (λ ws us o' d. subst (λ z. R a us x ws z) (sym (first_none o')) d)).holds mid

    one_more : (a : A) (ts : List Token) → ((b : A) (rest : List Token) → length rest < length ts → Holds c c (R b) (repeat body b) rest (repeat body b rest)) → Holds c c (R a) (repeat body a) ts (repeat body a ts)
    one_more a ts hyp =
        let whole : Parser B = body a >>= go_on (repeat body) in
        let known : Holds c c (R a) whole ts (whole ts) = bound c c c (Turn R a) (R a) (body a) (go_on (repeat body)) (sampled a) ts (body a ts) (next_turn a ts hyp) ((turn a).holds ts) in
        let moved : Holds c c (R a) (repeat body a) ts (whole ts) = change c c (R a) whole (repeat body a) ts (λ z e. unroll a z) (whole ts) known in
        subst (λ out. Holds c c (R a) (repeat body a) ts out) (sym (unroll a ts)) moved

    after_turn : (n : ℕ) (a : A) (ts : List Token) → length ts ≤ n → Holds c c (R a) (repeat body a) ts (repeat body a ts)
    after_turn zero a ts h = one_more a ts (λ b rest lt. absurd (omega arith))
    after_turn (suc n) a ts h = one_more a ts (λ b rest lt. after_turn n b rest (omega arith))

    pub loop : (a : A) → Keeps c c (R a) (repeat body a)
    loop a = record { holds = λ ts. after_turn (length ts) a ts (omega arith); sample = stops a }

-- ---- loops that make longer what they read, as in S = I | S "," I, and in the end T = S [";"]

-- what stands before is written down in S; in the end it is in T
abbrev pub Steps : {X Z : Type 0} → Rel X → Rel Z → X → Rel (Turned X Z)
Steps S T x ts (Again y) rest o = Then S S x ts y rest o
Steps S T x ts (Done y) rest o = Then S T x ts y rest o

turned : {X Z : Type 0} (S : Rel X) (T : Rel Z) (x : X) (ts : List Token) (s : Turned X Z) (rest : List Token) (o : Option (List Token)) → Steps S T x ts s rest o → Turn (Then S T) x ts s rest o
turned S T x ts (Again y) mid o g = λ z rest o2 h us o' d. subst (λ v. T us z rest v) (first_assoc o' o o2) (h us (first o' o) (g us o' d))
turned S T x ts (Done y) rest o g = g

pub growing : {X Z : Type 0} {c : Test} (S : Rel X) (T : Rel Z) (body : X → Parser (Turned X Z)) → Eats body → ((x : X) → Keeps c c (Steps S T x) (body x)) → ((x : X) → Sample c c (Then S T x)) → (x : X) → Keeps c c (Then S T x) (repeat body x)
growing {c = c} S T body eats turn stops x = loop body eats c (Then S T) (λ x. imply (turned S T x) (turn x)) stops x

pub stays : {X : Type 0} (S : Rel X) (x : X) (ws : List Token) → Then S S x ws x ws None
stays S x ws us o' d = subst (λ z. S us x ws z) (sym (first_none o')) d

pub stay : {X : Type 0} {c : Test} (S : Rel X) (x : X) → Sample c c (Then S S x)
stay S x = record { text = []; made = x; viable = λ ws e. (None, stays S x ws, e) }

-- what a step came to goes on
pub going : {X Z : Type 0} {k c : Test} (S : Rel X) (T : Rel Z) (x : X) (t : Token) {p : Parser X} → Keeps k c (Took t (Then S S x)) p → Keeps k c (Took t (Steps S T x)) (and_again p)
going S T x t h = bind h (λ y. done (Again y) (λ ws us o d us0 o0 d0. subst (λ z. S us0 y ws (first o0 z)) (sym (first_none o)) (d us0 o0 d0)))

goes_on : {A B : Type 0} (out : Out A) (b : A) (rest : List Token) → and_then out (λ a. pure {A = Turned A B} (Again a)) ≡ Got (Again b) rest → out ≡ Got b rest
goes_on (Got a mid) b rest e = let same : a ≡ b = cc in let there : mid ≡ rest = cc in ap (λ z. Got z mid) same ∙ ap (λ z. Got b z) there
goes_on (Stop why mid) b rest e = absurd (cc)

-- ---- as long as a test finds something

module _ {O X : Type 0} {k c : Test} (R : X → Token → Rel X) (f : Kind → Option O) (step : X → O → Place → Parser X)
    (keeps : (x : X) (o : O) (place : Place) (kind : Kind) → f kind ≡ Some o → Keeps k c (R x (token kind place)) (step x o place)) where
  many_eat : (x y : X) (t : Token) (ts rest : List Token) (r : Option O) → f t.kind ≡ r → picked r (λ o place. and_again {B = X} (step x o place)) (pure (Done x)) t ts ≡ Got (Again y) rest → length rest < length (t ∷ ts)
  many_eat x y t ts rest (Some o) e h = let s : length rest ≤ length ts = shrinks (step x o t.place) (keeps x o t.place t.kind e) ts y rest (goes_on (step x o t.place ts) y rest h) in omega arith
  many_eat x y t ts rest None e h = absurd (cc)

  pub many_eats : Eats (many_turn f step)
  unfolding many_turn choose
  many_eats = record { eats = go }
    where
      go : (x y : X) (ts rest : List Token) → many_turn f step x ts ≡ Got (Again y) rest → length rest < length ts
      go x y [] rest e = absurd (cc)
      go x y (t ∷ ts) rest e = many_eat x y t ts rest (f t.kind) refl e

pub many_keeps : {O X : Type 0} {k c : Test} (S : Rel X) (f : Kind → Option O) (step : X → O → Place → Parser X)
    → ((x : X) (o : O) (place : Place) (kind : Kind) → f kind ≡ Some o → Keeps k c (Took (token kind place) (Then S S x)) (step x o place))
    → (x : X) → Keeps c c (Then S S x) (many f step x)
unfolding many_turn
many_keeps {X = X} {k = k} {c = c} S f step keeps x = growing S S (many_turn f step) (many_eats (λ x t. Took t (Then S S x)) f step keeps) turn (stay S) x
  where
    turn : (x : X) → Keeps c c (Steps S S x) (many_turn f step x)
    turn x = choose_or (λ o place kind e. going S S x (token kind place) (keeps x o place kind e)) (done (Done x) (stays S x))

-- ---- further items, each after a separator, with one more at the end or not

module _ {X : Type 0} {k c : Test} (R : X → Rel X) (separator : Kind) (begins : Test) (step : X → Parser X) (keeps : (x : X) → Keeps k c (R x) (step x)) where
  item_eat : (x y : X) (ts rest : List Token) → when begins (and_again {B = X} (step x)) (pure (Done x)) ts ≡ Got (Again y) rest → length rest ≤ length ts
  unfolding when
  item_eat x y [] rest e = absurd (cc)
  item_eat x y (t ∷ ts) rest e = go (begins t.kind) e
    where
      go : (b : Bool) → cond b (and_again {B = X} (step x)) (pure (Done x)) (t ∷ ts) ≡ Got (Again y) rest → length rest ≤ length (t ∷ ts)
      go true e = shrinks (step x) (keeps x) (t ∷ ts) y rest (goes_on (step x (t ∷ ts)) y rest e)
      go false e = absurd (cc)

  ended_eat : (x y : X) (t : Token) (ts rest : List Token) (r : Option (Unit {0})) → exactly separator t.kind ≡ r → picked r (λ _ _. when begins (and_again {B = X} (step x)) (pure (Done x))) (pure (Done x)) t ts ≡ Got (Again y) rest → length rest < length (t ∷ ts)
  ended_eat x y t ts rest (Some o) e h = let s : length rest ≤ length ts = item_eat x y ts rest h in omega arith
  ended_eat x y t ts rest None e h = absurd (cc)

  pub ended_eats : Eats (ended_turn separator begins step)
  unfolding ended_turn choose
  ended_eats = record { eats = go }
    where
      go : (x y : X) (ts rest : List Token) → ended_turn separator begins step x ts ≡ Got (Again y) rest → length rest < length ts
      go x y [] rest e = absurd (cc)
      go x y (t ∷ ts) rest e = ended_eat x y t ts rest (exactly separator t.kind) refl e

-- what stops is in T with a separator and without
pub ended_keeps : {X : Type 0} {c : Test} (S T : Rel X) (separator : Kind) (begins : Test) (step : X → Parser X)
    → ((x : X) (place : Place) → Keeps c c (Took (token separator place) (Then S S x)) (step x)) → ((x : X) (ws : List Token) → Then S T x ws x ws None)
    → ((x : X) (place : Place) (ws : List Token) → Took (token separator place) (Then S T x) ws x ws None) → (x : X) → Keeps c c (Then S T x) (ended separator begins step x)
unfolding ended_turn
ended_keeps {X = X} {c = c} S T separator begins step keeps bare closed x = growing S T (ended_turn separator begins step) (ended_eats (λ x. Took (token separator somewhere) (Then S S x)) separator begins step (λ x. keeps x somewhere)) turn stops x
  where
    stops : (x : X) → Sample c c (Then S T x)
    stops x = record { text = []; made = x; viable = λ ws e. (None, bare x ws, e) }

    turn : (x : X) → Keeps c c (Steps S T x) (ended_turn separator begins step x)
    turn x = option_or separator (λ place. when_keeps begins (going S T x (token separator place) (keeps x place)) (done (Done x) (closed x place))) (done (Done x) (bare x))

-- ---- a first item, and then the loop

pub listed : {A X Z : Type 0} {k c : Test} {I : Rel A} (S : Rel X) (T : Rel Z) (pre : List Token → List Token) (f : A → X) {p : Parser A} {loop : X → Parser Z}
    → ((us rest : List Token) (a : A) (o : Option (List Token)) → I us a rest o → S (pre us) (f a) rest o)
    → Keeps k c I p → ((x : X) → Keeps c c (Then S T x) (loop x)) → Keeps k c (Pre pre T) (p >>= (λ a. loop (f a)))
listed S T pre f one item more = bind item (λ a. imply (λ ts y rest o g us o' d. g (pre us) o' (one us ts a o' d)) (more (f a)))

-- the same, where what the loop comes to is a part of the tree
pub series : {A X Z : Type 0} {k c : Test} {I : Rel A} (S : A → Rel X) (T : Rel Z) (pre : List Token → List Token) (f : A → X) (F : A → X → Z) {p : Parser A} {loop : A → Parser X}
    → ((us rest : List Token) (a : A) (o : Option (List Token)) → I us a rest o → S a (pre us) (f a) rest o)
    → ((us rest : List Token) (a : A) (x : X) (o : Option (List Token)) → S a us x rest o → T us (F a x) rest o)
    → Keeps k c I p → ((a : A) → Keeps c c (Then (S a) (S a) (f a)) (loop a)) → Keeps k c (Pre pre T) (p >>= (λ a. loop a >>= (λ x. pure (F a x))))
series S T pre f F one whole item more = bind item (λ a. bind (more a) (λ x. done (F a x) (λ ws us o d us1 o1 d1.
    subst (λ z. T (pre us1) (F a x) ws (first o1 z)) (sym (first_none o)) (whole (pre us1) ws a x (first o1 o) (d (pre us1) o1 (one us1 us a o1 d1))))))

-- ---- steps that take a token where they go on

pub record Less {A B : Type 0} (p : Parser (Turned A B)) : Type 0 where
  pub less : (b : A) (ts rest : List Token) → p ts ≡ Got (Again b) rest → length rest < length ts

pub record NoMore {A B : Type 0} (p : Parser (Turned A B)) : Type 0 where
  pub no_more : (b : A) (ts rest : List Token) → p ts ≡ Got (Again b) rest → length rest ≤ length ts

pub eats_by : {A B : Type 0} {body : A → Parser (Turned A B)} → ((a : A) → Less (body a)) → Eats body
eats_by h = record { eats = λ a b ts rest e. (h a).less b ts rest e }

never : {A B C : Type 0} (out : Out C) (f : C → B) (b : A) (rest : List Token) → and_then out (λ x. pure (Done (f x))) ≡ Got (Again b) rest → ⊥
never (Got x mid) f b rest e = cc
never (Stop why mid) f b rest e = cc

pub less_done : {A B C : Type 0} (p : Parser C) (f : C → B) → Less {A = A} (p >>= (λ x. pure (Done (f x))))
less_done p f = record { less = λ b ts rest e. absurd (never (p ts) f b rest e) }

pub no_more_done : {A B C : Type 0} (p : Parser C) (f : C → B) → NoMore {A = A} (p >>= (λ x. pure (Done (f x))))
no_more_done p f = record { no_more = λ b ts rest e. absurd (never (p ts) f b rest e) }

pub no_more_pure : {A B : Type 0} (s : Turned A B) → NoMore (pure s)
no_more_pure s = record { no_more = λ b ts rest e. let same : ts ≡ rest = cc in omega (arith, ap length same) }

more_goes : {A B C : Type 0} (out : Out C) (f : C → A) (b : A) (rest : List Token) → and_then out (λ a. pure {A = Turned A B} (Again (f a))) ≡ Got (Again b) rest → (a : C) × (out ≡ Got a rest)
more_goes (Got a mid) f b rest e = let there : mid ≡ rest = cc in (a, ap (λ z. Got a z) there)
more_goes (Stop why mid) f b rest e = absurd (cc)

pub no_more_goes : {A B C : Type 0} {k c : Test} {R : Rel C} {p : Parser C} (f : C → A) → Keeps k c R p → NoMore {A = A} {B = B} (p >>= (λ x. pure (Again (f x))))
no_more_goes {p = p} f h = record { no_more = λ b ts rest e. let m = more_goes (p ts) f b rest e in shrinks p h ts m.0 rest m.1 }

picked_less : {O A B : Type 0} (p : O → Place → Parser (Turned A B)) (q : Parser (Turned A B)) → ((o : O) (place : Place) → NoMore (p o place)) → Less q → (b : A) (t : Token) (ts rest : List Token) (r : Option O) → picked r p q t ts ≡ Got (Again b) rest → length rest < length (t ∷ ts)
picked_less p q h g b t ts rest (Some o) e = let s : length rest ≤ length ts = (h o t.place).no_more b ts rest e in omega arith
picked_less p q h g b t ts rest None e = g.less b (t ∷ ts) rest e

pub less_choose : {O A B : Type 0} (f : Kind → Option O) (p : O → Place → Parser (Turned A B)) (q : Parser (Turned A B)) → ((o : O) (place : Place) → NoMore (p o place)) → Less q → Less (choose f p q)
unfolding choose
less_choose {A = A} f p q h g = record { less = go }
  where
    go : (b : A) (ts rest : List Token) → choose f p q ts ≡ Got (Again b) rest → length rest < length ts
    go b [] rest e = g.less b [] rest e
    go b (t ∷ ts) rest e = picked_less p q h g b t ts rest (f t.kind) e

picked_no_more : {O A B : Type 0} (p : O → Place → Parser (Turned A B)) (q : Parser (Turned A B)) → ((o : O) (place : Place) → NoMore (p o place)) → NoMore q → (b : A) (t : Token) (ts rest : List Token) (r : Option O) → picked r p q t ts ≡ Got (Again b) rest → length rest ≤ length (t ∷ ts)
picked_no_more p q h g b t ts rest (Some o) e = let s : length rest ≤ length ts = (h o t.place).no_more b ts rest e in omega arith
picked_no_more p q h g b t ts rest None e = g.no_more b (t ∷ ts) rest e

pub no_more_choose : {O A B : Type 0} (f : Kind → Option O) (p : O → Place → Parser (Turned A B)) (q : Parser (Turned A B)) → ((o : O) (place : Place) → NoMore (p o place)) → NoMore q → NoMore (choose f p q)
unfolding choose
no_more_choose {A = A} f p q h g = record { no_more = go }
  where
    go : (b : A) (ts rest : List Token) → choose f p q ts ≡ Got (Again b) rest → length rest ≤ length ts
    go b [] rest e = g.no_more b [] rest e
    go b (t ∷ ts) rest e = picked_no_more p q h g b t ts rest (f t.kind) e

pub no_more_when : {A B : Type 0} (f : Test) (p q : Parser (Turned A B)) → NoMore p → NoMore q → NoMore (when f p q)
unfolding when
no_more_when {A = A} f p q h g = record { no_more = go }
  where
    by : (v : Bool) (b : A) (ts rest : List Token) → cond v p q ts ≡ Got (Again b) rest → length rest ≤ length ts
    by true b ts rest e = h.no_more b ts rest e
    by false b ts rest e = g.no_more b ts rest e

    go : (b : A) (ts rest : List Token) → when f p q ts ≡ Got (Again b) rest → length rest ≤ length ts
    go b [] rest e = g.no_more b [] rest e
    go b (t ∷ ts) rest e = by (f t.kind) b (t ∷ ts) rest e

pub less_either : {A B : Type 0} (v : Bool) {p q : Parser (Turned A B)} → Less p → Less q → Less (cond v p q)
less_either true h g = h
less_either false h g = g

-- a step that stops with what a parser reads
pub stopping : {X Z : Type 0} {k c : Test} (S : Rel X) (T : Rel Z) (x : X) (pre : List Token → List Token) {p : Parser Z} → Keeps k c (Pre pre (Then S T x)) p → Keeps k c (Pre pre (Steps S T x)) (p >>= (λ y. pure (Done y)))
stopping S T x pre h = bind h (λ y. done (Done y) (λ ws us o d us0 o0 d0. subst (λ z. T us0 y ws (first o0 z)) (sym (first_none o)) (d us0 o0 d0)))
