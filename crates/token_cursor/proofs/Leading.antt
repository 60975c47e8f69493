-- What a reading tells of the parser: it comes to the reading's tree, or stops no later than something there is too deep.
use Rattle.std.proofs.Common.{◌≡◌, ◌≤◌, length, arith, cond, true, List, ◌∷◌, Option, Some, None, ◌⊎◌, inl, inr, refl, sym, ap, subst, ◌∙◌}
use Rattle.mesa_base.specs.declared.place.Place.{Place}
use Rattle.mesa_lexer.specs.declared.token.Token.{Token}
use Rattle.mesa_lexer.specs.declared.token.Kind.{Kind}
use Rattle.token_cursor.specs.Parsing.{token, first, TooDeep, Out, Got, Stop, Parser, and_then, pure, refuse, exactly, finds, choose, when, Turned, Again, Done, go_on, repeat, and_again, many_turn, many, ended_turn, ended, too_deep}
use Rattle.token_cursor.proofs.Exact.{Test, Free}
use Rattle.token_cursor.proofs.Branches.{chosen, passed, when_false}
use Rattle.token_cursor.proofs.Loops.{Eats, unroll}

-- the parser stops, because something may be too deep, not after what is too deep in this reading
pub record Early {Y : Type 0} (ts rest : List Token) (o : Option (List Token)) (out : Out Y) : Type 0 where
  pub at : List Token
  pub stops : out ≡ Stop TooDeep at
  pub after : length rest ≤ length at
  pub inside : length at ≤ length ts
  pub by : (u : List Token) → o ≡ Some u → length u ≤ length at

-- From ts the parser comes to x with rest left and goes on with k, or it stops because something may be too deep.
pub record Leads {X Y : Type 0} (ts : List Token) (x : X) (rest : List Token) (o : Option (List Token)) (k : X → Parser Y) (out : Out Y) : Type 0 where
  pub size : length rest ≤ length ts
  pub within : (u : List Token) → o ≡ Some u → length u ≤ length ts
  pub result : ((o ≡ None) × (out ≡ k x rest)) ⊎ Early ts rest o out

-- nothing is left to do
pub stand : {X Y : Type 0} (ts : List Token) (x : X) (k : X → Parser Y) → Leads ts x ts None k (k x ts)
stand ts x k = record { size = omega arith; within = λ u e. absurd (cc); result = inl (refl, refl) }

-- what follows comes to x' at rest
pub finish : {X X' Y : Type 0} {ts mid : List Token} {x : X} {o : Option (List Token)} {k : X → Parser Y} {out : Out Y} (x' : X') (rest : List Token) (k' : X' → Parser Y)
    → Leads ts x mid o k out → k x mid ≡ k' x' rest → length rest ≤ length mid → Leads ts x' rest o k' out
finish {ts = ts} {mid = mid} {x = x} {o = o} {k = k} {out = out} x' rest k' h e le = record { size = let s = h.size in omega arith; within = h.within; result = go h.result }
  where
    go : ((o ≡ None) × (out ≡ k x mid)) ⊎ Early ts mid o out → ((o ≡ None) × (out ≡ k' x' rest)) ⊎ Early ts rest o out
    go (inl p) = inl (p.0, p.1 ∙ e)
    go (inr p) = inr (record { at = p.at; stops = p.stops; after = let s = p.after in omega arith; inside = p.inside; by = p.by })

-- a parser, and then q
pub onto : {X Y : Type 0} {ts mid : List Token} {x : X} {o : Option (List Token)} {out : Out X} (q : X → Parser Y) → Leads ts x mid o (λ y. pure y) out → Leads ts x mid o q (and_then out q)
onto {X = X} {Y = Y} {ts = ts} {mid = mid} {x = x} {o = o} {out = out} q h = record { size = h.size; within = h.within; result = go h.result }
  where
    go : ((o ≡ None) × (out ≡ Got x mid)) ⊎ Early ts mid o out → ((o ≡ None) × (and_then out q ≡ q x mid)) ⊎ Early ts mid o (and_then out q)
    go (inl p) = inl (p.0, ap (λ z. and_then z q) p.1)
    go (inr p) = inr (record { at = p.at; stops = ap (λ z. and_then z q) p.stops; after = p.after; inside = p.inside; by = p.by })

-- the same, where more stands behind the parser already
pub under : {X Y Z : Type 0} {ts rest : List Token} {x : X} {o : Option (List Token)} {k : X → Parser Y} {out : Out Y} (q : Y → Parser Z) → Leads ts x rest o k out → Leads ts x rest o (λ y us. and_then (k y us) q) (and_then out q)
under {X = X} {Y = Y} {ts = ts} {rest = rest} {x = x} {o = o} {k = k} {out = out} q h = record { size = h.size; within = h.within; result = go h.result }
  where
    go : ((o ≡ None) × (out ≡ k x rest)) ⊎ Early ts rest o out → ((o ≡ None) × (and_then out q ≡ and_then (k x rest) q)) ⊎ Early ts rest o (and_then out q)
    go (inl p) = inl (p.0, ap (λ z. and_then z q) p.1)
    go (inr p) = inr (record { at = p.at; stops = ap (λ z. and_then z q) p.stops; after = p.after; inside = p.inside; by = p.by })

first_some : (o o' : Option (List Token)) (u : List Token) → first o o' ≡ Some u → (o ≡ Some u) ⊎ ((o ≡ None) × (o' ≡ Some u))
first_some None o' u e = inr (refl, e)
first_some (Some v) o' u e = inl e

-- one after the other
pub comp : {X Z Y : Type 0} {ts mid rest : List Token} {x : X} {z : Z} {o o' : Option (List Token)} {k : X → Parser Y} {k' : Z → Parser Y} {out : Out Y}
    → Leads ts x mid o k out → Leads mid z rest o' k' (k x mid) → Leads ts z rest (first o o') k' out
comp {ts = ts} {mid = mid} {rest = rest} {x = x} {z = z} {o = o} {o' = o'} {k = k} {k' = k'} {out = out} h g = record {
  size = let s = h.size in let s' = g.size in omega arith;
  within = λ u e. within_of u (first_some o o' u e);
  result = go h.result;
}
  where
    within_of : (u : List Token) → (o ≡ Some u) ⊎ ((o ≡ None) × (o' ≡ Some u)) → length u ≤ length ts
    within_of u (inl e) = h.within u e
    within_of u (inr e) = let s = h.size in let s' : length u ≤ length mid = g.within u e.1 in omega arith

    by_of : (at : List Token) → length mid ≤ length at → ((u : List Token) → o ≡ Some u → length u ≤ length at) → (u : List Token) → (o ≡ Some u) ⊎ ((o ≡ None) × (o' ≡ Some u)) → length u ≤ length at
    by_of at s b u (inl e) = b u e
    by_of at s b u (inr e) = let s' : length u ≤ length mid = g.within u e.1 in omega arith

    later : (o ≡ None) → out ≡ k x mid → ((o' ≡ None) × (k x mid ≡ k' z rest)) ⊎ Early mid rest o' (k x mid) → ((first o o' ≡ None) × (out ≡ k' z rest)) ⊎ Early ts rest (first o o') out
    later e f (inl p) = inl (ap (λ v. first v o') e ∙ p.0, f ∙ p.1)
    later e f (inr p) = inr (record {
      at = p.at;
      stops = f ∙ p.stops;
      after = p.after;
      inside = let s = p.inside in let s' = h.size in omega arith;
      by = λ u d. p.by u (sym (ap (λ v. first v o') e) ∙ d);
    })

    go : ((o ≡ None) × (out ≡ k x mid)) ⊎ Early ts mid o out → ((first o o' ≡ None) × (out ≡ k' z rest)) ⊎ Early ts rest (first o o') out
    go (inl p) = later p.0 p.1 g.result
    go (inr p) = inr (record {
      at = p.at;
      stops = p.stops;
      after = let s = p.after in let s' = g.size in omega arith;
      inside = p.inside;
      by = λ u e. by_of p.at p.after p.by u (first_some o o' u e);
    })

-- the last part, after which the tree is made
pub last : {X Z : Type 0} {ts rest : List Token} {x : X} {o : Option (List Token)} {out : Out X} (f : X → Z) → Leads ts x rest o (λ y. pure y) out → Leads ts (f x) rest (first o None) (λ y. pure y) (and_then out (λ y. pure (f y)))
last {rest = rest} {x = x} f h = comp (onto (λ y. pure (f y)) h) (stand rest (f x) (λ y. pure y))

-- a token before it
pub ahead : {X Y : Type 0} (t : Token) {ts rest : List Token} {x : X} {o : Option (List Token)} {k : X → Parser Y} {out : Out Y} → Leads ts x rest o k out → Leads (t ∷ ts) x rest o k out
ahead t {ts = ts} {rest = rest} {x = x} {o = o} {k = k} {out = out} h = record {
  size = let s = h.size in omega arith;
  within = λ u e. let s : length u ≤ length ts = h.within u e in omega arith;
  result = go h.result;
}
  where
    go : ((o ≡ None) × (out ≡ k x rest)) ⊎ Early ts rest o out → ((o ≡ None) × (out ≡ k x rest)) ⊎ Early (t ∷ ts) rest o out
    go (inl p) = inl p
    go (inr p) = inr (record { at = p.at; stops = p.stops; after = p.after; inside = let s = p.inside in omega arith; by = p.by })

-- the parser does what another does
pub via : {X Y : Type 0} {ts rest : List Token} {x : X} {o : Option (List Token)} {k : X → Parser Y} {out out' : Out Y} → out' ≡ out → Leads ts x rest o k out → Leads ts x rest o k out'
via {ts = ts} {rest = rest} {x = x} {o = o} {k = k} e h = subst (λ z. Leads ts x rest o k z) (sym e) h

pub placed : {X Y : Type 0} {ts rest : List Token} {x : X} {o o' : Option (List Token)} {k : X → Parser Y} {out : Out Y} → o ≡ o' → Leads ts x rest o k out → Leads ts x rest o' k out
placed {ts = ts} {rest = rest} {x = x} {k = k} {out = out} e h = subst (λ z. Leads ts x rest z k out) e h

-- the parser stops at once
pub at_once : {X Y : Type 0} {ts rest : List Token} {x : X} {o : Option (List Token)} {k : X → Parser Y} {out : Out Y} → out ≡ Stop TooDeep ts → length rest ≤ length ts → ((u : List Token) → o ≡ Some u → length u ≤ length ts) → Leads ts x rest o k out
at_once {ts = ts} e s w = record { size = s; within = w; result = inr (record { at = ts; stops = e; after = s; inside = omega arith; by = w }) }

-- ---- choices

-- a token in which the test finds something
pub taking : {O A X : Type 0} (f : Kind → Option O) (p : O → Place → Parser A) (q : Parser A) {ts rest : List Token} {x : X} {o : Option (List Token)} {k : X → Parser A} (v : O) (t : Token) → f t.kind ≡ Some v
    → Leads ts x rest o k (p v t.place ts) → Leads (t ∷ ts) x rest o k (choose f p q (t ∷ ts))
taking f p q {ts = ts} v t e h = via (chosen f p q v t ts e) (ahead t h)

-- none
pub passing : {O A X : Type 0} (f : Kind → Option O) (p : O → Place → Parser A) (q : Parser A) {ts rest : List Token} {x : X} {o : Option (List Token)} {k : X → Parser A} → Free (finds f) ts
    → Leads ts x rest o k (q ts) → Leads ts x rest o k (choose f p q ts)
passing f p q {ts = ts} e h = via (passed f p q ts e) h

-- ---- loops

-- one turn
pub turn_leads : {A B : Type 0} (body : A → Parser (Turned A B)) → Eats body → (x y : A) (ts rest : List Token) (o : Option (List Token)) → Leads {X = Turned A B} ts (Again y) rest o (λ z. pure z) (body x ts) → Leads ts y rest o (repeat body) (repeat body x ts)
turn_leads body eating x y ts rest o h = via (unroll body eating x ts) (finish y rest (repeat body) (onto (go_on (repeat body)) h) refl (omega arith))

pub loop_ends : {A B : Type 0} (body : A → Parser (Turned A B)) → Eats body → (x : A) (y : B) (ts rest : List Token) → body x ts ≡ Got (Done y) rest → repeat body x ts ≡ Got y rest
loop_ends body eating x y ts rest e = unroll body eating x ts ∙ ap (λ z. and_then z (go_on (repeat body))) e

went : {A B : Type 0} {ts rest : List Token} {x : A} {o : Option (List Token)} {out : Out A} → Leads ts x rest o (λ y. pure y) out → Leads {X = Turned A B} ts (Again x) rest o (λ y. pure y) (and_then out (λ a. pure (Again a)))
went {rest = rest} {x = x} h = finish (Again x) rest (λ y. pure y) (onto (λ a. pure (Again a)) h) refl (omega arith)

pub many_more : {O A : Type 0} (f : Kind → Option O) (step : A → O → Place → Parser A) → Eats (many_turn f step) → {x y : A} {ts rest : List Token} {o : Option (List Token)} (v : O) (t : Token) → f t.kind ≡ Some v
    → Leads ts y rest o (λ z. pure z) (step x v t.place ts) → Leads (t ∷ ts) y rest o (many f step) (many f step x (t ∷ ts))
unfolding many_turn
many_more f step eats {x = x} {y = y} {ts = ts} {rest = rest} {o = o} v t e h = turn_leads (many_turn f step) eats x y (t ∷ ts) rest o (taking f (λ o place. and_again (step x o place)) (pure (Done x)) v t e (went h))

pub many_end : {O A : Type 0} (f : Kind → Option O) (step : A → O → Place → Parser A) → Eats (many_turn f step) → (x : A) (ts : List Token) → Free (finds f) ts → many f step x ts ≡ Got x ts
unfolding many_turn
many_end f step eats x ts e = loop_ends (many_turn f step) eats x x ts ts (passed f (λ o place. and_again (step x o place)) (pure (Done x)) ts e)

-- how a text begins
pub record Begins (test : Test) (ts : List Token) : Type 0 where
  pub token : Token
  pub back : List Token
  pub is : ts ≡ token ∷ back
  pub begins : test token.kind ≡ true

pub when_begins : {A : Type 0} (f : Test) (p q : Parser A) (ts : List Token) → Begins f ts → when f p q ts ≡ p ts
unfolding when
when_begins f p q ts b = subst (λ z. when f p q z ≡ p z) (sym b.is) (ap (λ z. cond z p q (b.token ∷ b.back)) b.begins)

pub ended_more : {A : Type 0} (separator : Kind) (begins : Test) (step : A → Parser A) → Eats (ended_turn separator begins step) → {x y : A} {ts rest : List Token} {o : Option (List Token)} (place : Place) → exactly separator separator ≡ Some tt → Begins begins ts
    → Leads ts y rest o (λ z. pure z) (step x ts) → Leads (token separator place ∷ ts) y rest o (ended separator begins step) (ended separator begins step x (token separator place ∷ ts))
unfolding ended_turn
ended_more separator begins step eats {x = x} {y = y} {ts = ts} {rest = rest} {o = o} place e b h =
    turn_leads (ended_turn separator begins step) eats x y (token separator place ∷ ts) rest o (taking (exactly separator) (λ _ _. when begins (and_again (step x)) (pure (Done x))) (pure (Done x)) tt (token separator place) e (via (when_begins begins (and_again (step x)) (pure (Done x)) ts b) (went h)))

pub ended_bare : {A : Type 0} (separator : Kind) (begins : Test) (step : A → Parser A) → Eats (ended_turn separator begins step) → (x : A) (ts : List Token) → Free (finds (exactly separator)) ts → ended separator begins step x ts ≡ Got x ts
unfolding ended_turn
ended_bare separator begins step eats x ts e = loop_ends (ended_turn separator begins step) eats x x ts ts (passed (exactly separator) (λ _ _. when begins (and_again (step x)) (pure (Done x))) (pure (Done x)) ts e)

pub ended_closed : {A : Type 0} (separator : Kind) (begins : Test) (step : A → Parser A) → Eats (ended_turn separator begins step) → (x : A) (place : Place) (ts : List Token) → exactly separator separator ≡ Some tt → Free begins ts
    → ended separator begins step x (token separator place ∷ ts) ≡ Got x ts
unfolding ended_turn
ended_closed separator begins step eats x place ts e f = loop_ends (ended_turn separator begins step) eats x x (token separator place ∷ ts) ts
    (chosen (exactly separator) (λ _ _. when begins (and_again (step x)) (pure (Done x))) (pure (Done x)) tt (token separator place) ts e ∙ when_false begins (and_again (step x)) (pure (Done x)) ts f)

-- ---- where nothing more may nest

pub stops_deep : {A : Type 0} (begins : Test) (ts : List Token) → Begins begins ts → too_deep {A = A} begins ts ≡ Stop TooDeep ts
unfolding too_deep
stops_deep begins ts b = when_begins begins (λ ts. Stop TooDeep ts) refuse ts b

pub own_place : (ts u : List Token) → Some ts ≡ Some u → length u ≤ length ts
own_place ts u h = let same : ts ≡ u = cc in omega (arith, ap length same)

-- ---- two steps as one

pub regroup : {A B C : Type 0} (out : Out A) (g : A → Parser B) (q : B → Parser C) → and_then out (λ a ts. and_then (g a ts) q) ≡ and_then (and_then out g) q
regroup (Got a rest) g q = refl
regroup (Stop why rest) g q = refl

pub done_on : {A B : Type 0} (out : Out B) (g : A → Parser B) → and_then (and_then out (λ x. pure (Done x))) (go_on g) ≡ out
done_on (Got x rest) g = refl
done_on (Stop why rest) g = refl
