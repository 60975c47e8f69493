-- Parsers that decide by the next token.
use Rattle.std.proofs.Common.{◌≡◌, ℕ, Bool, cond, true, false, ◌||◌, List, [], ◌∷◌, ◌++◌, Option, Some, None, ◌⊎◌, inl, inr, refl, sym, ap, subst, rules}
use denote.Enum.Bare.{same_true}
use Rattle.mesa_base.specs.declared.place.Place.{Place}
use Rattle.mesa_lexer.specs.declared.token.Token.{Token}
use Rattle.mesa_lexer.specs.declared.token.Kind.{Kind}
use Rattle.mesa_lexer.specs.declared.token.Kind.TheVariants as k
use Rattle.mesa_lexer.specs.contracts.word.Word as words
use Rattle.mesa_lexer.specs.contracts.mark.Mark as marks
use Rattle.token_cursor.specs.Parsing.{token, TooDeep, Stop, Parser, ◌>>=◌, refuse, only, among, exactly, found, finds, a_name, picked, choose, option, need, when, too_deep}
use Rattle.token_cursor.proofs.Exact.{Test, Rel, Free, Same, Holds, Sample, Keeps, At, everywhere, change, refused, done, Took, behind, imply, Plainly, Past, bind_plain}

-- a place for the tokens of examples
abbrev pub somewhere : Place
somewhere = record { token = 0; line = 1; column = 1 }

-- ---- kinds

pub only_is : (kind other : Kind) → only kind other ≡ true → other ≡ kind
only_is (k.Word a) (k.Word b) h = ap k.Word (same_true words.the_type (search rules) b a h)
only_is (k.Mark a) (k.Mark b) h = ap k.Mark (same_true marks.the_type (search rules) b a h)
only_is _ _ h = absurd (cc)

exact_is : (kind other : Kind) (b : Bool) (u : Unit {0}) → only kind other ≡ b → cond b (Some tt) None ≡ Some u → other ≡ kind
exact_is kind other true u h e = only_is kind other h
exact_is kind other false u h e = absurd (cc)

pub exactly_is : (kind other : Kind) (u : Unit {0}) → exactly kind other ≡ Some u → other ≡ kind
exactly_is kind other u e = exact_is kind other (only kind other) u refl e

pub name_is : (kind : Kind) (n : List ℕ) → a_name kind ≡ Some n → kind ≡ k.Name n
name_is (k.Name m) n e = let same : m ≡ n = cc in ap k.Name same
name_is _ n e = absurd (cc)

-- ---- what a choice does

pub chosen : {O A : Type 0} (f : Kind → Option O) (p : O → Place → Parser A) (q : Parser A) (o : O) (t : Token) (ts : List Token) → f t.kind ≡ Some o → choose f p q (t ∷ ts) ≡ p o t.place ts
unfolding choose
chosen f p q o t ts e = ap (λ z. picked z p q t ts) e

not_found : {O : Type 0} (r : Option O) → found r ≡ false → r ≡ None
not_found (Some o) e = absurd (cc)
not_found None e = refl

pub passed : {O A : Type 0} (f : Kind → Option O) (p : O → Place → Parser A) (q : Parser A) (ts : List Token) → Free (finds f) ts → choose f p q ts ≡ q ts
unfolding choose
passed f p q [] h = refl
passed f p q (t ∷ ts) h = ap (λ z. picked z p q t ts) (not_found (f t.kind) h)

-- ---- a choice that takes the token

module _ {O X : Type 0} (k l c : Test) (R : Rel X) (f : Kind → Option O) (p : O → Place → Parser X) (q : Parser X)
    (head : (o : O) (place : Place) (kind : Kind) → f kind ≡ Some o → Keeps l c (Took (token kind place) R) (p o place))
    (other : (ts : List Token) → Free (finds f) ts → At k c R q ts) where
  alike_end : (z : List Token) → Same [] z → choose f p q z ≡ q z
  unfolding choose
  alike_end [] e = refl
  alike_end (u ∷ us) e = absurd e

  alike : (t : Token) (ts z : List Token) → found (f t.kind) ≡ false → Same (t ∷ ts) z → choose f p q z ≡ q z
  alike t ts [] h e = absurd e
  alike t ts (u ∷ us) h e = passed f p q (u ∷ us) (subst (λ z. found (f z.kind) ≡ false) e h)

  at_token : (t : Token) (ts : List Token) (r : Option O) → f t.kind ≡ r → Holds k c R (choose f p q) (t ∷ ts) (picked r p q t ts)
  at_token t ts (Some o) e = behind k l c R (choose f p q) (p o t.place) t ts (λ zs. chosen f p q o t zs e) (p o t.place ts) ((head o t.place t.kind e).holds ts)
  at_token t ts None e = change k c R q (choose f p q) (t ∷ ts) (λ z. alike t ts z (ap found e)) (q (t ∷ ts)) (other (t ∷ ts) (ap found e)).known

  pub choose_holds : (ts : List Token) → Holds k c R (choose f p q) ts (choose f p q ts)
  unfolding choose
  choose_holds [] = change k c R q (choose f p q) [] alike_end (q []) (other [] tt).known
  choose_holds (t ∷ ts) = at_token t ts (f t.kind) refl

pub choose_at : {O X : Type 0} {k l c : Test} {R : Rel X} {f : Kind → Option O} {p : O → Place → Parser X} {q : Parser X} → Sample k c R
    → ((o : O) (place : Place) (kind : Kind) → f kind ≡ Some o → Keeps l c (Took (token kind place) R) (p o place))
    → ((ts : List Token) → Free (finds f) ts → At k c R q ts) → Keeps k c R (choose f p q)
choose_at {k = k} {l = l} {c = c} {R = R} {f = f} {p = p} {q = q} sample head other = record { holds = choose_holds k l c R f p q head other; sample = sample }

-- the other way keeps to the relation too
pub choose_or : {O X : Type 0} {k l c : Test} {R : Rel X} {f : Kind → Option O} {p : O → Place → Parser X} {q : Parser X}
    → ((o : O) (place : Place) (kind : Kind) → f kind ≡ Some o → Keeps l c (Took (token kind place) R) (p o place))
    → Keeps k c R q → Keeps k c R (choose f p q)
choose_or head other = choose_at other.sample head (λ ts h. everywhere other ts)

sample_of : {X : Type 0} {k l c : Test} (R : Rel X) (kind : Kind) (p : Parser X) → k kind ≡ false → Keeps l c (Took (token kind somewhere) R) p → Sample k c R
sample_of R kind p free h = let s = h.sample in record { text = token kind somewhere ∷ s.text; made = s.made; viable = λ ws e. let v = s.viable ws e in (v.0, v.1, free) }

-- nothing else may come; the test finds something in this kind
pub choose_must : {O X : Type 0} {k l c : Test} {R : Rel X} {f : Kind → Option O} {p : O → Place → Parser X} (kind : Kind) (o : O) → f kind ≡ Some o → k kind ≡ false
    → ((o : O) (place : Place) (kind : Kind) → f kind ≡ Some o → Keeps l c (Took (token kind place) R) (p o place)) → Keeps k c R (choose f p refuse)
choose_must {k = k} {l = l} {R = R} {p = p} kind o e free head = choose_or head (refused (sample_of {l = l} R kind (p o somewhere) free (head o somewhere kind e)))

-- ---- a word or mark, and a name

pub of_kind : {X : Type 0} (l c : Test) (R : Rel X) (p : Place → Parser X) (kind : Kind) → ((place : Place) → Keeps l c (Took (token kind place) R) (p place))
    → (o : Unit {0}) (place : Place) (other : Kind) → exactly kind other ≡ Some o → Keeps l c (Took (token other place) R) (p place)
of_kind l c R p kind head o place other e = subst (λ z. Keeps l c (Took (token z place) R) (p place)) (sym (exactly_is kind other o e)) (head place)

pub option_or : {X : Type 0} {k l c : Test} {R : Rel X} {p : Place → Parser X} {q : Parser X} (kind : Kind) → ((place : Place) → Keeps l c (Took (token kind place) R) (p place)) → Keeps k c R q → Keeps k c R (option kind p q)
option_or {l = l} {c = c} {R = R} {p = p} kind head other = choose_or (of_kind l c R p kind head) other

pub option_at : {X : Type 0} {k l c : Test} {R : Rel X} {p : Place → Parser X} {q : Parser X} (kind : Kind) → Sample k c R → ((place : Place) → Keeps l c (Took (token kind place) R) (p place))
    → ((ts : List Token) → Free (finds (exactly kind)) ts → At k c R q ts) → Keeps k c R (option kind p q)
option_at {l = l} {c = c} {R = R} {p = p} kind sample head other = choose_at sample (of_kind l c R p kind head) other

pub option_must : {X : Type 0} {k l c : Test} {R : Rel X} {p : Place → Parser X} (kind : Kind) → exactly kind kind ≡ Some tt → k kind ≡ false → ((place : Place) → Keeps l c (Took (token kind place) R) (p place)) → Keeps k c R (option kind p refuse)
option_must {l = l} {c = c} {R = R} {p = p} kind e free head = choose_must kind tt e free (of_kind l c R p kind head)

-- one token of this kind
abbrev pub Is : Kind → List Token → Place → List Token → Type 0
Is kind ts place rest = ts ≡ token kind place ∷ rest

need_keeps : {c : Test} (kind : Kind) → exactly kind kind ≡ Some tt → c kind ≡ false → Keeps c c (Plainly (Is kind)) (need kind)
unfolding need
need_keeps {c = c} kind e free = option_must {l = c} kind e free (λ place. done place (λ ws. (refl, refl)))

-- a token that must come, and then the rest
pub word : {X : Type 0} {c l : Test} {R : Rel X} {q : Place → Parser X} (kind : Kind) → exactly kind kind ≡ Some tt → l kind ≡ false → ((place : Place) → Keeps l c (Took (token kind place) R) (q place)) → Keeps l c R (need kind >>= q)
word {R = R} kind e free next = bind_plain (need_keeps kind e free) (λ place. imply_is (next place))
  where
    imply_is : {X : Type 0} {c l : Test} {R : Rel X} {q : Parser X} {place : Place} → Keeps l c (Took (token kind place) R) q → Keeps l c (Past (Is kind) R place) q
    imply_is {R = R} {place = place} h = imply (λ ts x rest o r us e. subst (λ z. R z x rest o) (sym e) r) h

-- ---- a choice that takes nothing

when_true : {A : Type 0} (f : Test) (p q : Parser A) (t : Token) (ts : List Token) → f t.kind ≡ true → when f p q (t ∷ ts) ≡ p (t ∷ ts)
unfolding when
when_true f p q t ts e = ap (λ z. cond z p q (t ∷ ts)) e

pub when_false : {A : Type 0} (f : Test) (p q : Parser A) (ts : List Token) → Free f ts → when f p q ts ≡ q ts
unfolding when
when_false f p q [] e = refl
when_false f p q (t ∷ ts) e = ap (λ z. cond z p q (t ∷ ts)) e

module _ {X : Type 0} (k c : Test) (R : Rel X) (f : Test) (p q : Parser X)
    (yes_at : (t : Token) (ts : List Token) → f t.kind ≡ true → At k c R p (t ∷ ts)) (no_at : (ts : List Token) → Free f ts → At k c R q ts) where
  end_alike : (z : List Token) → Same [] z → when f p q z ≡ q z
  unfolding when
  end_alike [] e = refl
  end_alike (u ∷ us) e = absurd e

  true_alike : (t : Token) (ts z : List Token) → f t.kind ≡ true → Same (t ∷ ts) z → when f p q z ≡ p z
  true_alike t ts [] h e = absurd e
  true_alike t ts (u ∷ us) h e = when_true f p q u us (subst (λ z. f z.kind ≡ true) e h)

  false_alike : (t : Token) (ts z : List Token) → f t.kind ≡ false → Same (t ∷ ts) z → when f p q z ≡ q z
  false_alike t ts [] h e = absurd e
  false_alike t ts (u ∷ us) h e = when_false f p q (u ∷ us) (subst (λ z. f z.kind ≡ false) e h)

  by_test : (t : Token) (ts : List Token) (b : Bool) → f t.kind ≡ b → Holds k c R (when f p q) (t ∷ ts) (cond b p q (t ∷ ts))
  by_test t ts true e = change k c R p (when f p q) (t ∷ ts) (λ z. true_alike t ts z e) (p (t ∷ ts)) (yes_at t ts e).known
  by_test t ts false e = change k c R q (when f p q) (t ∷ ts) (λ z. false_alike t ts z e) (q (t ∷ ts)) (no_at (t ∷ ts) e).known

  pub when_holds : (ts : List Token) → Holds k c R (when f p q) ts (when f p q ts)
  unfolding when
  when_holds [] = change k c R q (when f p q) [] end_alike (q []) (no_at [] tt).known
  when_holds (t ∷ ts) = by_test t ts (f t.kind) refl

pub when_keeps : {X : Type 0} {k c : Test} {R : Rel X} (f : Test) {p q : Parser X} → Keeps k c R p → Keeps k c R q → Keeps k c R (when f p q)
when_keeps {k = k} {c = c} {R = R} f {p = p} {q = q} h g = record { holds = when_holds k c R f p q (λ t ts e. everywhere h (t ∷ ts)) (λ ts e. everywhere g ts); sample = g.sample }

-- ---- where nothing more may nest

-- a text that begins with this kind, in which something is too deep at once
pub record Deep {X : Type 0} (c : Test) (R : Rel X) (kind : Kind) : Type 0 where
  pub end : List Token
  pub made : Place → X
  pub reads : (place : Place) (ws : List Token) → Free c ws → R (token kind place ∷ end ++ ws) (made place) ws (Some (token kind place ∷ end ++ ws))

-- no text may go on here, since something would be too deep
pub deepened : {X : Type 0} {k c : Test} {R : Rel X} (t : Token) (ts : List Token) → Deep c R t.kind → At k c R (λ ts. Stop TooDeep ts) (t ∷ ts)
deepened t ts d = record {
  known = record {
    front = [];
    splits = refl;
    end = t ∷ d.end;
    ends = record { token = t; back = ts; more = d.end; here = refl; there = refl };
    made = d.made t.place;
    viable = λ ws e. (Some (t ∷ d.end ++ ws), d.reads t.place ws e, refl, inl refl);
    again = λ ws e. refl;
  };
}

pub deep_keeps : {X : Type 0} {k c : Test} {R : Rel X} (begins : Test) (kind : Kind) → begins kind ≡ true → k kind ≡ false → ((kind : Kind) → begins kind ≡ true → Deep c R kind) → Keeps k c R (too_deep begins)
unfolding too_deep
deep_keeps {X = X} {k = k} {c = c} {R = R} begins kind e free deep = record { holds = when_holds k c R begins (λ ts. Stop TooDeep ts) refuse (λ t ts h. deepened t ts (deep t.kind h)) (λ ts h. everywhere (refused sample) ts); sample = sample }
  where
    sample : Sample k c R
    sample = let d = deep kind e in record { text = token kind somewhere ∷ d.end; made = d.made somewhere; viable = λ ws h. (Some (token kind somewhere ∷ d.end ++ ws), d.reads somewhere ws h, free) }

-- ---- facts of each of some kinds

abbrev pub Every : (Kind → Type 0) → List Kind → Type 0
Every P [] = Unit {0}
Every P (kind ∷ kinds) = P kind × Every P kinds

pub or_true : (a b : Bool) → (a || b) ≡ true → (a ≡ true) ⊎ (b ≡ true)
or_true true b h = inl refl
or_true false b h = inr h

pub or_false : (a b : Bool) → (a || b) ≡ false → (a ≡ false) × (b ≡ false)
or_false true b h = absurd (cc)
or_false false b h = (refl, h)

pub among_every : (P : Kind → Type 0) (kinds : List Kind) → Every P kinds → (kind : Kind) → among kinds kind ≡ true → P kind
among_every P [] every kind h = absurd (cc)
among_every P (other ∷ kinds) every kind h = go (λ e. among_every P kinds every.1 kind e) (or_true (only other kind) (among kinds kind) h)
  where
    go : (among kinds kind ≡ true → P kind) → (only other kind ≡ true) ⊎ (among kinds kind ≡ true) → P kind
    go next (inl e) = subst P (sym (only_is other kind e)) every.0
    go next (inr e) = next e

pub named_every : (P : Kind → Type 0) → ((n : List ℕ) → P (k.Name n)) → (kind : Kind) → found (a_name kind) ≡ true → P kind
named_every P h (k.Name n) e = h n
named_every P h _ e = absurd (cc)
