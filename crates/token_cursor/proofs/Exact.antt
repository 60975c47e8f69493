-- What is known of a parser that reads a relation exactly, and how the parts' knowledge gives the whole's.
use Rattle.std.proofs.Common.{◌≡◌, ◌≤◌, length, arith, Bool, cond, true, false, List, [], ◌∷◌, ◌++◌, Option, Some, None, ◌⊎◌, inl, inr, refl, sym, ap, subst, ◌∙◌, append_assoc, length-append}
use Rattle.mesa_lexer.specs.declared.token.Token.{Token}
use Rattle.mesa_lexer.specs.declared.token.Kind.{Kind}
use Rattle.token_cursor.specs.Parsing.{first, Why, Unexpected, TooDeep, Out, Got, Stop, Parser, and_then, ◌>>=◌, pure, refuse}

abbrev pub Test : Type 0
Test = Kind → Bool

-- a reading: from these tokens, this tree, leaving those tokens, with the first place that is too deep
abbrev pub Rel : Type 0 → Type 1
Rel X = List Token → X → List Token → Option (List Token) → Type 0

pub first_none : (o : Option (List Token)) → first o None ≡ o
first_none None = refl
first_none (Some u) = refl

pub first_assoc : (a b c : Option (List Token)) → first (first a b) c ≡ first a (first b c)
first_assoc None b c = refl
first_assoc (Some u) b c = refl

-- the next token is none of these
abbrev pub Free : Test → List Token → Type 0
Free c [] = Unit {0}
Free c (t ∷ ts) = c t.kind ≡ false

-- the next token is the same
abbrev pub Same : List Token → List Token → Type 0
Same [] [] = Unit {0}
Same [] (u ∷ us) = ⊥
Same (t ∷ ts) [] = ⊥
Same (t ∷ ts) (u ∷ us) = t ≡ u

pub same : (ts : List Token) → Same ts ts
same [] = tt
same (t ∷ ts) = refl

abbrev pub After : Test → List Token → List Token → Type 0
After c rest ws = Same rest ws ⊎ Free c ws

-- With k the tokens that may not come first after what stands before, and c those that may not follow: what was read is a
-- reading before each text that may follow, and each text with the same next token is read alike.
pub record Gets {X : Type 0} (k c : Test) (R : Rel X) (p : Parser X) (ts : List Token) (x : X) (rest : List Token) : Type 0 where
  pub front : List Token
  pub splits : ts ≡ front ++ rest
  pub reads : (ws : List Token) → After c rest ws → R (front ++ ws) x ws None × After k ts (front ++ ws)
  pub again : (ws : List Token) → Same rest ws → p (front ++ ws) ≡ Got x ws

-- both begin with the same token
pub record Shares (rest end : List Token) : Type 0 where
  pub token : Token
  pub back : List Token
  pub more : List Token
  pub here : rest ≡ token ∷ back
  pub there : end ≡ token ∷ more

-- what an end that makes a text of what was taken has to do with the tokens that stopped the parser
abbrev pub Ends : Why → List Token → List Token → Type 0
Ends Unexpected rest end = Unit {0}
Ends TooDeep rest end = Shares rest end

-- where a reading is too deep that shows why the parser stopped
abbrev pub Shows : Why → Option (List Token) → List Token → Type 0
Shows Unexpected o at = Unit {0}
Shows TooDeep o at = o ≡ Some at

-- What was taken begins a text; where something is too deep, one in which it is too deep there.
pub record Halts {X : Type 0} (k c : Test) (R : Rel X) (p : Parser X) (ts : List Token) (why : Why) (rest : List Token) : Type 0 where
  pub front : List Token
  pub splits : ts ≡ front ++ rest
  pub end : List Token
  pub ends : Ends why rest end
  pub made : X
  pub viable : (ws : List Token) → Free c ws → (o : Option (List Token)) × R (front ++ (end ++ ws)) made ws o × Shows why o (end ++ ws) × After k ts (front ++ (end ++ ws))
  pub again : (ws : List Token) → Same rest ws → p (front ++ ws) ≡ Stop why ws

abbrev pub Holds : {X : Type 0} → Test → Test → Rel X → Parser X → List Token → Out X → Type 0
Holds k c R p ts (Got x rest) = Gets k c R p ts x rest
Holds k c R p ts (Stop why rest) = Halts k c R p ts why rest

-- a text of the relation
pub record Sample {X : Type 0} (k c : Test) (R : Rel X) : Type 0 where
  pub text : List Token
  pub made : X
  pub viable : (ws : List Token) → Free c ws → (o : Option (List Token)) × R (text ++ ws) made ws o × Free k (text ++ ws)

-- the parser keeps to the relation
pub record Keeps {X : Type 0} (k c : Test) (R : Rel X) (p : Parser X) : Type 0 where
  pub holds : (ts : List Token) → Holds k c R p ts (p ts)
  pub sample : Sample k c R

-- what is known at one text
pub record At {X : Type 0} (k c : Test) (R : Rel X) (p : Parser X) (ts : List Token) : Type 0 where
  pub known : Holds k c R p ts (p ts)

pub everywhere : {X : Type 0} {k c : Test} {R : Rel X} {p : Parser X} → Keeps k c R p → (ts : List Token) → At k c R p ts
everywhere h ts = record { known = h.holds ts }

pub same_front : (front rest ws : List Token) → Same rest ws → Same (front ++ rest) (front ++ ws)
same_front [] rest ws h = h
same_front (t ∷ front) rest ws h = refl

from_front : (ts front rest ws : List Token) → ts ≡ front ++ rest → Same rest ws → Same ts (front ++ ws)
from_front ts front rest ws e h = subst (λ z. Same z (front ++ ws)) (sym e) (same_front front rest ws h)

-- ---- one parser, and then another

-- what has to follow a reading of A to make one of R
abbrev pub Then : {A X : Type 0} → Rel A → Rel X → A → Rel X
Then A R a ts x rest o = (us : List Token) (o' : Option (List Token)) → A us a ts o' → R us x rest (first o' o)

shown_first : (why : Why) (o o' : Option (List Token)) (at : List Token) → Shows why o at → Shows why (first o o') at
shown_first Unexpected o o' at h = tt
shown_first TooDeep o o' at h = ap (λ z. first z o') h

ends_longer : (why : Why) (rest end more : List Token) → Ends why rest end → Ends why rest (end ++ more)
ends_longer Unexpected rest end more h = tt
ends_longer TooDeep rest end more h = record { token = h.token; back = h.back; more = h.more ++ more; here = h.here; there = ap (λ z. z ++ more) h.there }

module _ {A X : Type 0} (k l c : Test) (A' : Rel A) (R : Rel X) (p : Parser A) (q : A → Parser X) where
  joined : (ts : List Token) (a : A) (mid : List Token) → Gets k l A' p ts a mid → (out : Out X) → Holds l c (Then A' R a) (q a) mid out → Holds k c R (p >>= q) ts out
  joined ts a mid g (Got x rest) h = record {
    front = g.front ++ h.front;
    splits = g.splits ∙ (ap (λ z. g.front ++ z) h.splits ∙ sym (append_assoc g.front h.front rest));
    reads = λ ws e. rw append_assoc (let b = h.reads ws e in let a = g.reads (h.front ++ ws) b.1 in (b.0 _ _ a.0, a.1));
    again = λ ws e. rw append_assoc (rw (g.again (h.front ++ ws) (from_front mid h.front rest ws h.splits e)) (h.again ws e));
  }
  joined ts a mid g (Stop why rest) h = record {
    front = g.front ++ h.front;
    splits = g.splits ∙ (ap (λ z. g.front ++ z) h.splits ∙ sym (append_assoc g.front h.front rest));
    end = h.end;
    ends = h.ends;
    made = h.made;
    viable = λ ws e. rw append_assoc (let b = h.viable ws e in let a = g.reads (h.front ++ (h.end ++ ws)) b.3 in (b.0, b.1 _ _ a.0, b.2, a.1));
    again = λ ws e. rw append_assoc (rw (g.again (h.front ++ ws) (from_front mid h.front rest ws h.splits e)) (h.again ws e));
  }

  module _ (samples : (a : A) → Sample l c (Then A' R a)) where
    pub bound : (ts : List Token) (out : Out A) → ((a : A) (mid : List Token) → out ≡ Got a mid → Holds l c (Then A' R a) (q a) mid (q a mid)) → Holds k l A' p ts out → Holds k c R (p >>= q) ts (and_then out q)
    bound ts (Got a mid) next g = joined ts a mid g (q a mid) (next a mid refl)
    bound ts (Stop why rest) next h = record {
      front = h.front;
      splits = h.splits;
      end = h.end ++ (samples h.made).text;
      ends = ends_longer why rest h.end (samples h.made).text h.ends;
      made = (samples h.made).made;
      viable = λ ws e. rw append_assoc (
          let b = (samples h.made).viable ws e in
          let a = h.viable ((samples h.made).text ++ ws) b.2 in
          (first a.0 b.0, b.1 _ _ a.1, shown_first why a.0 b.0 _ a.2, a.3));
      again = λ ws e. rw (h.again ws e) refl;
    }

    chosen : Sample k l A' → Sample k c R
    chosen head = record {
      text = head.text ++ (samples head.made).text;
      made = (samples head.made).made;
      viable = λ ws e. rw append_assoc (
          let b = (samples head.made).viable ws e in
          let a = head.viable ((samples head.made).text ++ ws) b.2 in
          (first a.0 b.0, b.1 _ _ a.1, a.2));
    }

pub bind : {A X : Type 0} {k l c : Test} {A' : Rel A} {R : Rel X} {p : Parser A} {q : A → Parser X} → Keeps k l A' p → ((a : A) → Keeps l c (Then A' R a) (q a)) → Keeps k c R (p >>= q)
bind {k = k} {l = l} {c = c} {A' = A'} {R = R} {p = p} {q = q} head next = record {
  holds = λ ts. bound k l c A' R p q (λ a. (next a).sample) ts (p ts) (λ a mid e. (next a).holds mid) (head.holds ts);
  sample = chosen k l c A' R p q (λ a. (next a).sample) head.sample;
}

-- ---- the other parts

-- another parser that does the same at each text with the same next token
pub change : {X : Type 0} (k c : Test) (R : Rel X) (p p' : Parser X) (ts : List Token) → ((z : List Token) → Same ts z → p' z ≡ p z) → (out : Out X) → Holds k c R p ts out → Holds k c R p' ts out
change k c R p p' ts alike (Got x rest) h = record {
  front = h.front;
  splits = h.splits;
  reads = h.reads;
  again = λ ws e. alike (h.front ++ ws) (from_front ts h.front rest ws h.splits e) ∙ h.again ws e;
}
change k c R p p' ts alike (Stop why rest) h = record {
  front = h.front;
  splits = h.splits;
  end = h.end;
  ends = h.ends;
  made = h.made;
  viable = h.viable;
  again = λ ws e. alike (h.front ++ ws) (from_front ts h.front rest ws h.splits e) ∙ h.again ws e;
}

-- no text goes on with the next token, whichever it is
pub refused : {X : Type 0} {k c : Test} {R : Rel X} → Sample k c R → Keeps k c R refuse
refused s = record {
  holds = λ ts. record {
    front = [];
    splits = refl;
    end = s.text;
    ends = tt;
    made = s.made;
    viable = λ ws e. let v = s.viable ws e in (v.0, v.1, tt, inr v.2);
    again = λ ws e. refl;
  };
  sample = s;
}

-- the tree is ready, and nothing more is read
pub ready : {X : Type 0} {k c : Test} {R : Rel X} (x : X) (ts : List Token) → ((ws : List Token) → Free c ws → Free k ws) → ((ws : List Token) → After c ts ws → R ws x ws None) → At k c R (pure x) ts
ready {k = k} {c = c} x ts within here = record {
  known = record {
    front = [];
    splits = refl;
    reads = λ ws e. (here ws e, after ws e);
    again = λ ws e. refl;
  };
}
  where
    after : (ws : List Token) → After c ts ws → After k ts ws
    after ws (inl e) = inl e
    after ws (inr e) = inr (within ws e)

pub done : {X : Type 0} {c : Test} {R : Rel X} (x : X) → ((ws : List Token) → R ws x ws None) → Keeps c c R (pure x)
done x here = record {
  holds = λ ts. (ready x ts (λ ws e. e) (λ ws e. here ws)).known;
  sample = record { text = []; made = x; viable = λ ws e. (None, here ws, e) };
}

-- what has to follow this token to make one of R
abbrev pub Took : {X : Type 0} → Token → Rel X → Rel X
Took t R ts x rest o = R (t ∷ ts) x rest o

-- a text whose first token is taken
pub behind : {X : Type 0} (k l c : Test) (R : Rel X) (p q : Parser X) (t : Token) (ts : List Token) → ((zs : List Token) → p (t ∷ zs) ≡ q zs) → (out : Out X) → Holds l c (Took t R) q ts out → Holds k c R p (t ∷ ts) out
behind k l c R p q t ts e (Got x rest) h = record {
  front = t ∷ h.front;
  splits = ap (λ z. t ∷ z) h.splits;
  reads = λ ws f. ((h.reads ws f).0, inl refl);
  again = λ ws f. e (h.front ++ ws) ∙ h.again ws f;
}
behind k l c R p q t ts e (Stop why rest) h = record {
  front = t ∷ h.front;
  splits = ap (λ z. t ∷ z) h.splits;
  end = h.end;
  ends = h.ends;
  made = h.made;
  viable = λ ws f. let v = h.viable ws f in (v.0, v.1, v.2, inl refl);
  again = λ ws f. e (h.front ++ ws) ∙ h.again ws f;
}

-- a relation that follows from R
module _ {X : Type 0} (k c : Test) (R R' : Rel X) (p : Parser X) (so : (ts : List Token) (x : X) (rest : List Token) (o : Option (List Token)) → R ts x rest o → R' ts x rest o) where
  pub implied : (ts : List Token) (out : Out X) → Holds k c R p ts out → Holds k c R' p ts out
  implied ts (Got x rest) g = record { front = g.front; splits = g.splits; reads = λ ws e. (so _ _ _ _ (g.reads ws e).0, (g.reads ws e).1); again = g.again }
  implied ts (Stop why rest) g = record { front = g.front; splits = g.splits; end = g.end; ends = g.ends; made = g.made; viable = λ ws e. let v = g.viable ws e in (v.0, so _ _ _ _ v.1, v.2, v.3); again = g.again }

pub imply : {X : Type 0} {k c : Test} {R R' : Rel X} {p : Parser X} → ((ts : List Token) (x : X) (rest : List Token) (o : Option (List Token)) → R ts x rest o → R' ts x rest o) → Keeps k c R p → Keeps k c R' p
imply {X = X} {k = k} {c = c} {R = R} {R' = R'} {p = p} so h = record {
  holds = λ ts. implied k c R R' p so ts (p ts) (h.holds ts);
  sample = record { text = h.sample.text; made = h.sample.made; viable = λ ws e. let v = h.sample.viable ws e in (v.0, so _ _ _ _ v.1, v.2) };
}

-- a parser leaves no more tokens than it found
pub shrinks : {X : Type 0} {k c : Test} {R : Rel X} (p : Parser X) → Keeps k c R p → (ts : List Token) (x : X) (rest : List Token) → p ts ≡ Got x rest → length rest ≤ length ts
shrinks {k = k} {c = c} {R = R} p h ts x rest e =
    let g : Gets k c R p ts x rest = subst (λ out. Holds k c R p ts out) e (h.holds ts) in
    omega (arith, ap length g.splits, length-append g.front rest)

-- ---- relations in which nothing nests

abbrev pub Plainly : {X : Type 0} → (List Token → X → List Token → Type 0) → Rel X
Plainly P ts x rest o = P ts x rest × (o ≡ None)

-- what has to follow a reading of P to make one of R
abbrev pub Past : {A X : Type 0} → (List Token → A → List Token → Type 0) → Rel X → A → Rel X
Past P R a ts x rest o = (us : List Token) → P us a ts → R us x rest o

pub bind_plain : {A X : Type 0} {k l c : Test} {P : List Token → A → List Token → Type 0} {R : Rel X} {p : Parser A} {q : A → Parser X} → Keeps k l (Plainly P) p → ((a : A) → Keeps l c (Past P R a) (q a)) → Keeps k c R (p >>= q)
bind_plain {P = P} {R = R} head next = bind head (λ a. imply (λ ts x rest o r us o' e. subst (λ z. R us x rest (first z o)) (sym e.1) (r us e.0)) (next a))

-- ---- places side by side

pub alone : {a a' : Option (List Token)} → a ≡ a' → first a None ≡ first a' None
alone d = ap (λ z. first z None) d

pub single : {a a' : Option (List Token)} → a ≡ a' → first a None ≡ a'
single {a = a} d = first_none a ∙ d

pub both : {a a' b b' : Option (List Token)} → a ≡ a' → b ≡ b' → first a (first b None) ≡ first a' (first b' None)
both {a' = a'} {b = b} d f = ap (λ z. first z (first b None)) d ∙ ap (λ z. first a' (first z None)) f

pub three : {a a' b b' c c' : Option (List Token)} → a ≡ a' → b ≡ b' → c ≡ c' → first a (first b (first c None)) ≡ first a' (first b' (first c' None))
three {a' = a'} {b = b} {c = c} d f h = ap (λ z. first z (first b (first c None))) d ∙ ap (λ z. first a' z) (both f h)

pub four : {a a' b b' c c' e e' : Option (List Token)} → a ≡ a' → b ≡ b' → c ≡ c' → e ≡ e' → first a (first b (first c (first e None))) ≡ first a' (first b' (first c' (first e' None)))
four {a' = a'} {b = b} {c = c} {e = e} d f h i = ap (λ z. first z (first b (first c (first e None)))) d ∙ ap (λ z. first a' z) (three f h i)

-- one of two parsers
pub either : {X : Type 0} {k c : Test} {R : Rel X} {p q : Parser X} (b : Bool) → (b ≡ true → Keeps k c R p) → Keeps k c R q → Keeps k c R (cond b p q)
either true h g = h refl
either false h g = g

-- R of the text with what was read before
abbrev pub Pre : {X : Type 0} → (List Token → List Token) → Rel X → Rel X
Pre pre R ts x rest o = R (pre ts) x rest o
