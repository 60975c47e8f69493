-- Places of what is read: those of names, labels and the words before a tree are places of the tokens read.
-- S is what is said of each place of a token; it is kept for the tokens behind.
use Rattle.std.proofs.Common.{◌≡◌, Bool, List, [], ◌∷◌, ◌++◌, All, map, sym, subst}
use Rattle.std.proofs.lemmas.List.Elements.{All-nil, All-cons, All-push, All-head, All-tail}
use Rattle.mesa_lexer.specs.declared.token.Token.{Token}
use Rattle.mesa_base.specs.declared.place.Place.{Place}
use Rattle.mesa_base.specs.declared.identifier.Identifier.{Identifier}
use Rattle.mesa_base.specs.Chain.{chain}
use Rattle.syntax_trees.specs.declared.syntax.QualifiedName.{QualifiedName}
use Rattle.syntax_trees.specs.declared.syntax.Labels.{Labels}
use Rattle.syntax_trees.specs.declared.syntax.Labeled.{Labeled}
use Rattle.syntax_trees.specs.declared.syntax.RepeatLabels.{RepeatLabels}
use Rattle.syntax_trees.specs.declared.syntax.TypeBase.{TypeBase}
use Rattle.grammar_rules.specs.Grammar as g
use Rattle.check_rules.specs.Places as places

-- ---- places and tokens

-- each place of a list
pub data Stand (S : Place → Type 0) : List Place → Type 0 where
  none : Stand S []
  more : {p : Place} {ps : List Place} → S p → Stand S ps → Stand S (p ∷ ps)

-- the place of each token
abbrev pub TokensStand : (Place → Type 0) → List Token → Type 0
TokensStand S [] = Unit {0}
TokensStand S (t ∷ ts) = S t.place × TokensStand S ts

-- of a tree that was read, and of the tokens behind it
abbrev pub Read : (Place → Type 0) → {Y : Type 0} → (Y → List Place) → Y → List Token → Type 0
Read S of y rest = Stand S (of y) × TokensStand S rest

-- with this before it, a rest whose places stand is one whose places stand
abbrev pub Puts : (Place → Type 0) → {A : Type 0} → (A → List Place) → (A → A) → Type 0
Puts S {A} of f = (rest : A) → Stand S (of rest) → Stand S (of (f rest))

-- labels, and what is behind them
abbrev pub Behind : (Place → Type 0) → {L X : Type 0} → (L → List Place) → (X → List Place) → Labeled L X → Type 0
Behind S labels of x = Stand S (labels x.labels) × Stand S (of x.item)

abbrev NameStands : (Place → Type 0) → QualifiedName → Type 0
NameStands S x = Stand S (places.of_name x)

module _ {S : Place → Type 0} where
  pub one : {p : Place} → S p → Stand S (p ∷ [])
  one h = more h none

  pub both : {ps qs : List Place} → Stand S ps → Stand S qs → Stand S (ps ++ qs)
  both none k = k
  both (more h hs) k = more h (both hs k)

  -- of a tree that equals another, and what stands behind it
  pub whole : {Y R : Type 0} (of : Y → List Place) {y z : Y} → y ≡ z → Stand S (of z) → R → Stand S (of y) × R
  whole of e h r = (subst (λ v. Stand S (of v)) (sym e) h, r)

  pub each : {X : Type 0} (of : List X → List Place) (P : X → Type 0) → Stand S (of [])
      → ((x : X) (xs : List X) → P x → Stand S (of xs) → Stand S (of (x ∷ xs))) → (xs : List X) → All P xs → Stand S (of xs)
  each of P empty step [] h = empty
  each of P empty step (x ∷ xs) h = step x xs (All-head P x xs h) (each of P empty step xs (All-tail P x xs h))

  pub puts : {A : Type 0} (of : A → List Place) {f g : A → A} → f ≡ g → Puts S of g → Puts S of f
  puts of e h = subst (Puts S of) (sym e) h

  pub chained : {X A : Type 0} (of : A → List Place) (g : X → A → A) (xs : List X) → All (λ x. Puts S of (g x)) xs → Puts S of (chain (map g xs))
  chained of g [] h rest k = k
  chained of g (x ∷ xs) h rest k = All-head (λ y. Puts S of (g y)) x xs h (chain (map g xs) rest)
      (chained of g xs (All-tail (λ y. Puts S of (g y)) x xs h) rest k)

  -- ---- names, which are some where they are declared

  push_identifier : (xs : List Identifier) (i : Identifier) → Stand S (places.of_identifiers xs) → S i.place
      → Stand S (places.of_identifiers (xs ++ i ∷ []))
  push_identifier [] i h k = one k
  push_identifier (x ∷ xs) i (more h hs) k = more h (push_identifier xs i hs k)

  push_name : (xs : List Identifier) (i : Identifier) → Stand S (places.of_declared_names xs) → S i.place
      → Stand S (places.of_declared_names (xs ++ i ∷ []))
  push_name [] i h k = one k
  push_name (x ∷ xs) i (more h hs) k = more h (push_identifier xs i hs k)

  pub identifiers : (xs : List Identifier) → Stand S (places.of_declared_names xs) → Stand S (places.of_identifiers xs)
  identifiers [] h = none
  identifiers (x ∷ xs) h = h

  pub names : {ts rest : List Token} {x : List Identifier} → g.IsNames ts x rest → TokensStand S ts
      → Read S places.of_declared_names x rest
  names (g.name {i = i}) h = (one h.0, h.1)
  names (g.names {all = all} {i = i} d) h = let a = names d h in (push_name all i a.0 (a.1.1).0, (a.1.1).1)

  pub qname : {ts rest : List Token} {x : QualifiedName} → g.IsQName ts x rest → TokensStand S ts → Read S places.of_name x rest
  qname g.bare h = (one h.0, h.1)
  qname g.dotted h = (more h.0 (one (h.1.1).0), (h.1.1).1)

  all_names : (xs : List QualifiedName) → All (NameStands S) xs → Stand S (places.of_names xs)
  unfolding places.of_names
  all_names = each places.of_names (NameStands S) none (λ x xs h k. both h k)

  qnames : {ts rest : List Token} {x : List QualifiedName} → g.IsQNames ts x rest → TokensStand S ts → All (NameStands S) x × TokensStand S rest
  qnames (g.qname {x = x} d) h = let a = qname d h in (All-cons (NameStands S) x [] a.0 (All-nil (NameStands S)), a.1)
  qnames (g.qnames {all = all} {x = x} d f) h =
      let a = qnames d h in
      let b = qname f a.1.1 in
      (All-push (NameStands S) all x a.0 b.0, b.1)

  -- ---- labels and words

  pub labels : {ts rest : List Token} {x : Labels} → g.IsLabels ts x rest → TokensStand S ts → Read S places.of_labels x rest
  labels g.any h = (one h.0, h.1)
  labels g.unwind h = (one h.0, h.1)
  labels (g.signals {all = all} d) h = let a = qnames d h in (all_names all a.0, a.1)

  pub repeat_labels : {ts rest : List Token} {x : RepeatLabels} → g.IsRepeatLabels ts x rest → TokensStand S ts
      → Read S places.of_repeat_labels x rest
  repeat_labels (g.labels {all = all} d) h = let a = names d h in (identifiers all a.0, a.1)
  repeat_labels g.finished h = (one h.0, h.1)

  pub base : {ts rest : List Token} {x : TypeBase} → g.IsBase ts x rest → TokensStand S ts → Read S places.of_base x rest
  base g.unsaid h = (none, h)
  base g.of_integer h = (one h.0, h.1)
  base g.of_cardinal h = (one h.0, h.1)
  base g.of_character h = (one h.0, h.1)
  base (g.of_name d) h = qname d h

-- words that have no place in the tree

pub negation : (S : Place → Type 0) {ts rest : List Token} {x : Bool} → g.IsNot ts x rest → TokensStand S ts → TokensStand S rest
negation S g.affirmed h = h
negation S (g.negated _) h = h.1

pub decreasing : (S : Place → Type 0) {ts rest : List Token} {x : Bool} → g.IsDecreasing ts x rest → TokensStand S ts → TokensStand S rest
decreasing S g.rising h = h
decreasing S g.falling h = h.1
