-- The types that checking meets keep a law on types: what names mean, and the form in which it is said.
use Rattle.std.specs.Prelude.{ℕ, ◌≡◌, ◌+◌, Bool, true, false, Option, Some, None, Ok, Err, List, [], ◌∷◌, IfOk, slice_get}
use Rattle.std.specs.Option.{option_or}
use Rattle.std.proofs.Common.{refl}
use Rattle.mesa_base.specs.declared.place.Place.{Place}
use Rattle.mesa_base.specs.declared.identifier.Identifier.{Identifier}
use Rattle.syntax_trees.specs.declared.syntax.QualifiedName.{QualifiedName}
use Rattle.syntax_trees.specs.declared.syntax.Labels.{Labels}
use Rattle.syntax_trees.specs.declared.syntax.Labels.TheVariants.{Any, Unwind, Signals}
use Rattle.syntax_trees.specs.declared.syntax.TypeBase.{TypeBase}
use Rattle.syntax_trees.specs.declared.syntax.TypeBase.TheVariants.{Unsaid, OfInteger, OfCardinal, OfCharacter, OfName}
use Rattle.check_rules.specs.Typed as t
use Rattle.interface_records.specs.PlainTypes.{PlainType, PlainItem, base_of, is_ordinal}
use Rattle.check_rules.specs.Scopes.{Scope, find}
use Rattle.check_rules.specs.Meanings as m
use Rattle.check_rules.specs.Meanings.{Meaning}
use Rattle.check_rules.specs.Steps.{State, Check, Checked, and_then, ◌>>=◌, pure, fail, lift, only, ensure, spend}
use Rattle.check_rules.specs.Around.{Around}
use Rattle.check_rules.specs.Parts.{last_of}
use Rattle.check_rules.specs.Names.{seen, named, before_head, of_interface, or_nothing, in_meaning, by_parts, qualified, type_by, type_named, ordinal_type, word_base, signal_by, signals, arm_labels, mark}
use Rattle.check_rules.specs.declared.fault.Cause.{Cause}
use Rattle.check_rules.specs.declared.fault.Cause.TheVariants.{TypeMismatch}
use Rattle.check_rules.specs.TypeRules.{origin}
use Rattle.typing_laws.proofs.Keeping.{OfSome}
use Rattle.typing_laws.proofs.TypeLaws.{TypeLaw, FieldsHave}

unfoldable pub ItemFine : TypeLaw → PlainItem → Type 0
ItemFine L i = FieldsHave L.Kept i.takes × FieldsHave L.Kept i.gives

unfoldable pub MeaningFine : TypeLaw → Meaning → Type 0
MeaningFine L (m.Variable h k) = L.Kept k
MeaningFine L (m.Constant k n) = L.Kept k × L.Worth k n
MeaningFine L (m.TypeName k) = L.Kept k
MeaningFine L (m.Procedure c i) = ItemFine L i
MeaningFine L (m.Signal r i) = ItemFine L i
MeaningFine L _ = Unit {0}

unfoldable pub ScopeFine : TypeLaw → Scope Meaning → Type 0
ScopeFine L scope = (x : List ℕ) → OfSome (MeaningFine L) (scope x)

unfoldable pub ScopesFine : TypeLaw → List (Scope Meaning) → Type 0
ScopesFine L [] = Unit {0}
ScopesFine L (s ∷ ss) = ScopeFine L s × ScopesFine L ss

pub record StateFine (L : TypeLaw) (σ : State) : Type 0 where
  pub scopes : ScopesFine L σ.scopes
  pub coming : ScopeFine L σ.coming

-- in a fine state
pub record Fine (L : TypeLaw) {A : Type 0} (P : A → Type 0) (c : Check A) : Type 0 where
  pub in_state : (σ : State) → StateFine L σ → IfOk (c σ) (λ (r : A × State). P r.0 × StateFine L r.1)

-- around a place: no head stands further on, the interfaces are fine, and so is the origin of what is made here
pub record AroundFine (L : TypeLaw) (a : Around) : Type 0 where
  pub further : (x : List ℕ) → a.further x ≡ None
  pub interfaces : (n : ℕ) → OfSome (ScopeFine L) (slice_get a.known.interfaces n)
  pub origins : (p : Place) → L.Made (origin a.known p)

abbrev pub Good : {A : Type 0} → A → Type 0
Good a = Unit {0}

pub then_fine : {A B : Type 0} (P : A → Type 0) (Q : B → Type 0) (r : Checked A) (f : A → Checked B) → IfOk r P → ((a : A) → P a → IfOk (f a) Q)
    → IfOk (and_then r f) Q
then_fine P Q (Ok a) f h k = k a h
then_fine P Q (Err e) f h k = tt

pub any_ok : {A : Type 0} (r : Checked A) → IfOk r Good
any_ok (Ok a) = tt
any_ok (Err e) = tt

module _ (L : TypeLaw) where
  pub or_fine : (a b : Option Meaning) → OfSome (MeaningFine L) a → OfSome (MeaningFine L) b → OfSome (MeaningFine L) (option_or a b)
  or_fine (Some x) b h k = h
  or_fine None b h k = k

  pub find_fine : (x : List ℕ) (ss : List (Scope Meaning)) → ScopesFine L ss → OfSome (MeaningFine L) (find x ss)
  unfolding ScopesFine ScopeFine
  find_fine x [] h = tt
  find_fine x (s ∷ ss) h = or_fine (s x) (find x ss) (h.0 x) (find_fine x ss h.1)

module _ {L : TypeLaw} where
  pub bind : {A B : Type 0} {P : A → Type 0} {Q : B → Type 0} {c : Check A} {f : A → Check B} → Fine L P c → ((a : A) → P a → Fine L Q (f a))
      → Fine L Q (c >>= f)
  bind {A} {B} {P} {Q} {c} {f} h k = record {
    in_state = λ σ g. then_fine (λ (r : A × State). P r.0 × StateFine L r.1) (λ (r : B × State). Q r.0 × StateFine L r.1) (c σ) (λ r. f r.0 r.1)
        (h.in_state σ g)
        (λ r p. (k r.0 p.0).in_state r.1 p.1);
  }

  pub done : {A : Type 0} {P : A → Type 0} {a : A} → P a → Fine L P (pure a)
  done p = record { in_state = λ σ g. (p, g) }

  pub wrong : {A : Type 0} {P : A → Type 0} {c : Cause} {p : Place} → Fine L P (fail {A = A} c p)
  wrong = record { in_state = λ σ g. tt }

  pub lifted : {A : Type 0} (P : A → Type 0) (r : Checked A) → IfOk r P → Fine L P (lift r)
  lifted {A} P r h = record { in_state = λ σ g. then_fine P (λ (x : A × State). P x.0 × StateFine L x.1) r (λ a. Ok (a, σ)) h (λ a p. (p, g)) }

  pub any_lifted : {A : Type 0} (r : Checked A) → Fine L Good (lift r)
  any_lifted r = lifted Good r (any_ok r)

  pub ensured : (b : Bool) (c : Cause) (p : Place) → Fine L Good (ensure b c p)
  ensured b c p = any_lifted (only b c p)

  -- a test that holds
  pub held : (b : Bool) (c : Cause) (p : Place) → Fine L (λ _. b ≡ true) (ensure b c p)
  held true c p = record { in_state = λ σ g. (refl, g) }
  held false c p = record { in_state = λ σ g. tt }

  pub spending : {B : Type 0} {Q : B → Type 0} (n : ℕ) (f : Unit {0} → Check B) → Fine L Q (f tt) → Fine L Q (spend n >>= f)
  spending n f h = record { in_state = λ σ g. h.in_state (record σ { operands = σ.operands + n }) (record { scopes = g.scopes; coming = g.coming }) }

  pub weaker : {A : Type 0} {P Q : A → Type 0} {c : Check A} → Fine L P c → ((a : A) → P a → Q a) → Fine L Q c
  weaker {A} {P} {Q} {c} h k = record { in_state = λ σ g. go (c σ) (h.in_state σ g) }
    where
      go : (r : Checked (A × State)) → IfOk r (λ (x : A × State). P x.0 × StateFine L x.1) → IfOk r (λ (x : A × State). Q x.0 × StateFine L x.1)
      go (Ok x) p = (k x.0 p.0, p.1)
      go (Err e) p = tt

  -- names
  marked : (x : Meaning) (σ : State) → StateFine L σ → StateFine L (mark x σ)
  unfolding mark
  marked (m.Procedure (t.LinkedProcedure k n) i) σ g = record { scopes = g.scopes; coming = g.coming }
  marked (m.Signal (t.LinkedSignal k n) i) σ g = record { scopes = g.scopes; coming = g.coming }
  marked _ σ g = g

  no_head : (c : Option Place) (p : Place) (o : Option Meaning) → o ≡ None → Fine L (MeaningFine L) (before_head c p o)
  no_head (Some q) p None e = wrong
  no_head None p None e = wrong
  no_head c p (Some x) e = absurd cc

module _ {L : TypeLaw} (a : Around) (g : AroundFine L a) where
  seen_fine : (x : Identifier) (o : Option Meaning) → OfSome (MeaningFine L) o → Fine L (MeaningFine L) (seen a x o)
  unfolding seen MeaningFine
  seen_fine x None h = wrong
  seen_fine x (Some m.Later) h = wrong
  seen_fine x (Some m.NotImported) h = wrong
  seen_fine x (Some m.Headless) h = no_head a.constant x.place (a.further x.name) (g.further x.name)
  seen_fine x (Some y) h = record { in_state = λ σ k. (h, marked y σ k) }

  pub named_fine : (x : Identifier) → Fine L (MeaningFine L) (named a x)
  unfolding named
  named_fine x = record { in_state = λ σ k. (seen_fine x (find x.name σ.scopes) (find_fine L x.name σ.scopes k.scopes)).in_state σ k }

  interface_scope : (o : Option (Scope Meaning)) (x : List ℕ) → OfSome (ScopeFine L) o → OfSome (MeaningFine L) (or_nothing o x)
  unfolding ScopeFine
  interface_scope None x h = tt
  interface_scope (Some scope) x h = h x

  pub of_interface_fine : (n : ℕ) (x : Identifier) → Fine L (MeaningFine L) (of_interface a n x)
  unfolding of_interface
  of_interface_fine n x = seen_fine x (or_nothing (slice_get a.known.interfaces n) x.name)
      (interface_scope (slice_get a.known.interfaces n) x.name (g.interfaces n))

  in_meaning_fine : (o : Option Meaning) (x : Identifier) → Fine L (MeaningFine L) (in_meaning a o x)
  in_meaning_fine None x = wrong
  in_meaning_fine (Some m.Later) x = wrong
  in_meaning_fine (Some (m.Interface n)) x = of_interface_fine n x
  in_meaning_fine (Some y) x = wrong

  by_parts_fine : (x : Identifier) (y : Option Identifier) → Fine L (MeaningFine L) (by_parts a x y)
  by_parts_fine x None = named_fine x
  by_parts_fine x (Some y) = record { in_state = λ σ k. (in_meaning_fine (find x.name σ.scopes) y).in_state σ k }

  pub qualified_fine : (q : QualifiedName) → Fine L (MeaningFine L) (qualified a q)
  unfolding qualified
  qualified_fine q = by_parts_fine q.first q.second

  type_by_fine : (p : Place) (x : Meaning) → MeaningFine L x → IfOk (type_by p x) L.Kept
  unfolding MeaningFine
  type_by_fine p (m.TypeName k) h = h
  type_by_fine p _ h = tt

  pub type_named_fine : (q : QualifiedName) → Fine L L.Kept (type_named a q)
  unfolding type_named
  type_named_fine q = bind (qualified_fine q) (λ x h. lifted L.Kept (type_by (last_of q).place x) (type_by_fine (last_of q).place x h))

  -- a base that is said is ordinal
  pub word_base_fine : (b : TypeBase) → Fine L (OfSome (λ k. L.Kept k × (is_ordinal k ≡ true))) (word_base a b)
  unfolding word_base is_ordinal base_of
  word_base_fine Unsaid = done tt
  word_base_fine (OfInteger p) = done (L.integer, refl)
  word_base_fine (OfCardinal p) = done (L.cardinal, refl)
  word_base_fine (OfCharacter p) = done (L.character, refl)
  word_base_fine (OfName q) = bind (type_named_fine q) (λ k h. bind (lifted (λ k. L.Kept k × (is_ordinal k ≡ true)) (ordinal_type (last_of q).place k) (ordinal k h)) (λ k h. done h))
    where
      ordinal : (k : PlainType) → L.Kept k → IfOk (ordinal_type (last_of q).place k) (λ j. L.Kept j × (is_ordinal j ≡ true))
      ordinal k h = by (is_ordinal k) refl
        where
          by : (b : Bool) → is_ordinal k ≡ b → IfOk (and_then (only b TypeMismatch (last_of q).place) (λ _. Ok k)) (λ j. L.Kept j × (is_ordinal j ≡ true))
          by true e = (h, e)
          by false e = tt

  signals_fine : (qs : List QualifiedName) → Fine L Good (signals a qs)
  unfolding signals
  signals_fine [] = done tt
  signals_fine (q ∷ qs) = bind (qualified_fine q) (λ x h. bind (any_lifted (signal_by (last_of q).place x)) (λ l w. bind (signals_fine qs) (λ ls w. done tt)))

  pub arm_labels_fine : (ls : Labels) → Fine L Good (arm_labels a ls)
  unfolding arm_labels
  arm_labels_fine (Any p) = done tt
  arm_labels_fine (Unwind p) = done tt
  arm_labels_fine (Signals qs) = signals_fine qs
