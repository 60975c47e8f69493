-- What a check keeps: its value has a property, or its fault stands at a place of some kind.
use Rattle.std.specs.Prelude.{ℕ, ◌≡◌, is_some, Bool, true, false, Option, Some, None, Ok, Err, List, [], ◌∷◌, ◌++◌, if◌then◌else◌, ◌+◌, nat_le}
use Rattle.std.specs.List.{All}
use Rattle.std.proofs.lemmas.List.Elements.{All-head, All-tail}
use Rattle.std.proofs.Common.{refl, sym, ap, subst, ◌∙◌}
use Rattle.mesa_base.specs.declared.limits.TheConstants.{OPERAND_WORDS}
use Rattle.mesa_base.specs.declared.place.Place.{Place}
use Rattle.check_rules.specs.Scopes.{Scope, nothing, innermost, outer}
use Rattle.check_rules.specs.Meanings.{Meaning}
use Rattle.check_rules.specs.declared.fault.Cause.{Cause}
use Rattle.check_rules.specs.declared.fault.Cause.TheVariants.{FrameTooLarge}
use Rattle.check_rules.specs.Steps.{State, Check, Checked, and_then, ◌>>=◌, pure, fail, lift, refuse, or_refuse, only, ensure, spend, hide, top, in_scope, seeing, measured, within_operands, with_top}

-- of a value or a fault
abbrev pub Kept : (Place → Type 0) → {A : Type 0} → (A → Type 0) → Checked A → Type 0
Kept Stands P (Ok a) = P a
Kept Stands P (Err f) = Stands f.place

pub record Gives (Stands : Place → Type 0) {A : Type 0} (P : A → Type 0) (r : Checked A) : Type 0 where
  pub kept : Kept Stands P r

-- a later state in the same scopes, of which the innermost has more names
pub record Later (s t : State) : Type 0 where
  pub around : outer t.scopes ≡ outer s.scopes
  pub more : (x : List ℕ) → is_some (innermost s.scopes x) ≡ true → is_some (innermost t.scopes x) ≡ true

-- in every state; the names that are declared stay
pub record Keeps (Stands : Place → Type 0) {A : Type 0} (P : A → Type 0) (c : Check A) : Type 0 where
  pub in_state : (s : State) → Kept Stands (λ (r : A × State). P r.0 × Later s r.1) (c s)

pub same_scopes : (s t : State) → t.scopes ≡ s.scopes → Later s t
same_scopes s t e = record { around = ap outer e; more = λ x h. subst (λ ss. is_some (innermost ss x) ≡ true) (sym e) h }

pub later_still : (s t u : State) → Later s t → Later t u → Later s u
later_still s t u h k = record { around = k.around ∙ h.around; more = λ x i. k.more x (h.more x i) }

abbrev pub Anything : {A : Type 0} → A → Type 0
Anything a = Unit {0}

abbrev pub OfSome : {A : Type 0} → (A → Type 0) → Option A → Type 0
OfSome P None = Unit {0}
OfSome P (Some a) = P a

-- each of a list
abbrev pub Have : (Place → Type 0) → List Place → Type 0
Have Stands [] = Unit {0}
Have Stands (p ∷ ps) = Stands p × Have Stands ps

module _ (Stands : Place → Type 0) where
  pub first_part : (ps qs : List Place) → Have Stands (ps ++ qs) → Have Stands ps
  first_part [] qs h = tt
  first_part (p ∷ ps) qs h = (h.0, first_part ps qs h.1)

  pub last_part : (ps qs : List Place) → Have Stands (ps ++ qs) → Have Stands qs
  last_part [] qs h = h
  last_part (p ∷ ps) qs h = last_part ps qs h.1

  pub have_all : (ps : List Place) → All Stands ps → Have Stands ps
  have_all [] h = tt
  have_all (p ∷ ps) h = (All-head Stands p ps h, have_all ps (All-tail Stands p ps h))

  pub kept_map : {A B : Type 0} (P : A → Type 0) (Q : B → Type 0) (g : A → B) (r : Checked A) → Kept Stands P r → ((a : A) → P a → Q (g a))
      → Kept Stands Q (and_then r (λ a. Ok (g a)))
  kept_map P Q g (Ok a) h k = k a h
  kept_map P Q g (Err e) h k = h

  pub kept_as : {A : Type 0} (P Q : A → Type 0) (r : Checked A) → Kept Stands P r → ((a : A) → P a → Q a) → Kept Stands Q r
  kept_as P Q (Ok a) h k = k a h
  kept_as P Q (Err e) h k = h

  then_kept : {A B : Type 0} (P : A → Type 0) (Q : B → Type 0) (r : Checked A) (f : A → Checked B) → Kept Stands P r → ((a : A) → P a → Kept Stands Q (f a))
      → Kept Stands Q (and_then r f)
  then_kept P Q (Ok a) f h k = k a h
  then_kept P Q (Err e) f h k = h

abbrev pub From : {A : Type 0} → (A → Type 0) → State → A × State → Type 0
From P s r = P r.0 × Later s r.1

-- after a first step into a later state
since : (Stands : Place → Type 0) {A : Type 0} (P : A → Type 0) (s t : State) → Later s t → (r : Checked (A × State)) → Kept Stands (From P t) r
    → Kept Stands (From P s) r
since Stands P s t l r h = kept_as Stands (From P t) (From P s) r h (λ x p. (p.0, later_still s t x.1 l p.1))

module _ {Stands : Place → Type 0} where
  pub bind : {A B : Type 0} {P : A → Type 0} {Q : B → Type 0} {c : Check A} {f : A → Check B} → Keeps Stands P c → ((a : A) → P a → Keeps Stands Q (f a))
      → Keeps Stands Q (c >>= f)
  bind {A} {B} {P} {Q} {c} {f} h k = record {
    in_state = λ s. then_kept Stands (From P s) (From Q s) (c s) (λ r. f r.0 r.1) (h.in_state s)
        (λ r p. since Stands Q s r.1 p.1 (f r.0 r.1) ((k r.0 p.0).in_state r.1));
  }

  pub give : {A : Type 0} {P : A → Type 0} {a : A} → P a → Keeps Stands P (pure a)
  give p = record { in_state = λ s. (p, same_scopes s s refl) }

  pub refusing : {A : Type 0} {P : A → Type 0} {c : Cause} {p : Place} → Stands p → Keeps Stands P (fail {A = A} c p)
  refusing h = record { in_state = λ s. h }

  pub lifting : {A : Type 0} {P : A → Type 0} {r : Checked A} → Gives Stands P r → Keeps Stands P (lift r)
  lifting {A} {P} {r} h = record { in_state = λ s. kept_map Stands P (From P s) (λ a. (a, s)) r h.kept (λ a p. (p, same_scopes s s refl)) }

  pub and_gives : {A B : Type 0} {P : A → Type 0} {Q : B → Type 0} {r : Checked A} {f : A → Checked B} → Gives Stands P r
      → ((a : A) → P a → Gives Stands Q (f a)) → Gives Stands Q (and_then r f)
  and_gives {A} {B} {P} {Q} {r} {f} h k = record { kept = then_kept Stands P Q r f h.kept (λ a p. (k a p).kept) }

  pub weaker : {A : Type 0} {P Q : A → Type 0} {c : Check A} → Keeps Stands P c → ((a : A) → P a → Q a) → Keeps Stands Q c
  weaker {A} {P} {Q} {c} h k = record { in_state = λ s. kept_as Stands (From P s) (From Q s) (c s) (h.in_state s) (λ x p. (k x.0 p.0, p.1)) }

  pub all_right : {A : Type 0} {P : A → Type 0} {a : A} → P a → Gives Stands P (Ok a)
  all_right p = record { kept = p }

  pub refused : {A : Type 0} {P : A → Type 0} {c : Cause} {p : Place} → Stands p → Gives Stands P (refuse {A = A} c p)
  refused h = record { kept = h }

  pub only_if : (b : Bool) (c : Cause) (p : Place) → Stands p → Gives Stands Anything (only b c p)
  only_if true c p h = record { kept = tt }
  only_if false c p h = record { kept = h }

  pub ensured : (b : Bool) (c : Cause) (p : Place) → Stands p → Keeps Stands Anything (ensure b c p)
  ensured b c p h = lifting (only_if b c p h)

  pub after_spending : {B : Type 0} {Q : B → Type 0} (n : ℕ) (f : Unit {0} → Check B) → Keeps Stands Q (f tt) → Keeps Stands Q (spend n >>= f)
  after_spending {B} {Q} n f h = record {
    in_state = λ s. let t : State =
        record s { operands = s.operands + n } in since Stands Q s t (same_scopes s t refl) (f tt t) (h.in_state t);
  }

  pub after_hiding : {B : Type 0} {Q : B → Type 0} (n : ℕ) (f : Unit {0} → Check B) → Keeps Stands Q (f tt) → Keeps Stands Q (hide n >>= f)
  after_hiding {B} {Q} n f h = record {
    in_state = λ s. let t : State =
        record s { hidden = s.hidden + n } in since Stands Q s t (same_scopes s t refl) (f tt t) (h.in_state t);
  }

  pub after_top : {B : Type 0} {Q : B → Type 0} (f : Scope Meaning → Check B) → ((x : Scope Meaning) → Keeps Stands Q (f x)) → Keeps Stands Q (top >>= f)
  after_top f h = record { in_state = λ s. (h (innermost s.scopes)).in_state s }

  pub inside_scope : {A : Type 0} {P : A → Type 0} (scope : Scope Meaning) {c : Check A} → Keeps Stands P c → Keeps Stands P (in_scope scope c)
  inside_scope {A} {P} scope {c} h = record {
    in_state = λ s. let t : State = record s { scopes = scope ∷ s.scopes; coming = nothing } in
        kept_map Stands (From P t) (From P s) (λ r. (r.0, record r.1 { scopes = outer r.1.scopes; coming = s.coming })) (c t) (h.in_state t)
        (λ r p. (p.0, same_scopes s (record r.1 { scopes = outer r.1.scopes; coming = s.coming }) p.1.around));
  }

  pub seen_from : {A : Type 0} {P : A → Type 0} (scope : Scope Meaning) {c : Check A} → Keeps Stands P c → Keeps Stands P (seeing scope c)
  seen_from {A} {P} scope {c} h = record {
    in_state = λ s. kept_map Stands (From P (with_top scope s)) (From P s) (λ r. (r.0, with_top (innermost s.scopes) r.1)) (c (with_top scope s))
        (h.in_state (with_top scope s))
        (λ r p. (p.0, record { around = p.1.around; more = λ x i. i }));
  }

  pub measuring : {A : Type 0} {P : A → Type 0} {c : Check A} → Keeps Stands P c → Keeps Stands (λ (x : A × ℕ). P x.0) (measured c)
  measuring {A} {P} {c} h = record {
    in_state = λ s. let t : State = record s { operands = 0 } in
        kept_map Stands (From P t) (From (λ (x : A × ℕ). P x.0) s) (λ r. ((r.0, r.1.operands), record r.1 { operands = s.operands })) (c t) (h.in_state t)
        (λ r p. (
          p.0,
          later_still s r.1 (record r.1 { operands = s.operands }) (later_still s t r.1 (same_scopes s t refl) p.1)
              (same_scopes r.1 (record r.1 { operands = s.operands }) refl),
        ));
  }

  pub within : {A : Type 0} {P : A → Type 0} (n : ℕ) (p : Place) {c : Check A} → Stands p → Keeps Stands P c → Keeps Stands P (within_operands n p c)
  within {A} {P} n p {c} here h = bind (measuring h) (λ r q. bind (ensured (nat_le (n + r.1) OPERAND_WORDS) FrameTooLarge p here) (λ u w. give q))

  pub by_if : {A : Type 0} {P : A → Type 0} (b : Bool) {x y : Checked A} → Gives Stands P x → Gives Stands P y → Gives Stands P (if b then x else y)
  by_if true h k = h
  by_if false h k = k

  pub or_refused : {A : Type 0} {P : A → Type 0} (o : Option A) (c : Cause) (p : Place) → Stands p → OfSome P o → Gives Stands P (or_refuse o c p)
  or_refused (Some a) c p h k = all_right k
  or_refused None c p h k = refused h
