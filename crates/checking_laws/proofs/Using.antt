-- What a check comes to: a value, with as many items marked more as a property of it and of their number says, or a fault that is
-- none of the stamp's.
use Rattle.std.specs.Prelude.{ℕ, ◌≡◌, ◌+◌, ◌≤◌, Bool, true, false, Option, Some, None, Ok, Err, ◌∷◌, if◌then◌else◌, nat_le}
use Rattle.std.proofs.Common.{refl, arith, add-zero}
use Rattle.mesa_base.specs.declared.limits.TheConstants.{OPERAND_WORDS}
use Rattle.mesa_base.specs.declared.place.Place.{Place}
use Rattle.check_rules.specs.Scopes.{Scope, nothing, innermost, outer}
use Rattle.check_rules.specs.Meanings.{Meaning}
use Rattle.check_rules.specs.declared.fault.Cause.{Cause}
use Rattle.check_rules.specs.declared.fault.Cause.TheVariants.{FrameTooLarge, StampMissing, StampUnwanted}
use Rattle.check_rules.specs.Steps.{State, Check, Checked, and_then, ◌>>=◌, pure, fail, lift, refuse, or_refuse, only, spend, hide, top, in_scope, seeing, measured, within_operands, with_top}
use Rattle.checking_laws.proofs.Marks.{marks}

-- a cause that is none of the stamp's
abbrev pub IsOther : Cause → Type 0
IsOther StampMissing = ⊥
IsOther StampUnwanted = ⊥
IsOther _ = Unit {0}

-- of a step that changes no state
abbrev pub Given : {A : Type 0} → (A → Type 0) → Checked A → Type 0
Given P (Ok a) = P a
Given P (Err f) = IsOther f.cause

pub record Gives {A : Type 0} (P : A → Type 0) (r : Checked A) : Type 0 where
  pub given : Given P r

-- so many marks more than before
pub record Grown {A : Type 0} (P : A → ℕ → Type 0) (before : ℕ) (r : A × State) : Type 0 where
  pub growth : ℕ
  pub marked : marks r.1.used ≤ before + growth
  pub holds : P r.0 growth

abbrev pub Used : {A : Type 0} → (A → ℕ → Type 0) → ℕ → Checked (A × State) → Type 0
Used P before (Ok r) = Grown P before r
Used P before (Err f) = IsOther f.cause

pub record Uses {A : Type 0} (P : A → ℕ → Type 0) (c : Check A) : Type 0 where
  pub in_state : (s : State) → Used P (marks s.used) (c s)

abbrev pub Anything : {A : Type 0} → A → Type 0
Anything a = Unit {0}

-- of a value and any number of marks; and where nothing is marked
abbrev pub AnyNumber : {A : Type 0} → A → ℕ → Type 0
AnyNumber a n = Unit {0}

abbrev pub Unused : {A : Type 0} → A → ℕ → Type 0
Unused a n = n ≡ 0

abbrev pub OfSome : {A : Type 0} → (A → Type 0) → Option A → Type 0
OfSome P None = Unit {0}
OfSome P (Some a) = P a

then_given : {A B : Type 0} (P : A → Type 0) (Q : B → Type 0) (r : Checked A) (f : A → Checked B) → Given P r → ((a : A) → P a → Given Q (f a))
    → Given Q (and_then r f)
then_given P Q (Ok a) f h k = k a h
then_given P Q (Err e) f h k = h

-- a step that changes no state, and then one that may
lift_used : {A B : Type 0} (P : A → Type 0) (Q : B → ℕ → Type 0) (s : State) (r : Checked A) (f : A → Check B) → Given P r
    → ((a : A) → P a → Used Q (marks s.used) (f a s)) → Used Q (marks s.used) ((lift r >>= f) s)
lift_used P Q s (Ok a) f h k = k a h
lift_used P Q s (Err e) f h k = h

-- more marks behind so many
more : {B : Type 0} (Q : B → ℕ → Type 0) (before n middle : ℕ) → middle ≤ before + n → (r : Checked (B × State))
    → Used (λ b m. Q b (n + m)) middle r → Used Q before r
more Q before n middle e (Ok r) h = record { growth = n + h.growth; marked = omega (arith, h.marked); holds = h.holds }
more Q before n middle e (Err f) h = h

then_used : {A B : Type 0} (P : A → ℕ → Type 0) (Q : B → ℕ → Type 0) (before : ℕ) (r : Checked (A × State)) (f : A → Check B) → Used P before r
    → ((a : A) (n : ℕ) → P a n → Uses (λ b m. Q b (n + m)) (f a)) → Used Q before (and_then r (λ x. f x.0 x.1))
then_used P Q before (Ok x) f h k =
    more Q before h.growth (marks x.1.used) h.marked (f x.0 x.1) ((k x.0 h.growth h.holds).in_state x.1)
then_used P Q before (Err e) f h k = h

pub mapped : {A B : Type 0} (P : A → ℕ → Type 0) (Q : B → ℕ → Type 0) (before : ℕ) (g : A × State → B × State) (r : Checked (A × State)) → Used P before r
    → ((x : A × State) → Grown P before x → Grown Q before (g x)) → Used Q before (and_then r (λ x. Ok (g x)))
mapped P Q before g (Ok x) h k = k x h
mapped P Q before g (Err e) h k = h

pub used_as : {A : Type 0} (P Q : A → ℕ → Type 0) (before : ℕ) (r : Checked (A × State)) → Used P before r → ((a : A) (n : ℕ) → P a n → Q a n)
    → Used Q before r
used_as P Q before (Ok x) h k = record { growth = h.growth; marked = h.marked; holds = k x.0 h.growth h.holds }
used_as P Q before (Err e) h k = h

pub bind : {A B : Type 0} {P : A → ℕ → Type 0} {Q : B → ℕ → Type 0} {c : Check A} {f : A → Check B} → Uses P c
    → ((a : A) (n : ℕ) → P a n → Uses (λ b m. Q b (n + m)) (f a)) → Uses Q (c >>= f)
bind {A} {B} {P} {Q} {c} {f} h k = record { in_state = λ s. then_used P Q (marks s.used) (c s) f (h.in_state s) k }

pub give : {A : Type 0} {P : A → ℕ → Type 0} {a : A} → P a 0 → Uses P (pure a)
give p = record { in_state = λ s. record { growth = 0; marked = omega arith; holds = p } }

pub refusing : {A : Type 0} {P : A → ℕ → Type 0} {c : Cause} {p : Place} → IsOther c → Uses P (fail {A = A} c p)
refusing h = record { in_state = λ s. h }

-- a step that changes no state, at the end and before others
pub lifting : {A : Type 0} {P : A → Type 0} {Q : A → ℕ → Type 0} {r : Checked A} → Gives P r → ((a : A) → P a → Q a 0) → Uses Q (lift r)
lifting {A} {P} {Q} {r} h k = record { in_state = λ s. go s r h.given }
  where
    go : (s : State) (r : Checked A) → Given P r → Used Q (marks s.used) (lift r s)
    go s (Ok a) h = record { growth = 0; marked = omega arith; holds = k a h }
    go s (Err e) h = h

pub after : {A B : Type 0} {P : A → Type 0} {Q : B → ℕ → Type 0} {r : Checked A} {f : A → Check B} → Gives P r → ((a : A) → P a → Uses Q (f a))
    → Uses Q (lift r >>= f)
after {A} {B} {P} {Q} {r} {f} h k = record { in_state = λ s. lift_used P Q s r f h.given (λ a p. (k a p).in_state s) }

pub and_gives : {A B : Type 0} {P : A → Type 0} {Q : B → Type 0} {r : Checked A} {f : A → Checked B} → Gives P r
    → ((a : A) → P a → Gives Q (f a)) → Gives Q (and_then r f)
and_gives {A} {B} {P} {Q} {r} {f} h k = record { given = then_given P Q r f h.given (λ a p. (k a p).given) }

pub weaker : {A : Type 0} {P Q : A → ℕ → Type 0} {c : Check A} → Uses P c → ((a : A) (n : ℕ) → P a n → Q a n) → Uses Q c
weaker {A} {P} {Q} {c} h k = record { in_state = λ s. used_as P Q (marks s.used) (c s) (h.in_state s) k }

pub all_right : {A : Type 0} {P : A → Type 0} {a : A} → P a → Gives P (Ok a)
all_right p = record { given = p }

pub refused : {A : Type 0} {P : A → Type 0} {c : Cause} {p : Place} → IsOther c → Gives P (refuse {A = A} c p)
refused h = record { given = h }

pub gives_as : {A : Type 0} {P Q : A → Type 0} (r : Checked A) → Gives P r → ((a : A) → P a → Q a) → Gives Q r
gives_as (Ok a) h k = record { given = k a h.given }
gives_as (Err f) h k = record { given = h.given }

pub only_if : (b : Bool) (c : Cause) (p : Place) → IsOther c → Gives Anything (only b c p)
only_if true c p h = record { given = tt }
only_if false c p h = record { given = h }

pub only_holds : (b : Bool) (c : Cause) (p : Place) → IsOther c → Gives (λ v. b ≡ true) (only b c p)
only_holds true c p h = record { given = refl }
only_holds false c p h = record { given = h }

pub by_if : {A : Type 0} {P : A → Type 0} (b : Bool) {x y : Checked A} → Gives P x → Gives P y → Gives P (if b then x else y)
by_if true h k = h
by_if false h k = k

pub or_refused : {A : Type 0} {P : A → Type 0} (o : Option A) (c : Cause) (p : Place) → IsOther c → OfSome P o → Gives P (or_refuse o c p)
or_refused (Some a) c p h k = all_right k
or_refused None c p h k = refused h

anything : {A : Type 0} (o : Option A) → OfSome Anything o
anything None = tt
anything (Some a) = tt

pub some_or_refused : {A : Type 0} (o : Option A) (c : Cause) (p : Place) → IsOther c → Gives Anything (or_refuse o c p)
some_or_refused o c p h = or_refused o c p h (anything o)

pub after_spending : {B : Type 0} {Q : B → ℕ → Type 0} (n : ℕ) (f : Unit {0} → Check B) → Uses Q (f tt) → Uses Q (spend n >>= f)
after_spending n f h = record { in_state = λ s. h.in_state (record s { operands = s.operands + n }) }

pub after_hiding : {B : Type 0} {Q : B → ℕ → Type 0} (n : ℕ) (f : Unit {0} → Check B) → Uses Q (f tt) → Uses Q (hide n >>= f)
after_hiding n f h = record { in_state = λ s. h.in_state (record s { hidden = s.hidden + n }) }

pub after_top : {B : Type 0} {Q : B → ℕ → Type 0} (f : Scope Meaning → Check B) → ((x : Scope Meaning) → Uses Q (f x)) → Uses Q (top >>= f)
after_top f h = record { in_state = λ s. (h (innermost s.scopes)).in_state s }

pub inside_scope : {A : Type 0} {P : A → ℕ → Type 0} (scope : Scope Meaning) {c : Check A} → Uses P c → Uses P (in_scope scope c)
inside_scope {A} {P} scope {c} h = record {
  in_state = λ s. let t : State = record s { scopes = scope ∷ s.scopes; coming = nothing } in
      mapped P P (marks s.used) (λ r. (r.0, record r.1 { scopes = outer r.1.scopes; coming = s.coming })) (c t) (h.in_state t)
      (λ r p. record { growth = p.growth; marked = p.marked; holds = p.holds });
}

pub seen_from : {A : Type 0} {P : A → ℕ → Type 0} (scope : Scope Meaning) {c : Check A} → Uses P c → Uses P (seeing scope c)
seen_from {A} {P} scope {c} h = record {
  in_state = λ s. mapped P P (marks s.used) (λ r. (r.0, with_top (innermost s.scopes) r.1)) (c (with_top scope s)) (h.in_state (with_top scope s))
      (λ r p. record { growth = p.growth; marked = p.marked; holds = p.holds });
}

pub measuring : {A : Type 0} {P : A → ℕ → Type 0} {c : Check A} → Uses P c → Uses (λ (x : A × ℕ). P x.0) (measured c)
measuring {A} {P} {c} h = record {
  in_state = λ s. let t : State = record s { operands = 0 } in
      mapped P (λ (x : A × ℕ). P x.0) (marks s.used) (λ r. ((r.0, r.1.operands), record r.1 { operands = s.operands })) (c t) (h.in_state t)
      (λ r p. record { growth = p.growth; marked = p.marked; holds = p.holds });
}

pub within : {A : Type 0} {P : A → ℕ → Type 0} (n : ℕ) (p : Place) {c : Check A} → Uses P c → Uses P (within_operands n p c)
within {A} {P} n p {c} h = bind (measuring h) (λ r m q. after (only_if (nat_le (n + r.1) OPERAND_WORDS) FrameTooLarge p tt) (λ u w. give (rw add-zero q)))
