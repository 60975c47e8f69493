-- What comes of checks: of a value where there is one, in each state.
use Rattle.std.specs.Prelude.{ℕ, suc, ◌≡◌, ◌+◌, Bool, true, false, Ok, Err, List, [], ◌∷◌, ◌++◌, length, map, IfOk, nat_le}
use Rattle.std.proofs.Common.{refl, ap, ◌∙◌}
use Rattle.mesa_base.specs.declared.place.Place.{Place}
use Rattle.mesa_base.specs.declared.limits.TheConstants.{OPERAND_WORDS}
use Rattle.check_rules.specs.Steps.{State, Check, Checked, and_then, ◌>>=◌, pure, lift, only, ensure, measured, within_operands}
use Rattle.check_rules.specs.Programs.{told, fault_or}
use Rattle.check_rules.specs.declared.fault.Cause.{Cause}
use Rattle.check_rules.specs.declared.fault.Cause.TheVariants.{FrameTooLarge}

pub then_ok : {A B : Type 0} (P : A → Type 0) (Q : B → Type 0) (r : Checked A) (f : A → Checked B) → IfOk r P → ((a : A) → P a → IfOk (f a) Q)
    → IfOk (and_then r f) Q
then_ok P Q (Ok a) f h k = k a h
then_ok P Q (Err e) f h k = tt

pub any_ok : {A : Type 0} (r : Checked A) → IfOk r (λ _. Unit {0})
any_ok (Ok a) = tt
any_ok (Err e) = tt

pub ok_as : {A : Type 0} (P Q : A → Type 0) (r : Checked A) → IfOk r P → ((a : A) → P a → Q a) → IfOk r Q
ok_as P Q (Ok a) h k = k a h
ok_as P Q (Err e) h k = tt

pub both_ok : {A : Type 0} (P Q R : A → Type 0) (r : Checked A) → IfOk r P → IfOk r Q → ((a : A) → P a → Q a → R a) → IfOk r R
both_ok P Q R (Ok a) h k f = f a h k
both_ok P Q R (Err e) h k f = tt

pub ok_only : (b : Bool) (c : Cause) (p : Place) → IfOk (only b c p) (λ _. b ≡ true)
ok_only true c p = refl
ok_only false c p = tt

-- steps that end well
pub ok_bind : {A B : Type 0} (P : A × State → Type 0) (Q : B × State → Type 0) (c : Check A) (f : A → Check B) (σ : State) → IfOk (c σ) P
    → ((r : A × State) → P r → IfOk (f r.0 r.1) Q) → IfOk ((c >>= f) σ) Q
ok_bind {A} {B} P Q c f σ h k = go (c σ) h
  where
    go : (r : Checked (A × State)) → IfOk r P → IfOk (and_then r (λ r. f r.0 r.1)) Q
    go (Ok r) p = k r p
    go (Err e) p = tt

pub told_ok : {A : Type 0} (P : A → Type 0) (r : Checked A) (again : Unit {0} → Checked A) → IfOk r P → IfOk (told r again) P
told_ok P (Ok x) again h = h
told_ok {A} P (Err e) again h = still_wrong (again tt)
  where
    still_wrong : (r : Checked A) → IfOk (fault_or e r) P
    still_wrong (Ok x) = tt
    still_wrong (Err g) = tt

-- what a check gives in each state
pub record Gives {A : Type 0} (P : A → Type 0) (c : Check A) : Type 0 where
  pub in_state : (σ : State) → IfOk (c σ) (λ (r : A × State). P r.0)

abbrev pub Any : {A : Type 0} → A → Type 0
Any a = Unit {0}

pub any : {A : Type 0} (c : Check A) → Gives Any c
any {A} c = record { in_state = λ σ. any_ok (c σ) }

pub bind : {A B : Type 0} (P : A → Type 0) {Q : B → Type 0} (c : Check A) {f : A → Check B} → Gives P c → ((a : A) → P a → Gives Q (f a)) → Gives Q (c >>= f)
bind {A} {B} P {Q} c {f} h k = record {
  in_state =
      λ σ. then_ok (λ (r : A × State). P r.0) (λ (r : B × State). Q r.0) (c σ) (λ r. f r.0 r.1) (h.in_state σ) (λ r p. (k r.0 p).in_state r.1);
}

pub give : {A : Type 0} {P : A → Type 0} {a : A} → P a → Gives P (pure a)
give h = record { in_state = λ σ. h }

pub lifting : {A : Type 0} (P : A → Type 0) (r : Checked A) → IfOk r P → Gives P (lift r)
lifting {A} P r h = record { in_state = λ σ. then_ok P (λ (x : A × State). P x.0) r (λ a. Ok (a, σ)) h (λ a p. p) }

pub weaker : {A : Type 0} (P Q : A → Type 0) (c : Check A) → Gives P c → ((a : A) → P a → Q a) → Gives Q c
weaker {A} P Q c h k = record { in_state = λ σ. ok_as (λ (x : A × State). P x.0) (λ (x : A × State). Q x.0) (c σ) (h.in_state σ) (λ x p. k x.0 p) }

pub measuring : {A : Type 0} (P : A → Type 0) (c : Check A) → Gives P c → Gives (λ (x : A × ℕ). P x.0) (measured c)
measuring {A} P c h = record {
  in_state = λ σ. then_ok (λ (r : A × State). P r.0) (λ (r : (A × ℕ) × State). P r.0.0) (c (record σ { operands = 0 }))
      (λ r. Ok ((r.0, r.1.operands), record r.1 { operands = σ.operands })) (h.in_state (record σ { operands = 0 })) (λ r p. p);
}

pub within : {A : Type 0} (P : A → Type 0) (n : ℕ) (p : Place) (c : Check A) → Gives P c → Gives P (within_operands n p c)
within {A} P n p c h = bind (λ (x : A × ℕ). P x.0) (measured c) (measuring P c h) (λ r q.
    bind Any (ensure (nat_le (n + r.1) OPERAND_WORDS) FrameTooLarge p) (any (ensure (nat_le (n + r.1) OPERAND_WORDS) FrameTooLarge p)) (λ u w. give q))

-- lists
pub length_of_map : {A B : Type 0} (f : A → B) (xs : List A) → length (map f xs) ≡ length xs
length_of_map f [] = refl
length_of_map f (x ∷ xs) = ap suc (length_of_map f xs)

pub map_append : {A : Type 0} (g : A → List ℕ) (xs ys : List A) → map g (xs ++ ys) ≡ map g xs ++ map g ys
map_append g [] ys = refl
map_append g (x ∷ xs) ys = ap (λ zs. g x ∷ zs) (map_append g xs ys)

pub map_twice : {A B : Type 0} (f : A → B) (g : B → List ℕ) (h : A → List ℕ) → ((a : A) → g (f a) ≡ h a) → (xs : List A) → map g (map f xs) ≡ map h xs
map_twice f g h e [] = refl
map_twice f g h e (x ∷ xs) = ap (λ n. n ∷ map g (map f xs)) (e x) ∙ ap (λ ns. h x ∷ ns) (map_twice f g h e xs)
