-- Passes are exact where their parts are.
use Rattle.std.proofs.Common.{◌≡◌, ℕ, List, [], ◌∷◌, ◌++◌, Option, Some, None, refl, sym, ◌∙◌, ap, subst}
use Rattle.mesa_base.specs.Outside.{Files}
use Rattle.command_rules.specs.Passes.{Outcome, Has, Stops, Trail, Pass, decided, given, FromFile, held, missing, from_file, IfThere, asked, if_there, Follows, stopped, went, and_then, each, IsExact}

-- a relation of one outcome
abbrev pub One : {C A : Type 0} → (Outcome C A → Type 0) → Type 0
One {C} {A} R = (o r : Outcome C A) → R o → R r → o ≡ r

pub decided_exact : {C A : Type 0} (R : Outcome C A → Type 0) → One R → IsExact (decided R)
decided_exact R one files t u o r p q = (p.0 ∙ sym q.0, one o r p.1 q.1)

pub given_exact : {C A : Type 0} (a : A) → IsExact (given {C = C} a)
given_exact a = decided_exact (λ o. o ≡ Has a) (λ o r p q. p ∙ sym q)

some_is : {A : Type 0} (a b : A) → Some a ≡ Some b → a ≡ b
some_is a b e = cc

none_some : {A : Type 0} (a : A) (o : Option A) → o ≡ None → o ≡ Some a → ⊥
none_some a o e f = cc

-- what is told of a file is one thing
file_exact : {C A : Type 0} (file : List ℕ) (absent : C) (R : List ℕ → Outcome C A → Type 0) → ((bytes : List ℕ) → One (R bytes))
    → (files : Files) (t u : Trail) (o r : Outcome C A) → FromFile file absent R (Some files) t o → FromFile file absent R (Some files) u r → (t ≡ u) × (o ≡ r)
file_exact file absent R one files t u o r (held bytes _ is p) (held more _ so q) =
    let same : bytes ≡ more = some_is bytes more (sym is ∙ so) in
    (refl, one more o r (subst (λ b. R b o) same p) q)
file_exact file absent R one files t u o r (held bytes _ is p) (missing none) = absurd (none_some bytes (files file) none is)
file_exact file absent R one files t u o r (missing none) (held bytes _ is p) = absurd (none_some bytes (files file) none is)
file_exact file absent R one files t u o r (missing none) (missing also) = (refl, refl)

pub from_file_exact : {C A : Type 0} (file : List ℕ) (absent : C) (R : List ℕ → Outcome C A → Type 0) → ((bytes : List ℕ) → One (R bytes))
    → IsExact (from_file file absent R)
from_file_exact file absent R one files t u o r p q = file_exact file absent R one files t u o r p q

there_exact : {C A : Type 0} (file : List ℕ) (R : Option (List ℕ) → Outcome C A → Type 0) → ((bytes : Option (List ℕ)) → One (R bytes))
    → (files : Files) (t u : Trail) (o r : Outcome C A) → IfThere file R (Some files) t o → IfThere file R (Some files) u r → (t ≡ u) × (o ≡ r)
there_exact file R one files t u o r (asked bytes _ is p) (asked more _ so q) =
    let same : bytes ≡ more = sym is ∙ so in
    (refl, one more o r (subst (λ b. R b o) same p) q)

pub if_there_exact : {C A : Type 0} (file : List ℕ) (R : Option (List ℕ) → Outcome C A → Type 0) → ((bytes : Option (List ℕ)) → One (R bytes))
    → IsExact (if_there file R)
if_there_exact file R one files t u o r p q = there_exact file R one files t u o r p q

value_or : {C A : Type 0} → A → Outcome C A → A
value_or d (Has a) = a
value_or d (Stops c) = d

stop_or : {C A : Type 0} → C → Outcome C A → C
stop_or d (Has a) = d
stop_or d (Stops c) = c

is_value : {C A : Type 0} → Outcome C A → Type 0
is_value (Has a) = Unit {0}
is_value (Stops c) = ⊥

follow_exact : {C A B : Type 0} (p : Pass C A) (q : A → Pass C B) → IsExact p → ((a : A) → IsExact (q a))
    → (files : Files) (t u : Trail) (o r : Outcome C B) → Follows p q (Some files) t o → Follows p q (Some files) u r → (t ≡ u) × (o ≡ r)
unfolding value_or stop_or is_value
follow_exact p q one then files t u o r (stopped _ c at) (stopped _ d also) =
    let h = one files t u (Stops c) (Stops d) at also in
    (h.0, ap Stops (ap (stop_or c) h.1))
follow_exact p q one then files t u o r (stopped _ c at) (went trail more a _ also next) =
    absurd (subst is_value (sym (one files t trail (Stops c) (Has a) at also).1) tt)
follow_exact p q one then files t u o r (went trail more a _ at next) (stopped _ c also) =
    absurd (subst is_value (one files trail u (Has a) (Stops c) at also).1 tt)
follow_exact p q one then files t u o r (went trail more a _ at next) (went trail' more' b _ also last) =
    let h = one files trail trail' (Has a) (Has b) at also in
    let same : a ≡ b = ap (value_or a) h.1 in
    let k = then b files more more' o r (subst (λ x. (q x).comes (Some files) more o) same next) last in
    (ap (λ x. x ++ more) h.0 ∙ ap (λ x. trail' ++ x) k.0, k.1)

pub and_then_exact : {C A B : Type 0} (p : Pass C A) (q : A → Pass C B) → IsExact p → ((a : A) → IsExact (q a)) → IsExact (and_then p q)
and_then_exact p q one then files t u o r x y = follow_exact p q one then files t u o r x y

pub each_exact : {C X A : Type 0} (q : X → Pass C A) → ((x : X) → IsExact (q x)) → (xs : List X) → IsExact (each q xs)
unfolding each
each_exact q one [] = given_exact []
each_exact q one (x ∷ xs) =
    and_then_exact (q x) (λ a. and_then (each q xs) (λ bs. given (a ∷ bs))) (one x)
    (λ a. and_then_exact (each q xs) (λ bs. given (a ∷ bs)) (each_exact q one xs) (λ bs. given_exact (a ∷ bs)))
