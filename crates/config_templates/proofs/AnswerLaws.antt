-- Answers one after the other, and where the code stops in one of them.
use Rattle.std.proofs.Common.{◌≡◌, Bool, true, false, Result, Ok, Err, inl, inr, ⊎_elim, refl, sym, ap, subst, ◌∙◌}
use Rattle.std.specs.Prelude.{MatchResult}
use Rattle.cmesa_grammar.specs.Syntax.{Place}
use Rattle.config_rules.specs.Through.{Answer, ◌>>=◌, unless}
use Rattle.config_rules.specs.declared.fault.TreeCause.{TreeCause}
use Rattle.config_rules.specs.declared.fault.TreeFault.{TreeFault}
use Rattle.config_rules.specs.declared.fault.TreeFault.TheVariants.{At}
use Rattle.config_templates.specs.Answers.{Stops, IsAnswer}

abbrev pub ok : {A : Type 0} → A → Answer A
ok a = Ok a

abbrev pub err : {A : Type 0} → TreeFault → Answer A
err e = Err e

abbrev pub answer_ok : {A : Type 0} → Answer A → A → Type 0
answer_ok x a = x ≡ Ok a

pub then : {A B : Type 0} (x : Answer A) (f : A → Answer B) (a : A) → x ≡ Ok a → x >>= f ≡ f a
unfolding ◌>>=◌
then x f a e = ap (λ y. y >>= f) e

pub fails : {A B : Type 0} (x : Answer A) (f : A → Answer B) (e : TreeFault) → x ≡ Err e → x >>= f ≡ Err e
unfolding ◌>>=◌
fails x f e h = ap (λ y. y >>= f) h

pub stops : {A B : Type 0} (x : Answer A) (f : A → Answer B) (e : TreeFault) → Stops x e → Stops (x >>= f) e
stops x f e s = ⊎_elim (λ m. inl m) (λ h. inr (fails x f e h)) s

-- where the one is the other, it stops as that
pub stops_as : {A : Type 0} (x y : Answer A) (e : TreeFault) → x ≡ y → Stops y e → Stops x e
stops_as x y e h s = ⊎_elim (λ m. inl m) (λ k. inr (h ∙ k)) s

pub stands : (b : Bool) (cause : TreeCause) (p : Place) → b ≡ true → unless b cause p ≡ Err (At cause p)
unfolding unless
stands b cause p e = ap (λ c. unless c cause p) e

pub passes : (b : Bool) (cause : TreeCause) (p : Place) → b ≡ false → unless b cause p ≡ Ok tt
unfolding unless
passes b cause p e = ap (λ c. unless c cause p) e

pub joined : {A B C : Type 0} (x : Answer A) (f : A → Answer B) (g : B → Answer C) → x >>= f >>= g ≡ x >>= (λ a. f a >>= g)
unfolding ◌>>=◌
joined (Ok a) f g = refl
joined (Err e) f g = refl

-- the exit of a `?` gives the fault on
pub exits_by : {B : Type 0} (P : B → Type 0) (Q : TreeFault → Type 0) (r : Result B TreeFault) (fault : TreeFault) → (y : TreeFault) × (r ≡ Err y) × (y ≡ fault) → Q fault → MatchResult r P Q
exits_by {B} P Q r fault p q = subst (λ x. MatchResult x P Q) (sym (p.1 ∙ ap (λ y. as_result y) p.2)) q
  where
    as_result : TreeFault → Result B TreeFault
    as_result y = Err y

pub exits : {A B : Type 0} (seen : B → A) (exact : Answer A) (r : Result B TreeFault) (fault : TreeFault) → (y : TreeFault) × (r ≡ Err y) × (y ≡ fault) → Stops exact fault
    → IsAnswer seen exact r
exits seen exact r fault p s = exits_by (λ b. exact ≡ Ok (seen b)) (λ f. Stops exact f) r fault p s
