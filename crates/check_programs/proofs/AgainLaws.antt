-- Declarations that are tried again: the rule without its value, over the trees of the code, has the faults of the definition.
use Rattle.std.proofs.Common.{◌≡◌, List, [], ◌∷◌, ◌++◌, map, Ok, Err, refl, ap, ◌∙◌, subst}
use Rattle.mesa_base.specs.declared.identifier.Identifier.{Identifier}
use Rattle.syntax_trees.specs.Syntax as s
use Rattle.check_rules.specs.Around.{Around}
use Rattle.check_rules.specs.Meanings.{Meaning}
use Rattle.check_rules.specs.Programs.{Declared, before_others, behind, fault_or, head_alone, heads_further, next_or, passed_over, told}
use Rattle.check_rules.specs.Scopes.{Scope, innermost}
use Rattle.check_rules.specs.Steps.{State, Check, Checked, Fault, and_then}
use Rattle.check_programs.specs.Again.{dropped, next_rule, or_before, so_far}
use Rattle.check_programs.specs.Found.{Found, with_one}

abbrev drop_value : {A : Type 0} → Checked (A × State) → Checked (Unit {0} × State)
drop_value p = and_then p (λ r. Ok (tt, r.1))

same_next : {A : Type 0} (σ : State) (p : Checked (A × State)) → next_or σ (drop_value p) ≡ next_or σ p
same_next σ (Ok r) = refl
same_next σ (Err e) = refl

same_fault : {A : Type 0} (e : Fault) (p : Checked (A × State)) → fault_or e (drop_value p) ≡ drop_value (fault_or e p)
same_fault e (Ok r) = refl
same_fault e (Err f) = refl

same_told : {A : Type 0} (p q : Checked (A × State)) → told (drop_value p) (λ _. drop_value q) ≡ drop_value (told p (λ _. q))
same_told (Ok r) q = refl
same_told (Err e) q = same_fault e q

module _ {D E A : Type 0} (plain : D → E) (names : E → List Identifier) (rule : Around → E → Check A) where
  behind_is : (a : Around) (ds : List D) (σ : State)
      → behind (λ d. names (plain d)) (λ d. dropped (rule a (plain d))) ds σ ≡ behind names (rule a) (map plain ds) σ
  unfolding behind
  behind_is a [] σ = refl
  behind_is a (d ∷ ds) σ =
      ap (λ τ. behind (λ d. names (plain d)) (λ d. dropped (rule a (plain d))) ds τ) (same_next (passed_over (names (plain d)) σ) (rule a (plain d) σ))
      ∙ behind_is a ds (next_or (passed_over (names (plain d)) σ) (rule a (plain d) σ))

  sees : State → Scope Meaning
  sees σ x = head_alone (innermost σ.scopes x)

  pub before_is : (a : Around) (d : D) (ds : List D) (σ : State)
      → before_others (λ d. names (plain d)) (λ a d. dropped (rule a (plain d))) a d ds σ ≡ drop_value (before_others names rule a (plain d) (map plain ds) σ)
  unfolding sees
  before_is a d ds σ =
      ap (λ τ. told (drop_value (rule a (plain d) σ)) (λ _. drop_value (rule (record a { further = sees τ }) (plain d) σ)))
      (behind_is a ds (passed_over (names (plain d)) σ))
      ∙ same_told (rule a (plain d) σ) (rule (record a { further = heads_further names (rule a) (names (plain d)) (map plain ds) σ }) (plain d) σ)

abbrev IsOk : Checked (Unit {0} × State) → Type 0
IsOk (Ok r) = Unit {0}
IsOk (Err e) = ⊥

abbrev fault_of : Fault → Checked (Unit {0} × State) → Fault
fault_of e (Ok r) = e
fault_of e (Err f) = f

pub value_dropped : {A : Type 0} (p : Checked (A × State)) (e : Fault) → drop_value p ≡ Err e → p ≡ Err e
value_dropped (Ok r) e h = absurd (subst IsOk h tt)
value_dropped (Err f) e h = ap Err (ap (fault_of e) h)

-- the fault of a declaration that is checked with others before it
pub fault_alone : (f : Found) (p : Checked (Declared × State)) (e : Fault) → and_then {B = Found × State} p (λ r. Ok (with_one f r.0, r.1)) ≡ Err e → drop_value p ≡ Err e
fault_alone f (Ok r) e h = absurd (subst IsFound h tt)
  where
    IsFound : Checked (Found × State) → Type 0
    IsFound (Ok r) = Unit {0}
    IsFound (Err e) = ⊥
fault_alone f (Err g) e h = ap Err (ap (found_fault e) h)
  where
    found_fault : Fault → Checked (Found × State) → Fault
    found_fault e (Ok r) = e
    found_fault e (Err f) = f

more_so_far : (a : Around) (d : s.Declaration) (x : Found × State) → so_far a (d ∷ []) x ≡ or_before x (next_rule a x.0 d x.1)
unfolding so_far
more_so_far a d x = refl

pub so_far_more : (a : Around) (ds : List s.Declaration) (d : s.Declaration) (x : Found × State)
    → so_far a (ds ++ d ∷ []) x ≡ or_before (so_far a ds x) (next_rule a (so_far a ds x).0 d (so_far a ds x).1)
unfolding so_far
so_far_more a [] d x = refl
so_far_more a (e ∷ ds) d x = so_far_more a ds d (or_before x (next_rule a x.0 e x.1))
