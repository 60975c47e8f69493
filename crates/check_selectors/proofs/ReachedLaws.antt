-- One result, or others.
use Rattle.std.proofs.Common.{◌≡◌, ◌≤◌, ◌<◌, false, List, [], ◌∷◌, length, get_or, map, Some, None, Ok, refl, sym, ap, ◌∙◌, arith}
use Rattle.mesa_types.specs.Typed as t
use Rattle.mesa_types.specs.declared.types.FieldType.{FieldType, out-FieldType}
use Rattle.interface_records.specs.PlainTypes.{PlainType, PlainField, plain, plain_field}
use Rattle.check_state.proofs.TypeForms.{parts_of_field}
use Rattle.check_rules.specs.Ranges.{Aim}
use Rattle.check_rules.specs.Reached.{Value, Results, settled, results, several}
use Rattle.check_selectors.specs.Views.{alone}

no_one : {A B : Type 0} (a : A) → None ≡ Some a → B
no_one a e = absurd (apart a e)
  where
    apart : {A : Type 0} (a : A) → None ≡ Some a → ⊥
    apart a e = cc

some_one : {A : Type 0} (a b : A) → Some a ≡ Some b → a ≡ b
some_one a b e = cc

pub settled_one : (e : t.Expr) (fs : List PlainField) (k : PlainType) → alone fs ≡ Some k → settled (Results e fs) ≡ Value 0 e k
settled_one e [] k h = no_one k h
settled_one e (f ∷ []) k h = ap (Value 0 e) (some_one f.kind k h)
settled_one e (f ∷ g ∷ fs) k h = no_one k h

pub settled_other : (e : t.Expr) (fs : List PlainField) → alone fs ≡ None → settled (Results e fs) ≡ Results e fs
settled_other e [] h = refl
settled_other e (f ∷ []) h = no_one f.kind (sym h)
settled_other e (f ∷ g ∷ fs) h = refl

pub results_one : (aim : Aim) (e : t.Expr) (fs : List PlainField) (k : PlainType) → alone fs ≡ Some k
    → results aim e fs ≡ Ok (record { value = e; kind = k; literal = false; gave = Some fs })
results_one aim e [] k h = no_one k h
results_one aim e (f ∷ []) k h = ap (λ j. Ok (record { value = e; kind = j; literal = false; gave = Some (f ∷ []) })) (some_one f.kind k h)
results_one aim e (f ∷ g ∷ fs) k h = no_one k h

pub results_other : (aim : Aim) (e : t.Expr) (fs : List PlainField) → alone fs ≡ None → results aim e fs ≡ several aim e fs
results_other aim e [] h = refl
results_other aim e (f ∷ []) h = no_one f.kind (sym h)
results_other aim e (f ∷ g ∷ fs) h = refl

pub alone_one : (fs : List FieldType) (f : FieldType) → 1 ≤ length fs → length fs < 2 → f ≡ get_or fs 0 f → alone (map plain_field fs) ≡ Some (plain (out-FieldType f).kind)
alone_one [] f many few here = absurd (omega (arith, many))
alone_one (x ∷ []) f many few here = ap (λ y. Some (plain_field y).kind) (sym here) ∙ ap (λ (y : PlainField). Some y.kind) (parts_of_field f)
alone_one (x ∷ y ∷ fs) f many few here = absurd (omega (arith, few))
