-- The procedures of a module by number.
use Rattle.std.proofs.Common.{◌≡◌, sym, ap, ◌∙◌, ℕ, zero, suc, ◌-◌, ◌≤◌, List, ◌∷◌, length, map, get_or, Some, refl, arith}
use Rattle.std.proofs.lemmas.Option.{slice_get-map, slice_get-get_or}
use Rattle.std.specs.Prelude.{slice_get, option_map}
use Rattle.mesa_types.specs.declared.typed_tree.TypedProcedure.{TypedProcedure}
use Rattle.mesa_types.specs.declared.types.FieldType.{FieldType}
use Rattle.mesa_types.specs.Plain.{plain_body, plain_procedure}
use Rattle.mesa_types.specs.Typed.{Procedure}

module _ (p : TypedProcedure) where
  abbrev with_fields : (takes gives : List FieldType) → Procedure
  with_fields takes gives = record {
    head = record { kind = p.head.kind; name = p.head.name; takes = takes; gives = gives };
    body = plain_body p.body;
  }

  same_fields : (takes gives : List FieldType) → takes ≡ p.head.takes → gives ≡ p.head.gives → plain_procedure p ≡ with_fields takes gives
  same_fields takes gives same own = ap (with_fields p.head.takes) (sym own) ∙ ap (λ t. with_fields t gives) (sym same)

  -- behind the body the others follow in order
  pub procedure_there : (main : Procedure) (ps xs : List TypedProcedure) → xs ≡ ps → (number : ℕ) → (number ≡ 0 → ⊥) → number ≤ length ps
      → p ≡ get_or xs (number - 1) p → (takes gives : List FieldType) → takes ≡ p.head.takes → gives ≡ p.head.gives
      → slice_get (main ∷ map plain_procedure ps) number ≡ Some (with_fields takes gives)
  procedure_there main ps xs all zero some le is takes gives same own = absurd (some refl)
  procedure_there main ps xs all (suc k) some le is takes gives same own =
      let before : suc k - 1 ≡ k = omega arith in
      let here : get_or ps k p ≡ p = ap (λ (l : List TypedProcedure). get_or l k p) (sym all) ∙ ap (λ j. get_or xs j p) (sym before) ∙ sym is in
      slice_get-map plain_procedure ps k ∙ ap (option_map plain_procedure) (slice_get-get_or ps k p (omega (arith, le)) ∙ ap Some here)
      ∙ ap Some (same_fields takes gives same own)
