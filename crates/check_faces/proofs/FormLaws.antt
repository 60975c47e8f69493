-- The names of elements in each form of a type.
use Rattle.std.proofs.Common.{◌≡◌, ◌⊎◌, inl, inr, List, [], refl, sym, ap, ◌∙◌}
use Rattle.mesa_base.specs.declared.identifier.Identifier.{Identifier}
use Rattle.mesa_base.specs.declared.place.Place.{Place}
use Rattle.syntax_trees.specs.PlainSyntax.{field_list, interval, named_fields, type_exp}
use Rattle.syntax_trees.specs.Syntax as form
use Rattle.syntax_trees.specs.declared.syntax.FieldList.{FieldList}
use Rattle.syntax_trees.specs.declared.syntax.FieldList.TheVariants as fv
use Rattle.syntax_trees.specs.declared.syntax.Interval.{Interval}
use Rattle.syntax_trees.specs.declared.syntax.Labeled.{Labeled}
use Rattle.syntax_trees.specs.declared.syntax.QualifiedName.{QualifiedName}
use Rattle.syntax_trees.specs.declared.syntax.TypeBase.{TypeBase}
use Rattle.syntax_trees.specs.declared.syntax.TypeExp.{TypeExp}
use Rattle.syntax_trees.specs.declared.syntax.TypeExp.TheVariants as yv
use Rattle.syntax_trees.proofs.PlainForms.{of_array, of_boolean, of_called, of_cardinal, of_character, of_integer, of_long_cardinal, of_long_integer, of_string, of_subrange, of_with_names}
use Rattle.check_scopes.specs.Scopes.{Scope, over}
use Rattle.check_rules.specs.Meanings as m
use Rattle.check_rules.specs.Programs.{elements_in, elements_in_named, elements_of}
use Rattle.check_faces.specs.Ahead.{later}
use Rattle.check_faces.proofs.AheadLaws.{none_more, two_more}

module _ (s : Scope m.Meaning) where
  abbrev with : form.TypeExp → Scope m.Meaning
  with k = over s (later (elements_of k))

  nothing_in : (e : TypeExp) (k : form.TypeExp) → type_exp e ≡ k → elements_of k ≡ [] → s ≡ over s (later (elements_of (type_exp e)))
  nothing_in e k h none = sym (ap with h ∙ ap (λ xs. over s (later xs)) none ∙ none_more s)

  -- the forms that have no element in them
  pub in_leaf : (e : TypeExp) → ((p : Place) × (e ≡ yv.Integer p)) ⊎ (((p : Place) × (e ≡ yv.Cardinal p)) ⊎ (((p : Place) × (e ≡ yv.LongInteger p)) ⊎ (((p : Place) × (e ≡ yv.LongCardinal p)) ⊎ (
      ((p : Place) × (e ≡ yv.Boolean p)) ⊎ (((p : Place) × (e ≡ yv.Character p)) ⊎ (((p : Place) × (e ≡ yv.String p)) ⊎ (((q : QualifiedName) × (e ≡ yv.Called q)) ⊎ ((b : TypeBase) × (i : Interval) × (e ≡ yv.Subrange b i)))))))))
      → s ≡ over s (later (elements_of (type_exp e)))
  unfolding elements_of
  in_leaf e (inl w) = nothing_in e (form.Integer w.0) (ap type_exp w.1 ∙ of_integer w.0) refl
  in_leaf e (inr (inl w)) = nothing_in e (form.Cardinal w.0) (ap type_exp w.1 ∙ of_cardinal w.0) refl
  in_leaf e (inr (inr (inl w))) = nothing_in e (form.LongInteger w.0) (ap type_exp w.1 ∙ of_long_integer w.0) refl
  in_leaf e (inr (inr (inr (inl w)))) = nothing_in e (form.LongCardinal w.0) (ap type_exp w.1 ∙ of_long_cardinal w.0) refl
  in_leaf e (inr (inr (inr (inr (inl w))))) = nothing_in e (form.Boolean w.0) (ap type_exp w.1 ∙ of_boolean w.0) refl
  in_leaf e (inr (inr (inr (inr (inr (inl w)))))) = nothing_in e (form.Character w.0) (ap type_exp w.1 ∙ of_character w.0) refl
  in_leaf e (inr (inr (inr (inr (inr (inr (inl w))))))) = nothing_in e (form.String w.0) (ap type_exp w.1 ∙ of_string w.0) refl
  in_leaf e (inr (inr (inr (inr (inr (inr (inr (inl w)))))))) = nothing_in e (form.Called w.0) (ap type_exp w.1 ∙ of_called w.0) refl
  in_leaf e (inr (inr (inr (inr (inr (inr (inr (inr w)))))))) = nothing_in e (form.Subrange w.0 (interval w.1)) (ap type_exp w.2 ∙ of_subrange w.0 w.1) refl

  pub in_array : (p : Place) (e i x : TypeExp) → e ≡ yv.Array p i x → (t u : Scope m.Meaning) → t ≡ over s (later (elements_of (type_exp i)))
      → u ≡ over t (later (elements_of (type_exp x))) → u ≡ over s (later (elements_of (type_exp e)))
  unfolding elements_of
  in_array p e i x h t u a b =
      b ∙ ap (λ r. over r (later (elements_of (type_exp x)))) a
      ∙ sym (two_more s (elements_of (type_exp i)) (elements_of (type_exp x)))
      ∙ sym (ap with (ap type_exp h ∙ of_array p i x))

  pub in_names : (fs : FieldList) (all : List (Labeled (List Identifier) TypeExp)) → fs ≡ fv.WithNames all → (t : Scope m.Meaning)
      → t ≡ over s (later (elements_in_named (named_fields all))) → t ≡ over s (later (elements_in (field_list fs)))
  unfolding elements_of
  in_names fs all h t a = a ∙ sym (ap (λ x. over s (later (elements_in x))) (ap field_list h ∙ of_with_names all))
