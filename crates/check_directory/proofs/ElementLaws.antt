-- The elements in each form of a type of the code.
use Rattle.std.proofs.Common.{◌≡◌, ℕ, false, List, [], Result, Ok, Err, sym, ap, ◌∙◌}
use Rattle.std.specs.Prelude.{OnOk, IfOk, cond}
use Rattle.mesa_types.specs.declared.types.TypeTree.{TypeTree}
use Rattle.mesa_types.specs.declared.types.TypeTree.TheVariants as tree
use Rattle.mesa_types.specs.declared.types.Origin.{Origin}
use Rattle.check_scopes.specs.Scopes.{Scope, over}
use Rattle.check_rules.specs.Directory.{elements_from, elements_in, first_entry, is_own}
use Rattle.check_rules.specs.Meanings as m
use Rattle.interface_records.specs.PlainTypes as v
use Rattle.interface_records.specs.PlainTypes.{PlainInterface, PlainType, plain}
use Rattle.check_state.proofs.TypeForms.{of_array, of_boolean, of_cardinal, of_character, of_enumeration, of_integer, of_long_cardinal, of_long_integer, of_string}
use Rattle.check_directory.proofs.EntryLaws.{over_entries, over_none}

pub then_ok : {A E P Q : Type 0} (r : Result A E) → OnOk r P → (P → Q) → OnOk r Q
then_ok (Ok a) p f = f p
then_ok (Err e) p f = p

pub then_if : {A E : Type 0} {P Q : A → Type 0} (r : Result A E) → IfOk r P → ((a : A) → P a → Q a) → IfOk r Q
then_if (Ok a) p f = f a p
then_if (Err e) p f = p

module _ (face : PlainInterface) (s : Scope m.Meaning) where
  abbrev with : PlainType → Scope m.Meaning
  with k = over s (first_entry (elements_in face k))

  pub in_integer : (k : TypeTree) → k ≡ tree.Integer → s ≡ over s (first_entry (elements_in face (plain k)))
  unfolding elements_in
  in_integer k h = sym (ap with (ap plain h ∙ of_integer) ∙ over_none s)

  pub in_cardinal : (k : TypeTree) → k ≡ tree.Cardinal → s ≡ over s (first_entry (elements_in face (plain k)))
  unfolding elements_in
  in_cardinal k h = sym (ap with (ap plain h ∙ of_cardinal) ∙ over_none s)

  pub in_long_integer : (k : TypeTree) → k ≡ tree.LongInteger → s ≡ over s (first_entry (elements_in face (plain k)))
  unfolding elements_in
  in_long_integer k h = sym (ap with (ap plain h ∙ of_long_integer) ∙ over_none s)

  pub in_long_cardinal : (k : TypeTree) → k ≡ tree.LongCardinal → s ≡ over s (first_entry (elements_in face (plain k)))
  unfolding elements_in
  in_long_cardinal k h = sym (ap with (ap plain h ∙ of_long_cardinal) ∙ over_none s)

  pub in_boolean : (k : TypeTree) → k ≡ tree.Boolean → s ≡ over s (first_entry (elements_in face (plain k)))
  unfolding elements_in
  in_boolean k h = sym (ap with (ap plain h ∙ of_boolean) ∙ over_none s)

  pub in_character : (k : TypeTree) → k ≡ tree.Character → s ≡ over s (first_entry (elements_in face (plain k)))
  unfolding elements_in
  in_character k h = sym (ap with (ap plain h ∙ of_character) ∙ over_none s)

  pub in_string : (k : TypeTree) → k ≡ tree.String → s ≡ over s (first_entry (elements_in face (plain k)))
  unfolding elements_in
  in_string k h = sym (ap with (ap plain h ∙ of_string) ∙ over_none s)

  pub in_other : (k : TypeTree) (o : Origin) (xs : List (List ℕ)) → k ≡ tree.Enumeration o xs → is_own face o ≡ false
      → s ≡ over s (first_entry (elements_in face (plain k)))
  unfolding elements_in
  in_other k o xs h own = sym (
      ap with (ap plain h ∙ of_enumeration o xs)
      ∙ ap (λ b. over s (first_entry (cond b (elements_from (v.Enumeration o xs) 0 xs) []))) own
      ∙ over_none s)

  pub in_array : (k i e : TypeTree) → k ≡ tree.Array i e → (t u : Scope m.Meaning) → t ≡ over s (first_entry (elements_in face (plain i)))
      → u ≡ over t (first_entry (elements_in face (plain e))) → u ≡ over s (first_entry (elements_in face (plain k)))
  unfolding elements_in
  in_array k i e h t u a b =
      b ∙ ap (λ r. over r (first_entry (elements_in face (plain e)))) a
      ∙ sym (over_entries s (elements_in face (plain i)) (elements_in face (plain e)))
      ∙ sym (ap with (ap plain h ∙ of_array i e))
