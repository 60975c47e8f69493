-- Bindings that stand for what the tree's items stand for are the bindings of the tree.
use Rattle.std.proofs.Common.{◌≡◌, List, [], ◌∷◌, map, refl, sym, ap, ◌∙◌}
use Rattle.config_rules.specs.Bindings.{binding_of, bindings_of}
use Rattle.config_rules.specs.Resolves.{Resolution, Want, wants_in}
use Rattle.config_rules.specs.declared.tree.Binding.{Binding}
use Rattle.config_rules.specs.declared.tree.Tree.{Tree}
use Rattle.config_rules.specs.declared.tree.TreeInstance.{TreeInstance}

twice : {A B C : Type 0} (g : B → C) (f : A → B) (xs : List A) → map g (map f xs) ≡ map (λ x. g (f x)) xs
twice g f [] = refl
twice g f (x ∷ xs) = ap (λ l. g (f x) ∷ l) (twice g f xs)

undone : {A B : Type 0} (g : B → A) (f : A → B) → ((x : A) → g (f x) ≡ x) → (xs : List A) → map g (map f xs) ≡ xs
undone g f h [] = refl
undone g f h (x ∷ xs) = λ j. h x j ∷ undone g f h xs j

-- `meant` is what a binding stands for; a binding is found again from it
module _ (meant : Binding → Resolution) (found : (b : Binding) → binding_of (meant b) ≡ b) (t : Tree) where
  abbrev answers : TreeInstance → List Resolution
  answers x = map (λ (w : Want). w.answer) (wants_in t x)

  all_found : (xs : List TreeInstance) → map (map binding_of) (map answers xs) ≡ map (λ x. map (λ (w : Want). binding_of w.answer) (wants_in t x)) xs
  all_found [] = refl
  all_found (x ∷ xs) = λ j. twice binding_of (λ (w : Want). w.answer) (wants_in t x) j ∷ all_found xs j

  pub are_bindings : (bss : List (List Binding)) → map (map meant) bss ≡ map answers t.instances → bss ≡ bindings_of t
  are_bindings bss h = sym (undone (map binding_of) (map meant) (undone binding_of meant found) bss) ∙ ap (map (map binding_of)) h ∙ all_found t.instances
