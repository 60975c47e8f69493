-- Links that stand for what is answered are those to which it is bound.
use Rattle.std.proofs.Common.{◌≡◌, List, [], ◌∷◌, refl, sym, ap, ◌∙◌}
use Rattle.std.specs.Prelude.{map}
use Rattle.config_rules.specs.Bindings.{binding_of, bindings_in, bindings_of}
use Rattle.config_rules.specs.Resolves.{Want, wants_in}
use Rattle.config_rules.specs.declared.tree.Binding.{Binding}
use Rattle.config_rules.specs.declared.tree.Binding.TheVariants.{Left, To}
use Rattle.config_rules.specs.declared.tree.Tree.{Tree}
use Rattle.config_rules.specs.declared.tree.TreeInstance.{TreeInstance}
use Rattle.import_binder.specs.Bindings.{meant, all_meant, answers}

abbrev bound_to : List Want → List Binding
bound_to ws = map (λ (w : Want). binding_of w.answer) ws

bound_as_meant : (b : Binding) → binding_of (meant b) ≡ b
unfolding binding_of meant
bound_as_meant Left = refl
bound_as_meant (To j n) = refl

all_as_meant : (bs : List Binding) → map binding_of (all_meant bs) ≡ bs
all_as_meant [] = refl
all_as_meant (b ∷ bs) = ap (λ x. x ∷ map binding_of (all_meant bs)) (bound_as_meant b) ∙ ap (λ xs. b ∷ xs) (all_as_meant bs)

answers_bind : (ws : List Want) → map binding_of (answers ws) ≡ bound_to ws
answers_bind [] = refl
answers_bind (w ∷ ws) = ap (λ xs. binding_of w.answer ∷ xs) (answers_bind ws)

lists_as_meant : (bs : List (List Binding)) → map (map binding_of) (map all_meant bs) ≡ bs
lists_as_meant [] = refl
lists_as_meant (b ∷ bs) = ap (λ x. x ∷ map (map binding_of) (map all_meant bs)) (all_as_meant b) ∙ ap (λ xs. b ∷ xs) (lists_as_meant bs)

each_binds : (t : Tree) (xs : List TreeInstance) → map (map binding_of) (map (λ (x : TreeInstance). answers (wants_in t x)) xs) ≡ map (bindings_in t) xs
each_binds t [] = refl
each_binds t (x ∷ xs) =
    ap (λ y. y ∷ map (map binding_of) (map (λ (z : TreeInstance). answers (wants_in t z)) xs)) (answers_bind (wants_in t x))
    ∙ ap (λ ys. bindings_in t x ∷ ys) (each_binds t xs)

pub are_bindings : (t : Tree) (links : List (List Binding)) → map all_meant links ≡ map (λ (x : TreeInstance). answers (wants_in t x)) t.instances → links ≡ bindings_of t
are_bindings t links e = sym (lists_as_meant links) ∙ ap (map (map binding_of)) e ∙ each_binds t t.instances
