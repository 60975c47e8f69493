-- From the answers for copies of shapes to those for the modules' own.
use Rattle.std.proofs.Common.{◌≡◌, ◌≢◌, List, [], ◌∷◌, length, All, Ok, Err, IfOk, sym, subst}
use Rattle.mesa_types.specs.Typed.{Module}
use Rattle.mesa_types.specs.declared.faces.Shape.{Shape}
use Rattle.cmesa_grammar.specs.Syntax.{Config}
use Rattle.config_rules.specs.Components.{components}
use Rattle.config_rules.specs.InOrder.{ShapeInOrder}
use Rattle.config_rules.specs.Through.{Answer}
use Rattle.config_rules.specs.Tree.{IsSingle, IsTree}
use Rattle.config_rules.specs.declared.fault.TreeFault.TheVariants.{Memory}
use Rattle.config_rules.specs.declared.tree.Tree.{Tree}
use Rattle.built_runs.specs.config_tree.proofs.Ending.{not_memory}
use Rattle.built_runs.specs.bound_images.specs.Programs.{shape_of}
use Rattle.linked_programs.specs.Laws.{IsOfShapes}
use Rattle.linked_programs.specs.Modules.{AllCanBeLinked, CanBeLinked, shapes_of}
use Rattle.linked_programs.proofs.Making.{shapes_in_order}
use Rattle.linked_programs.proofs.InOrder.{in_order}
use Rattle.linked_programs.proofs.OneTree.{singles_are_of, trees_are_of}

pub all_in_order : (modules : List Module) (shapes : List Shape) → shapes ≡ shapes_of modules → AllCanBeLinked modules → All ShapeInOrder shapes
all_in_order modules shapes is h = subst (All ShapeInOrder) (sym is) (shapes_in_order modules h)

pub one_in_order : (m : Module) (s : Shape) → s ≡ shape_of m → CanBeLinked m → ShapeInOrder s
one_in_order m s is h = subst ShapeInOrder (sym is) (in_order m h)

module _ (c : Config) (shapes own : List Shape) (is : shapes ≡ own) (answer : Answer Tree) (told : answer ≢ Err Memory → IsTree c shapes answer) where
  pub is_tree : answer ≢ Err Memory → IsTree c own answer
  is_tree not = subst (λ ss. IsTree c ss answer) is (told not)

pub tree_of_shapes : (c : Config) (shapes own : List Shape) → shapes ≡ own → length shapes ≡ length (components c) → (answer : Answer Tree)
    → (answer ≢ Err Memory → IsTree c shapes answer) → IfOk answer (IsOfShapes own)
tree_of_shapes c shapes own is long (Ok t) told = subst (λ ss. IsOfShapes ss t) is (trees_are_of c shapes t long (told (not_memory t)))
tree_of_shapes c shapes own is long (Err fault) told = tt

pub is_single : (s own : Shape) → s ≡ own → (answer : Answer Tree) → (answer ≢ Err Memory → IsSingle s answer) → answer ≢ Err Memory → IsSingle own answer
is_single s own is answer told not = subst (λ x. IsSingle x answer) is (told not)

pub single_of_shape : (s own : Shape) → s ≡ own → (answer : Answer Tree) → (answer ≢ Err Memory → IsSingle s answer) → IfOk answer (IsOfShapes (own ∷ []))
single_of_shape s own is (Ok t) told = subst (λ x. IsOfShapes (x ∷ []) t) is (singles_are_of s t (told (not_memory t)))
single_of_shape s own is (Err fault) told = tt
