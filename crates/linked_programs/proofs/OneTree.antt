-- The answers for a configuration, and those for one module: what a tree is of, and that there is one.
use Rattle.std.proofs.Common.{◌≡◌, ℕ, suc, ◌<◌, ◌≤◌, ◌⊎◌, inl, inr, ⊎_elim, List, [], ◌∷◌, ◌++◌, take, drop, flat_map, Contains, slice_get, Ok, Err, MatchResult, sym, ap, subst, ◌∙◌, arith}
use Rattle.std.proofs.lemmas.Bool.{cases_lt}
use Rattle.std.proofs.lemmas.List.{take-append-drop, take-take}
use Rattle.std.proofs.lemmas.List.Concat.{flat_map-append}
use Rattle.std.proofs.lemmas.List.Elements.{Contains-append_left}
use Rattle.std.proofs.lemmas.Option.{same_Some}
use Rattle.mesa_types.specs.declared.faces.Face.{Face}
use Rattle.mesa_types.specs.declared.faces.Shape.{Shape}
use Rattle.interface_records.specs.Faces.{iodefs}
use Rattle.cmesa_grammar.specs.Syntax.{Config}
use Rattle.config_rules.specs.Components.{components}
use Rattle.config_rules.specs.InOrder.{TreeIn}
use Rattle.config_rules.specs.Through.{Answer}
use Rattle.config_rules.specs.Tree.{Agree, Agreed, FirstToDiffer, IsSingle, IsTree, all_faces, faces_of, first_place, made, modules_with, single_tree}
use Rattle.config_rules.specs.declared.fault.TreeCause.TheVariants.{InterfaceDiffers}
use Rattle.config_rules.specs.declared.fault.TreeFault.TheVariants.{At}
use Rattle.config_rules.specs.declared.tree.Component.{Component}
use Rattle.config_rules.specs.declared.tree.Tree.{Tree}
use Rattle.config_rules.proofs.Answers.{err_ok, ok_same}
use Rattle.built_runs.specs.config_tree.proofs.Ending.{tree_in}
use Rattle.built_runs.specs.config_tree.proofs.SingleTrees.{single_in}
use Rattle.linked_programs.specs.Laws.{IsOfShapes, SinglesAreOfTheirShape, SinglesAreOne, TreesAreOfTheirShapes, TreesAreOne}

-- ---- one module alone

module _ (s : Shape) where
  abbrev Single : Answer Tree → Type 0
  Single answer =
      (Agree (all_faces (s ∷ [])) × (answer ≡ Ok (single_tree s)))
      ⊎ ((Agree (all_faces (s ∷ [])) → ⊥) × (answer ≡ Err (At InterfaceDiffers first_place)))

  single_of : (t : Tree) → Single (Ok t) → IsOfShapes (s ∷ []) t
  single_of t (inl h) = record { tree = subst (TreeIn (s ∷ [])) (ok_same (single_tree s) t (sym h.1)) (single_in s); agree = h.0 }
  single_of t (inr h) = absurd (err_ok (At InterfaceDiffers first_place) t (sym h.1))

  single_one : (a b : Answer Tree) → Single a → Single b → a ≡ b
  single_one a b (inl h) (inl k) = h.1 ∙ sym k.1
  single_one a b (inl h) (inr k) = absurd (k.0 h.0)
  single_one a b (inr h) (inl k) = absurd (h.0 k.0)
  single_one a b (inr h) (inr k) = h.1 ∙ sym k.1

pub singles_are_of : SinglesAreOfTheirShape
unfolding IsSingle
singles_are_of s t h = single_of s t h

pub singles_are_one : SinglesAreOne
unfolding IsSingle
singles_are_one s a b h k = single_one s a b h k

-- ---- the first component to differ

-- where the faces of more components agree, those of fewer do
fewer : (shapes : List Shape) (a b : ℕ) → a ≤ b → Agree (all_faces (take b shapes)) → Agree (all_faces (take a shapes))
fewer shapes a b l agree f g at_f at_g = agree f g (more f at_f) (more g at_g)
  where
    rest : List Face
    rest = flat_map faces_of (drop a (take b shapes))

    whole : all_faces (take a shapes) ++ rest ≡ all_faces (take b shapes)
    whole =
        ap (λ ss. iodefs.face ∷ (flat_map faces_of ss ++ rest)) (sym (take-take a b shapes l))
        ∙ ap (λ fs. iodefs.face ∷ fs) (sym (flat_map-append faces_of (take a (take b shapes)) (drop a (take b shapes))))
        ∙ ap all_faces (take-append-drop a (take b shapes))

    more : (h : Face) → Contains (all_faces (take a shapes)) h → Contains (all_faces (take b shapes)) h
    more h at = subst (λ fs. Contains fs h) whole (Contains-append_left (all_faces (take a shapes)) rest h at)

all_to_some : (shapes : List Shape) (a : ℕ) → Agree (all_faces shapes) → Agree (all_faces (take a shapes))
all_to_some shapes a agree f g at_f at_g = agree f g (more f at_f) (more g at_g)
  where
    more : (h : Face) → Contains (all_faces (take a shapes)) h → Contains (all_faces shapes) h
    more h at =
        subst (λ fs. Contains fs h)
        (ap (λ fs. iodefs.face ∷ fs) (sym (flat_map-append faces_of (take a shapes) (drop a shapes))) ∙ ap all_faces (take-append-drop a shapes))
        (Contains-append_left (all_faces (take a shapes)) (flat_map faces_of (drop a shapes)) h at)

none_differs : (shapes : List Shape) (n : ℕ) → FirstToDiffer shapes n → Agree (all_faces shapes) → ⊥
none_differs shapes n h agree = h.then_not (all_to_some shapes (suc n) agree)

not_before : (shapes : List Shape) (n m : ℕ) → FirstToDiffer shapes n → FirstToDiffer shapes m → n < m → ⊥
not_before shapes n m h k l = h.then_not (fewer shapes (suc n) m (omega (arith, l)) k.before)

one_first : (shapes : List Shape) (n m : ℕ) → FirstToDiffer shapes n → FirstToDiffer shapes m → n ≡ m
one_first shapes n m h k =
    ⊎_elim
    (λ l. absurd (not_before shapes n m h k l))
    (λ l. ⊎_elim (λ p. absurd (not_before shapes m n k h p)) (λ p. omega (arith, l, p)) (cases_lt m n))
    (cases_lt n m)

-- ---- configurations

module _ (c : Config) (shapes : List Shape) where
  abbrev Of : Answer Tree → Answer Tree → Type 0
  Of a answer = MatchResult a (λ tree. Agreed (components c) shapes tree answer) (λ fault. answer ≡ Err fault)

  agree_of : (t : Tree) (a : Answer Tree) → Of a (Ok t) → Agree (all_faces shapes)
  agree_of t (Err fault) h = absurd (err_ok fault t (sym h))
  agree_of t (Ok tree) (inl h) = h.0
  agree_of t (Ok tree) (inr h) = absurd (err_ok (At InterfaceDiffers h.1.place) t (sym h.4))

  one_of : (x y a : Answer Tree) → Of a x → Of a y → x ≡ y
  one_of x y (Err fault) h k = h ∙ sym k
  one_of x y (Ok tree) (inl h) (inl k) = h.1 ∙ sym k.1
  one_of x y (Ok tree) (inl h) (inr k) = absurd (none_differs shapes k.0 k.3 h.0)
  one_of x y (Ok tree) (inr h) (inl k) = absurd (none_differs shapes h.0 h.3 k.0)
  one_of x y (Ok tree) (inr h) (inr k) =
      let same = same_Some h.1 k.1 (sym h.2 ∙ (ap (slice_get (components c)) (one_first shapes h.0 k.0 h.3 k.3) ∙ k.2)) in
      h.4 ∙ (ap (λ (d : Component). Err (At InterfaceDiffers d.place)) same ∙ sym k.4)

pub trees_are_of : TreesAreOfTheirShapes
unfolding IsTree
trees_are_of c shapes t long h = record {
  tree = tree_in c shapes (Ok t) long (λ _. h);
  agree = agree_of c shapes t (made (modules_with (components c) shapes) c.outermost) h;
}

pub trees_are_one : TreesAreOne
unfolding IsTree
trees_are_one c shapes a b h k = one_of c shapes a b (made (modules_with (components c) shapes) c.outermost) h k
