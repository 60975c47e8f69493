-- What the links of an instance need, in order, is what the instance wants.
use Rattle.std.proofs.Common.{◌≡◌, ℕ, List, [], ◌∷◌, ◌++◌, length, map, flat_map, Option, Some, None, slice_get, refl, ap, ◌∙◌, arith}
use Rattle.std.proofs.lemmas.List.{map-append}
use Rattle.mesa_types.specs.Links.{items_used}
use Rattle.mesa_types.specs.declared.faces.Face.{Face}
use Rattle.mesa_types.specs.declared.faces.Import.{Import}
use Rattle.mesa_types.specs.declared.faces.Item.{Item}
use Rattle.config_rules.specs.declared.tree.Tree.{Tree}
use Rattle.config_rules.specs.declared.tree.TreeInstance.{TreeInstance}
use Rattle.config_rules.specs.Resolves.{Want, want, wants_of}
use Rattle.spelled_trees.specs.link_tables.specs.Linked.{entry_of}
use Rattle.object_rules.specs.ImageForms.{needed_of, needed_by_import}

module _ (t : Tree) (x : TreeInstance) where
  abbrev wants_by : List ℕ → Face → List ℕ → List Want
  wants_by r face ns = flat_map (λ n. want t x r face (slice_get face.items n)) ns

  by_needs : (r : List ℕ) (face : Face) (ns : List ℕ) → map entry_of (wants_by r face ns) ≡ map (needed_of face) (items_used face.items ns)
  unfolding want items_used
  by_needs r face [] = refl
  by_needs r face (n ∷ ns) = by (slice_get face.items n) refl (by_needs r face ns)
    where
      by : (o : Option Item) → slice_get face.items n ≡ o → map entry_of (wants_by r face ns) ≡ map (needed_of face) (items_used face.items ns)
          → map entry_of (wants_by r face (n ∷ ns)) ≡ map (needed_of face) (items_used face.items (n ∷ ns))
      by None e h = rw e h
      by (Some i) e h = rw e (ap (λ l. needed_of face i ∷ l) h)

  pub needs_are : (rs : List (List ℕ)) (ms : List Import) → length rs ≡ length ms → map entry_of (wants_of t x rs ms) ≡ flat_map needed_by_import ms
  unfolding wants_of
  needs_are [] [] h = refl
  needs_are [] (m ∷ ms) h = absurd (omega (arith, h))
  needs_are (r ∷ rs) [] h = absurd (omega (arith, h))
  needs_are (r ∷ rs) (m ∷ ms) h =
      map-append entry_of (wants_by r m.face m.used) (wants_of t x rs ms)
      ∙ ap (λ l. l ++ map entry_of (wants_of t x rs ms)) (by_needs r m.face m.used)
      ∙ ap (λ l. needed_by_import m ++ l) (needs_are rs ms (omega (arith, h)))
