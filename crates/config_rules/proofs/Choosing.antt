-- An item is not bad exactly where it binds.
use Rattle.std.proofs.Common.{◌≡◌, inl, inr, ℕ, List, [], ◌∷◌, filter, Bool, true, false, bytes_eq, Option, Some, None, refl, sym, ap, ◌∙◌, if◌then◌else◌}
use Rattle.mesa_types.specs.declared.faces.Face.{Face}
use Rattle.config_rules.specs.declared.tree.Tree.{Tree}
use Rattle.config_rules.specs.Exporters.{Spot, Outlet, exporters}
use Rattle.config_rules.specs.Resolves.{looked_up, OtherInterface, OtherStamp, under, chosen, resolved_at, resolved, is_bad}
use Rattle.config_rules.specs.Laws.{HasOneExporter, Binds, ItemsBind}

one : (face : Face) (name : List ℕ) (same all : List Outlet) → is_bad (chosen face name same all) ≡ false → (o : Outlet) × (same ≡ o ∷ [])
unfolding chosen is_bad
one face name (o ∷ []) all h = (o, refl)
one face name (o ∷ p ∷ os) all h = absurd cc
one face name [] (o ∷ os) h = absurd (by (bytes_eq o.gives.face.name face.name) h)
  where
    by : (b : Bool) → is_bad (if b then OtherStamp o.gives.face.stamp else OtherInterface o.exporter.instance) ≡ false → ⊥
    by true g = cc
    by false g = cc
one face name [] [] h = absurd cc

by_one : (face : Face) (name : List ℕ) (same all : List Outlet) (o : Outlet) → same ≡ o ∷ [] → is_bad (chosen face name same all) ≡ false
unfolding chosen is_bad
by_one face name same all o e = ap (λ l. is_bad (chosen face name l all)) e

module _ (t : Tree) (a : Spot) (face : Face) (name : List ℕ) where
  answer : Option Spot → Bool
  answer s = is_bad (resolved_at t face name s)

  out : looked_up t a ≡ None → is_bad (resolved t a face name) ≡ false
  unfolding resolved resolved_at is_bad answer
  out e = ap answer e

  onward : (b : Spot) → looked_up t a ≡ Some b → is_bad (resolved t a face name) ≡ false → HasOneExporter t b face name
  unfolding resolved resolved_at answer
  onward b e h = one face name (filter (under face) (exporters t b name)) (exporters t b name) (ap answer (sym e) ∙ h)

  back : (b : Spot) → looked_up t a ≡ Some b → HasOneExporter t b face name → is_bad (resolved t a face name) ≡ false
  unfolding resolved resolved_at answer
  back b e (o, g) = ap answer e ∙ by_one face name (filter (under face) (exporters t b name)) (exporters t b name) o g

  forth : (s : Option Spot) → looked_up t a ≡ s → is_bad (resolved t a face name) ≡ false → Binds t a face name
  forth None e h = inl e
  forth (Some b) e h = inr (b, e, onward b e h)

  from : Binds t a face name → is_bad (resolved t a face name) ≡ false
  from (inl e) = out e
  from (inr (b, e, g)) = back b e g

pub items_bind : ItemsBind
items_bind t a face name = (forth t a face name (looked_up t a) refl, from t a face name)
