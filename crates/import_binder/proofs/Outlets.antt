-- The exports of the exporters that are found under a key, and what is chosen among them.
use Rattle.std.proofs.Common.{◌≡◌, ℕ, ◌<◌, ◌≤◌, Bool, true, false, ◌&&◌, List, [], ◌∷◌, length, get_or, map, filter, arith, bytes_eq, Some, refl, sym, ap, ◌∙◌, if◌then◌else◌}
use Rattle.mesa_types.specs.declared.faces.Face.{Face}
use Rattle.mesa_types.specs.declared.faces.Export.{Export}
use Rattle.config_rules.specs.declared.tree.Exporter.{Exporter}
use Rattle.config_rules.specs.declared.tree.Tree.{Tree}
use Rattle.config_rules.specs.Exporters.{Spot, Outlet, outlets, goes_to, is_given, exporters}
use Rattle.config_rules.specs.Outgoing.{export_of, visible}
use Rattle.config_rules.specs.Resolves.{Resolution, Bound, Twice, NoExporter, OtherInterface, OtherStamp, under, given_for, chosen}
use Rattle.config_rules.proofs.Entries.{AllFound, all_found}
use Rattle.import_binder.specs.Choosing.{under_by, unlike_by, is_under, AreOf}

-- ---- the visible exporters are those of the visible outlets

found_kept : (t : Tree) (q : Outlet → Bool) (os : List Outlet) → AllFound t os → AllFound t (filter q os)
found_kept t q [] h = tt
found_kept t q (o ∷ os) h = by (found_kept t q os h.1) (q o)
  where
    by : AllFound t (filter q os) → (b : Bool) → AllFound t (if b then o ∷ filter q os else filter q os)
    by again true = (h.0, again)
    by again false = again

are_of : (t : Tree) (os : List Outlet) → AllFound t os → AreOf t (map (λ (o : Outlet). o.exporter) os) os
are_of t [] h = tt
are_of t (o ∷ os) h = (refl, h.0, are_of t os h.1)

pub visible_are : (t : Tree) (a : Spot) (name : List ℕ) → AreOf t (visible t a name) (exporters t a name)
unfolding exporters
visible_are t a name = are_of t _ (found_kept t (λ o. goes_to t a o && is_given name o.gives.face o.gives.given) (outlets t) (all_found t))

-- ---- those under the interface's name and stamp

module _ (t : Tree) (face : Face) where
  same_test : (e : Exporter) (o : Outlet) → export_of t e ≡ Some o.gives → is_under t face e ≡ under face o
  unfolding under_by
  same_test e o h = ap (under_by face) h

  pub under_are : (es : List Exporter) (os : List Outlet) → AreOf t es os → AreOf t (filter (is_under t face) es) (filter (under face) os)
  under_are [] [] h = tt
  under_are [] (o ∷ os) h = absurd h
  under_are (e ∷ es) [] h = absurd h
  under_are (e ∷ es) (o ∷ os) h = by (is_under t face e) (under face o) (same_test e o h.1) (under_are es os h.2)
    where
      by : (b c : Bool) → b ≡ c → AreOf t (filter (is_under t face) es) (filter (under face) os)
          → AreOf t (if b then e ∷ filter (is_under t face) es else filter (is_under t face) es) (if c then o ∷ filter (under face) os else filter (under face) os)
      by true true s k = (h.0, h.1, k)
      by false false s k = k
      by true false s k = absurd cc
      by false true s k = absurd cc

module _ (t : Tree) (face : Face) (name : List ℕ) where
  -- nobody is under it
  pub none_under : (fs : List Exporter) (same all : List Outlet) → AreOf t fs same → fs ≡ [] → chosen face name [] all ≡ chosen face name same all
  none_under [] [] all h e = refl
  none_under [] (o ∷ os) all h e = absurd h
  none_under (f ∷ fs) same all h e = absurd cc

  -- exactly one is
  pub one_under : (fs : List Exporter) (same all : List Outlet) (a : Exporter) (r : Resolution) → AreOf t fs same → fs ≡ a ∷ []
      → ((x : Export) → export_of t a ≡ Some x → r ≡ Bound a.instance (given_for name x.face x.given)) → r ≡ chosen face name same all
  unfolding chosen
  one_under fs same all a r h e says = along fs e same h
    where
      at_one : (same : List Outlet) → AreOf t (a ∷ []) same → r ≡ chosen face name same all
      at_one [] k = absurd k
      at_one (o ∷ []) k = says o.gives k.1 ∙ ap (λ (z : Exporter). Bound z.instance (given_for name o.gives.face o.gives.given)) (sym k.0)
      at_one (o ∷ p ∷ os) k = absurd k.2

      along : (fs : List Exporter) → fs ≡ a ∷ [] → (same : List Outlet) → AreOf t fs same → r ≡ chosen face name same all
      along fs e same k = at_one same (let P : List Exporter → Type 0 = λ l. AreOf t l same in moved P fs (a ∷ []) e k)
        where
          moved : (P : List Exporter → Type 0) (x y : List Exporter) → x ≡ y → P x → P y
          moved P x y q p = rw (sym q) p

  -- two or more are
  pub two_under : (fs : List Exporter) (same all : List Outlet) (a b : Exporter) (rest : List Exporter) → AreOf t fs same → fs ≡ a ∷ b ∷ rest
      → Twice a.instance b.instance ≡ chosen face name same all
  unfolding chosen
  two_under fs same all a b rest h e = at_two same (moved fs (a ∷ b ∷ rest) e h)
    where
      at_two : (same : List Outlet) → AreOf t (a ∷ b ∷ rest) same → Twice a.instance b.instance ≡ chosen face name same all
      at_two [] k = absurd k
      at_two (o ∷ []) k = absurd k.2
      at_two (o ∷ p ∷ os) k = λ j. Twice (sym k.0 j).instance (sym k.2.0 j).instance

      moved : (x y : List Exporter) → x ≡ y → AreOf t x same → AreOf t y same
      moved x y q p = rw (sym q) p

  -- where nobody is, the first exporter is named
  pub by_first : (first : Exporter) (es : List Exporter) (all : List Outlet) → AreOf t (first ∷ es) all → (r : Resolution) → ((x : Export) → export_of t first ≡ Some x → r ≡ unlike_by face first x)
      → r ≡ chosen face name [] all
  unfolding chosen unlike_by
  by_first first es [] h r says = absurd h
  by_first first es (o ∷ os) h r says = says o.gives h.1 ∙ ap (λ (e : Exporter). if bytes_eq o.gives.face.name face.name then OtherStamp o.gives.face.stamp else OtherInterface e.instance) (sym h.0)

  pub by_none : (all : List Outlet) → AreOf t [] all → NoExporter ≡ chosen face name [] all
  unfolding chosen
  by_none [] h = refl
  by_none (o ∷ os) h = absurd h

  -- by a slice that is empty, or by its first element
  pub by_none_of : (es : List Exporter) → length es ≤ 0 → (all : List Outlet) → AreOf t es all → NoExporter ≡ chosen face name [] all
  by_none_of [] l all h = by_none all h
  by_none_of (e ∷ es) l all h = absurd (omega (arith, l))

  pub by_first_of : (es : List Exporter) (d : Exporter) → 0 < length es → (all : List Outlet) → AreOf t es all → (r : Resolution)
      → ((x : Export) → export_of t (get_or es 0 d) ≡ Some x → r ≡ unlike_by face (get_or es 0 d) x) → r ≡ chosen face name [] all
  by_first_of [] d l all h r says = absurd (omega (arith, l))
  by_first_of (e ∷ es) d l all h r says = by_first e es all h r says
