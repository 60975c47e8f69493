-- Under each key of the index stand the visible exporters.
use Rattle.std.proofs.Common.{◌≡◌, ℕ, Bool, true, false, ◌&&◌, ◌||◌, List, [], ◌∷◌, ◌++◌, bytes_eq, nat_eq, Option, Some, None, slice_get, refl, sym, ap, ◌∙◌, append-nil, append_assoc, if◌then◌else◌}
use Rattle.std.proofs.lemmas.Slice.Eq.{bytes_eq-Decides}
use Rattle.mesa_types.specs.declared.faces.Export.{Export}
use Rattle.mesa_types.specs.declared.faces.Face.{Face}
use Rattle.mesa_types.specs.declared.faces.Item.{Item}
use Rattle.mesa_types.specs.declared.faces.Pair.{Pair}
use Rattle.config_rules.specs.declared.tree.Exporter.{Exporter}
use Rattle.config_rules.specs.declared.tree.Outgoing.{Outgoing}
use Rattle.config_rules.specs.declared.tree.Tree.{Tree}
use Rattle.config_rules.specs.Exporters.{same_spot, is_named, is_given}
use Rattle.config_rules.specs.InOrder.{IsInward}
use Rattle.config_rules.specs.Outgoing.{outgoing, spot_of, export_of, gives_by, gives, entries_for, exporters_in}
use Rattle.config_rules.proofs.Entries.{pick, filtered, entries_are_exporters}
use Rattle.import_binder.specs.declared.key.ExporterKey.{ExporterKey}
use Rattle.import_binder.specs.Keys.{same_key, keys_same}
use Rattle.import_binder.specs.Index.{Entries, Mention, put, indexed, mention, mentions_of, mentions_by, mentions_in, listed_under}
use Rattle.import_binder.specs.InOrder.{GivenOnce, GivesOnce, EachGivesOnce}
use Rattle.import_binder.specs.Exporting.{spot_in, FindsExporters}

-- the exporters of the mentions under a key
abbrev under : ExporterKey → List Mention → List Exporter
under k [] = []
under k (m ∷ ms) = pick (same_key k m.key) m.exporter ++ under k ms

under_append : (k : ExporterKey) (ms ns : List Mention) → under k (ms ++ ns) ≡ under k ms ++ under k ns
under_append k [] ns = refl
under_append k (m ∷ ms) ns = ap (λ l. pick (same_key k m.key) m.exporter ++ l) (under_append k ms ns) ∙ sym (append_assoc (pick (same_key k m.key) m.exporter) (under k ms) (under k ns))

put_listed : (k q : ExporterKey) (e : Exporter) (es : Entries) → listed_under k (put es q e) ≡ listed_under k es ++ pick (same_key k q) e
put_listed k q e [] = by (same_key k q)
  where
    by : (b : Bool) → (if b then e ∷ [] else []) ≡ pick b e
    by true = refl
    by false = refl
put_listed k q e (x ∷ xs) = by (same_key q x.0) refl (same_key k x.0) refl (put_listed k q e xs)
  where
    -- with the key of x, both tests agree
    agree : same_key q x.0 ≡ true → same_key k q ≡ same_key k x.0
    agree s = ap (same_key k) (keys_same q x.0 s)

    apart : same_key q x.0 ≡ false → same_key k x.0 ≡ true → same_key k q ≡ false
    apart s r = differ (same_key k q) refl
      where
        differ : (b : Bool) → same_key k q ≡ b → b ≡ false
        differ false h = refl
        differ true h = absurd (let z : false ≡ true = sym s ∙ (ap (λ y. same_key y x.0) (sym (keys_same k q h)) ∙ r) in cc)

    by : (b : Bool) → same_key q x.0 ≡ b → (c : Bool) → same_key k x.0 ≡ c → listed_under k (put xs q e) ≡ listed_under k xs ++ pick (same_key k q) e
        → listed_under k (if b then (x.0, x.1 ++ e ∷ []) ∷ xs else x ∷ put xs q e) ≡ (if c then x.1 else listed_under k xs) ++ pick (same_key k q) e
    by true s true r again = ap (λ c. if c then x.1 ++ e ∷ [] else listed_under k xs) r ∙ ap (λ c. x.1 ++ pick c e) (sym (agree s ∙ r))
    by true s false r again = ap (λ c. if c then x.1 ++ e ∷ [] else listed_under k xs) r ∙ sym (append-nil (listed_under k xs)) ∙ ap (λ c. listed_under k xs ++ pick c e) (sym (agree s ∙ r))
    by false s true r again = ap (λ c. if c then x.1 else listed_under k (put xs q e)) r ∙ sym (append-nil x.1) ∙ ap (λ c. x.1 ++ pick c e) (sym (apart s r))
    by false s false r again = ap (λ c. if c then x.1 else listed_under k (put xs q e)) r ∙ again

listed : (k : ExporterKey) (done : Entries) (ms : List Mention) → listed_under k (indexed done ms) ≡ listed_under k done ++ under k ms
listed k done [] = sym (append-nil (listed_under k done))
listed k done (m ∷ ms) =
    listed k (put done m.key m.exporter) ms ∙ ap (λ l. l ++ under k ms) (put_listed k m.key m.exporter done)
    ∙ append_assoc (listed_under k done) (pick (same_key k m.key) m.exporter) (under k ms)

-- the mentions of one entry
module _ (k : ExporterKey) (g : Outgoing) where
  abbrev here : Bool
  here = same_spot (spot_in k) (spot_of g)

  bytes_turned : (xs ys : List ℕ) → bytes_eq xs ys ≡ bytes_eq ys xs
  bytes_turned xs ys = by (bytes_eq xs ys) refl (bytes_eq ys xs) refl
    where
      by : (b : Bool) → bytes_eq xs ys ≡ b → (c : Bool) → bytes_eq ys xs ≡ c → b ≡ c
      by true p true q = refl
      by false p false q = refl
      by true p false q = sym ((bytes_eq-Decides ys xs).1 (sym ((bytes_eq-Decides xs ys).0 p))) ∙ q
      by false p true q = sym p ∙ (bytes_eq-Decides xs ys).1 (sym ((bytes_eq-Decides ys xs).0 q))

  regroup : (a b c : Bool) → a && (b && c) ≡ (a && b) && c
  regroup true b c = refl
  regroup false b c = refl

  no_pick : (a : Bool) → [] ≡ pick (a && false) g.exporter
  no_pick true = refl
  no_pick false = refl

  one_item : (o : Option Item) → under k (mention g o) ≡ pick (here && is_named k.item o) g.exporter
  unfolding is_named
  one_item None = no_pick here
  one_item (Some i) =
      append-nil (pick (same_key k (record { scope = g.scope; record_name = g.record_name; item = i.name })) g.exporter)
      ∙ ap (λ b. pick b g.exporter) (regroup (nat_eq k.scope g.scope) (bytes_eq k.record_name g.record_name) (bytes_eq k.item i.name) ∙ ap (λ b. here && b) (bytes_turned k.item i.name))

  two_picks : (a x y : Bool) → (x ≡ true → y ≡ false) → pick (a && x) g.exporter ++ pick (a && y) g.exporter ≡ pick (a && (x || y)) g.exporter
  two_picks true true true h = absurd (let s : true ≡ false = h refl in cc)
  two_picks true true false h = refl
  two_picks true false y h = refl
  two_picks false x y h = refl

  items_given : (face : Face) (ps : List Pair) → GivenOnce face ps → under k (mentions_of g face ps) ≡ pick (here && is_given k.item face ps) g.exporter
  unfolding is_given
  items_given face [] h = no_pick here
  items_given face (p ∷ ps) h =
      under_append k (mention g (slice_get face.items p.item)) (mentions_of g face ps)
      ∙ (λ j. one_item (slice_get face.items p.item) j ++ items_given face ps h.1 j)
      ∙ two_picks here (is_named k.item (slice_get face.items p.item)) (is_given k.item face ps) (h.0 k.item)

  by_export : (o : Option Export) → GivesOnce o → under k (mentions_by g o) ≡ pick (here && gives_by k.item o) g.exporter
  by_export None h = no_pick here
  by_export (Some x) h = items_given x.face x.given h

module _ (t : Tree) (once : EachGivesOnce t) where
  all_entries : (k : ExporterKey) (gs : List Outgoing) → under k (mentions_in t gs) ≡ exporters_in (entries_for t (spot_in k) k.item gs)
  all_entries k [] = refl
  all_entries k (g ∷ gs) =
      under_append k (mentions_by g (export_of t g.exporter)) (mentions_in t gs)
      ∙ (λ j. by_export k g (export_of t g.exporter) (once g.exporter) j ++ all_entries k gs j)
      ∙ sym (filtered (λ (e : Outgoing). e.exporter) (λ (e : Outgoing). same_spot (spot_in k) (spot_of e) && gives t k.item e.exporter) g gs)

  pub index_finds : IsInward t → FindsExporters t (indexed [] (mentions_in t (outgoing t)))
  index_finds inward k = listed k [] (mentions_in t (outgoing t)) ∙ all_entries k (outgoing t) ∙ entries_are_exporters t inward (spot_in k) k.item
