-- The keys of the index: which they are, each once, and in which order.
use Rattle.std.proofs.Common.{◌≡◌, Bool, true, false, ◌||◌, List, [], ◌∷◌, ◌++◌, map, Contains, refl, sym, ap, ◌∙◌, append-nil, append_assoc, if◌then◌else◌}
use Rattle.std.specs.List.{list_any, IsDistinct}
use Rattle.std.specs.Map.{keys_of}
use Rattle.std.proofs.lemmas.Map.Keys.{IsDistinct-push}
use Rattle.std.proofs.lemmas.Map.Views.{Contains-from_any, list_any-from_Contains, lookup-from_Contains}
use Rattle.config_rules.specs.declared.tree.Exporter.{Exporter}
use Rattle.config_rules.specs.declared.tree.Tree.{Tree}
use Rattle.config_rules.specs.Outgoing.{outgoing}
use Rattle.import_binder.specs.declared.key.ExporterKey.{ExporterKey}
use Rattle.import_binder.specs.Exporting.{FindsExporters, first_mentions, visible_under}
use Rattle.import_binder.specs.Index.{Entries, Mention, put, indexed, mentions_in, listed_under}
use Rattle.import_binder.specs.Keys.{same_key, keys_same, key_equivalence}
use Rattle.import_binder.specs.Laws.{IndexHoldsExporters}
use Rattle.import_binder.proofs.Indexing.{index_finds}
use Rattle.import_binder.proofs.Ordered.{each_gives_once}
use Rattle.import_binder.proofs.Putting.{is_there}

abbrev is_key : ExporterKey → Entries → Bool
is_key k es = list_any (same_key k) (keys_of es)

-- ---- the order of first mention

keys_put : (k : ExporterKey) (e : Exporter) (es : Entries) → keys_of (put es k e) ≡ (if is_key k es then keys_of es else keys_of es ++ k ∷ [])
keys_put k e [] = refl
keys_put k e (x ∷ xs) = by (same_key k x.0) (is_key k xs) (keys_put k e xs)
  where
    by : (b c : Bool) → keys_of (put xs k e) ≡ (if c then keys_of xs else keys_of xs ++ k ∷ [])
        → keys_of (if b then (x.0, x.1 ++ e ∷ []) ∷ xs else x ∷ put xs k e) ≡ (if b || c then x.0 ∷ keys_of xs else x.0 ∷ keys_of xs ++ k ∷ [])
    by true c h = refl
    by false true h = ap (λ l. x.0 ∷ l) h
    by false false h = ap (λ l. x.0 ∷ l) h

abbrev keys_in : List Mention → List ExporterKey
keys_in ms = map (λ (m : Mention). m.key) ms

mentioned : (done : Entries) (ms : List Mention) → keys_of (indexed done ms) ≡ keys_of done ++ first_mentions (keys_of done) (keys_in ms)
unfolding first_mentions
mentioned done [] = sym (append-nil (keys_of done))
mentioned done (m ∷ ms) = mentioned (put done m.key m.exporter) ms ∙ by (is_key m.key done) (keys_put m.key m.exporter done)
  where
    by : (b : Bool) → keys_of (put done m.key m.exporter) ≡ (if b then keys_of done else keys_of done ++ m.key ∷ [])
        → keys_of (put done m.key m.exporter) ++ first_mentions (keys_of (put done m.key m.exporter)) (keys_in ms)
        ≡ keys_of done ++ (if b then first_mentions (keys_of done) (keys_in ms) else m.key ∷ first_mentions (keys_of done ++ m.key ∷ []) (keys_in ms))
    by true h = ap (λ l. l ++ first_mentions l (keys_in ms)) h
    by false h =
        ap (λ l. l ++ first_mentions l (keys_in ms)) h
        ∙ append_assoc (keys_of done) (m.key ∷ []) (first_mentions (keys_of done ++ m.key ∷ []) (keys_in ms))

-- ---- each once

put_distinct : (k : ExporterKey) (e : Exporter) (es : Entries) → IsDistinct same_key (keys_of es) → IsDistinct same_key (keys_of (put es k e))
put_distinct k e es h = by (is_key k es) refl (keys_put k e es)
  where
    along : (l : List ExporterKey) → keys_of (put es k e) ≡ l → IsDistinct same_key l → IsDistinct same_key (keys_of (put es k e))
    along l q d = rw q d

    by : (b : Bool) → is_key k es ≡ b → keys_of (put es k e) ≡ (if b then keys_of es else keys_of es ++ k ∷ []) → IsDistinct same_key (keys_of (put es k e))
    by true s q = along (keys_of es) q h
    by false s q = along (keys_of es ++ k ∷ []) q (IsDistinct-push key_equivalence (keys_of es) k h s)

distinct : (done : Entries) (ms : List Mention) → IsDistinct same_key (keys_of done) → IsDistinct same_key (keys_of (indexed done ms))
distinct done [] h = h
distinct done (m ∷ ms) h = distinct (put done m.key m.exporter) ms (put_distinct m.key m.exporter done h)

none_distinct : IsDistinct same_key []
unfolding IsDistinct
none_distinct = tt

-- ---- no key stands without exporters

abbrev Filled : Entries → Type 0
Filled [] = Unit {0}
Filled (x ∷ xs) = (x.1 ≡ [] → ⊥) × Filled xs

put_filled : (k : ExporterKey) (e : Exporter) (es : Entries) → Filled es → Filled (put es k e)
put_filled k e [] h = (one, tt)
  where
    one : e ∷ [] ≡ [] → ⊥
    one q = cc
put_filled k e (x ∷ xs) h = by (put_filled k e xs h.1) (same_key k x.0)
  where
    more : (l : List Exporter) → l ++ e ∷ [] ≡ [] → ⊥
    more [] q = cc
    more (y ∷ ys) q = cc

    by : Filled (put xs k e) → (b : Bool) → Filled (if b then (x.0, x.1 ++ e ∷ []) ∷ xs else x ∷ put xs k e)
    by again true = (more x.1, h.1)
    by again false = (h.0, again)

filled : (done : Entries) (ms : List Mention) → Filled done → Filled (indexed done ms)
filled done [] h = h
filled done (m ∷ ms) h = filled (put done m.key m.exporter) ms (put_filled m.key m.exporter done h)

listed_there : (k : ExporterKey) (es : Entries) → Filled es → is_key k es ≡ true → listed_under k es ≡ [] → ⊥
listed_there k [] h is = absurd cc
listed_there k (x ∷ xs) h is = by (listed_there k xs h.1) (same_key k x.0) is
  where
    by : (is_key k xs ≡ true → listed_under k xs ≡ [] → ⊥) → (b : Bool) → b || is_key k xs ≡ true → (if b then x.1 else listed_under k xs) ≡ [] → ⊥
    by again true i = h.0
    by again false i = again i

not_listed : (k : ExporterKey) (es : Entries) → is_key k es ≡ false → listed_under k es ≡ []
not_listed k [] is = refl
not_listed k (x ∷ xs) is = by (not_listed k xs) (same_key k x.0) is
  where
    by : (is_key k xs ≡ false → listed_under k xs ≡ []) → (b : Bool) → b || is_key k xs ≡ false → (if b then x.1 else listed_under k xs) ≡ []
    by again true i = cc
    by again false i = again i

-- ---- together

module _ (t : Tree) (entries : Entries) (finds : FindsExporters t entries) (apart : IsDistinct same_key (keys_of entries)) (full : Filled entries) where
  exported_to : (k : ExporterKey) → Contains (keys_of entries) k → visible_under t k ≡ [] → ⊥
  exported_to k there none = listed_there k entries full (list_any-from_Contains key_equivalence k (keys_of entries) there) (finds k ∙ none)

  is_there_for : (k : ExporterKey) → (visible_under t k ≡ [] → ⊥) → Contains (keys_of entries) k
  is_there_for k some = by (is_key k entries) refl
    where
      by : (b : Bool) → is_key k entries ≡ b → Contains (keys_of entries) k
      by true e = Contains-from_any keys_same k (keys_of entries) e
      by false e = absurd (some (sym (finds k) ∙ not_listed k entries e))

  stands_with : (k : ExporterKey) (es : List Exporter) → Contains entries (k, es) → es ≡ visible_under t k
  stands_with k es there = is_there k entries es (sym (lookup-from_Contains key_equivalence k es entries apart there)) ∙ finds k

pub index_holds_exporters : IndexHoldsExporters
index_holds_exporters t order =
    let ms = mentions_in t (outgoing t) in
    let finds = index_finds t (each_gives_once t order) order.tree.inward in
    let apart = distinct [] ms none_distinct in
    let full = filled [] ms tt in
    record {
      distinct = apart;
      exported = λ k. (exported_to t (indexed [] ms) finds apart full k, is_there_for t (indexed [] ms) finds apart full k);
      each = stands_with t (indexed [] ms) finds apart full;
      order = mentioned [] ms;
    }
