-- Putting an exporter under a key, as the map does it, and what is found under one.
use Rattle.std.proofs.Common.{◌≡◌, Bool, true, false, List, [], ◌∷◌, ◌++◌, Some, None, refl, sym, ap, if◌then◌else◌}
use Rattle.std.proofs.lemmas.Option.{none-some, same_Some}
use Rattle.std.specs.Map.{lookup, set_value}
use Rattle.indexmap.specs.IndexMap.{insert_entry}
use Rattle.config_rules.specs.declared.tree.Exporter.{Exporter}
use Rattle.import_binder.specs.declared.key.ExporterKey.{ExporterKey}
use Rattle.import_binder.specs.Keys.{same_key}
use Rattle.import_binder.specs.Index.{Entries, put, listed_under}

module _ (k : ExporterKey) (e : Exporter) where
  pub put_present : (es : Entries) (old : List Exporter) → lookup (same_key k) es ≡ Some old → set_value (same_key k) es (old ++ e ∷ []) ≡ put es k e
  put_present [] old h = absurd (none-some old h)
  put_present (x ∷ xs) old h = by (put_present xs old) (same_key k x.0) h
    where
      by : (lookup (same_key k) xs ≡ Some old → set_value (same_key k) xs (old ++ e ∷ []) ≡ put xs k e) → (b : Bool) → (if b then Some x.1 else lookup (same_key k) xs) ≡ Some old
          → (if b then (x.0, old ++ e ∷ []) ∷ xs else x ∷ set_value (same_key k) xs (old ++ e ∷ [])) ≡ (if b then (x.0, x.1 ++ e ∷ []) ∷ xs else x ∷ put xs k e)
      by again true g = ap (λ (l : List Exporter). (x.0, l ++ e ∷ []) ∷ xs) (sym (same_Some x.1 old g))
      by again false g = ap (λ (l : Entries). x ∷ l) (again g)

  pub put_absent : (es : Entries) → lookup (same_key k) es ≡ None → insert_entry same_key es k (e ∷ []) ≡ put es k e
  put_absent [] h = refl
  put_absent (x ∷ xs) h = by (put_absent xs) (same_key k x.0) h
    where
      by : (lookup (same_key k) xs ≡ None → insert_entry same_key xs k (e ∷ []) ≡ put xs k e) → (b : Bool) → (if b then Some x.1 else lookup (same_key k) xs) ≡ None
          → (if b then (x.0, e ∷ []) ∷ xs else x ∷ insert_entry same_key xs k (e ∷ [])) ≡ (if b then (x.0, x.1 ++ e ∷ []) ∷ xs else x ∷ put xs k e)
      by again true g = absurd (none-some x.1 (sym g))
      by again false g = ap (λ (l : Entries). x ∷ l) (again g)

pub is_there : (k : ExporterKey) (es : Entries) (l : List Exporter) → Some l ≡ lookup (same_key k) es → l ≡ listed_under k es
is_there k [] l h = absurd (none-some l (sym h))
is_there k (x ∷ xs) l h = by (is_there k xs l) (same_key k x.0) h
  where
    by : (Some l ≡ lookup (same_key k) xs → l ≡ listed_under k xs) → (b : Bool) → Some l ≡ (if b then Some x.1 else lookup (same_key k) xs) → l ≡ (if b then x.1 else listed_under k xs)
    by again true g = same_Some l x.1 g
    by again false g = again g

pub is_none : (k : ExporterKey) (es : Entries) → None ≡ lookup (same_key k) es → [] ≡ listed_under k es
is_none k [] h = refl
is_none k (x ∷ xs) h = by (is_none k xs) (same_key k x.0) h
  where
    by : (None ≡ lookup (same_key k) xs → [] ≡ listed_under k xs) → (b : Bool) → None ≡ (if b then Some x.1 else lookup (same_key k) xs) → [] ≡ (if b then x.1 else listed_under k xs)
    by again true g = absurd (none-some x.1 g)
    by again false g = again g
