-- The index of a scope's pairs, one pair after the other, and a step outward by the indexes.
use Rattle.std.proofs.Common.{◌≡◌, ℕ, ◌+◌, ◌<◌, ◌≤◌, Bool, true, false, List, [], ◌∷◌, ◌++◌, length, drop, get_or, map, bytes_eq, Option, Some, None, slice_get, refl, sym, ap, ◌∙◌, append_assoc, append-nil, if◌then◌else◌}
use Rattle.std.proofs.lemmas.List.{drop_more, drop_all, map-append}
use Rattle.std.proofs.lemmas.Option.{slice_get-map}
use Rattle.std.specs.Option.{option_or, option_map}
use Rattle.check_scopes.specs.Scopes.{Scope, nothing, over, with_name}
use Rattle.check_scopes.specs.Shows.{listed}
use Rattle.check_scopes.specs.declared.index.Index.{Index}
use Rattle.config_rules.specs.declared.tree.RecordPair.{RecordPair}
use Rattle.config_rules.specs.declared.tree.Tree.{Tree}
use Rattle.config_rules.specs.declared.tree.TreeScope.{TreeScope}
use Rattle.config_rules.specs.Exporters.{Spot, Step, Stays, outside_of, stepped, step_in, step}
use Rattle.config_tree.specs.Outward.{exported, outsides, shown, step_by, step_among}
use Rattle.config_rules.specs.declared.tree.Outgoing.{Outgoing}
use Rattle.config_rules.specs.Outgoing.{spot_of}
use Rattle.config_tree.specs.Going.{next_of, step_of}

-- one pair more in the index, one less to come
over_more : (now : Scope (List ℕ)) (p : RecordPair) (ps : List RecordPair) → over (over now (with_name p.inside p.outside nothing)) (outside_of ps) ≡ over now (outside_of (p ∷ ps))
unfolding outside_of
over_more now p ps i x = by (now x) (bytes_eq p.inside x) i
  where
    by : (o : Option (List ℕ)) (b : Bool) → option_or (option_or o (if b then Some p.outside else None)) (outside_of ps x) ≡ option_or o (if b then Some p.outside else outside_of ps x)
    by None true = refl
    by None false = refl
    by (Some y) b = refl

pub pair_more : (now new : Scope (List ℕ)) (ps : List RecordPair) (i : ℕ) (p d : RecordPair) (all : Scope (List ℕ)) → i < length ps → p ≡ get_or ps i d
    → new ≡ over now (with_name p.inside p.outside nothing) → over now (outside_of (drop i ps)) ≡ all → over new (outside_of (drop (i + 1) ps)) ≡ all
pair_more now new ps i p d all less is grown before =
    ap (λ s. over s (outside_of (drop (i + 1) ps))) grown ∙ over_more now p (drop (i + 1) ps)
    ∙ ap (λ l. over now (outside_of l)) (ap (λ y. y ∷ drop (i + 1) ps) is ∙ sym (drop_more ps i d less)) ∙ before

nothing_more : (now : Scope (List ℕ)) → over now (outside_of []) ≡ now
unfolding outside_of
nothing_more now i x = by (now x) i
  where
    by : (o : Option (List ℕ)) → option_or o None ≡ o
    by None = refl
    by (Some y) = refl

pub all_pairs : (now : Scope (List ℕ)) (ps : List RecordPair) (i : ℕ) (all : Scope (List ℕ)) → length ps ≤ i → over now (outside_of (drop i ps)) ≡ all → now ≡ all
all_pairs now ps i all past before = sym (nothing_more now) ∙ ap (λ l. over now (outside_of l)) (sym (drop_all i ps past)) ∙ before

abbrev pub lists : (TreeScope → List RecordPair) → List TreeScope → List (Scope (List ℕ))
lists list ss = map (λ (s : TreeScope). outside_of (list s)) ss

-- one scope after the other
module _ (list : TreeScope → List RecordPair) (scopes : List TreeScope) where
  pub no_scopes : (records : List (Index (List ℕ))) → records ≡ [] → shown records ++ lists list scopes ≡ lists list scopes
  no_scopes records e = ap (λ (r : List (Index (List ℕ))). shown r ++ lists list scopes) e

  pub scope_more : (now new : List (Index (List ℕ))) (x : Index (List ℕ)) (i : ℕ) (s d : TreeScope) (all : List (Scope (List ℕ))) → i < length scopes → s ≡ get_or scopes i d
      → new ≡ now ++ x ∷ [] → listed x ≡ outside_of (list s) → shown now ++ lists list (drop i scopes) ≡ all → shown new ++ lists list (drop (i + 1) scopes) ≡ all
  scope_more now new x i s d all less is grown shows before =
      ap (λ r. shown r ++ lists list (drop (i + 1) scopes)) grown ∙ ap (λ l. l ++ lists list (drop (i + 1) scopes)) (map-append listed now (x ∷ []))
      ∙ append_assoc (shown now) (listed x ∷ []) (lists list (drop (i + 1) scopes)) ∙ ap (λ f. shown now ++ f ∷ lists list (drop (i + 1) scopes)) shows
      ∙ ap (λ l. shown now ++ lists list l) (ap (λ y. y ∷ drop (i + 1) scopes) is ∙ sym (drop_more scopes i d less)) ∙ before

  pub all_scopes : (now : List (Index (List ℕ))) (i : ℕ) (all : List (Scope (List ℕ))) → length scopes ≤ i → shown now ++ lists list (drop i scopes) ≡ all → shown now ≡ all
  all_scopes now i all past before = sym (append-nil (shown now)) ∙ ap (λ l. shown now ++ lists list l) (sym (drop_all i scopes past)) ∙ before

module _ (list : TreeScope → List RecordPair) where
  in_scope : (r : List ℕ) (o : Option TreeScope) → step_by r o (option_map (λ s. outside_of (list s)) o) ≡ step_in list r o
  unfolding step_by step_in
  in_scope r None = refl
  in_scope r (Some s) = refl

  -- a step by the indexes of these lists is a step by the lists
  pub step_among-outsides : (t : Tree) (a : Spot) → step_among (outsides list t) t a ≡ step list t a
  step_among-outsides t a =
      ap (step_by a.record_name (slice_get t.scopes a.scope)) (slice_get-map (λ (s : TreeScope). outside_of (list s)) t.scopes a.scope)
      ∙ in_scope a.record_name (slice_get t.scopes a.scope)

-- a step by the indexes, case after case
module _ (records : List (Index (List ℕ))) (t : Tree) (a : Spot) where
  pub no_scope : None ≡ slice_get t.scopes a.scope → Stays ≡ step_among (shown records) t a
  unfolding step_by
  no_scope h = ap (λ o. step_by a.record_name o (slice_get (shown records) a.scope)) h

  at_index : (s : TreeScope) → Some s ≡ slice_get t.scopes a.scope → (o : Option (Index (List ℕ))) → o ≡ slice_get records a.scope
      → step_by a.record_name (Some s) (option_map listed o) ≡ step_among (shown records) t a
  at_index s h o g =
      (λ j. step_by a.record_name (h j) (option_map listed (g j)))
      ∙ ap (step_by a.record_name (slice_get t.scopes a.scope)) (sym (slice_get-map listed records a.scope))

  pub no_index : (s : TreeScope) → Some s ≡ slice_get t.scopes a.scope → None ≡ slice_get records a.scope → Stays ≡ step_among (shown records) t a
  unfolding step_by
  no_index s h g = at_index s h None g

  pub at_record : (s : TreeScope) → Some s ≡ slice_get t.scopes a.scope → (x : Index (List ℕ)) → Some x ≡ slice_get records a.scope
      → (o : Option (List ℕ)) (r : List ℕ) → r ≡ a.record_name → o ≡ listed x r → stepped s.around o ≡ step_among (shown records) t a
  unfolding step_by
  at_record s h x g o r named is = ap (stepped s.around) (is ∙ ap (listed x) named) ∙ at_index s h (Some x) g

-- a step by the indexes of the exports
pub next_outward : (records : List (Index (List ℕ))) (t : Tree) (g : Outgoing) → shown records ≡ outsides exported t → (s : Step) → s ≡ step_among (shown records) t (spot_of g)
    → next_of g.exporter s ≡ next_of g.exporter (step_of t g)
next_outward records t g made s h = ap (next_of g.exporter) (h ∙ ap (λ fs. step_among fs t (spot_of g)) made ∙ step_among-outsides exported t (spot_of g))
