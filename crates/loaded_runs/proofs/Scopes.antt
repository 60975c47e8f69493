-- The scopes of several trees as one: where a record of a scope goes on to.
use Rattle.std.proofs.Common.{◌≡◌, ℕ, suc, ◌+◌, ◌<◌, Bool, true, false, List, [], ◌∷◌, length, map, flat_map, bytes_eq, Option, Some, None, slice_get, refl, sym, ap, ◌∙◌, arith, if◌then◌else◌}
use Rattle.std.proofs.lemmas.Slice.Eq.{bytes_eq-Decides}
use Rattle.config_rules.specs.declared.tree.RecordPair.{RecordPair}
use Rattle.config_rules.specs.declared.tree.Tree.{Tree}
use Rattle.config_rules.specs.declared.tree.TreeScope.{TreeScope}
use Rattle.config_rules.specs.Exporters.{Spot, Step, Stays, Goes, Leaves, outside_of, stepped, step_in, step}
use Rattle.config_rules.specs.InOrder.{IsInward}
use Rattle.loaded_runs.specs.Together.{Source, Place, places, scopes_of, scopes_before, by_own_name, scope_by, scope_in, outermost, together}
use Rattle.loader_rules.proofs.Lists.{get_there}
use Rattle.loaded_runs.proofs.Places.{IsPlace, changed_there}

abbrev pub spot : ℕ → List ℕ → Spot
spot n r = record { scope = n; record_name = r }

-- a record of a scope of a tree, in the new tree
abbrev pub moved : Place → Spot → Spot
moved p a = spot (scopes_before p + a.scope) a.record_name

-- the record that stands outside, with its own name
abbrev own_of : List ℕ → Option (List ℕ) → Option (List ℕ)
own_of r None = None
own_of r (Some x) = Some r

outside_own : (rs : List RecordPair) (r : List ℕ) → outside_of (map by_own_name rs) r ≡ own_of r (outside_of rs r)
unfolding outside_of
outside_own [] r = refl
outside_own (x ∷ rs) r = by (bytes_eq x.inside r) refl (outside_own rs r)
  where
    by : (b : Bool) → bytes_eq x.inside r ≡ b → outside_of (map by_own_name rs) r ≡ own_of r (outside_of rs r)
        → (if b then Some x.inside else outside_of (map by_own_name rs) r) ≡ own_of r (if b then Some x.outside else outside_of rs r)
    by true e h = ap Some ((bytes_eq-Decides x.inside r).0 e)
    by false e h = h

-- where a record goes on to: from the outermost scope of its tree to its own name in the new one
abbrev pub onward : Place → List ℕ → Step → Step
onward p r Stays = Stays
onward p r (Goes c) = Goes (moved p c)
onward p r Leaves = Goes (spot 0 r)

module _ (sources : List Source) (p : Place) (I : IsPlace sources p) where
  pub scope_there : (k : ℕ) (s : TreeScope) → slice_get p.source.tree.scopes k ≡ Some s → slice_get (together sources).scopes (scopes_before p + k) ≡ Some (scope_in p s)
  unfolding together
  scope_there k s e =
      ap (λ n. slice_get (outermost ∷ flat_map (λ (q : Place). map (scope_in q) q.source.tree.scopes) (places sources)) n)
      {x = suc (length (scopes_of p.before)) + k} {y = suc (length (scopes_of p.before) + k)} (omega arith)
      ∙ changed_there (λ (t : Source). t.tree.scopes) scope_in sources p I k s e

  -- by the imports, or by the exports
  module _ (list : TreeScope → List RecordPair) (own : (s : TreeScope) → list (scope_by p s None) ≡ map by_own_name (list s))
      (same : (s : TreeScope) (n : ℕ) → list (scope_by p s (Some n)) ≡ list s) where
    stepped_on : (s : TreeScope) (r : List ℕ) (around : Option ℕ) (outside : Option (List ℕ)) → outside_of (list s) r ≡ outside
        → stepped (scope_by p s around).around (outside_of (list (scope_by p s around)) r) ≡ onward p r (stepped around outside)
    unfolding stepped
    stepped_on s r None outside e =
        ap (stepped (Some 0)) (ap (λ l. outside_of l r) (own s) ∙ (outside_own (list s) r ∙ ap (own_of r) e)) ∙ by outside
      where
        by : (o : Option (List ℕ)) → stepped (Some 0) (own_of r o) ≡ onward p r (stepped None o)
        by None = refl
        by (Some x) = refl
    stepped_on s r (Some n) outside e =
        ap (stepped (Some (scopes_before p + n))) (ap (λ l. outside_of l r) (same s n) ∙ e) ∙ by outside
      where
        by : (o : Option (List ℕ)) → stepped (Some (scopes_before p + n)) o ≡ onward p r (stepped (Some n) o)
        by None = refl
        by (Some x) = refl

    pub step_is : (a : Spot) → a.scope < length p.source.tree.scopes → step list (together sources) (moved p a) ≡ onward p a.record_name (step list p.source.tree a)
    unfolding step_in
    step_is a less =
        let s = get_there p.source.tree.scopes a.scope less in
        ap (step_in list a.record_name) (scope_there a.scope s.0 s.1)
        ∙ (stepped_on s.0 a.record_name s.0.around (outside_of (list s.0) a.record_name) refl
        ∙ ap (λ o. onward p a.record_name (step_in list a.record_name o)) (sym s.1))

  pub import_step : (a : Spot) → a.scope < length p.source.tree.scopes → step (λ s. s.imports) (together sources) (moved p a) ≡ onward p a.record_name (step (λ s. s.imports) p.source.tree a)
  import_step = step_is (λ s. s.imports) (λ s. refl) (λ s n. refl)

  pub export_step : (a : Spot) → a.scope < length p.source.tree.scopes → step (λ s. s.exports) (together sources) (moved p a) ≡ onward p a.record_name (step (λ s. s.exports) p.source.tree a)
  export_step = step_is (λ s. s.exports) (λ s. refl) (λ s n. refl)

-- ---- steps lead to scopes of lesser numbers

goes_there : (around : Option ℕ) (outside : Option (List ℕ)) (c : Spot) → stepped around outside ≡ Goes c → around ≡ Some c.scope
unfolding stepped
goes_there around None c h = absurd (let e : Stays ≡ Goes c = h in cc)
goes_there None (Some r) c h = absurd (let e : Leaves ≡ Goes c = h in cc)
goes_there (Some n) (Some r) c h = ap (λ s. Some (number s)) h
  where
    number : Step → ℕ
    number Stays = 0
    number (Goes d) = d.scope
    number Leaves = 0

pub steps_down : (t : Tree) → IsInward t → (list : TreeScope → List RecordPair) (a c : Spot) → step list t a ≡ Goes c → c.scope < a.scope
unfolding step_in
steps_down t inward list a c h = by (slice_get t.scopes a.scope) refl h
  where
    by : (o : Option TreeScope) → slice_get t.scopes a.scope ≡ o → step_in list a.record_name o ≡ Goes c → c.scope < a.scope
    by None e g = absurd (let f : Stays ≡ Goes c = g in cc)
    by (Some s) e g = inward a.scope c.scope s e (goes_there s.around (outside_of (list s) a.record_name) c g)
