-- Where an import is looked up: in the new tree as in its own, or past its outermost scope.
use Rattle.std.proofs.Common.{◌≡◌, ℕ, zero, suc, ◌+◌, ◌<◌, ◌≤◌, ◌⊎◌, inl, inr, Bool, true, false, List, length, bytes_eq, Option, Some, None, refl, ap, ◌∙◌, arith, if◌then◌else◌}
use Rattle.interface_records.specs.Faces.{iodefs}
use Rattle.config_rules.specs.declared.tree.Tree.{Tree}
use Rattle.config_rules.specs.Exporters.{Spot, Step, Stays, Goes, Leaves, outside_of, stepped, step_in, step}
use Rattle.config_rules.specs.InOrder.{IsInward}
use Rattle.config_rules.specs.Resolves.{from_outside, source}
use Rattle.loaded_runs.specs.Outermost.{passed_by, passed_within}
use Rattle.loaded_runs.specs.Together.{Source, Place, scopes_before, together}
use Rattle.loaded_runs.proofs.Places.{IsPlace}
use Rattle.loaded_runs.proofs.Scopes.{spot, moved, onward, import_step, steps_down}

-- past a tree's outermost scope: the built-in interface is left to the loader, another is looked up in the new outermost scope
abbrev pub past : List ℕ → Option Spot
past r = if bytes_eq iodefs.face.name r then None else Some (spot 0 r)

outermost_step : (sources : List Source) (r : List ℕ) (n : ℕ) → source (suc n) (together sources) (spot 0 r) ≡ past r
unfolding source from_outside together step_in stepped outside_of
outermost_step sources r n = by (bytes_eq iodefs.face.name r)
  where
    by : (b : Bool) → from_outside (spot 0 r) (stepped None (if b then Some iodefs.face.name else None)) (λ c. source n (together sources) c) ≡ (if b then None else Some (spot 0 r))
    by true = refl
    by false = refl

module _ (sources : List Source) (p : Place) (I : IsPlace sources p) (inward : IsInward p.source.tree) where
  abbrev t : Tree
  t = p.source.tree

  -- in the tree itself
  pub record Within (m n : ℕ) (a : Spot) : Type 0 where
    pub its : Spot
    pub lower : its.scope ≤ a.scope
    pub here : source m t a ≡ Some its
    pub there : source n (together sources) (moved p a) ≡ Some (moved p its)

  -- past it
  pub record Beyond (m n : ℕ) (a : Spot) : Type 0 where
    pub out : List ℕ
    pub here : source m t a ≡ None
    pub passes : passed_within m t a ≡ Some out
    pub there : source n (together sources) (moved p a) ≡ past out

  abbrev pub Looked : ℕ → ℕ → Spot → Type 0
  Looked m n a = Within m n a ⊎ Beyond m n a

  looked : (m n : ℕ) (a : Spot) → a.scope < length t.scopes → a.scope < m → suc a.scope < n → Looked m n a
  unfolding source from_outside passed_within passed_by
  looked zero n a less l k = absurd (omega (arith, l))
  looked (suc m) zero a less l k = absurd (omega (arith, k))
  looked (suc m) (suc n) a less l k = by (λ c d e f. looked m n c d e f) (step (λ s. s.imports) t a) refl
    where
      -- both go on by the step that is made in the tree
      there_by : (s : Step) → step (λ x. x.imports) t a ≡ s
          → source (suc n) (together sources) (moved p a) ≡ from_outside (moved p a) (onward p a.record_name s) (λ c. source n (together sources) c)
      there_by s e = ap (λ x. from_outside (moved p a) x (λ c. source n (together sources) c)) (import_step sources p I a less ∙ ap (onward p a.record_name) e)

      here_by : (s : Step) → step (λ x. x.imports) t a ≡ s → source (suc m) t a ≡ from_outside a s (λ c. source m t c)
      here_by s e = ap (λ x. from_outside a x (λ c. source m t c)) e

      passed_on : (s : Step) → step (λ x. x.imports) t a ≡ s → passed_within (suc m) t a ≡ passed_by a s (λ c. passed_within m t c)
      passed_on s e = ap (λ x. passed_by a x (λ c. passed_within m t c)) e

      goes : (c : Spot) → step (λ x. x.imports) t a ≡ Goes c → c.scope < a.scope → Looked m n c → Looked (suc m) (suc n) a
      goes c e down (inl w) =
          let lower = w.lower in
          inl (record { its = w.its; lower = omega (arith, lower, down); here = here_by (Goes c) e ∙ w.here; there = there_by (Goes c) e ∙ w.there })
      goes c e down (inr w) = inr (record { out = w.out; here = here_by (Goes c) e ∙ w.here; passes = passed_on (Goes c) e ∙ w.passes; there = there_by (Goes c) e ∙ w.there })

      beyond : (j : ℕ) → n ≡ suc j → source n (together sources) (spot 0 a.record_name) ≡ past a.record_name
      beyond j e = ap (λ i. source i (together sources) (spot 0 a.record_name)) e ∙ outermost_step sources a.record_name j

      some_left : (i : ℕ) → suc a.scope < suc i → (j : ℕ) × (i ≡ suc j)
      some_left zero h = absurd (omega (arith, h))
      some_left (suc i) h = (i, refl)

      by : ((c : Spot) → c.scope < length t.scopes → c.scope < m → suc c.scope < n → Looked m n c) → (s : Step) → step (λ x. x.imports) t a ≡ s → Looked (suc m) (suc n) a
      by again Stays e = inl (record { its = a; lower = omega arith; here = here_by Stays e; there = there_by Stays e })
      by again (Goes c) e =
          let down = steps_down t inward (λ x. x.imports) a c e in
          goes c e down (again c (omega (arith, down, less)) (omega (arith, down, l)) (omega (arith, down, k)))
      by again Leaves e =
          let j = some_left n k in
          inr (record { out = a.record_name; here = here_by Leaves e; passes = passed_on Leaves e; there = there_by Leaves e ∙ beyond j.0 j.1 })

  pub is_looked_up : (a : Spot) → a.scope < length t.scopes → Looked (suc a.scope) (suc (scopes_before p + a.scope)) a
  is_looked_up a less = looked (suc a.scope) (suc (scopes_before p + a.scope)) a less (omega arith) (omega arith)
