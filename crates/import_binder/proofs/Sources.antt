-- Where an import is looked up, one step outward after the other.
use Rattle.std.proofs.Common.{◌≡◌, ℕ, suc, List, Some, sym, ap, ◌∙◌}
use Rattle.check_scopes.specs.declared.index.Index.{Index}
use Rattle.config_rules.specs.declared.tree.Tree.{Tree}
use Rattle.config_rules.specs.Exporters.{Spot, Step}
use Rattle.config_rules.specs.Resolves.{from_outside, source}
use Rattle.config_tree.specs.Outward.{imported, outsides, shown, step_among}
use Rattle.config_tree.proofs.Pairs.{step_among-outsides}

module _ (records : List (Index (List ℕ))) (t : Tree) (a : Spot) (made : shown records ≡ outsides imported t) where
  pub none_left : (most : ℕ) → most ≡ 0 → Some a ≡ source most t a
  unfolding source
  none_left most e = ap (λ n. source n t a) (sym e)

  -- one step, by the indexes
  pub one_step : (most n : ℕ) → most ≡ suc n → (s : Step) → s ≡ step_among (shown records) t a → from_outside a s (λ b. source n t b) ≡ source most t a
  unfolding source
  one_step most n e s h =
      ap (λ s. from_outside a s (λ b. source n t b)) (h ∙ ap (λ fs. step_among fs t a) made ∙ step_among-outsides imported t a)
      ∙ ap (λ k. source k t a) (sym e)
