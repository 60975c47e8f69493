-- The turns of a loop that counts parts: what is counted and then the rest, and the end of it.
use Rattle.std.proofs.Common.{◌≡◌, ℕ, suc, ◌+◌, ◌≤◌, max, List, ◌∷◌, length, sym, ap, ◌∙◌, arith}
use Rattle.std.proofs.lemmas.List.{nil_from_length}
use Rattle.mesa_base.specs.declared.limits.TheConstants.{INSTANCES}
use Rattle.config_rules.specs.Template.{Parts, NoParts}
use Rattle.config_templates.specs.Clipped.{clipped}
use Rattle.config_templates.specs.Shown.{before, chained}
use Rattle.config_templates.specs.declared.template.TemplatePart.{TemplatePart}

module _ (count : Parts → ℕ) (whole so next : ℕ) where
  first : (p : TemplatePart) (more all : List TemplatePart) → all ≡ p ∷ more → chained all ≡ before p (chained more)
  unfolding chained
  first p more all e = ap chained e

  none : (all : List TemplatePart) → length all ≡ 0 → chained all ≡ NoParts
  unfolding chained
  none all e = ap chained (nil_from_length all e)

  pub more : {all ps : List TemplatePart} {p : TemplatePart} → all ≡ p ∷ ps → whole ≡ clipped (so + count (chained all))
      → clipped (next + count (chained ps)) ≡ clipped (so + count (before p (chained ps))) → whole ≡ clipped (next + count (chained ps))
  more {all} {ps} {p} e so_far turn = so_far ∙ ap (λ q. clipped (so + count q)) (first p ps all e) ∙ sym turn

  pub deeper : {all ps : List TemplatePart} {p : TemplatePart} → all ≡ p ∷ ps → whole ≡ clipped (max so (count (chained all)))
      → clipped (max next (count (chained ps))) ≡ clipped (max so (count (before p (chained ps)))) → whole ≡ clipped (max next (count (chained ps)))
  deeper {all} {ps} {p} e so_far turn = so_far ∙ ap (λ q. clipped (max so (count q))) (first p ps all e) ∙ sym turn

module _ (count : Parts → ℕ) (nothing : count NoParts ≡ 0) (whole so : ℕ) (few : so ≤ suc INSTANCES) (all : List TemplatePart) (e : length all ≡ 0) where
  at_end : count (chained all) ≡ 0
  at_end = ap count (none (λ _. 0) 0 0 0 all e) ∙ nothing

  pub counted : whole ≡ clipped (so + count (chained all)) → so ≡ whole
  counted so_far = omega (arith, at_end)

  pub deepest : whole ≡ clipped (max so (count (chained all))) → so ≡ whole
  deepest so_far = omega (arith, at_end)
