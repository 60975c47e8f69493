-- Loops over the declarations before one that is tried again.
use Rattle.std.proofs.Common.{◌≡◌, ◌<◌, ◌≤◌, ◌+◌, ℕ, List, [], ◌∷◌, ◌++◌, map, drop, take, length, get_or, Ok, Err, sym, ap, ◌∙◌}
use Rattle.std.proofs.lemmas.List.{drop_all, map-append, take_more}
use Rattle.syntax_trees.specs.PlainSyntax as plain
use Rattle.syntax_trees.specs.declared.syntax.Declaration.{Declaration}
use Rattle.check_rules.specs.Around.{Around}
use Rattle.check_rules.specs.Programs.{before_others, declaration}
use Rattle.check_rules.specs.Steps.{State, Fault}
use Rattle.check_statement_lists.specs.check_jumps.proofs.Tests.{at_drop}
use Rattle.check_programs.specs.Again.{dropped, next_rule, or_before, so_far}
use Rattle.check_programs.specs.Found.{Found}
use Rattle.check_programs.proofs.AgainLaws.{before_is, so_far_more, value_dropped}

module _ (a : Around) (all : List Declaration) (i : ℕ) (x : Declaration) (inside : i < length all) (here : x ≡ get_or all i x) where
  pub so_far_at : (f : Found) (σ : State) (y : Found × State) → next_rule a f (plain.declaration x) σ ≡ Ok y
      → so_far a (map plain.declaration (drop i all)) (f, σ) ≡ so_far a (map plain.declaration (drop (i + 1) all)) y
  unfolding so_far
  so_far_at f σ y given =
      ap (λ ds. so_far a (map plain.declaration ds) (f, σ)) (at_drop all i x inside here)
      ∙ ap (λ r. so_far a (map plain.declaration (drop (i + 1) all)) (or_before (f, σ) r)) given

  begun : map plain.declaration (take (i + 1) all) ≡ map plain.declaration (take i all) ++ plain.declaration x ∷ []
  begun =
      ap (map plain.declaration) (take_more all i x inside ∙ ap (λ d. take i all ++ d ∷ []) (sym here))
      ∙ map-append plain.declaration (take i all) (x ∷ [])

  pub so_far_next : (z y : Found × State) (f : Found) (σ : State) → so_far a (map plain.declaration (take i all)) z ≡ (f, σ)
      → next_rule a f (plain.declaration x) σ ≡ Ok y → so_far a (map plain.declaration (take (i + 1) all)) z ≡ y
  so_far_next z y f σ before given =
      ap (λ ds. so_far a ds z) begun ∙ so_far_more a (map plain.declaration (take i all)) (plain.declaration x) z
      ∙ ap (λ r. or_before r (next_rule a r.0 (plain.declaration x) r.1)) before ∙ ap (or_before (f, σ)) given

pub so_far_out : (a : Around) (all : List Declaration) (i : ℕ) (y : Found × State) → length all ≤ i → so_far a (map plain.declaration (drop i all)) y ≡ y
unfolding so_far
so_far_out a all i y outside = ap (λ ds. so_far a (map plain.declaration ds) y) (drop_all i all outside)

-- the fault that the second try tells is that of the definition
pub told_again : (np ns : ℕ) (a : Around) (x : Declaration) (rest : List Declaration) (σ : State) (e : Fault)
    → before_others (λ (d : Declaration). d.names) (λ b d. dropped (declaration np ns b (plain.declaration d))) a x rest σ ≡ Err e
    → before_others (λ d. d.names) (declaration np ns) a (plain.declaration x) (map plain.declaration rest) σ ≡ Err e
told_again np ns a x rest σ e given =
    value_dropped _ e (sym (before_is plain.declaration (λ d. d.names) (declaration np ns) a x rest σ) ∙ given)
