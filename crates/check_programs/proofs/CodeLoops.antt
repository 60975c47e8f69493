-- Loops over the declarations of the code.
use Rattle.std.proofs.Common.{◌≡◌, ◌<◌, ◌≤◌, ◌+◌, ℕ, List, [], ◌∷◌, map, drop, length, get_or, Ok, Err, ap, ◌∙◌}
use Rattle.std.proofs.lemmas.List.{drop_all}
use Rattle.syntax_trees.specs.PlainSyntax as plain
use Rattle.syntax_trees.specs.declared.syntax.Declaration.{Declaration}
use Rattle.check_rules.specs.Around.{Around}
use Rattle.check_rules.specs.Programs.{Values, before_others, declaration, value_of}
use Rattle.check_rules.specs.Steps.{State, Fault}
use Rattle.check_statement_lists.specs.check_jumps.proofs.Tests.{at_drop}
use Rattle.check_programs.specs.Again.{next_rule}
use Rattle.check_programs.specs.Found.{Found}
use Rattle.check_programs.specs.Turns.{behind, no_values}
use Rattle.check_programs.specs.Views.{stated, value}
use Rattle.check_programs.specs.declared.found.Stated.{Stated}
use Rattle.check_programs.specs.declared.values.Value.{Value}
use Rattle.check_programs.proofs.FoundLoops as found
use Rattle.check_programs.proofs.ValueLaws as values

module _ (all : List Declaration) (i : ℕ) (x : Declaration) (inside : i < length all) (here : x ≡ get_or all i x) where
  split : map plain.declaration (drop i all) ≡ plain.declaration x ∷ map plain.declaration (drop (i + 1) all)
  split = ap (map plain.declaration) (at_drop all i x inside here)

  pub value_at : (done : Values) (a : Around) (heads new : List Stated) (h : Stated) (σ τ : State) (v : Value) → heads ≡ h ∷ new
      → value_of a x.names (plain.declared x.declared) (stated h) σ ≡ Ok (value v, τ)
      → values.rest done a (map plain.declaration (drop i all)) (map stated heads) σ
      ≡ values.rest (behind done (value v no_values)) a (map plain.declaration (drop (i + 1) all)) (map stated new) τ
  value_at done a heads new h σ τ v e given =
      ap (λ ds. values.rest done a ds (map stated heads) σ) split
      ∙ ap (λ hs. values.rest done a (plain.declaration x ∷ map plain.declaration (drop (i + 1) all)) (map stated hs) σ) e
      ∙ values.turn a (map plain.declaration (drop (i + 1) all)) (map stated new) done (plain.declaration x) (stated h) σ τ v given

  pub value_split : (done : Values) (a : Around) (heads new : List Stated) (h : Stated) (σ : State) → heads ≡ h ∷ new
      → values.rest done a (map plain.declaration (drop i all)) (map stated heads) σ
      ≡ values.after done (values.onward a (map plain.declaration (drop (i + 1) all)) (map stated new) (value_of a x.names (plain.declared x.declared) (stated h) σ))
  value_split done a heads new h σ e =
      ap (λ ds. values.rest done a ds (map stated heads) σ) split
      ∙ ap (λ hs. values.rest done a (plain.declaration x ∷ map plain.declaration (drop (i + 1) all)) (map stated hs) σ) e
      ∙ values.one_step a (map plain.declaration (drop (i + 1) all)) (map stated new) done (plain.declaration x) (stated h) σ

  pub value_fault : (done : Values) (a : Around) (heads new : List Stated) (h : Stated) (σ : State) (f : Fault) → heads ≡ h ∷ new
      → value_of a x.names (plain.declared x.declared) (stated h) σ ≡ Err f
      → values.rest done a (map plain.declaration (drop i all)) (map stated heads) σ ≡ Err f
  value_fault done a heads new h σ f e given =
      ap (λ ds. values.rest done a ds (map stated heads) σ) split
      ∙ ap (λ hs. values.rest done a (plain.declaration x ∷ map plain.declaration (drop (i + 1) all)) (map stated hs) σ) e
      ∙ values.fault_here a (map plain.declaration (drop (i + 1) all)) (map stated new) done (plain.declaration x) (stated h) σ f given

  pub found_at : (f : Found) (a : Around) (σ : State) (y : Found × State) → next_rule a f (plain.declaration x) σ ≡ Ok y
      → found.rest a f (map plain.declaration (drop i all)) σ ≡ found.rest a y.0 (map plain.declaration (drop (i + 1) all)) y.1
  found_at f a σ y given =
      ap (λ ds. found.rest a f ds σ) split ∙ found.turn a f (map plain.declaration (drop (i + 1) all)) (plain.declaration x) σ y given

  pub found_fault : (f : Found) (a : Around) (σ : State) (e : Fault)
      → before_others (λ d. d.names) (declaration (f.procedures + 1) (length f.signals)) a (plain.declaration x) (map plain.declaration (drop (i + 1) all)) σ ≡ Err e
      → found.rest a f (map plain.declaration (drop i all)) σ ≡ Err e
  found_fault f a σ e given =
      ap (λ ds. found.rest a f ds σ) split ∙ found.fault_here a f (map plain.declaration (drop (i + 1) all)) (plain.declaration x) σ e given

pub values_out : (done : Values) (a : Around) (all : List Declaration) (i : ℕ) (heads : List Stated) (σ : State) → length all ≤ i
    → values.rest done a (map plain.declaration (drop i all)) (map stated heads) σ ≡ Ok (done, σ)
values_out done a all i heads σ outside =
    ap (λ ds. values.rest done a (map plain.declaration ds) (map stated heads) σ) (drop_all i all outside) ∙ values.rest_end done a (map stated heads) σ

pub values_short : (done : Values) (a : Around) (all : List Declaration) (i : ℕ) (heads : List Stated) (σ : State) → heads ≡ []
    → values.rest done a (map plain.declaration (drop i all)) (map stated heads) σ ≡ Ok (done, σ)
values_short done a all i heads σ none =
    ap (λ hs. values.rest done a (map plain.declaration (drop i all)) (map stated hs) σ) none ∙ values.rest_short done a (map plain.declaration (drop i all)) σ

pub found_out : (f : Found) (a : Around) (all : List Declaration) (i : ℕ) (σ : State) → length all ≤ i
    → found.rest a f (map plain.declaration (drop i all)) σ ≡ Ok (f, σ)
found_out f a all i σ outside = ap (λ ds. found.rest a f (map plain.declaration ds) σ) (drop_all i all outside) ∙ found.rest_end a f σ
