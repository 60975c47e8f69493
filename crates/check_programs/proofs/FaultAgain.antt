-- A declaration with a fault, which is tried again before the state that is made anew.
use Rattle.std.proofs.Common.{◌≡◌, ◌<◌, ◌+◌, ℕ, List, map, drop, take, length, get_or, Err, sym, ap, ◌∙◌}
use Rattle.syntax_trees.specs.PlainSyntax as plain
use Rattle.syntax_trees.specs.declared.syntax.Declaration.{Declaration}
use Rattle.check_rules.specs.Around.{Around}
use Rattle.check_rules.specs.Programs.{before_others, declaration}
use Rattle.check_rules.specs.Steps.{State, Checked, Fault}
use Rattle.check_programs.specs.Again.{dropped, next_rule, so_far}
use Rattle.check_programs.specs.Found.{Found, nothing_found}
use Rattle.check_programs.proofs.AgainLaws.{fault_alone}
use Rattle.check_programs.proofs.AgainLoops.{told_again}
use Rattle.check_programs.proofs.CodeLoops.{found_fault}
use Rattle.check_programs.proofs.FoundLoops.{rest}

module _ (a : Around) (start : State) where
  abbrev pub anew : List Declaration → State
  anew before = (so_far a (map plain.declaration before) (nothing_found, start)).1

  abbrev pub alone : ℕ → ℕ → Declaration → State → Checked (Unit {0} × State)
  alone np ns x σ = dropped (declaration np ns a (plain.declaration x)) σ

  abbrev pub again : ℕ → ℕ → Declaration → List Declaration → State → Checked (Unit {0} × State)
  again np ns x further σ = before_others (λ (d : Declaration). d.names) (λ b d. dropped (declaration np ns b (plain.declaration d))) a x further σ

  anew_is : (all before : List Declaration) (i : ℕ) (f : Found) (σ : State) → before ≡ take i all
      → so_far a (map plain.declaration (take i all)) (nothing_found, start) ≡ (f, σ) → anew before ≡ σ
  anew_is all before i f σ begun s = ap anew begun ∙ ap (λ (r : Found × State). r.1) s

  pub found_again : (all before : List Declaration) (i : ℕ) (x : Declaration) (np ns : ℕ) (f : Found) (σ : State) (e : Fault)
      → before ≡ take i all → np ≡ f.procedures + 1 → ns ≡ length f.signals
      → so_far a (map plain.declaration (take i all)) (nothing_found, start) ≡ (f, σ)
      → next_rule a f (plain.declaration x) σ ≡ Err e → alone np ns x (anew before) ≡ Err e
  found_again all before i x np ns f σ e begun p n s given = same ∙ fault_alone f (declaration (f.procedures + 1) (length f.signals) a (plain.declaration x) σ) e given
    where
      same : alone np ns x (anew before) ≡ alone (f.procedures + 1) (length f.signals) x σ
      same = λ k. alone (p k) (n k) x (anew_is all before i f σ begun s k)

  pub fault_again : (all before further : List Declaration) (i : ℕ) (x : Declaration) (np ns : ℕ) (f : Found) (σ : State) (e : Fault)
      → i < length all → x ≡ get_or all i x → before ≡ take i all → further ≡ drop (i + 1) all → np ≡ f.procedures + 1 → ns ≡ length f.signals
      → so_far a (map plain.declaration (take i all)) (nothing_found, start) ≡ (f, σ)
      → again np ns x further (anew before) ≡ Err e → rest a f (map plain.declaration (drop i all)) σ ≡ Err e
  fault_again all before further i x np ns f σ e inside here begun left p n s given =
      found_fault all i x inside here f a σ e (told_again (f.procedures + 1) (length f.signals) a x (drop (i + 1) all) σ e (sym same ∙ given))
    where
      same : again np ns x further (anew before) ≡ again (f.procedures + 1) (length f.signals) x (drop (i + 1) all) σ
      same = λ k. again (p k) (n k) x (left k) (anew_is all before i f σ begun s k)
