-- Each body of a sound module is in range.
use Rattle.std.proofs.Common.{◌≡◌, subst, ℕ, zero, suc, ◌+◌, ◌≤◌, List, [], ◌∷◌, map, sum, Some, arith}
use Rattle.std.proofs.lemmas.List.{length-map}
use Rattle.std.proofs.lemmas.List.Sums.{sum-map, sum_by-cons}
use Rattle.std.specs.Prelude.{slice_get}
use Rattle.mesa_types.specs.Counts.{hidden}
use Rattle.mesa_types.specs.Nodes.{stmt_nodes, procedure_nodes, nodes}
use Rattle.mesa_types.specs.Sound.{Scope, Sound, scope_of}
use Rattle.mesa_types.specs.Typed.{Procedure, Module}
use Rattle.code_forms.specs.Routine.{Routine, words_of}
use Rattle.code_rules.specs.Modules.{signal_code, main_of, procedures_of}
use Rattle.code_rules.specs.Points.{in_body}
use Rattle.code_rules.specs.Reading.{scratch}
use Rattle.code_blocks.specs.Laws.{routine_in}
use Rattle.code_blocks.specs.Modules.{uncoded, body_block, procedure_code, module_code}
use Rattle.code_blocks.proofs.Coding.{BodyFine, AllFine, main_fine, all_fine}
use Rattle.code_blocks.proofs.Fits.{Fits}
use Rattle.code_blocks.proofs.Meeting.{meets_body}
use Rattle.code_blocks.proofs.ProcedureNames.{names_of}
use Rattle.code_blocks.proofs.RangeRules.{ranges_are_kept}
use Rattle.code_blocks.proofs.TreeFits.{Here, block_fits}
use Rattle.code_blocks.proofs.TreeWeights.{statement_weight}
use Rattle.code_trees.specs.Excess.{excess}
use Rattle.code_ranges.specs.Ranges.{BodiesAreInRange}
use Rattle.code_ranges.proofs.Low.{Low}
use Rattle.code_ranges.proofs.Narrow.{Few, block_in_range}
use Rattle.code_ranges.proofs.TreeLow.{Roomy, block_low}

-- what is so of each procedure of a list is so of one
fine_get : (m : Module) (ps : List Procedure) → AllFine m ps → (k : ℕ) (p : Procedure) → slice_get ps k ≡ Some p → BodyFine m p
fine_get m [] h k p is = cc
fine_get m (q ∷ ps) h zero p is = let same : q ≡ p = cc in subst (BodyFine m) same h.0
fine_get m (q ∷ ps) h (suc k) p is = fine_get m ps h.1 k p is

nodes_more : (p : Procedure) (ps : List Procedure) → sum (map procedure_nodes (p ∷ ps)) ≡ procedure_nodes p + sum (map procedure_nodes ps)
nodes_more p ps = omega (arith, sum-map procedure_nodes (p ∷ ps), sum-map procedure_nodes ps, sum_by-cons procedure_nodes p ps)

-- a procedure's body has no more nodes than all procedures
body_nodes : (ps : List Procedure) (k : ℕ) (p : Procedure) → slice_get ps k ≡ Some p → stmt_nodes p.body.does ≤ sum (map procedure_nodes ps)
unfolding procedure_nodes
body_nodes [] k p is = cc
body_nodes (q ∷ ps) zero p is =
    let same : q ≡ p = cc in
    subst (λ (x : Procedure). stmt_nodes x.body.does ≤ sum (map procedure_nodes (q ∷ ps))) same (omega (arith, nodes_more q ps))
body_nodes (q ∷ ps) (suc k) p is = omega (arith, nodes_more q ps, body_nodes ps k p is)

few_nodes : (m : Module) (k : ℕ) (p : Procedure) → slice_get (procedures_of m) k ≡ Some p → stmt_nodes p.body.does ≤ nodes m
unfolding nodes
few_nodes m zero p is =
    let same : main_of m ≡ p = cc in
    subst (λ (x : Procedure). stmt_nodes x.body.does ≤ nodes m) same (omega arith)
few_nodes m (suc k) p is = omega (arith, body_nodes m.procedures k p is)

module _ (m : Module) (s : Sound m) (few : nodes m ≤ 4194304) (p : Procedure) (h : BodyFine m p) where
  abbrev r : Routine
  r = routine_in (module_code m) (procedure_code m p)

  abbrev Γ : Scope
  Γ = scope_of m p.head.takes p.head.gives p.body

  names_are_few : Few r
  unfolding scope_of nodes
  names_are_few = record {
    frame = omega (arith, (h.sound).small);
    globals = omega (arith, s.globals);
    strings = omega (arith, s.strings);
    signals = omega (arith, length-map m.signals signal_code, few);
    procedures = omega (arith, length-map (module_code m).procedures words_of, (ranges_are_kept m s few).few_procedures);
  }

  fits : Fits r (body_block m p) 0 (in_body tt)
  unfolding scope_of
  fits =
      let here : Here (uncoded m p) r Γ (in_body tt) =
      record { names = names_of m p s h; meets = meets_body m p.head.takes p.head.gives p.body } in
      block_fits (uncoded m p) r Γ (in_body tt) here (scratch (uncoded m p) + 16) p.body.does (omega arith) (h.sound).does

  roomy : Roomy Γ
  unfolding scope_of
  roomy = (h.words, omega (arith, s.globals), omega (arith, (h.sound).small))

  low : Low (body_block m p)
  low = block_low (uncoded m p) Γ roomy (scratch (uncoded m p) + 16) p.body.does (h.sound).does

  body_in_range : stmt_nodes p.body.does ≤ nodes m → (excess (body_block m p) ≡ 0) × (scratch (uncoded m p) + 16 + hidden p.body.does ≤ 65535)
  unfolding scope_of
  body_in_range short = (
    block_in_range r names_are_few (body_block m p) 0 (in_body tt) fits low
        (omega (arith, statement_weight (uncoded m p) Γ p.body.does (h.sound).does (scratch (uncoded m p) + 16), short, few)),
    omega (arith, (h.sound).small),
  )

pub bodies_are_in_range : BodiesAreInRange
bodies_are_in_range m s few k p is =
    body_in_range m s few p (fine_get m (procedures_of m) (main_fine m s, all_fine m s m.procedures s.procedures) k p is) (few_nodes m k p is)
