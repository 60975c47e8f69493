-- The code and the phrases of a sound module come to at most 32 bytes for each node.
use Rattle.std.proofs.Common.{◌≡◌, suc, ◌+◌, ◌*◌, ◌≤◌, List, [], ◌∷◌, map, sum, All, arith}
use Rattle.std.proofs.lemmas.List.Sums.{sum-map, sum_by-cons}
use Rattle.mesa_types.specs.Nodes.{stmt_nodes, procedure_nodes, nodes}
use Rattle.mesa_types.specs.Sound.{BodyIn, ProcedureIn, scope_of}
use Rattle.mesa_types.specs.Typed.{Procedure, Module}
use Rattle.code_rules.specs.Modules.{main_of}
use Rattle.code_rules.specs.Reading.{scratch}
use Rattle.code_blocks.specs.Laws.{ModulesAreShort}
use Rattle.code_blocks.specs.Modules.{uncoded, body_block, procedure_code}
use Rattle.code_blocks.specs.Weights.{procedure_bytes, procedures_bytes}
use Rattle.code_blocks.proofs.Counting.{all_finished}
use Rattle.code_blocks.proofs.TreeWeights.{statement_weight}

body_weight : (m : Module) (p : Procedure) → BodyIn m p.head.takes p.head.gives p.body → procedure_bytes (procedure_code m p) ≤ 32 * stmt_nodes p.body.does + 4
body_weight m p h =
    omega (
      arith,
      (all_finished (body_block m p)).light,
      statement_weight (uncoded m p) (scope_of m p.head.takes p.head.gives p.body) p.body.does h.does (scratch (uncoded m p) + 16),
    )

procedures_more : (p : Procedure) (ps : List Procedure) → sum (map procedure_nodes (p ∷ ps)) ≡ procedure_nodes p + sum (map procedure_nodes ps)
procedures_more p ps = omega (arith, sum-map procedure_nodes (p ∷ ps), sum-map procedure_nodes ps, sum_by-cons procedure_nodes p ps)

procedures_weight : (m : Module) (ps : List Procedure) → All (ProcedureIn m) ps → procedures_bytes (map (procedure_code m) ps) ≤ 32 * sum (map procedure_nodes ps)
unfolding ProcedureIn procedure_nodes
procedures_weight m [] h = omega arith
procedures_weight m (p ∷ ps) h =
    omega (arith, procedures_more p ps, body_weight m p (h 0 p (omega arith)).2, procedures_weight m ps (λ k d lt. h (suc k) d (omega (arith, lt))))

pub modules_are_short : ModulesAreShort
unfolding nodes
modules_are_short m s = omega (arith, body_weight m (main_of m) s.body, procedures_weight m m.procedures s.procedures)
