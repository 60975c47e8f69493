use Rattle.std.proofs.Common.{◌≡◌, drop, map, take}
use Rattle.syntax_trees.specs.PlainSyntax as plain
use Rattle.check_state.specs.Views.{around, state}
use Rattle.check_programs.specs.Again.{so_far}
use Rattle.check_programs.specs.Found.{all_found, nothing_found}
use Rattle.check_programs.specs.Views as view
use Rattle.check_programs.proofs.FoundLoops.{rest}
use Rattle.check_programs.proofs.trying.all_declared.Given as goal

abbrev pub invariant-loop-count : goal.invariant-loop-count
invariant-loop-count g l = record {
  rest : all_found (around l.around) (map plain.declaration l.declarations) (g.S.Starts.begins l.start)
      ≡ rest (around l.around) (view.found l.found) (map plain.declaration (drop l.count l.declarations)) (state l.state);
  so_far : so_far (around l.around) (map plain.declaration (take l.count l.declarations)) (nothing_found, g.S.Starts.begins l.start) ≡ (view.found l.found, state l.state);
}
