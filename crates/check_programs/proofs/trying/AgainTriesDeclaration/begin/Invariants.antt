use Rattle.std.proofs.Common.{◌≡◌, drop, map}
use Rattle.syntax_trees.specs.PlainSyntax as plain
use Rattle.check_state.specs.Views.{around, state}
use Rattle.check_programs.specs.Again.{so_far}
use Rattle.check_programs.specs.Found.{nothing_found}
use Rattle.check_programs.specs.Views as view
use Rattle.check_programs.proofs.trying.AgainTriesDeclaration.begin.Given as goal

abbrev pub invariant-loop-one : goal.invariant-loop-one
invariant-loop-one g l =
    so_far (around l.self.around.now) (map plain.declaration l.self.before.now) (nothing_found, g.S.Starts.begins l.self.start.now)
    ≡ so_far (around l.self.around.now) (map plain.declaration (drop l.one-index l.self.before.now)) (view.found l.found, state l.state)
