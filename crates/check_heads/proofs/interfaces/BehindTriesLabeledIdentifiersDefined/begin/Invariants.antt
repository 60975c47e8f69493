use Rattle.std.proofs.Common.{◌≡◌, map, take}
use Rattle.syntax_trees.specs.PlainSyntax as plain
use Rattle.check_rules.specs.Definitions.{definition}
use Rattle.check_state.specs.Views as words
use Rattle.check_heads.specs.Again.{after}
use Rattle.check_heads.proofs.interfaces.BehindTriesLabeledIdentifiersDefined.begin.Given as goal

abbrev pub invariant-loop-one : goal.invariant-loop-one
invariant-loop-one g l = words.state l.state ≡ after (definition (words.around l.self.around.now)) (map plain.definition (take l.one-index l.self.done.now)) (g.S.Starts.begins l.self.start.now)
