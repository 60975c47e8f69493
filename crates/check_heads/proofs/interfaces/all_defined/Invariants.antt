use Rattle.std.proofs.Common.{◌≡◌, map, take, drop}
use Rattle.syntax_trees.specs.PlainSyntax as plain
use Rattle.check_rules.specs.Definitions.{definition, nothing_defined}
use Rattle.check_state.specs.Views as words
use Rattle.check_heads.specs.Again.{after}
use Rattle.check_heads.specs.Views as view
use Rattle.check_heads.proofs.DefinedLaws.{defined_rest}
use Rattle.check_heads.proofs.interfaces.all_defined.Given as goal

abbrev pub invariant-loop-at : goal.invariant-loop-at
invariant-loop-at g l = record {
  state : words.state l.state ≡ after (definition (words.around l.around)) (map plain.definition (take l.at l.definitions)) (g.S.Starts.begins l.start);
  value : defined_rest (words.around l.around) nothing_defined (map plain.definition l.definitions) (g.S.Starts.begins l.start)
      ≡ defined_rest (words.around l.around) (view.defined l.all) (map plain.definition (drop l.at l.definitions)) (words.state l.state);
}
