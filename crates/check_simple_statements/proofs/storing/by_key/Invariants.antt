use Rattle.std.proofs.Common.{◌≡◌, [], drop, map}
use Rattle.mesa_types.specs.Plain.{target}
use Rattle.syntax_trees.specs.PlainSyntax as plain
use Rattle.check_rules.specs.Checking as spec
use Rattle.check_declared.specs.Naming.{HasNames}
use Rattle.check_state.specs.Views as words
use Rattle.check_simple_statements.proofs.Chains.{onto}
use Rattle.check_simple_statements.proofs.TargetLaws.{taken_at}
use Rattle.check_simple_statements.proofs.storing.by_key.Given as goal

abbrev pub invariant-loop-one : goal.invariant-loop-one
invariant-loop-one g l = record {
  taken : HasNames l.taken (taken_at l.all l.one-index);
  so_far :
      spec.targets_by_key (words.around l.around) l.start (words.fields l.spots.fields.now) [] (plain.keyed_lefts l.all) (words.state l.fn.state)
      ≡ onto (map target l.done)
      (spec.targets_by_key (words.around l.around) l.start (words.fields l.spots.fields.now) (taken_at l.all l.one-index) (plain.keyed_lefts (drop l.one-index l.all)) (words.state l.state));
}
