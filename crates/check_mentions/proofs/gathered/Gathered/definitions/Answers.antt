use Rattle.std.proofs.Common.{[], ◌+◌, drop, map, refl, rules}
use Rattle.syntax_trees.specs.PlainSyntax as plain
use Rattle.check_rules.specs.Mentions.{of_definitions, of_defined}
use Rattle.check_mentions.proofs.GatherLaws.{left_is, same_left}
use Rattle.check_mentions.proofs.ModuleForms.{definitions_at, definitions_out, turn}
use Rattle.check_mentions.proofs.gathered.Gathered.definitions.Goals as goal

pub loop-one-init : goal.loop-one-init
loop-one-init c = same_left c.args.self.now (of_definitions (map plain.definition c.args.all.now)) (of_definitions (map plain.definition c.args.all.now)) c.requires refl

pub definition-requires : goal.definition-requires
definition-requires c = c.loop-one.invariant.indexed

pub loop-one-preserved : goal.loop-one-preserved
loop-one-preserved c =
    turn c.args.self.now c.loop-one.self c.definition.new.self (of_definitions (map plain.definition c.args.all.now)) (of_definitions (map plain.definition (drop c.loop-one.one-index c.args.all.now)))
    (of_defined (plain.defined c.one-item.result.item)) (of_definitions (map plain.definition (drop (c.loop-one.one-index + 1) c.args.all.now))) c.loop-one.invariant
    (definitions_at c.args.all.now c.loop-one.one-index c.one-item.result (search rules) (search rules)) c.in_ok-definition.ensures

pub returns : goal.returns
returns c =
    left_is c.args.self.now c.loop-one.self (of_definitions (map plain.definition c.args.all.now)) (of_definitions (map plain.definition (drop c.loop-one.one-index c.args.all.now))) []
    (definitions_out c.args.all.now c.loop-one.one-index (search rules)) c.loop-one.invariant
