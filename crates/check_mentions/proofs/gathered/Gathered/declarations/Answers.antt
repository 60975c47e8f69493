use Rattle.std.proofs.Common.{[], ◌+◌, drop, map, refl, rules}
use Rattle.syntax_trees.specs.PlainSyntax as plain
use Rattle.check_rules.specs.Mentions.{of_declarations, of_declared}
use Rattle.check_mentions.proofs.GatherLaws.{left_is, same_left}
use Rattle.check_mentions.proofs.ModuleForms.{declarations_at, declarations_out, turn}
use Rattle.check_mentions.proofs.gathered.Gathered.declarations.Goals as goal

pub loop-one-init : goal.loop-one-init
loop-one-init c = same_left c.args.self.now (of_declarations (map plain.declaration c.args.all.now)) (of_declarations (map plain.declaration c.args.all.now)) c.requires refl

pub declaration-requires : goal.declaration-requires
declaration-requires c = c.loop-one.invariant.indexed

pub loop-one-preserved : goal.loop-one-preserved
loop-one-preserved c =
    turn c.args.self.now c.loop-one.self c.declaration.new.self (of_declarations (map plain.declaration c.args.all.now)) (of_declarations (map plain.declaration (drop c.loop-one.one-index c.args.all.now)))
    (of_declared (plain.declared c.one-item.result.declared)) (of_declarations (map plain.declaration (drop (c.loop-one.one-index + 1) c.args.all.now))) c.loop-one.invariant
    (declarations_at c.args.all.now c.loop-one.one-index c.one-item.result (search rules) (search rules)) c.in_ok-declaration.ensures

pub returns : goal.returns
returns c =
    left_is c.args.self.now c.loop-one.self (of_declarations (map plain.declaration c.args.all.now)) (of_declarations (map plain.declaration (drop c.loop-one.one-index c.args.all.now))) []
    (declarations_out c.args.all.now c.loop-one.one-index (search rules)) c.loop-one.invariant
