use Rattle.std.proofs.Common.{[], ◌++◌, refl}
use Rattle.check_mentions.specs.Parts.{ahead, of_part}
use Rattle.check_mentions.proofs.GatherLaws.{left_is, same_left, then}
use Rattle.check_mentions.proofs.gathered.Gathered.all.Goals as goal

pub turns-init : goal.turns-init
turns-init c = same_left c.args.self.now (ahead c.args.parts) (ahead c.args.parts) c.requires refl

pub part-requires : goal.part-requires
part-requires c = c.turns.invariant.indexed

pub turns-preserved : goal.turns-preserved
turns-preserved c =
    let rest = of_part c.in-Some.part ++ ahead c.next.new.self in
    then c.args.self.now c.turns.self c.part.new.self (ahead c.args.parts) rest (ahead c.part.new.parts)
    (left_is c.args.self.now c.turns.self (ahead c.args.parts) (ahead c.turns.parts) rest c.in-Some.ensures c.turns.invariant)
    c.in_ok-part-in-Some.ensures

pub returns-in-None : goal.returns-in-None
returns-in-None c = left_is c.args.self.now c.turns.self (ahead c.args.parts) (ahead c.turns.parts) [] c.in-None.ensures c.turns.invariant
