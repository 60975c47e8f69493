use Rattle.check_mentions.specs.Gathering.{Leaves}
use Rattle.check_mentions.specs.Parts.{ahead}
use Rattle.check_mentions.proofs.gathered.Gathered.all.Given as goal

abbrev pub invariant-turns : goal.invariant-turns
invariant-turns l = Leaves l.fn.self (ahead l.fn.parts) l.self (ahead l.parts)
