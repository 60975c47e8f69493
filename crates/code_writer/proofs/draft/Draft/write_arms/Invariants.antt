use Rattle.std.proofs.Common.{◌≡◌, drop}
use Rattle.code_trees.specs.Plain.{plain_arms, off_in_arms}
use Rattle.code_writer.specs.Drafts.{LeavesArms}
use Rattle.code_writer.specs.Scopes.{env_at}
use Rattle.code_writer.proofs.draft.Draft.write_arms.Given as goal

abbrev pub invariant-loop-arm : goal.invariant-loop-arm
invariant-loop-arm l =
    let rest = drop l.arm-index l.arms in
    record {
      sizes : off_in_arms rest ≡ 0;
      leaves : LeavesArms (plain_arms l.arms) (plain_arms rest) (env_at l.fn.self.scopes.items l.around) l.fn.from l.fn.self l.at l.self l.made;
    }
