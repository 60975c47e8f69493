use Rattle.std.proofs.Common.{◌≡◌, drop}
use Rattle.code_trees.specs.Plain.{plain, plain_blocks, all_off, in_order}
use Rattle.code_writer.specs.Drafts.{Leaves}
use Rattle.code_writer.specs.Parts.{parts}
use Rattle.code_writer.specs.Scopes.{env_at}
use Rattle.code_writer.proofs.draft.Draft.+write.Given as goal

abbrev pub invariant-loop-part : goal.invariant-loop-part
invariant-loop-part l =
    let rest = drop l.part-index l.part-items in
    record {
      sizes : all_off rest ≡ 0;
      leaves : Leaves (plain l.block) (in_order (plain_blocks rest) (plain l.last)) (env_at l.fn.self.scopes.items l.around) l.fn.from l.fn.self l.cursor l.self;
    }

abbrev pub decreases-write : goal.decreases-write
decreases-write l = parts l.block.now
