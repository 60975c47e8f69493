use Rattle.std.proofs.Common.{drop, length}
use Rattle.code_trees.specs.Plain.{plain}
use Rattle.code_writer.specs.Drafts.{found, IsHeld}
use Rattle.code_writer.proofs.Queue.{left, Stage}
use Rattle.code_writer.proofs.procedure.write_code.Given as goal

abbrev pub invariant-arms : goal.invariant-arms
invariant-arms l = record {
  stage : Stage (plain l.body) (record { code = l.draft.entries; end = l.end; found = found l.draft; done = l.phrases });
  held : IsHeld l.draft;
}

abbrev pub decreases-arms : goal.decreases-arms
decreases-arms l = left (drop (length l.phrases) (found l.draft))
