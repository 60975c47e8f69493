use Rattle.std.proofs.Common.{◌≡◌, ◌+◌, ◌<◌, ◌≤◌, ◌^◌, ◌++◌, drop}
use Rattle.code_forms.specs.declared.limits.TheConstants.{STACK_WORDS}
use Rattle.code_blocks.specs.Own.{bytes_in, left_of}
use Rattle.code_blocks.specs.Modules.{deepest}
use Rattle.code_blocks.specs.Writing.{entries}
use Rattle.code_writer.proofs.cursor.put_all.Given as goal

abbrev pub invariant-loop-instruction : goal.invariant-loop-instruction
invariant-loop-instruction l =
    let rest = drop l.instruction-index l.code in
    record {
      at : l.cursor.at + bytes_in rest ≡ l.fn.from.at + bytes_in l.code;
      depth : left_of rest l.cursor.depth ≡ left_of l.code l.fn.from.depth;
      code : l.written ++ entries rest l.cursor.at l.cursor.depth ≡ l.fn.written ++ entries l.code l.fn.from.at l.fn.from.depth;
      room : l.cursor.at + bytes_in rest < 2 ^ 32;
      shallow : deepest (entries rest l.cursor.at l.cursor.depth) ≤ STACK_WORDS;
    }
