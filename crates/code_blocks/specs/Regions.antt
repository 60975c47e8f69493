-- The whole code of a procedure: its body's region, then the regions of the arms, phrase by phrase. The phrases found so far are
-- the queue of those whose arms are still to be written, so phrases come in the order of their ranges, an outer one before an inner
-- one, and regions in the order of phrases and arms (rule of this project).
use Rattle.std.specs.Prelude.{ℕ, zero, suc, ◌+◌, List, [], ◌∷◌, ◌++◌, length, Option, Some, None, slice_get}
use Rattle.code_forms.specs.declared.instruction.Instruction.TheVariants as i
use Rattle.code_forms.specs.declared.module_code.CodeEntry.{CodeEntry}
use Rattle.code_forms.specs.declared.module_code.Phrase.{Phrase}
use Rattle.code_blocks.specs.Blocks.{Block, Does, ◌▹◌}
use Rattle.code_blocks.specs.Sizes.{size, phrase_count}
use Rattle.code_blocks.specs.Writing.{in_arms, in_procedure, block_code, Pending, block_phrases, arms_code, arms_phrases, arms_size, phrase_from}

-- the code so far and where it ends, the phrases found so far, and of these the ones whose arms are written
pub record Written : Type 0 where
  pub code : List CodeEntry
  pub end : ℕ
  pub found : List Pending
  pub done : List Phrase

-- the body's region: a block that ends in a return
abbrev pub returning : Block → Block
returning b = b ▹ Does (i.Return ∷ [])

abbrev pub first_region : Block → Written
first_region b = record { code = block_code b in_procedure 0 0; end = size b; found = block_phrases b in_procedure 0; done = [] }

-- and the arms of the next phrase
abbrev pub with_arms : Written → Option Pending → Written
with_arms w None = w
with_arms w (Some q) = record {
  code = w.code ++ arms_code q.arms (in_arms q.env) w.end;
  end = w.end + arms_size q.arms;
  found = w.found ++ arms_phrases q.arms (in_arms q.env) w.end;
  done = w.done ++ phrase_from q w.end ∷ [];
}

abbrev pub next_written : Written → Written
next_written w = with_arms w (slice_get w.found (length w.done))

abbrev pub all_written : (count : ℕ) → Written → Written
all_written zero w = w
all_written (suc n) w = all_written n (next_written w)

-- as many phrases are written as the block has
abbrev pub written : Block → Written
written b = all_written (phrase_count b) (first_region (returning b))
