-- What the calls stand on: facts of the phrases of each procedure of valid code (rule of this project).
use Rattle.std.specs.Prelude.{◌<◌, ◌^◌, List, length}
use Rattle.std.specs.List.Sorted.{IsNonDecreasingBy}
use Rattle.code_forms.specs.declared.module_code.Phrase.{Phrase}
use Rattle.signaller.specs.Search.{arms_before}

-- the phrases and their arms are numbered within 32 bits, and the phrases stand in order of where they begin
pub record IsCatchTable (table : List Phrase) : Type 0 where
  pub few : length table < 2 ^ 32
  pub few_arms : arms_before table (length table) < 2 ^ 32
  pub sorted : IsNonDecreasingBy (λ p. p.from) table
