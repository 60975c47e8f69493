-- What finding an instruction or a region by halving stands on (rule of this project).
use Rattle.std.specs.Prelude.{◌<◌, List, length, All}
use Rattle.std.specs.List.Sorted.{IsNonDecreasingBy}
use Rattle.code_forms.specs.declared.module_code.Arm.{Arm}
use Rattle.code_forms.specs.declared.module_code.Phrase.{Phrase}
use Rattle.code_forms.specs.Phrases.{first_start}

-- the regions of these arms rise
pub record ArmsRise (arms : List Arm) : Type 0 where
  pub some : 0 < length arms
  pub starts : IsNonDecreasingBy (λ a. a.start) arms

-- so do those of these phrases, from one phrase to the next too
pub record RegionsRise (phrases : List Phrase) : Type 0 where
  pub each : All (λ p. ArmsRise p.arms) phrases
  pub firsts : IsNonDecreasingBy (λ p. first_start p.arms) phrases

-- each phrase's range begins before its arms
abbrev pub FromsFirst : List Phrase → Type 0
FromsFirst phrases = All (λ p. p.from < first_start p.arms) phrases
