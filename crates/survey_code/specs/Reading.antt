-- What the calls ask of a procedure (rule of this project).
use Rattle.std.specs.Prelude.{◌<◌, ◌^◌, length}
use Rattle.std.specs.List.Sorted.{IsNonDecreasingBy}
use Rattle.code_forms.specs.declared.module_code.CodeProcedure.{CodeProcedure}
use Rattle.code_forms.specs.Phrases.{PhrasesFill}
use Rattle.code_forms.specs.Ranges.{InOrder}
use Rattle.code_forms.specs.Rising.{RegionsRise}
use Rattle.code_forms.specs.Routine.{spots}

pub record CanBeRead (p : CodeProcedure) : Type 0 where
  pub order : InOrder p.code
  pub fills : PhrasesFill (spots p.code) p.phrases
  pub few : length p.phrases < 2 ^ 32
  pub sorted : IsNonDecreasingBy (λ x. x.from) p.phrases
  pub rise : RegionsRise p.phrases
