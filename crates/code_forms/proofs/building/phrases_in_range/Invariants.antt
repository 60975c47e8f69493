use Rattle.std.specs.List.{AllWithin}
use Rattle.code_forms.specs.Ranges.{PhraseInRange}
use Rattle.code_forms.proofs.building.phrases_in_range.Given as goal

abbrev pub invariant-loop-at : goal.invariant-loop-at
invariant-loop-at l = AllWithin (PhraseInRange l.signals l.links) l.phrases 0 l.at
