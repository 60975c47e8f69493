use Rattle.std.proofs.Common.{ℕ, ◌-◌, ◌<◌, length, get_or}
use Rattle.code_forms.specs.declared.module_code.Phrase.{Phrase}
use Rattle.code_forms.specs.Phrases.{Nests}
use Rattle.code_forms.proofs.catching.first_crossing_of.Given as goal

abbrev pub invariant-loop-inner : goal.invariant-loop-inner
invariant-loop-inner l = (l.outer < l.inner) × ((n : ℕ) (d : Phrase) → l.outer < n → n < l.inner → n < l.limit → Nests (get_or l.phrases n d) (get_or l.phrases l.outer d))

abbrev pub decreases-loop-inner : goal.decreases-loop-inner
decreases-loop-inner l = length l.phrases - l.inner
