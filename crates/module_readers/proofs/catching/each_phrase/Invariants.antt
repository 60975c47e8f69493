use Rattle.std.proofs.Common.{◌≡◌, ◌-◌, []}
use Rattle.file_forms.specs.Forms.{read_each}
use Rattle.object_rules.specs.CatchForms.{phrase}
use Rattle.module_readers.proofs.catching.each_phrase.Given as goal

abbrev pub invariant-phrases : goal.invariant-phrases
invariant-phrases l =
    read_each (λ _. phrase l.signals l.links) (l.count - l.counter) l.all l.input.rest.now ≡ read_each (λ _. phrase l.signals l.links) l.count [] l.fn.input.rest.now
