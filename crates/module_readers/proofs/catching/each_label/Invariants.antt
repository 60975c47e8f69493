use Rattle.std.proofs.Common.{◌≡◌, ◌-◌, []}
use Rattle.file_forms.specs.Forms.{read_each}
use Rattle.object_rules.specs.CatchForms.{label}
use Rattle.module_readers.proofs.catching.each_label.Given as goal

abbrev pub invariant-labels : goal.invariant-labels
invariant-labels l =
    read_each (λ _. label l.signals l.links) (l.count - l.counter) l.all l.input.rest.now ≡ read_each (λ _. label l.signals l.links) l.count [] l.fn.input.rest.now
