use Rattle.std.proofs.Common.{◌≡◌, ◌-◌, []}
use Rattle.file_forms.specs.Forms.{read_each}
use Rattle.object_rules.specs.ModuleForms.{signal}
use Rattle.module_readers.proofs.signal_rows.each_signal.Given as goal

abbrev pub invariant-signals : goal.invariant-signals
invariant-signals l =
    read_each (λ _. signal) (l.count - l.counter) l.all l.input.rest.now ≡ read_each (λ _. signal) l.count [] l.fn.input.rest.now
