use Rattle.std.proofs.Common.{◌≡◌, ◌-◌, []}
use Rattle.file_forms.specs.Forms.{read_each}
use Rattle.object_rules.specs.CatchForms.{arm}
use Rattle.module_readers.proofs.catching.each_arm.Given as goal

abbrev pub invariant-arms : goal.invariant-arms
invariant-arms l =
    read_each (λ _. arm l.signals l.links) (l.count - l.counter) l.all l.input.rest.now ≡ read_each (λ _. arm l.signals l.links) l.count [] l.fn.input.rest.now
