use Rattle.std.proofs.Common.{◌≡◌, ◌-◌, []}
use Rattle.file_forms.specs.Forms.{read_each}
use Rattle.object_rules.specs.ImageForms.{entry}
use Rattle.image_readers.proofs.wanted_rows.each_entry.Given as goal

abbrev pub invariant-entries : goal.invariant-entries
invariant-entries l =
    read_each (λ _. entry l.version) (l.count - l.counter) l.all l.input.rest.now ≡ read_each (λ _. entry l.version) l.count [] l.fn.input.rest.now
