use Rattle.std.proofs.Common.{◌≡◌, ◌-◌, []}
use Rattle.file_forms.specs.Forms.{read_each}
use Rattle.object_rules.specs.ModuleForms.{text}
use Rattle.module_readers.proofs.string_rows.each_text.Given as goal

abbrev pub invariant-texts : goal.invariant-texts
invariant-texts l =
    read_each (λ _. text) (l.count - l.counter) l.all l.input.rest.now ≡ read_each (λ _. text) l.count [] l.fn.input.rest.now
