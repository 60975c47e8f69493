use Rattle.std.proofs.Common.{◌≡◌, ◌-◌, []}
use Rattle.file_forms.specs.Forms.{read_each}
use Rattle.object_rules.specs.ModuleForms.{import_form}
use Rattle.object_readers.proofs.import_rows.each_import.Given as goal

abbrev pub invariant-imports : goal.invariant-imports
invariant-imports l =
    read_each (λ _. import_form l.version) (l.count - l.counter) l.all l.input.rest.now ≡ read_each (λ _. import_form l.version) l.count [] l.fn.input.rest.now
