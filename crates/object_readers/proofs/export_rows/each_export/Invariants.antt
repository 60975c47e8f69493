use Rattle.std.proofs.Common.{◌≡◌, ◌-◌, []}
use Rattle.file_forms.specs.Forms.{read_each}
use Rattle.std.specs.Prelude.{map}
use Rattle.object_rules.specs.ModuleForms.{export_form}
use Rattle.object_rules.specs.Parts.{procedure_part}
use Rattle.object_readers.proofs.export_rows.each_export.Given as goal

abbrev pub invariant-exports : goal.invariant-exports
invariant-exports l =
    read_each (λ _. export_form l.version l.signals (map procedure_part l.procedures)) (l.count - l.counter) l.all l.input.rest.now ≡ read_each (λ _. export_form l.version l.signals (map procedure_part l.procedures)) l.count [] l.fn.input.rest.now
