use Rattle.std.proofs.Common.{◌≡◌, ◌-◌, []}
use Rattle.file_forms.specs.Forms.{read_each}
use Rattle.std.specs.Prelude.{map}
use Rattle.object_rules.specs.ModuleForms.{given}
use Rattle.object_rules.specs.Parts.{procedure_part}
use Rattle.object_readers.proofs.export_rows.each_given.Given as goal

abbrev pub invariant-pairs : goal.invariant-pairs
invariant-pairs l =
    read_each (given l.signals (map procedure_part l.procedures) l.items) (l.count - l.counter) l.all l.input.rest.now ≡ read_each (given l.signals (map procedure_part l.procedures) l.items) l.count [] l.fn.input.rest.now
