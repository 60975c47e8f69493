use Rattle.std.proofs.Common.{◌≡◌, ◌-◌, [], map}
use Rattle.file_forms.specs.Forms.{read_each}
use Rattle.object_rules.specs.ModuleForms.{procedure}
use Rattle.object_rules.specs.Parts.{procedure_part, procedure_code}
use Rattle.module_readers.proofs.procedure_rows.each_procedure.Given as goal

abbrev pub invariant-procedures : goal.invariant-procedures
invariant-procedures l = record {
  reads : read_each (procedure l.signals l.links) (l.count - l.counter) (map procedure_part l.all) l.input.rest.now ≡ read_each (procedure l.signals l.links) l.count [] l.fn.input.rest.now;
  order : l.all ≡ map procedure_code (map procedure_part l.all);
}
