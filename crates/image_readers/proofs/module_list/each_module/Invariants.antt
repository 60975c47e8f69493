use Rattle.std.proofs.Common.{◌≡◌, ◌-◌, [], map}
use Rattle.std.specs.Prelude.{All}
use Rattle.file_forms.specs.Forms.{read_each}
use Rattle.object_readers.specs.Rows.{module_part, RowsFit}
use Rattle.object_rules.specs.ModuleForms.{module_form}
use Rattle.image_readers.proofs.module_list.each_module.Given as goal

abbrev pub invariant-modules : goal.invariant-modules
invariant-modules l = record {
  reads : read_each (λ _. module_form l.version) (l.count - l.counter) (map module_part l.all) l.input.rest.now ≡ read_each (λ _. module_form l.version) l.count [] l.fn.input.rest.now;
  whole : All RowsFit l.all;
}
