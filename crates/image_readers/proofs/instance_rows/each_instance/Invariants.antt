use Rattle.std.proofs.Common.{◌≡◌, ◌-◌, [], map}
use Rattle.file_forms.specs.Forms.{read_each}
use Rattle.file_forms.specs.Seen.{Shows}
use Rattle.image_readers.specs.Paths.{keys_of}
use Rattle.object_readers.specs.Rows.{module_part}
use Rattle.object_rules.specs.ImageForms.{instance_form}
use Rattle.image_readers.proofs.instance_rows.each_instance.Given as goal

abbrev pub invariant-instances : goal.invariant-instances
invariant-instances l = record {
  reads : read_each (instance_form (map module_part l.modules)) (l.count - l.counter) l.all l.input.rest.now ≡ read_each (instance_form (map module_part l.modules)) l.count [] l.fn.input.rest.now;
  shows : Shows l.seen (keys_of l.all);
}
