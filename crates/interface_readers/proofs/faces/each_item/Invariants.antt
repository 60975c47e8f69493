use Rattle.std.proofs.Common.{◌≡◌, ◌-◌, []}
use Rattle.file_forms.specs.Forms.{read_each}
use Rattle.file_forms.specs.Names.{fresh_name}
use Rattle.file_forms.specs.Seen.{Shows}
use Rattle.face_rules.specs.FaceForms.{item_named, item_names}
use Rattle.interface_readers.proofs.faces.each_item.Given as goal

abbrev pub invariant-items : goal.invariant-items
invariant-items l = record {
  reads : read_each (λ before. item_named (fresh_name (item_names before)) l.version) (l.count - l.counter) l.all l.input.rest.now ≡ read_each (λ before. item_named (fresh_name (item_names before)) l.version) l.count [] l.fn.input.rest.now;
  shows : Shows l.seen (item_names l.all);
}
