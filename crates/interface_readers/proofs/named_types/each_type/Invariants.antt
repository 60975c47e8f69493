use Rattle.std.proofs.Common.{◌≡◌, ◌-◌, ◌++◌, []}
use Rattle.file_forms.specs.Forms.{read_each}
use Rattle.file_forms.specs.Seen.{Shows}
use Rattle.face_rules.specs.FaceForms.{item_names}
use Rattle.face_rules.specs.InterfaceForms.{constant_names, named_type, type_names}
use Rattle.interface_readers.proofs.named_types.each_type.Given as goal

abbrev pub invariant-types : goal.invariant-types
invariant-types l = record {
  reads : read_each (λ before. named_type l.version (item_names l.fn.so_far.face.items ++ constant_names l.fn.so_far.constants ++ type_names before)) (l.count - l.counter) l.so_far.types l.input.rest.now
      ≡ read_each (λ before. named_type l.version (item_names l.fn.so_far.face.items ++ constant_names l.fn.so_far.constants ++ type_names before)) l.count [] l.fn.input.rest.now;
  shows : Shows l.seen (item_names l.so_far.face.items ++ constant_names l.so_far.constants ++ type_names l.so_far.types);
  face : l.so_far.face ≡ l.fn.so_far.face;
  constants : l.so_far.constants ≡ l.fn.so_far.constants;
}
