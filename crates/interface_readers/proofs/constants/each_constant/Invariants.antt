use Rattle.std.proofs.Common.{◌≡◌, ◌-◌, ◌++◌, []}
use Rattle.file_forms.specs.Forms.{read_each}
use Rattle.file_forms.specs.Seen.{Shows}
use Rattle.face_rules.specs.FaceForms.{item_names}
use Rattle.face_rules.specs.InterfaceForms.{constant, constant_names}
use Rattle.interface_readers.proofs.constants.each_constant.Given as goal

abbrev pub invariant-constants : goal.invariant-constants
invariant-constants l = record {
  reads : read_each (λ before. constant l.version (item_names l.fn.so_far.face.items ++ constant_names before)) (l.count - l.counter) l.so_far.constants l.input.rest.now
      ≡ read_each (λ before. constant l.version (item_names l.fn.so_far.face.items ++ constant_names before)) l.count [] l.fn.input.rest.now;
  shows : Shows l.seen (item_names l.so_far.face.items ++ constant_names l.so_far.constants);
  face : l.so_far.face ≡ l.fn.so_far.face;
  types : l.so_far.types ≡ l.fn.so_far.types;
}
