use Rattle.std.proofs.Common.{◌++◌, ◌∙◌, ap}
use Rattle.interface_records.specs.declared.interface.Interface.{Interface}
use Rattle.face_rules.specs.FaceForms.{item_names}
use Rattle.face_rules.specs.InterfaceForms.{constant_names, named_type, type_names}
use Rattle.file_forms.proofs.Loops.{each_goes_on, each_is_cut, each_is_done}
use Rattle.interface_readers.proofs.Turns.{shows_as}
use Rattle.interface_readers.proofs.named_types.each_type.Goals as goal

pub types-preserved : goal.types-preserved
types-preserved c = record {
  reads = each_goes_on (λ before. named_type c.args.version (item_names c.args.so_far.face.items ++ constant_names c.args.so_far.constants ++ type_names before)) c.args.count c.types.counter c.types.so_far.types
      c.in_ok-so_far.so_far.types c.in-Ok.named c.types.input.rest.now c.named_type.new.input.rest.now _ c.types-test.true c.types.invariant.reads
      (c.in-Ok.ensures _ (shows_as c.types.seen c.types.so_far c.args.so_far.face c.args.so_far.constants c.types.invariant.face c.types.invariant.constants c.types.invariant.shows))
      (ap (λ (i : Interface). i.types) c.in_ok-so_far.ensures.0);
  shows = c.in_ok-so_far.ensures.1;
  face = ap (λ (i : Interface). i.face) c.in_ok-so_far.ensures.0 ∙ c.types.invariant.face;
  constants = ap (λ (i : Interface). i.constants) c.in_ok-so_far.ensures.0 ∙ c.types.invariant.constants;
}

pub returns-in-Err-clause-read : goal.returns-in-Err-clause-read
returns-in-Err-clause-read c = λ other. each_is_cut (λ before. named_type c.args.version (item_names c.args.so_far.face.items ++ constant_names c.args.so_far.constants ++ type_names before)) c.args.count c.types.counter
    c.types.so_far.types c.in-Err.why c.types.input.rest.now _ c.types-test.true c.types.invariant.reads
    (c.in-Err.ensures _ (shows_as c.types.seen c.types.so_far c.args.so_far.face c.args.so_far.constants c.types.invariant.face c.types.invariant.constants c.types.invariant.shows) other)

pub returns-clause-read : goal.returns-clause-read
returns-clause-read c = each_is_done (λ before. named_type c.args.version (item_names c.args.so_far.face.items ++ constant_names c.args.so_far.constants ++ type_names before)) c.args.count c.types.counter
    c.types.so_far.types c.types.input.rest.now _ c.types-test.false c.types.invariant.reads
