use Rattle.std.proofs.Common.{◌++◌, ◌∙◌, ap, subst}
use Rattle.mesa_types.specs.declared.faces.Face.{Face}
use Rattle.file_forms.specs.Seen.{Shows}
use Rattle.interface_records.specs.declared.interface.Interface.{Interface}
use Rattle.face_rules.specs.FaceForms.{item_names}
use Rattle.face_rules.specs.InterfaceForms.{constant, constant_names}
use Rattle.file_forms.proofs.Loops.{each_goes_on, each_is_cut, each_is_done}
use Rattle.interface_readers.proofs.constants.each_constant.Goals as goal

pub constants-preserved : goal.constants-preserved
constants-preserved c = record {
  reads = each_goes_on (λ before. constant c.args.version (item_names c.args.so_far.face.items ++ constant_names before)) c.args.count c.constants.counter c.constants.so_far.constants
      c.in_ok-so_far.so_far.constants c.in-Ok.constant c.constants.input.rest.now c.constant.new.input.rest.now _ c.constants-test.true c.constants.invariant.reads
      (c.in-Ok.ensures _ (subst (λ (f : Face). Shows c.constants.seen (item_names f.items ++ constant_names c.constants.so_far.constants)) c.constants.invariant.face c.constants.invariant.shows))
      (ap (λ (i : Interface). i.constants) c.in_ok-so_far.ensures.0);
  shows = c.in_ok-so_far.ensures.1;
  face = ap (λ (i : Interface). i.face) c.in_ok-so_far.ensures.0 ∙ c.constants.invariant.face;
  types = ap (λ (i : Interface). i.types) c.in_ok-so_far.ensures.0 ∙ c.constants.invariant.types;
}

pub returns-in-Err-clause-read : goal.returns-in-Err-clause-read
returns-in-Err-clause-read c = λ other. each_is_cut (λ before. constant c.args.version (item_names c.args.so_far.face.items ++ constant_names before)) c.args.count c.constants.counter
    c.constants.so_far.constants c.in-Err.why c.constants.input.rest.now _ c.constants-test.true c.constants.invariant.reads
    (c.in-Err.ensures _ (subst (λ (f : Face). Shows c.constants.seen (item_names f.items ++ constant_names c.constants.so_far.constants)) c.constants.invariant.face c.constants.invariant.shows) other)

pub returns-clause-read : goal.returns-clause-read
returns-clause-read c = each_is_done (λ before. constant c.args.version (item_names c.args.so_far.face.items ++ constant_names before)) c.args.count c.constants.counter
    c.constants.so_far.constants c.constants.input.rest.now _ c.constants-test.false c.constants.invariant.reads
