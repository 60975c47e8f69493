use Rattle.std.proofs.Common.{◌≡◌, [], None}
use Rattle.face_rules.specs.InterfaceForms.{constant}
use Rattle.interface_writers.specs.Elements.{each_constant}
use Rattle.interface_writers.proofs.Loops.{none_yet, full_already}
use Rattle.interface_writers.proofs.ElementLaws.{constant_fits, constant_alike, element_written}
use Rattle.interface_writers.proofs.interfaces.put_each_constant.Goals as goal

pub constants-init : goal.constants-init
constants-init c = none_yet (each_constant []) c.args.out.now c.args.constants.now

pub returns-then-is_full : goal.returns-then-is_full
returns-then-is_full c =
    let full : c.constants.out ≡ None = c.is_full.ensures.0 c.if-is_full.true in
    full_already (each_constant []) c.args.out.now c.constants.out c.args.constants.now c.constants.constant-index c.constants.invariant full

pub put_constant-requires : goal.put_constant-requires
put_constant-requires c = constant_fits c.requires.0 c.args.constants.now c.constants.constant-index c.constant-item.result c.requires.1 c.constants-test.true c.constant-item.is

pub constants-preserved : goal.constants-preserved
constants-preserved c = element_written (each_constant []) (constant 2 []) (λ before x. constant_alike _ _ x) c.args.out.now c.constants.out c.put_constant.new.out c.args.constants.now c.constants.constant-index c.constant-item.result c.constants-test.true c.constant-item.is c.constants.invariant c.in_ok-put_constant.ensures
