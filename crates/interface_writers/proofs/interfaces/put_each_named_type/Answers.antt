use Rattle.std.proofs.Common.{◌≡◌, [], None}
use Rattle.face_rules.specs.InterfaceForms.{named_type}
use Rattle.interface_writers.specs.Elements.{each_named_type}
use Rattle.interface_writers.proofs.Loops.{none_yet, full_already}
use Rattle.interface_writers.proofs.ElementLaws.{named_type_fits, named_type_alike, element_written}
use Rattle.interface_writers.proofs.interfaces.put_each_named_type.Goals as goal

pub types-init : goal.types-init
types-init c = none_yet (each_named_type []) c.args.out.now c.args.types.now

pub returns-then-is_full : goal.returns-then-is_full
returns-then-is_full c =
    let full : c.types.out ≡ None = c.is_full.ensures.0 c.if-is_full.true in
    full_already (each_named_type []) c.args.out.now c.types.out c.args.types.now c.types.named-index c.types.invariant full

pub put_named_type-requires : goal.put_named_type-requires
put_named_type-requires c = named_type_fits c.requires.0 c.args.types.now c.types.named-index c.named-item.result c.requires.1 c.types-test.true c.named-item.is

pub types-preserved : goal.types-preserved
types-preserved c = element_written (each_named_type []) (named_type 2 []) (λ before x. named_type_alike _ _ x) c.args.out.now c.types.out c.put_named_type.new.out c.args.types.now c.types.named-index c.named-item.result c.types-test.true c.named-item.is c.types.invariant c.in_ok-put_named_type.ensures
