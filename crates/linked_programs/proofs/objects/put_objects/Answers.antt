use Rattle.std.proofs.Common.{map}
use Rattle.mesa_types.specs.Plain.{plain}
use Rattle.linked_programs.proofs.Building.{all_objects, no_objects}
use Rattle.linked_programs.proofs.Copying.{can_be, next_object, so_long}
use Rattle.linked_programs.proofs.objects.put_objects.Goals as goal

pub loop-typed-init : goal.loop-typed-init
loop-typed-init c = no_objects (map plain c.args.modules.now) c.args.objects.now.items c.requires.empty

pub loop-typed-preserved : goal.loop-typed-preserved
loop-typed-preserved c =
    next_object c.args.modules.now c.loop-typed.typed-index c.typed-item.result c.in_ok-object.object c.loop-typed.objects.items c.put_object.new.objects.items
    c.loop-typed-test.true c.typed-item.is c.loop-typed.invariant c.in_ok-object.ensures c.in_ok-put_object.ensures

pub returns : goal.returns
returns c =
    all_objects (map plain c.args.modules.now) c.loop-typed.typed-index c.loop-typed.objects.items (so_long c.args.modules.now c.loop-typed.typed-index c.loop-typed-test.false)
    c.loop-typed.invariant

pub object_of-requires : goal.object_of-requires
object_of-requires c = can_be c.args.modules.now c.loop-typed.typed-index c.typed-item.result c.requires.linkable c.loop-typed-test.true c.typed-item.is
