use Rattle.std.proofs.Common.{map}
use Rattle.mesa_types.specs.Plain.{plain}
use Rattle.linked_programs.proofs.Building.{FirstObjects}
use Rattle.linked_programs.proofs.objects.put_objects.Given as goal

abbrev pub invariant-loop-typed : goal.invariant-loop-typed
invariant-loop-typed l = FirstObjects (map plain l.modules) l.typed-index l.objects.items
