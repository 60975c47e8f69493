use Rattle.std.proofs.Common.{◌≡◌, [], take}
use Rattle.file_forms.specs.Forms.{spell_each}
use Rattle.file_forms.specs.Written.{appended}
use Rattle.interface_writers.specs.Elements.{each_named_type}
use Rattle.interface_writers.proofs.interfaces.put_each_named_type.Given as goal

abbrev pub invariant-types : goal.invariant-types
invariant-types l = l.out ≡ appended l.fn.out (spell_each (each_named_type []) [] (take l.named-index l.types))
