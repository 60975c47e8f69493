use Rattle.std.proofs.Common.{◌≡◌, [], take}
use Rattle.file_forms.specs.Forms.{spell_each}
use Rattle.file_forms.specs.Written.{appended}
use Rattle.interface_writers.specs.Elements.{each_constant}
use Rattle.interface_writers.proofs.interfaces.put_each_constant.Given as goal

abbrev pub invariant-constants : goal.invariant-constants
invariant-constants l = l.out ≡ appended l.fn.out (spell_each (each_constant []) [] (take l.constant-index l.constants))
