use Rattle.std.proofs.Common.{◌≡◌, [], take}
use Rattle.file_forms.specs.Forms.{spell_each}
use Rattle.file_forms.specs.Names.{fresh_name}
use Rattle.file_forms.specs.Written.{appended}
use Rattle.interface_writers.proofs.names.put_names.Given as goal

abbrev pub invariant-names : goal.invariant-names
invariant-names l = l.out ≡ appended l.fn.out (spell_each fresh_name [] (take l.name-index l.names))
