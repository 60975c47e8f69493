use Rattle.std.proofs.Common.{◌≡◌, [], take}
use Rattle.file_forms.specs.Forms.{spell_each}
use Rattle.file_forms.specs.Written.{appended}
use Rattle.interface_writers.specs.Elements.{each_item}
use Rattle.interface_writers.proofs.faces.put_items.Given as goal

abbrev pub invariant-items : goal.invariant-items
invariant-items l = l.out ≡ appended l.fn.out (spell_each each_item [] (take l.item-index l.items))
