use Rattle.std.proofs.Common.{◌≡◌, take}
use Rattle.file_forms.specs.Written.{appended}
use Rattle.object_writers.specs.Spelling.{spell_all}
use Rattle.object_writers.proofs.put.put_each.Given as goal

abbrev pub invariant-parts : goal.invariant-parts
invariant-parts g l = l.out ≡ appended l.fn.out (spell_all g.T.Put.spelling (take l.part-index l.parts))
