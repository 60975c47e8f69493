use Rattle.std.proofs.Common.{◌≡◌, ◌-◌, []}
use Rattle.file_forms.specs.Forms.{read_each}
use Rattle.image_readers.proofs.elements.each.Given as goal

abbrev pub invariant-elements : goal.invariant-elements
invariant-elements g l = read_each (g.E.Element.form l.element) (l.count - l.counter) l.all l.input.rest.now ≡ read_each (g.E.Element.form l.element) l.count [] l.fn.input.rest.now
