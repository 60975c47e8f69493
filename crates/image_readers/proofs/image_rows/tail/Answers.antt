use Rattle.std.proofs.Common.{refl, sym}
use Rattle.image_readers.specs.Rows.{tail_form}
use Rattle.image_readers.proofs.image_rows.tail.Goals as goal

pub returns : goal.returns
unfolding tail_form
returns c = rw (c.in_ok-instances.ensures, c.in_ok-links.ensures, c.in_ok-offered.ensures, sym c.len.ensures, c.in_ok-control.ensures) refl
