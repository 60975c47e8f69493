use Rattle.std.proofs.Common.{refl, sym}
use Rattle.object_rules.specs.ImageForms.{bound_link}
use Rattle.image_readers.proofs.link_fields.bound_link.Goals as goal

pub returns : goal.returns
unfolding bound_link
returns c = λ face. rw (sym c.len.ensures, c.in_ok-instance.ensures, c.in-Ok.ensures face) refl

pub returns-in-Err : goal.returns-in-Err
unfolding bound_link
returns-in-Err c = λ face other. rw (sym c.len.ensures, c.in_ok-instance.ensures, c.in-Err.ensures face other) refl
