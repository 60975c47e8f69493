-- Bytes have one listing, or one first fault, and never both.
use Rattle.std.proofs.Common.{refl, sym, ap, ◌∙◌}
use Rattle.std.specs.Prelude.{codes}
use Rattle.face_rules.proofs.InterfaceLaws.{interface_law}
use Rattle.face_rules.specs.InterfaceForms.{interface}
use Rattle.file_forms.proofs.FileLaws.{one_file, one_first_fault, file_or_fault}
use Rattle.listed_files.proofs.SameImages.{same_image_listing}
use Rattle.listed_files.specs.Laws.{OneListing, OneFault, ListingOrFault}
use Rattle.listed_files.specs.declared.file_kind.FileKind.TheVariants.{Interface, Object, Image}
use Rattle.listing_rules.proofs.SameListing.{same_listing}
use Rattle.listing_rules.specs.Interfaces.{interface_listing}
use Rattle.object_rules.proofs.ImageFileLaws.{one_image, one_image_fault, image_or_fault}
use Rattle.object_rules.proofs.ObjectLaws.{one_object, one_object_fault, object_or_fault}
use Rattle.object_rules.specs.ObjectFiles.{file_fault}

pub one_text : OneListing
one_text Interface bytes a b s t =
    let same = one_file (codes "MIF") interface interface_law s.version t.version s.value t.value bytes s.file t.file in
    s.is ∙ ap interface_listing same.1 ∙ sym t.is
one_text Object bytes a b s t =
    let same = (one_object s.version t.version s.value t.value bytes s.file t.file).1 in s.is ∙ same_listing s.value t.value same.shape same.code ∙ sym t.is
one_text Image bytes a b s t =
    s.is ∙ same_image_listing s.value t.value (one_image s.version t.version s.value t.value bytes s.file t.file).1 ∙ sym t.is

pub one_reason : OneFault
one_reason Interface bytes a b f g = f.is ∙ ap file_fault (one_first_fault (codes "MIF") interface interface_law refl bytes f.cause g.cause f.first g.first) ∙ sym g.is
one_reason Object bytes a b f g = one_object_fault bytes a b f g
one_reason Image bytes a b f g = one_image_fault bytes a b f g

pub text_or_reason : ListingOrFault
text_or_reason Interface bytes text fault s f = file_or_fault (codes "MIF") interface interface_law refl s.version s.value bytes f.cause s.file f.first
text_or_reason Object bytes text fault s f = object_or_fault s.version s.value bytes fault s.file f
text_or_reason Image bytes text fault s f = image_or_fault s.version s.value bytes fault s.file f
