-- What is so of the linked image is so of the image of the tree and the objects.
use Rattle.std.proofs.Common.{subst}
use Rattle.std.specs.Prelude.{◌≡◌, ◌≢◌, ◌↔◌, Err, IfOk}
use Rattle.mesa_base.specs.declared.file_fault.WriteFault.TheVariants.{TooLarge, Memory}
use Rattle.object_files.specs.declared.image.Image.{Image}
use Rattle.object_rules.specs.ImageFiles.{IsImageFile}
use Rattle.object_writers.specs.ObjectBytes.{image_file}
use Rattle.filed_images.specs.Files.{IsTooLarge}
use Rattle.linked_objects.proofs.Linked.{can_be_filed}
use Rattle.linked_objects.proofs.files.linked_file.Goals as goal

pub spelled-requires : goal.spelled-requires
spelled-requires c =
    can_be_filed c.args.tree.now c.args.objects.items c.in-Ok.image c.requires.of_shapes c.requires.filed c.requires.named c.requires.none_bad c.in-Ok.ensures

pub returns-in-Ok-clause-ok : goal.returns-in-Ok-clause-ok
returns-in-Ok-clause-ok c = subst (λ (i : Image). IfOk c.spelled.result (λ file. IsImageFile 2 i file)) c.in-Ok.ensures c.spelled.ensures.ok

pub returns-in-Ok-clause-too_large : goal.returns-in-Ok-clause-too_large
returns-in-Ok-clause-too_large c =
    subst (λ (i : Image). c.spelled.result ≢ Err Memory → (c.spelled.result ≡ Err TooLarge ↔ IsTooLarge (image_file i))) c.in-Ok.ensures c.spelled.ensures.too_large
