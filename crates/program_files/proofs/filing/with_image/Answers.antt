use Rattle.std.proofs.Common.{map}
use Rattle.mesa_types.specs.Plain.{plain}
use Rattle.program_files.proofs.Files.{files_of, of_image}
use Rattle.program_files.proofs.Images.{can_be_filed}
use Rattle.program_files.proofs.filing.with_image.Goals as goal

pub image_file-requires : goal.image_file-requires
image_file-requires c =
    can_be_filed c.args.tree.now (map plain c.args.modules.now) c.args.objects.items c.args.files c.in_ok-image.image c.requires.of_shapes c.requires.objects
    c.requires.none_bad c.requires.named c.requires.files c.in_ok-image.ensures.same

pub returns-in-Ok-clause-files : goal.returns-in-Ok-clause-files
returns-in-Ok-clause-files c = record {
  objects = c.args.objects.items;
  their = c.requires.objects;
  files = files_of c.args.objects.items c.args.files c.requires.files;
  linked = c.in_ok-image.ensures.same;
  image = c.in-Ok.ensures.ok;
}

pub returns-in-Err-clause-fault : goal.returns-in-Err-clause-fault
returns-in-Err-clause-fault c =
    of_image c.args.tree.now (map plain c.args.modules.now) c.args.objects.items c.args.files c.in_ok-image.image c.in-Err.fault c.fault_of.result c.requires.objects
    c.requires.files c.in_ok-image.ensures.same c.fault_of.ensures c.in-Err.ensures.too_large
