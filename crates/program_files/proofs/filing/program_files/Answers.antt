use Rattle.std.proofs.Common.{List, map, subst}
use Rattle.std.specs.List.{AllZip}
use Rattle.mesa_types.specs.Plain.{plain}
use Rattle.object_files.specs.declared.object.Object.{Object}
use Rattle.program_files.specs.Objects.{HasFile}
use Rattle.program_files.proofs.Files.{of_objects}
use Rattle.program_files.proofs.Kept.{all_filed, all_linkable}
use Rattle.program_files.proofs.filing.program_files.Goals as goal

pub objects_of-requires : goal.objects_of-requires
objects_of-requires c = all_linkable (map plain c.args.modules.now) c.requires.kept

pub object_files-requires : goal.object_files-requires
object_files-requires c =
    all_filed (map plain c.args.modules.now) c.in_ok-objects.objects.items c.as_slice.result.now c.requires.kept c.in_ok-objects.ensures c.as_slice.ensures.value

pub with_image-requires : goal.with_image-requires
with_image-requires c = record {
  of_shapes = c.requires.of_shapes;
  linkable = all_linkable (map plain c.args.modules.now) c.requires.kept;
  named = c.requires.named;
  none_bad = c.requires.none_bad;
  bindings = c.requires.bindings;
  objects = c.in_ok-objects.ensures;
  files = subst (λ (os : List Object). AllZip HasFile os c.in-Ok.files) c.as_slice.ensures.value c.in-Ok.ensures.ok;
}

pub returns-in-Err-clause-fault : goal.returns-in-Err-clause-fault
returns-in-Err-clause-fault c =
    of_objects c.args.tree.now (map plain c.args.modules.now) c.in_ok-objects.objects.items c.as_slice.result.now c.in-Err.fault c.in_ok-objects.ensures c.as_slice.ensures.value
    c.in-Err.ensures.fault
