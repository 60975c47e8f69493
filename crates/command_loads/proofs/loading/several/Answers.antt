use Rattle.std.proofs.Common.{map}
use Rattle.object_rules.specs.ImageForms.{parts_of_image}
use Rattle.command_loads.proofs.FromFiles.{loads_to, not_loads}
use Rattle.command_loads.proofs.Reading.{one_each}
use Rattle.command_loads.proofs.loading.several.Goals as goal

pub together-requires : goal.together-requires
together-requires g c =
    let each = one_each c.args.bases.now _ _ c.in-Ok.images.items c.in-Ok.ensures.passes in
    record {
      plain = c.requires.plain;
      several = rw each c.requires.several;
      few = rw each c.requires.few;
      each = each;
      filed = c.in-Ok.ensures.filed;
    }

pub returns-in-Ok-clause-loads : goal.returns-in-Ok-clause-loads
returns-in-Ok-clause-loads g c =
    loads_to c.args.bases.now _ _ (map parts_of_image c.in-Ok.images.items) c.in-Ok.ensures.passes c.together.result c.in-Ok.ensures.onward c.together.ensures

pub returns-in-Err-clause-loads : goal.returns-in-Err-clause-loads
returns-in-Err-clause-loads g c = not_loads c.args.bases.now _ _ c.in-Err.why c.in-Err.ensures.passes c.in-Err.ensures.onward
