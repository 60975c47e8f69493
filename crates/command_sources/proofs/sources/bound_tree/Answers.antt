use Rattle.std.proofs.Common.{map, refl}
use Rattle.mesa_types.specs.Plain.{plain}
use Rattle.program_files.proofs.Kept.{all_linkable}
use Rattle.command_sources.proofs.Binding.{bad_stops}
use Rattle.command_sources.proofs.sources.bound_tree.Goals as goal

pub bound-requires : goal.bound-requires
bound-requires c = record { of_shapes = c.requires.shapes; linkable = all_linkable (map plain c.args.modules) c.requires.kept }

pub returns-in-Ok : goal.returns-in-Ok
returns-in-Ok c = (
  refl,
  record {
    of_shapes = c.requires.shapes;
    kept = c.requires.kept;
    named = c.requires.named;
    its = c.in-Ok.ensures.ok;
    plain_bases = c.requires.plain_bases;
    as_many = c.requires.as_many;
  },
)

pub returns-in-Err : goal.returns-in-Err
returns-in-Err c = bad_stops c.args.file c.args.tree c.in-Err.fault c.unbound.result c.unbound.ensures c.in-Err.ensures.err
