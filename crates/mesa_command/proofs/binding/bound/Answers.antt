use Rattle.std.proofs.lemmas.Result.{err_from_is_err_and}
use Rattle.link_tables.specs.Linked.{image_of}
use Rattle.command_lines.specs.command_passes.proofs.Bases.{base_ascii}
use Rattle.command_lines.specs.command_passes.specs.Stops.{stop_case}
use Rattle.command_rules.specs.Comes.{not_bound}
use Rattle.command_rules.specs.Writing.{OfImage}
use Rattle.command_sources.specs.Stops.{stored_case}
use Rattle.mesa_command.proofs.Filing.{bound_so, no_room_bound}
use Rattle.mesa_command.proofs.binding.bound.Goals as goal

pub file_named-requires : goal.file_named-requires
file_named-requires g c = base_ascii c.args.base.now c.requires

pub bound_of_config-requires : goal.bound_of_config-requires
bound_of_config-requires g c = base_ascii c.args.base.now c.requires

pub returns-in_err-file : goal.returns-in_err-file
returns-in_err-file g c =
    let p = err_from_is_err_and c.from_residual.result c.from_residual.ensures.1 in
    rw p.1 (no_room_bound c.args.base.now _ p.0 p.2)

pub returns-in-Ok : goal.returns-in-Ok
returns-in-Ok g c =
    bound_so c.args.base.now _ _ _ c.in-Ok.bound c.in_ok-file.file (stored_case c.stored.result) c.in-Ok.ensures.bound c.in_ok-file.ensures c.in-Ok.ensures.passes
    (c.stored.ensures (OfImage (image_of c.in-Ok.bound.tree c.in-Ok.bound.objects.items)) c.in-Ok.ensures.passes.trail _ c.image_bytes.ensures
    c.in-Ok.ensures.passes.asked)

pub returns-in-Err : goal.returns-in-Err
returns-in-Err g c = not_bound (stop_case c.in-Err.why) c.in-Err.ensures.passes c.in-Err.ensures.onward
