use Rattle.std.proofs.lemmas.Result.{err_from_is_err_and}
use Rattle.command_lines.specs.command_passes.proofs.Bases.{base_ascii}
use Rattle.command_lines.specs.command_passes.specs.Stops.{stop_case}
use Rattle.command_rules.specs.Writing.{OfInterface}
use Rattle.command_sources.specs.Stops.{stored_case}
use Rattle.mesa_command.proofs.Filing.{defined_so, no_room_defined, not_defined_so}
use Rattle.mesa_command.proofs.compiling.defined.Goals as goal

pub file_named-requires : goal.file_named-requires
file_named-requires g c = base_ascii c.args.base.now c.requires.named

pub file_named-requires-2 : goal.file_named-requires-2
file_named-requires-2 g c = base_ascii c.args.base.now c.requires.named

pub returns-in_err-text : goal.returns-in_err-text
returns-in_err-text g c =
    let p = err_from_is_err_and c.from_residual.result c.from_residual.ensures.1 in
    rw p.1 (no_room_defined c.args.base.now c.args.stamp _ p.0 p.2)

pub returns-in_err-file : goal.returns-in_err-file
returns-in_err-file g c =
    let p = err_from_is_err_and c.from_residual-in_err-file.result c.from_residual-in_err-file.ensures.1 in
    rw p.1 (no_room_defined c.args.base.now c.args.stamp _ p.0 p.2)

pub returns-in-Ok : goal.returns-in-Ok
returns-in-Ok g c =
    defined_so c.args.base.now c.args.stamp c.in_ok-text.text c.in_ok-text.ensures _ _ _ c.in-Ok.interface c.in_ok-file.file (stored_case c.stored.result)
    c.in_ok-file.ensures c.in-Ok.ensures.passes
    (c.stored.ensures (OfInterface c.in-Ok.interface) c.in-Ok.ensures.passes.trail _ c.interface_bytes.ensures c.in-Ok.ensures.passes.asked)

pub returns-in-Err : goal.returns-in-Err
returns-in-Err g c =
    not_defined_so c.args.base.now c.args.stamp c.in_ok-text.text c.in_ok-text.ensures _ _ (stop_case c.in-Err.why) c.in-Err.ensures.passes c.in-Err.ensures.onward
