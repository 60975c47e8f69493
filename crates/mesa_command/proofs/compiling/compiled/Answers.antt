use Rattle.std.proofs.lemmas.Result.{err_from_is_err_and}
use Rattle.mesa_types.specs.Plain.{plain}
use Rattle.command_lines.specs.command_passes.proofs.Bases.{base_ascii}
use Rattle.command_lines.specs.command_passes.specs.Stops.{stop_case}
use Rattle.command_sources.specs.Stops.{stored_case}
use Rattle.mesa_command.proofs.Filing.{compiled_so, no_room_compiled, not_compiled_so}
use Rattle.mesa_command.proofs.compiling.compiled.Goals as goal

pub file_named-requires : goal.file_named-requires
file_named-requires g c = base_ascii c.args.base.now c.requires

pub file_named-requires-2 : goal.file_named-requires-2
file_named-requires-2 g c = base_ascii c.args.base.now c.requires

pub returns-in_err-text : goal.returns-in_err-text
returns-in_err-text g c =
    let p = err_from_is_err_and c.from_residual.result c.from_residual.ensures.1 in
    rw p.1 (no_room_compiled c.args.base.now _ p.0 p.2)

pub returns-in_err-file : goal.returns-in_err-file
returns-in_err-file g c =
    let p = err_from_is_err_and c.from_residual-in_err-file.result c.from_residual-in_err-file.ensures.1 in
    rw p.1 (no_room_compiled c.args.base.now _ p.0 p.2)

pub object_stored-requires : goal.object_stored-requires
object_stored-requires g c =
    rw c.into_inner.ensures (c.modules_of_files_can_be_kept.ensures.one c.in_ok-text.text _ _ (plain c.in-Ok.«module») c.in-Ok.ensures.passes.comes)

pub returns-in-Ok : goal.returns-in-Ok
returns-in-Ok g c =
    compiled_so c.args.base.now c.in_ok-text.text c.in_ok-text.ensures _ _ _ (plain c.in-Ok.«module») c.in_ok-file.file (stored_case c.object_stored.result)
    c.in_ok-file.ensures c.in-Ok.ensures.passes
    (rw c.into_inner.ensures at (c.object_stored.ensures c.in-Ok.ensures.passes.trail _ c.in-Ok.ensures.passes.asked))

pub returns-in-Err : goal.returns-in-Err
returns-in-Err g c =
    not_compiled_so c.args.base.now c.in_ok-text.text c.in_ok-text.ensures _ _ (stop_case c.in-Err.why) c.in-Err.ensures.passes c.in-Err.ensures.onward
