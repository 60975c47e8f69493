use Rattle.std.proofs.lemmas.Result.{err_from_is_err_and}
use Rattle.command_lines.specs.command_passes.specs.Kinds.{kind_in}
use Rattle.command_lines.specs.command_passes.specs.Stops.{stop_case}
use Rattle.command_lines.specs.command_passes.proofs.Bases.{base_ascii}
use Rattle.mesa_command.proofs.Files.{no_room_upgraded, not_upgraded, upgrades}
use Rattle.mesa_command.proofs.upgrading.upgraded.Goals as goal

pub file_of_kind-requires : goal.file_of_kind-requires
file_of_kind-requires g c = base_ascii c.args.base.now c.requires

pub file_of_kind-requires-2 : goal.file_of_kind-requires-2
file_of_kind-requires-2 g c = base_ascii c.args.base.now c.requires

pub returns-in_err-file : goal.returns-in_err-file
returns-in_err-file g c =
    let p = err_from_is_err_and c.from_residual.result c.from_residual.ensures.1 in
    rw p.1 (no_room_upgraded (kind_in c.args.kind) c.args.base.now _ p.0 p.2)

pub returns-in_err-target : goal.returns-in_err-target
returns-in_err-target g c =
    let p = err_from_is_err_and c.from_residual-in_err-target.result c.from_residual-in_err-target.ensures.1 in
    rw p.1 (no_room_upgraded (kind_in c.args.kind) c.args.base.now _ p.0 p.2)

pub returns-in-Ok : goal.returns-in-Ok
returns-in-Ok g c =
    let up = c.in-Ok.ensures.passes in
    upgrades (kind_in c.args.kind) c.args.base.now c.in_ok-file.file c.in_ok-file.ensures _ _ _ up.value up.gives c.in_ok-target.target c.in_ok-target.ensures
    c.file_written.result
    (c.file_written.ensures.stored up.value up.gives.trail _ (rw c.as_slice.ensures up.is_file) up.gives.asked)

pub returns-in-Err : goal.returns-in-Err
returns-in-Err g c =
    not_upgraded (kind_in c.args.kind) c.args.base.now c.in_ok-file.file c.in_ok-file.ensures _ _ (stop_case c.in-Err.why) c.in-Err.ensures.passes
    c.in-Err.ensures.onward
