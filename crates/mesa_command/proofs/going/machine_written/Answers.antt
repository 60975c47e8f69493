use Rattle.command_lines.specs.command_passes.proofs.Bases.{base_ascii}
use Rattle.command_lines.specs.command_passes.specs.Stops.{stop_case}
use Rattle.command_sources.specs.Bound.{configured}
use Rattle.command_sources.specs.Made.{linked_from}
use Rattle.mesa_command.proofs.Calls.{as_many_files, is_unwritten, is_written}
use Rattle.mesa_command.proofs.going.machine_written.Goals as goal

pub program_written-requires : goal.program_written-requires
program_written-requires g c = record {
  plain = c.requires.bound.plain_bases;
  base = base_ascii c.args.base.now c.requires.base;
  as_many = as_many_files c.args.source.now c.args.base.now c.requires.bound c.args.program c.requires.made;
}

pub returns-in-Ok : goal.returns-in-Ok
returns-in-Ok g c = λ trail before asked.
    let made = c.requires.made in
    is_written c.args.source.now c.args.base.now c.requires.bound c.args.program made trail before _
    (c.in-Ok.ensures made.objects (linked_from (configured c.args.source.now) made.objects) trail before made.files (rw c.as_slice.ensures made.image_file) asked)

pub returns : goal.returns
returns g c = λ trail before asked.
    let made = c.requires.made in
    is_unwritten c.args.source.now c.args.base.now c.requires.bound c.args.program made trail before _ (stop_case c.in-Err.why)
    (c.in-Err.ensures made.objects (linked_from (configured c.args.source.now) made.objects) trail before made.files (rw c.as_slice.ensures made.image_file) asked)
