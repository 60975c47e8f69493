use Rattle.std.proofs.lemmas.Result.{err_from_is_err_and}
use Rattle.mesa_types.specs.Plain.{plain}
use Rattle.command_rules.specs.Writing.{OfObject}
use Rattle.command_sources.specs.Stops.{stored_case}
use Rattle.mesa_command.specs.Bytes.{written}
use Rattle.mesa_command.proofs.Filing.{bytes_of, no_room_written, only_object}
use Rattle.mesa_command.proofs.compiling.object_stored.Goals as goal

pub returns-in_err-objects : goal.returns-in_err-objects
returns-in_err-objects g c = λ trail before asked.
    let p = err_from_is_err_and c.from_residual.result c.from_residual.ensures.1 in
    rw p.1 (no_room_written (plain c.args.«module») c.args.file trail before _ p.0 p.2 asked)

pub object_file-bytes-requires : goal.object_file-bytes-requires
object_file-bytes-requires g c = record {
  typed = plain c.args.«module»;
  kept = c.requires;
  object =
      only_object (plain c.args.«module») c.in_ok-objects.objects.items c.as_slice.result.now c.index-as_slice-0.result c.in_ok-objects.ensures
      c.as_slice.ensures.value c.index-as_slice-0.is;
}

pub returns : goal.returns
returns g c = λ trail before asked.
    let o = c.index-as_slice-0.result in
    written o (stored_case c.stored.result)
    (only_object (plain c.args.«module») c.in_ok-objects.objects.items c.as_slice.result.now o c.in_ok-objects.ensures c.as_slice.ensures.value c.index-as_slice-0.is)
    (c.stored.ensures (OfObject o) trail before
    (bytes_of (OfObject o) c.object_file-bytes.result c.object_file-bytes.ensures.ok c.object_file-bytes.ensures.too_large) asked)
