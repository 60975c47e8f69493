use Rattle.std.proofs.lemmas.Result.{err_from_is_err_and}
use Rattle.command_lines.specs.command_passes.specs.Kinds.{kind_in}
use Rattle.command_lines.specs.command_passes.proofs.Bases.{base_ascii}
use Rattle.command_rules.specs.Forms.{kind_file}
use Rattle.command_rules.specs.Listing.{listing_in}
use Rattle.mesa_command.proofs.Files.{no_room_listed}
use Rattle.mesa_command.proofs.Printed.{alone_passes}
use Rattle.mesa_command.proofs.listing.listing.Goals as goal

pub file_of_kind-requires : goal.file_of_kind-requires
file_of_kind-requires g c = base_ascii c.args.base.now c.requires

pub returns-in_err-file-clause-passes : goal.returns-in_err-file-clause-passes
returns-in_err-file-clause-passes g c =
    let p = err_from_is_err_and c.from_residual.result c.from_residual.ensures.1 in
    rw p.1 (no_room_listed (kind_in c.args.kind) c.args.base.now _ p.0 p.2)

pub returns-clause-passes : goal.returns-clause-passes
returns-clause-passes g c =
    alone_passes (listing_in (kind_in c.args.kind) (kind_file (kind_in c.args.kind) c.args.base.now)) _ _ c.listing_of_file.result
    (rw c.in_ok-file.ensures at c.listing_of_file.ensures.passes)
