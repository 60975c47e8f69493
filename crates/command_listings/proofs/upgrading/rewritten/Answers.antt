use Rattle.command_passes.specs.command_rules.specs.Listing.{Holds}
use Rattle.command_passes.specs.command_rules.specs.Passes.{Has}
use Rattle.command_passes.specs.Kinds.{kind_in}
use Rattle.command_passes.specs.Stops.{stop_case}
use Rattle.command_passes.proofs.Faults.{file_fault_told}
use Rattle.listed_files.specs.Listings.{HasFault}
use Rattle.command_listings.proofs.Holding.{refused}
use Rattle.command_listings.proofs.Upgraded.{is_long, spells_upgraded}
use Rattle.command_listings.proofs.upgrading.rewritten.Goals as goal

pub in_version_two-requires : goal.in_version_two-requires
in_version_two-requires c =
    let held = rw c.as_slice.ensures at c.in-Ok.ensures.held in
    is_long c.files_have_versions.ensures (kind_in c.args.kind) c.args.file c.args.bytes (Has held.0) (held.1 c.args.file)

pub returns-in-Ok : goal.returns-in-Ok
returns-in-Ok c =
    let held = rw c.as_slice.ensures at c.in-Ok.ensures.held in
    rw c.in_version_two.ensures
    (held.0, held.1 c.args.file, spells_upgraded c.files_are_upgraded.ensures (kind_in c.args.kind) c.args.file c.args.bytes (Has held.0) (held.1 c.args.file))

pub returns-in-Err : goal.returns-in-Err
returns-in-Err c =
    file_fault_told (λ o. Holds c.args.file c.args.bytes (kind_in c.args.kind) o) (HasFault c.args.kind c.args.bytes) c.args.file c.in-Err.fault
    (stop_case c.unfit.result) (refused c.args.kind c.args.file c.args.bytes) (rw c.as_slice.ensures at c.in-Err.ensures.fault) c.unfit.ensures
