use Rattle.command_passes.specs.command_rules.specs.Listing.{Lists}
use Rattle.listed_files.specs.Listings.{HasFault}
use Rattle.command_passes.specs.Kinds.{kind_in}
use Rattle.command_passes.specs.Stops.{stop_case}
use Rattle.command_passes.proofs.Faults.{file_fault_told}
use Rattle.command_listings.proofs.Listed.{is_listed, not_listed}
use Rattle.command_listings.proofs.listing.listed.Goals as goal

pub returns-in-Ok : goal.returns-in-Ok
returns-in-Ok c = is_listed c.args.kind c.args.file c.args.bytes.now c.in-Ok.text c.in-Ok.ensures.found

pub returns-in-Err : goal.returns-in-Err
returns-in-Err c =
    file_fault_told (Lists (kind_in c.args.kind) c.args.file c.args.bytes.now) (HasFault c.args.kind c.args.bytes.now) c.args.file c.in-Err.fault
    (stop_case c.unfit.result) (not_listed c.args.kind c.args.file c.args.bytes.now) c.in-Err.ensures.fault c.unfit.ensures
