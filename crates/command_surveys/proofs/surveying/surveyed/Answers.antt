use Rattle.object_rules.specs.ImageFiles.{IsNoImageFile}
use Rattle.command_passes.specs.command_rules.specs.Surveying.{Surveys}
use Rattle.command_passes.specs.Stops.{stop_case}
use Rattle.command_passes.proofs.Faults.{file_fault_told}
use Rattle.command_surveys.proofs.Surveyed.{is_surveyed, not_surveyed}
use Rattle.command_surveys.proofs.surveying.surveyed.Goals as goal

pub surveyed_text-requires : goal.surveyed_text-requires
surveyed_text-requires c =
    c.images_of_files_are_in_order.ensures c.in-Ok.ensures.found.0 c.in-Ok.image c.args.bytes.now c.in-Ok.ensures.found.1

pub returns-in_ok-surveyed_text-in-Ok : goal.returns-in_ok-surveyed_text-in-Ok
returns-in_ok-surveyed_text-in-Ok c =
    is_surveyed c.args.file c.args.bytes.now c.in-Ok.ensures.found.0 c.in-Ok.image c.in_ok-surveyed_text-in-Ok.field-0 c.in-Ok.ensures.found.1
    c.in_ok-surveyed_text-in-Ok.ensures

pub returns-in-Err : goal.returns-in-Err
returns-in-Err c =
    file_fault_told (Surveys c.args.file c.args.bytes.now) (IsNoImageFile c.args.bytes.now) c.args.file c.in-Err.fault (stop_case c.unfit.result)
    (not_surveyed c.args.file c.args.bytes.now) c.in-Err.ensures.fault c.unfit.ensures
