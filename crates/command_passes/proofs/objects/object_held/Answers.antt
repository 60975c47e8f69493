use Rattle.object_rules.specs.ObjectFiles.{IsNoObjectFile}
use Rattle.command_rules.specs.Objects.{HoldsObject, is_object, is_none}
use Rattle.command_passes.specs.Stops.{stop_case}
use Rattle.command_passes.proofs.Faults.{file_fault_told}
use Rattle.command_passes.proofs.objects.object_held.Goals as goal

pub returns-in-Ok : goal.returns-in-Ok
returns-in-Ok c = record {
  filed = record { version = c.in-Ok.ensures.found.0; bytes = c.args.bytes.now; is_file = c.in-Ok.ensures.found.1 };
  decides = is_object c.in-Ok.ensures.found.0 c.in-Ok.object c.in-Ok.ensures.found.1;
}

pub returns-in-Err-clause-decides : goal.returns-in-Err-clause-decides
returns-in-Err-clause-decides c =
    file_fault_told (HoldsObject c.args.file c.args.bytes.now) (IsNoObjectFile c.args.bytes.now) c.args.file c.in-Err.fault (stop_case c.unfit.result)
    is_none c.in-Err.ensures.fault c.unfit.ensures
