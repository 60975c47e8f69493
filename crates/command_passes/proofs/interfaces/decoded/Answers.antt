use Rattle.face_rules.specs.InterfaceForms.{IsNoInterfaceFile}
use Rattle.command_rules.specs.Modules.{Decodes, is_file, is_none}
use Rattle.command_passes.specs.Stops.{stop_case}
use Rattle.command_passes.proofs.Faults.{form_fault_told}
use Rattle.command_passes.proofs.interfaces.decoded.Goals as goal

pub returns-in-Ok : goal.returns-in-Ok
returns-in-Ok c = is_file c.in-Ok.ensures.found.0 c.in-Ok.interface c.in-Ok.ensures.found.1

pub returns-in-Err : goal.returns-in-Err
returns-in-Err c =
    form_fault_told (Decodes c.args.file c.args.bytes.now) (IsNoInterfaceFile c.args.bytes.now) c.args.file c.in-Err.fault c.file_fault.result
    (stop_case c.unfit.result) is_none c.in-Err.ensures.fault c.file_fault.ensures c.unfit.ensures
