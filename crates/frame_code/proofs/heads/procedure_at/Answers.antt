use Rattle.mesa_types.specs.Plain.{plain}
use Rattle.code_rules.specs.Modules.{main_of}
use Rattle.frame_code.proofs.Placing.{procedure_there}
use Rattle.frame_code.proofs.heads.procedure_at.Goals as goal

pub returns : goal.returns
returns c =
    let m = c.args.«module».now in
    procedure_there c.index-as_slice-number.result (main_of (plain m)) m.procedures c.as_slice.result.now c.as_slice.ensures c.args.number c.if-number-eq0.false
    c.requires c.index-as_slice-number.is c.as_slice-2.result.now c.as_slice-3.result.now c.as_slice-2.ensures c.as_slice-3.ensures
