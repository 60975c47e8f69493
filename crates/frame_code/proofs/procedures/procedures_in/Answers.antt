-- One procedure more.
use Rattle.std.proofs.Common.{map, arith}
use Rattle.std.proofs.lemmas.List.{length-map}
use Rattle.mesa_types.specs.Plain.{plain, plain_procedure}
use Rattle.code_rules.specs.Modules.{procedures_of}
use Rattle.code_blocks.specs.Modules.{procedure_code}
use Rattle.frame_code.proofs.BodyRooms.{few_procedures}
use Rattle.frame_code.proofs.Written.{one_more}
use Rattle.frame_code.proofs.procedures.procedures_in.Goals as goal

pub overflow_add-number-end : goal.overflow_add-number-end
overflow_add-number-end c =
    let few = few_procedures (plain c.args.«module».now) c.requires.sound c.requires.few in
    omega (arith, few, length-map c.args.«module».now.procedures plain_procedure, c.len-number-end.ensures)

pub loop-number-preserved : goal.loop-number-preserved
loop-number-preserved c =
    let m = plain c.args.«module».now in
    record {
      made = one_more (map (procedure_code m) (procedures_of m)) c.loop-number.made c.push.new.self c.loop-number.number c.in_ok-procedure.field-0
          c.in_ok-procedure.ensures.code c.in_ok-push.ensures.ok c.loop-number.invariant.made;
      routine = c.procedure.ensures.routine;
    }
