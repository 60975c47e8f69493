use Rattle.std.proofs.Common.{sym, subst}
use Rattle.code_forms.specs.declared.instruction.Instruction.{Instruction}
use Rattle.file_forms.specs.Forms.{Reading}
use Rattle.file_forms.specs.Reads.{Reads}
use Rattle.module_readers.proofs.Standing.{stands, stands_not, sized_result}
use Rattle.module_readers.proofs.instructions.instruction.Goals as goal

pub returns-in-Err-clause-read : goal.returns-in-Err-clause-read
returns-in-Err-clause-read c = λ other. stands_not c.args.left c.args.input.now.rest.now c.in-Err.why (c.in-Err.ensures.read other)

pub returns-clause-read : goal.returns-clause-read
returns-clause-read c =
    subst (λ (r : Reading Instruction). Reads r c.numbered.result c.numbered.new.input.rest.now)
    (sym (stands c.args.left c.in-Ok.number c.args.input.now.rest.now c.opcode.new.input.rest.now c.in-Ok.ensures.read)) c.numbered.ensures

pub returns-clause-size : goal.returns-clause-size
returns-clause-size c =
    sized_result c.args.left c.in-Ok.number c.opcode.new.input.rest.now c.numbered.new.input.rest.now c.numbered.result c.in-Ok.ensures.there.0 c.in-Ok.ensures.there.1 c.numbered.ensures
