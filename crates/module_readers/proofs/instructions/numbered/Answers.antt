use Rattle.std.proofs.Common.{sym, ap, subst, ◌∙◌}
use Rattle.code_forms.specs.declared.instruction.Instruction.{Instruction}
use Rattle.file_forms.specs.Forms.{Reading}
use Rattle.file_forms.specs.Reads.{Reads}
use Rattle.module_readers.specs.Operands.{sizes_in}
use Rattle.module_readers.proofs.Standing.{byte_behind, leave_behind}
use Rattle.module_readers.proofs.instructions.numbered.Goals as goal

pub returns-in-Byte : goal.returns-in-Byte
returns-in-Byte c =
    subst (λ (r : Reading Instruction). Reads r c.raise_host.result c.raise_host.new.input.rest.now)
    (byte_behind c.args.number c.args.input.now.rest.now c.requires.there (sym c.requires.sizes ∙ ap sizes_in c.in-Byte.is)) c.raise_host.ensures

pub returns-in-WordAndNumber : goal.returns-in-WordAndNumber
returns-in-WordAndNumber c =
    subst (λ (r : Reading Instruction). Reads r c.leave.result c.leave.new.input.rest.now)
    (leave_behind c.args.number c.args.input.now.rest.now c.requires.there (sym c.requires.sizes ∙ ap sizes_in c.in-WordAndNumber.is)) c.leave.ensures
