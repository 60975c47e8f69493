use Rattle.std.proofs.Common.{length, refl, sym}
use Rattle.std.proofs.Math.Logic.{∥∥₁_elim, ∥∥₁_map}
use Rattle.code_forms.proofs.Whole.{can_be_read, read_once, same_keeps, valid_over}
use Rattle.code_forms.proofs.validation.validate.Goals as goal

pub settle_procedures-requires-clause-ranges : goal.settle_procedures-requires-clause-ranges
settle_procedures-requires-clause-ranges c =
    let m = c.args.code in
    ∥∥₁_elim m.ranges (read_once m.procedures) (λ r. can_be_read m.signals m.links m.procedures r.each_procedure)

pub invariant_of-new : goal.invariant_of-new
invariant_of-new c =
    let m = c.args.code in
    record { ranges = ∥∥₁_map m.ranges (λ r. same_keeps m.global_words m.signals m.strings m.links m.procedures c.settle_procedures.new.procedures (sym c.in-Ok.ensures.same) r) }

pub new-requires-clause-valid : goal.new-requires-clause-valid
new-requires-clause-valid c =
    let m = c.args.code in
    valid_over m.global_words c.len.result (length m.strings) c.as_slice.result.now m.signals c.as_slice-2.result.now m.links m.procedures c.settle_procedures.new.procedures
    c.len.ensures c.as_slice.ensures c.as_slice-2.ensures (sym c.in-Ok.ensures.same) c.in-Ok.ensures.valid

pub returns-clause-valid : goal.returns-clause-valid
returns-clause-valid c =
    let m = c.args.code in
    valid_over m.global_words c.len.result (length m.strings) c.as_slice.result.now m.signals c.as_slice-2.result.now m.links m.procedures m.procedures
    c.len.ensures c.as_slice.ensures c.as_slice-2.ensures refl c.in-Ok.ensures.valid
