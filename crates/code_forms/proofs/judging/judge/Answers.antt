use Rattle.std.proofs.Common.{◌≡◌, false, true, refl, ◌∙◌}
use Rattle.code_forms.specs.Around.{routine_around}
use Rattle.code_forms.specs.Routine.{Routine, spots}
use Rattle.code_forms.specs.Valid.{bad_jump, stack_differs, bad_operand}
use Rattle.code_forms.proofs.Depths.{own_settled}
use Rattle.code_forms.proofs.judging.judge.Goals as goal

pub returns-then-not-jumps_rightly-clause-err : goal.returns-then-not-jumps_rightly-clause-err
returns-then-not-jumps_rightly-clause-err c = bad_jump (λ j. let h : false ≡ true = c.if-not-jumps_rightly.ensures.1 j in cc)

pub returns-in_default-clause-err : goal.returns-in_default-clause-err
returns-in_default-clause-err c =
    let r : Routine = routine_around c.args.around.now (spots c.args.code.now) in let q = c.requires in
    stack_differs c.args.entry.depth (c.if-not-jumps_rightly.ensures.0 refl) (own_settled r c.args.i c.args.code.now c.args.entry q.marked q.is)
    (λ s. c.in_default.ensures (record { enough = s.fits.enough; room = s.fits.room }))

pub returns-in_default-leads_onward-clause-err : goal.returns-in_default-leads_onward-clause-err
returns-in_default-leads_onward-clause-err c =
    let r : Routine = routine_around c.args.around.now (spots c.args.code.now) in let q = c.requires in
    stack_differs c.args.entry.depth (c.if-not-jumps_rightly.ensures.0 refl) (own_settled r c.args.i c.args.code.now c.args.entry q.marked q.is) (λ s. c.in_default-leads_onward.ensures s)

pub returns-then-not-operands_right-clause-err : goal.returns-then-not-operands_right-clause-err
returns-then-not-operands_right-clause-err c =
    let r : Routine = routine_around c.args.around.now (spots c.args.code.now) in let q = c.requires in
    bad_operand c.args.entry.depth (c.if-not-jumps_rightly.ensures.0 refl) (own_settled r c.args.i c.args.code.now c.args.entry q.marked q.is) c.in-Some-leads_onward.ensures.0
    (λ o. let h : false ≡ true = c.if-not-operands_right.ensures.1 (record { own = o.own; arm = λ arm e s. (let f = o.arm arm e s in record { slots = f.slots; words = f.words }) }) in cc)

pub returns-clause-ok : goal.returns-clause-ok
returns-clause-ok c =
    let r : Routine = routine_around c.args.around.now (spots c.args.code.now) in let q = c.requires in
    let lead = c.in-Some-leads_onward.ensures in
    let o = c.if-not-operands_right.ensures.0 refl in (
      record {
        jump = c.if-not-jumps_rightly.ensures.0 refl;
        depth = c.args.entry.depth;
        settled = own_settled r c.args.i c.args.code.now c.args.entry q.marked q.is;
        stack = lead.0;
        operands = record { own = o.own; arm = λ arm e s. (let f = o.arm arm e s in record { slots = f.slots; words = f.words }) };
      },
      lead.1,
      lead.2 ∙ c.in-Some.ensures.1,
      lead.0.fits,
    )
