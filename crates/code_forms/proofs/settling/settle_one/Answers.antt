use Rattle.std.proofs.Common.{◌≡◌, ◌+◌, List, Some, length, get_or, sym, ap, subst, ◌∙◌, arith}
use Rattle.code_forms.specs.declared.module_code.CodeEntry.{CodeEntry}
use Rattle.code_forms.specs.Around.{routine_around}
use Rattle.code_forms.specs.Marks.{Marked, settled_at}
use Rattle.code_forms.specs.Routine.{spots}
use Rattle.code_forms.proofs.Depths.{settled_spots, settled_length}
use Rattle.code_forms.proofs.Ordered.{blank}
use Rattle.code_forms.proofs.Passing.{own_marked, onward_marked, onward_spots, right_spot, fault_spot, read_is}
use Rattle.code_forms.proofs.settling.settle_one.Goals as goal

pub judge-requires-clause-marked : goal.judge-requires-clause-marked
judge-requires-clause-marked c =
    subst (λ (l : List CodeEntry). Marked (routine_around c.args.around.now (spots l)) (c.args.i + 1) c.args.i l) (sym (c.as_slice-2.ensures ∙ c.settle.ensures))
    (own_marked c.args.around.now c.args.code.now c.args.i c.requires.there c.requires.marked)

pub returns-in-Err-clause-same : goal.returns-in-Err-clause-same
returns-in-Err-clause-same c = ap spots c.settle.ensures ∙ settled_spots c.args.code.now (Some c.args.i) 0

pub returns-in-Err-clause-err : goal.returns-in-Err-clause-err
returns-in-Err-clause-err c =
    let h = ap spots (c.as_slice-2.ensures ∙ c.settle.ensures) ∙ settled_spots c.args.code.now (Some c.args.i) 0 in
    let len = settled_length c.args.code.now (Some c.args.i) 0 in
    let read = ap length (c.as_slice.ensures ∙ c.settle.ensures) in let there = c.requires.there in
    fault_spot c.args.around.now c.args.code.now c.as_slice-2.result.now c.args.i (get_or c.as_slice.result.now c.args.i blank) c.in-Err.fault h
    (read_is c.as_slice.result.now c.as_slice-2.result.now c.args.i blank (c.as_slice.ensures ∙ sym c.as_slice-2.ensures) (omega (arith, len, read, there))) c.in-Err.ensures.err

pub returns-clause-same : goal.returns-clause-same
returns-clause-same c =
    ap spots (c.settle-3.ensures ∙ ap (λ (l : List CodeEntry). settled_at l c.in-Ok.onward.target c.in-Ok.onward.depth) c.settle-2.ensures)
    ∙ (onward_spots c.settle.new.code c.in-Ok.onward.next c.in-Ok.onward.target c.in-Ok.onward.depth ∙ (ap spots c.settle.ensures ∙ settled_spots c.args.code.now (Some c.args.i) 0))

pub returns-clause-right : goal.returns-clause-right
returns-clause-right c =
    let h = ap spots (c.as_slice-2.ensures ∙ c.settle.ensures) ∙ settled_spots c.args.code.now (Some c.args.i) 0 in
    let len = settled_length c.args.code.now (Some c.args.i) 0 in
    let read = ap length (c.as_slice.ensures ∙ c.settle.ensures) in let there = c.requires.there in
    right_spot c.args.around.now c.args.code.now c.as_slice-2.result.now c.args.i (get_or c.as_slice.result.now c.args.i blank) h
    (read_is c.as_slice.result.now c.as_slice-2.result.now c.args.i blank (c.as_slice.ensures ∙ sym c.as_slice-2.ensures) (omega (arith, len, read, there))) c.in-Ok.ensures.ok.0

pub returns-clause-marked : goal.returns-clause-marked
returns-clause-marked c =
    let a = c.args.around.now in
    let S = c.as_slice-2.result.now in
    let o = c.in-Ok.onward in
    let h = ap spots (c.as_slice-2.ensures ∙ c.settle.ensures) ∙ settled_spots c.args.code.now (Some c.args.i) 0 in
    let len = settled_length c.args.code.now (Some c.args.i) 0 in
    let read = ap length (c.as_slice.ensures ∙ c.settle.ensures) in let there = c.requires.there in
    let one : Marked (routine_around a (spots S)) (c.args.i + 1) c.args.i S =
    subst (λ (l : List CodeEntry). Marked (routine_around a (spots l)) (c.args.i + 1) c.args.i l) (sym (c.as_slice-2.ensures ∙ c.settle.ensures))
    (own_marked a c.args.code.now c.args.i c.requires.there c.requires.marked) in
    let e = c.in-Ok.ensures.ok in
    let last : c.settle-3.new.code ≡ settled_at (settled_at S o.next o.depth) o.target o.depth =
    c.settle-3.ensures ∙ ap (λ (l : List CodeEntry). settled_at l o.target o.depth) (c.settle-2.ensures ∙ ap (λ (l : List CodeEntry). settled_at l o.next o.depth) (sym c.as_slice-2.ensures)) in
    subst (λ (l : List CodeEntry). Marked (routine_around a (spots c.args.code.now)) (c.args.i + 1) (c.args.i + 1) l) (sym last)
    (onward_marked a c.args.code.now S c.args.i (get_or c.as_slice.result.now c.args.i blank) o.next o.target o.depth h
    (read_is c.as_slice.result.now S c.args.i blank (c.as_slice.ensures ∙ sym c.as_slice-2.ensures) (omega (arith, len, read, there)))
    c.requires.small one e.1 e.2 e.3)
