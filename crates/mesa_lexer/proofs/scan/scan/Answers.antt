use Rattle.std.proofs.Common.{arith}
use Rattle.std.proofs.lemmas.Result.{err_from_is_err_and}
use Rattle.mesa_lexer.proofs.Scanning.{scanned_start, room, step_taken, fault_taken, taken_length, scanned_taken, scanned_all}
use Rattle.mesa_lexer.proofs.scan.scan.Goals as goal

pub loop-at-init : goal.loop-at-init
loop-at-init c = rw c.new-items.ensures (scanned_start c.args.text.now c.start-position.result c.requires c.start-position.ensures)

pub advance-requires-clause-lines : goal.advance-requires-clause-lines
advance-requires-clause-lines c = (room c.loop-at.invariant).0

pub advance-requires-clause-columns : goal.advance-requires-clause-columns
advance-requires-clause-columns c = (room c.loop-at.invariant).1

pub returns-in_err-count-clause-fault : goal.returns-in_err-count-clause-fault
returns-in_err-count-clause-fault c =
    let p = err_from_is_err_and c.from_residual.result c.from_residual.ensures.1 in
    rw (p.1, p.2) (λ other. fault_taken c.loop-at.invariant c.loop-at-test.true (c.in_err-count.ensures.err other))

pub slice_bounds-behind-end : goal.slice_bounds-behind-end
slice_bounds-behind-end c = taken_length c.in_ok-count.ensures.ok

pub behind-position-requires-clause-lines : goal.behind-position-requires-clause-lines
behind-position-requires-clause-lines c = (step_taken c.loop-at.invariant c.in_ok-count.ensures.ok).lines

pub behind-position-requires-clause-columns : goal.behind-position-requires-clause-columns
behind-position-requires-clause-columns c = (step_taken c.loop-at.invariant c.in_ok-count.ensures.ok).columns

pub overflow_add-at : goal.overflow_add-at
overflow_add-at c =
    let step = step_taken c.loop-at.invariant c.in_ok-count.ensures.ok in
    let low = step.within in
    omega arith

pub loop-at-smaller : goal.loop-at-smaller
loop-at-smaller c =
    let step = step_taken c.loop-at.invariant c.in_ok-count.ensures.ok in
    let some = step.some in
    let test = c.loop-at-test.true in
    omega arith

pub loop-at-preserved : goal.loop-at-preserved
loop-at-preserved c = rw c.behind-position.ensures (scanned_taken c.loop-at.invariant c.in_ok-count.ensures.ok)

pub returns-clause-ok : goal.returns-clause-ok
returns-clause-ok c =
    rw c.new.ensures (rw c.place-end.ensures (rw c.len.ensures (scanned_all c.loop-at.invariant c.loop-at-test.false)))
