use Rattle.std.proofs.Common.{◌+◌, ℕ, List, sym, ap, subst, arith}
use Rattle.signaller.specs.Sweep.{Sweeps}
use Rattle.signaller.proofs.Sweeping.{same_default, sweeps_push}
use Rattle.signaller.proofs.sweep.open_upto.Goals as goal

pub opening-preserved : goal.opening-preserved
opening-preserved c =
    subst (λ (xs : List ℕ). Sweeps c.args.table.now xs (c.opening.next + 1) c.args.at) (sym c.in_ok-push.ensures.items)
    (sweeps_push c.args.table.now c.opening.opened.items c.opening.next c.args.at c.opening.invariant c.opening-test.true
    (λ d. let e = ap (λ p. p.from) (same_default c.args.table.now c.opening.next d c.index-table-next.result c.opening-test.true) in let t = c.if-table-next.true in omega (arith, e, t)))
