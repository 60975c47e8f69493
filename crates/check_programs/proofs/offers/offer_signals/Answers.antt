use Rattle.std.proofs.Common.{rules, map, sym, ◌∙◌, arith}
use Rattle.check_heads.specs.check_faces.specs.Offers.{offer}
use Rattle.check_programs.proofs.SignalLoops.{offer_at, offer_out}
use Rattle.check_programs.proofs.offers.offer_signals.Goals as goal

pub loop-i-preserved : goal.loop-i-preserved
loop-i-preserved c =
    rw c.loop-i.invariant
    (rw (offer_at (map offer c.loop-i.offers.items) c.args.names.now c.args.items.now c.loop-i.i c.loop-i.number c.index-names-i.result c.index-items-i.result c.index-items-i.result
    (omega (arith, c.min-i-end.ensures, c.loop-i-test.true)) c.index-names-i.is (omega (arith, c.min-i-end.ensures, c.loop-i-test.true)) c.index-items-i.is)
    (search rules))

pub returns : goal.returns
returns c =
    sym (c.loop-i.invariant ∙ offer_out (map offer c.loop-i.offers.items) c.args.names.now c.args.items.now c.loop-i.i c.loop-i.number (omega (arith, c.min-i-end.ensures, c.loop-i-test.false)))
