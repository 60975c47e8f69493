use Rattle.std.proofs.Common.{rules, ◌∙◌, arith}
use Rattle.check_statement_lists.specs.check_declared.proofs.VariableLoops.{settled}
use Rattle.check_programs.proofs.SignalLoops.{mean_at, mean_out}
use Rattle.check_programs.proofs.signals.settle_signals.Goals as goal

pub loop-i-preserved : goal.loop-i-preserved
loop-i-preserved c =
    rw c.loop-i.invariant
    (rw (mean_at c.args.names.now c.args.items.now c.loop-i.i c.loop-i.number c.index-names-i.result c.index-items-i.result c.index-items-i.result _
    (omega (arith, c.min-i-end.ensures, c.loop-i-test.true)) c.index-names-i.is (omega (arith, c.min-i-end.ensures, c.loop-i-test.true)) c.index-items-i.is)
    (search rules))

pub returns : goal.returns
returns c =
    settled _ _ _ _ (c.loop-i.invariant ∙ mean_out c.args.names.now c.args.items.now c.loop-i.i c.loop-i.number _ (omega (arith, c.min-i-end.ensures, c.loop-i-test.false)))
    ∙ rw c.in_ok-show.ensures (search rules)
