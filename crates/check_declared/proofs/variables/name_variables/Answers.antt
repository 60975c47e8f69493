use Rattle.std.proofs.Common.{rules, ◌∙◌, get_or, refl, arith}
use Rattle.interface_records.specs.PlainTypes.{plain}
use Rattle.check_rules.specs.Statements.{meaning_of}
use Rattle.check_rules.specs.Typed.{Global}
use Rattle.check_declared.proofs.VariableLoops.{means_at, means_out, settled}
use Rattle.check_declared.proofs.variables.name_variables.Goals as goal

pub loop-i-preserved : goal.loop-i-preserved
loop-i-preserved c =
    rw c.loop-i.invariant
    (rw (means_at (meaning_of (plain c.args.kind.now)) c.args.names.now c.args.homes.now c.loop-i.i c.index-names-i.result (get_or c.args.homes.now c.loop-i.i (Global 0)) (Global 0) _
    (omega (arith, c.min-i-end.ensures, c.loop-i-test.true)) c.index-names-i.is (omega (arith, c.min-i-end.ensures, c.loop-i-test.true)) refl)
    (search rules))

pub returns : goal.returns
returns c =
    settled _ _ _ _ (c.loop-i.invariant ∙ means_out (meaning_of (plain c.args.kind.now)) c.args.names.now c.args.homes.now c.loop-i.i _ (omega (arith, c.min-i-end.ensures, c.loop-i-test.false)))
    ∙ rw c.in_ok-show.ensures (search rules)
