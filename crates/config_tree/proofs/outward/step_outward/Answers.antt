use Rattle.std.proofs.Common.{None, ◌∙◌}
use Rattle.config_rules.specs.Exporters.{stepped}
use Rattle.config_tree.specs.Outward.{step_shown}
use Rattle.config_tree.proofs.Pairs.{no_scope, no_index, at_record}
use Rattle.config_tree.proofs.outward.step_outward.Goals as goal

pub returns-in_default : goal.returns-in_default
unfolding step_shown
returns-in_default c = no_scope c.args.records.now c.args.tree.now (record { scope = c.args.scope; record_name = c.args.record_name.now }) c.in_default.ensures

pub returns-in_default-get : goal.returns-in_default-get
unfolding step_shown
returns-in_default-get c =
    no_index c.args.records.now c.args.tree.now (record { scope = c.args.scope; record_name = c.args.record_name.now }) c.in-Some.here.now c.in-Some.ensures c.in_default-get.ensures

pub returns-in-Some-get-2 : goal.returns-in-Some-get-2
returns-in-Some-get-2 c =
    c.out_of.ensures
    ∙ at_record c.args.records.now c.args.tree.now (record { scope = c.args.scope; record_name = c.args.record_name.now }) c.in-Some.here.now c.in-Some.ensures
    c.in-Some-get.index.now c.in-Some-get.ensures _ c.bytes.result.now c.bytes.ensures c.in-Some-get-2.ensures

pub returns-in-None : goal.returns-in-None
unfolding step_shown stepped
returns-in-None c =
    at_record c.args.records.now c.args.tree.now (record { scope = c.args.scope; record_name = c.args.record_name.now }) c.in-Some.here.now c.in-Some.ensures
    c.in-Some-get.index.now c.in-Some-get.ensures None c.bytes.result.now c.bytes.ensures c.in-None.ensures
