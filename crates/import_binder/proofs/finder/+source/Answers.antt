use Rattle.std.proofs.Common.{◌-◌, ◌∙◌, arith}
use Rattle.config_rules.specs.Resolves.{from_outside}
use Rattle.config_tree.specs.Outward.{step_shown}
use Rattle.import_binder.specs.Places.{spot_at, place_shown}
use Rattle.import_binder.proofs.Sources.{none_left, one_step}
use Rattle.import_binder.proofs.finder.+source.Goals as goal

pub returns-then-most-eq0 : goal.returns-then-most-eq0
unfolding place_shown
returns-then-most-eq0 t c = none_left c.args.records.now c.args.tree.now (spot_at c.args.scope c.args.record_name.now) c.requires c.args.most c.if-most-eq0.true

pub returns-in-Stays : goal.returns-in-Stays
unfolding place_shown step_shown from_outside
returns-in-Stays t c =
    one_step c.args.records.now c.args.tree.now (spot_at c.args.scope c.args.record_name.now) c.requires c.args.most (c.args.most - 1) (omega (arith, c.if-most-eq0.false)) _ c.in-Stays.ensures

pub returns-in-Goes : goal.returns-in-Goes
unfolding step_shown from_outside
returns-in-Goes t c =
    c.source.ensures
    ∙ one_step c.args.records.now c.args.tree.now (spot_at c.args.scope c.args.record_name.now) c.requires c.args.most (c.args.most - 1) (omega (arith, c.if-most-eq0.false)) _ c.in-Goes.ensures

pub returns-in-Leaves : goal.returns-in-Leaves
unfolding place_shown step_shown from_outside
returns-in-Leaves t c =
    one_step c.args.records.now c.args.tree.now (spot_at c.args.scope c.args.record_name.now) c.requires c.args.most (c.args.most - 1) (omega (arith, c.if-most-eq0.false)) _ c.in-Leaves.ensures
