use Rattle.std.proofs.Common.{subst, arith}
use Rattle.machine_rules.specs.declared.end.End.TheVariants.{Uncaught}
use Rattle.machine_rules.specs.State.{Ended}
use Rattle.machine_rules.specs.Steps.{Ends}
use Rattle.machine_activations.specs.Below.{Raised}
use Rattle.machine_activations.specs.Calling.{LeadsTo}
use Rattle.machine_signals.proofs.Landing.{each_asked, place_within}
use Rattle.machine_signals.proofs.SeekArms.{arm_runs, lands_awaits, can_enter, holds_then}
use Rattle.machine_signals.proofs.seeking.seek_arm.Goals as goal
use Rattle.machine_activations.proofs.Reach.{ends_alike}

pub seek-requires-clause-rows : goal.seek-requires-clause-rows
seek-requires-clause-rows c =
    each_asked c.args.image.now c.args.stack.now.layout c.args.stack.now.region.items c.args.stack.now.rows.items c.args.top c.args.raised.signal c.args.raised.from c.args.raised.args c.args.raised.place c.args.raised.search
    c.requires.seeks.start c.requires.seeks.store c.requires.seeks.seeking

pub seek-requires-clause-long : goal.seek-requires-clause-long
seek-requires-clause-long c =
    place_within c.args.image.now c.args.stack.now.layout c.args.stack.now.region.items c.args.stack.now.rows.items c.args.top c.args.raised.signal c.args.raised.from c.args.raised.args c.args.raised.place c.args.raised.search
    c.requires.seeks.start c.requires.seeks.store c.requires.seeks.seeking

pub enter_arm-requires-clause-enters : goal.enter_arm-requires-clause-enters
enter_arm-requires-clause-enters c =
    can_enter c.args.image.now c.args.stack.now.layout c.args.stack.now.region.items c.args.stack.now.rows.items c.args.top c.args.raised.signal c.args.raised.from c.args.raised.args c.args.raised.place c.args.raised.search
    c.in-Some.landed c.in-Some.ensures.landing c.in-Some.ensures.seeks c.requires.seeks

pub returns-in-Some-clause-arms : goal.returns-in-Some-clause-arms
returns-in-Some-clause-arms c =
    holds_then c.args.image.now c.args.stack.now.layout c.args.stack.now.region.items c.args.stack.now.rows.items c.args.top c.args.raised.signal c.args.raised.from c.args.raised.args c.args.raised.place c.args.raised.search
    c.in-Some.landed c.in-Some.ensures.landing c.in-Some.ensures.seeks c.enter_arm.new.stack.rows.items c.enter_arm.result c.enter_arm.ensures.adds

pub returns-in-Some-clause-runs : goal.returns-in-Some-clause-runs
returns-in-Some-clause-runs c = arm_runs c.args.stack.now.rows.items c.args.top c.in-Some.landed.place c.in-Some.landed.arm _ c.enter_arm.new.stack.rows.items c.enter_arm.result c.enter_arm.ensures.adds

pub returns-in-Some-clause-leads : goal.returns-in-Some-clause-leads
returns-in-Some-clause-leads c s m turns w =
    c.enter_arm.ensures.leads s m turns
    (lands_awaits c.args.image.now c.args.stack.now.layout c.args.stack.now.region.items c.args.stack.now.rows.items c.args.top c.args.raised.signal c.args.raised.from c.args.raised.args c.args.raised.place c.args.raised.search
    c.in-Some.landed c.in-Some.ensures.landing c.in-Some.ensures.seeks s m w)

pub returns-in-None-clause-leads : goal.returns-in-None-clause-leads
unfolding LeadsTo
returns-in-None-clause-leads c s m turns w =
    let h = w.high in let l = w.low in
    subst (λ t. Ends c.args.image.now s (Ended (Uncaught c.args.raised.signal)) (record m { turns = t })) turns
    (ends_alike _ _ _ w.reaches (Ended (Uncaught c.args.raised.signal)) m
    (c.in-None.ensures.seeks c.args.stack.now.region.items (Raised c.args.raised.signal w.args) w.activations w.args m w.below (omega (arith, h, l))))
