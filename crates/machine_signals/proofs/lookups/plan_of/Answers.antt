use Rattle.std.proofs.Common.{refl, sym, subst}
use Rattle.machine_ready.specs.declared.plan.Plan.{Plan}
use Rattle.machine_ready.specs.Ready.{IsPlan}
use Rattle.machine_signals.proofs.Asks.{plans_within, plan_within, plan_there}
use Rattle.machine_signals.proofs.InImage.{has_code, instance_within}
use Rattle.machine_signals.proofs.lookups.plan_of.Goals as goal

pub bounds-as_slice-instance : goal.bounds-as_slice-instance
bounds-as_slice-instance c =
    instance_within c.args.image.now c.args.instance c.as_slice.result.now c.args.image.now.modules c.as_slice.ensures refl
    (has_code c.args.image.now c.args.instance c.args.number c.requires.there)

pub bounds-as_slice-instance-2 : goal.bounds-as_slice-instance-2
bounds-as_slice-instance-2 c =
    instance_within c.args.image.now c.args.instance c.as_slice.result.now c.args.image.now.modules c.as_slice.ensures refl
    (has_code c.args.image.now c.args.instance c.args.number c.requires.there)

pub bounds-as_slice-module : goal.bounds-as_slice-module
bounds-as_slice-module c =
    plans_within c.args.image.now c.args.plans.now c.requires.planned c.args.instance c.args.number c.requires.there c.as_slice.result.now c.as_slice.ensures
    c.as_slice-2.result.now c.as_slice-2.ensures c.index-as_slice-instance.result

pub bounds-as_slice-number : goal.bounds-as_slice-number
bounds-as_slice-number c =
    plan_within c.args.image.now c.args.plans.now c.requires.planned c.args.instance c.args.number c.requires.there c.as_slice.result.now c.as_slice.ensures
    c.as_slice-2.result.now c.as_slice-2.ensures c.index-as_slice-instance.result c.index-as_slice-module.result c.index-as_slice-module.is c.as_slice-3.result.now c.as_slice-3.ensures

pub returns : goal.returns
returns c p is =
    subst (λ (x : Plan). IsPlan p x) (sym c.index-as_slice-number.is)
    (plan_there c.args.image.now c.args.plans.now c.requires.planned c.args.instance c.args.number c.requires.there c.as_slice.result.now c.as_slice.ensures
    c.as_slice-2.result.now c.as_slice-2.ensures c.index-as_slice-instance.result c.index-as_slice-module.result c.index-as_slice-module.is c.as_slice-3.result.now c.as_slice-3.ensures
    c.index-as_slice-number.result p is)
