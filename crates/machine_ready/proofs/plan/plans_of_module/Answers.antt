use Rattle.std.proofs.Common.{sym, subst, All}
use Rattle.machine_ready.specs.Ready.{CanBePlanned}
use Rattle.machine_ready.proofs.Planned.{can_be_planned}
use Rattle.machine_ready.proofs.plan.plans_of_module.Goals as goal

pub plans_of-requires : goal.plans_of-requires
plans_of-requires c = subst (λ ps. All CanBePlanned ps) (sym c.as_slice.ensures) (can_be_planned c.args.code.now c.requires)
