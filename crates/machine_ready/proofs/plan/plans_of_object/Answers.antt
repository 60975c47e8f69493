use Rattle.std.proofs.Common.{sym, subst}
use Rattle.code_forms.specs.Valid.{Valid}
use Rattle.machine_ready.proofs.plan.plans_of_object.Goals as goal

pub plans_of_module-requires : goal.plans_of_module-requires
plans_of_module-requires c = subst Valid (sym c.code.ensures.same) c.code.ensures.valid
