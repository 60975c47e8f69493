use Rattle.std.proofs.Common.{◌-◌, ap, sym, subst, ◌∙◌, arith}
use Rattle.machine_activations.specs.declared.row.Kind.TheVariants.{Arm as ArmRow}
use Rattle.machine_activations.specs.declared.row.Row.{Row}
use Rattle.machine_activations.specs.Frames.{row_at}
use Rattle.machine_signals.specs.Indexed.{AskedOf, IsRead}
use Rattle.machine_signals.specs.Leaving.{LeftThere}
use Rattle.machine_signals.specs.Raising.{AsksLeft}
use Rattle.machine_signals.proofs.Roomy.{room_lower}
use Rattle.machine_signals.proofs.ArmRows.{arms_fewer}
use Rattle.machine_signals.proofs.Jumped.{jump_within, jump_not_frame, under_asked, jump_low, jump_under, jump_leads, jump_leaving}
use Rattle.machine_signals.proofs.UnwindLoop.{left_asks}
use Rattle.machine_signals.proofs.jumping.leave.Goals as goal

pub returns-in-Frame-clause-leads : goal.returns-in-Frame-clause-leads
returns-in-Frame-clause-leads c s m unstuck turns w =
    absurd (jump_not_frame c.args.image.now c.args.stack.now.layout c.args.stack.now.region.items c.args.stack.now.rows.items c.args.r c.args.goal s m w unstuck (ap (λ (x : Row). x.kind) (sym c.row_of-kind.ensures) ∙ c.in-Frame.is))

pub target_of-target-requires-clause-rows : goal.target_of-target-requires-clause-rows
target_of-target-requires-clause-rows c = under_asked c.args.image.now c.args.stack.now.layout c.args.stack.now.region.items c.args.stack.now.rows.items c.args.r c.args.goal c.requires.jumps.start c.requires.jumps.store c.requires.jumps.jumps

pub target_of-target-requires-clause-long : goal.target_of-target-requires-clause-long
target_of-target-requires-clause-long c = let l = jump_within c.args.image.now c.args.stack.now.layout c.args.stack.now.region.items c.args.stack.now.rows.items c.args.r c.args.goal c.requires.jumps.start c.requires.jumps.store c.requires.jumps.jumps in omega (arith, l)

pub target_of-target-requires-clause-low : goal.target_of-target-requires-clause-low
target_of-target-requires-clause-low c = jump_low c.args.image.now c.args.stack.now.layout c.args.stack.now.region.items c.args.stack.now.rows.items c.args.r c.args.goal c.requires.jumps.start c.requires.jumps.store c.requires.jumps.jumps c.in-Arm.owner c.in-Arm.arm c.in-Arm.reason (ap (λ (x : Row). x.kind) (sym c.row_of-kind.ensures) ∙ c.in-Arm.is)

pub overflow_sub-top : goal.overflow_sub-top
overflow_sub-top c = jump_under c.args.image.now c.args.stack.now.layout c.args.stack.now.region.items c.args.stack.now.rows.items c.args.r c.args.goal c.requires.jumps.start c.requires.jumps.store c.requires.jumps.jumps c.in-Arm.owner c.in-Arm.arm c.in-Arm.reason (ap (λ (x : Row). x.kind) (sym c.row_of-kind.ensures) ∙ c.in-Arm.is)

pub row_of-under-requires : goal.row_of-under-requires
row_of-under-requires c = let l = jump_within c.args.image.now c.args.stack.now.layout c.args.stack.now.region.items c.args.stack.now.rows.items c.args.r c.args.goal c.requires.jumps.start c.requires.jumps.store c.requires.jumps.jumps in record { there = omega (arith, l) }

pub left_to_ask-first-requires-clause-read : goal.left_to_ask-first-requires-clause-read
left_to_ask-first-requires-clause-read c =
    let u = jump_under c.args.image.now c.args.stack.now.layout c.args.stack.now.region.items c.args.stack.now.rows.items c.args.r c.args.goal c.requires.jumps.start c.requires.jumps.store c.requires.jumps.jumps c.in-Arm.owner c.in-Arm.arm c.in-Arm.reason (ap (λ (x : Row). x.kind) (sym c.row_of-kind.ensures) ∙ c.in-Arm.is) in
    subst (λ (x : Row). IsRead c.args.image.now x) (sym c.row_of-under.ensures) (under_asked c.args.image.now c.args.stack.now.layout c.args.stack.now.region.items c.args.stack.now.rows.items c.args.r c.args.goal c.requires.jumps.start c.requires.jumps.store c.requires.jumps.jumps (c.args.r.top - 1) (omega (arith, u))).read

pub left_to_ask-first-requires-clause-asks : goal.left_to_ask-first-requires-clause-asks
left_to_ask-first-requires-clause-asks c =
    subst (λ (x : Row). AsksLeft c.args.image.now (ArmRow c.in-Arm.owner c.in-Arm.arm c.in-Arm.reason) x) (sym c.row_of-under.ensures)
    (subst (λ k. AsksLeft c.args.image.now k (row_at c.args.stack.now.rows.items (c.args.r.top - 1))) (ap (λ (x : Row). x.kind) (sym c.row_of-kind.ensures) ∙ c.in-Arm.is)
    (left_asks c.args.image.now c.args.stack.now.rows.items c.args.r.top (row_at c.args.stack.now.rows.items c.args.r.top).kind (c.requires.arms c.args.r.top (omega arith))))

pub leave_on-requires-clause-arms : goal.leave_on-requires-clause-arms
leave_on-requires-clause-arms c = arms_fewer c.args.image.now c.args.stack.now.rows.items c.args.r.top (c.args.r.top - 1) (omega arith) c.requires.arms

pub leave_on-requires-clause-aims : goal.leave_on-requires-clause-aims
leave_on-requires-clause-aims c = jump_leads c.args.image.now c.args.stack.now.layout c.args.stack.now.region.items c.args.stack.now.rows.items c.args.r c.args.goal c.requires.jumps.start c.requires.jumps.store c.requires.jumps.jumps c.in-Arm.owner c.in-Arm.arm c.in-Arm.reason (ap (λ (x : Row). x.kind) (sym c.row_of-kind.ensures) ∙ c.in-Arm.is) c.target_of-target.result c.target_of-target.ensures

pub leave_on-requires-clause-asks : goal.leave_on-requires-clause-asks
leave_on-requires-clause-asks c = subst (λ (x : Row). AskedOf c.args.image.now x c.left_to_ask-first.result) c.row_of-under.ensures c.left_to_ask-first.ensures.asks

pub leave_on-requires-clause-leaves : goal.leave_on-requires-clause-leaves
leave_on-requires-clause-leaves c = record {
  start = c.requires.jumps.start;
  unstuck = c.requires.jumps.unstuck;
  store = c.requires.jumps.store;
  leaving = jump_leaving c.args.image.now c.args.stack.now.layout c.args.stack.now.region.items c.args.stack.now.rows.items c.args.r c.args.goal c.requires.jumps.start c.requires.jumps.store c.requires.jumps.jumps c.in-Arm.owner c.in-Arm.arm c.in-Arm.reason (ap (λ (x : Row). x.kind) (sym c.row_of-kind.ensures) ∙ c.in-Arm.is) c.target_of-target.result c.target_of-target.ensures c.left_to_ask-first.result
      (subst (λ k. LeftThere c.args.image.now k (row_at c.args.stack.now.rows.items (c.args.r.top - 1)) c.left_to_ask-first.result) (sym (ap (λ (x : Row). x.kind) (sym c.row_of-kind.ensures) ∙ c.in-Arm.is)) (subst (λ (x : Row). LeftThere c.args.image.now (ArmRow c.in-Arm.owner c.in-Arm.arm c.in-Arm.reason) x c.left_to_ask-first.result) c.row_of-under.ensures c.left_to_ask-first.ensures.left));
}

pub returns-in-Arm-clause-leads : goal.returns-in-Arm-clause-leads
returns-in-Arm-clause-leads c s m unstuck turns w =
    c.leave_on.ensures.leads s m unstuck turns
    (jump_leaving c.args.image.now c.args.stack.now.layout c.args.stack.now.region.items c.args.stack.now.rows.items c.args.r c.args.goal s m w c.in-Arm.owner c.in-Arm.arm c.in-Arm.reason (ap (λ (x : Row). x.kind) (sym c.row_of-kind.ensures) ∙ c.in-Arm.is) c.target_of-target.result c.target_of-target.ensures c.left_to_ask-first.result
    (subst (λ k. LeftThere c.args.image.now k (row_at c.args.stack.now.rows.items (c.args.r.top - 1)) c.left_to_ask-first.result) (sym (ap (λ (x : Row). x.kind) (sym c.row_of-kind.ensures) ∙ c.in-Arm.is)) (subst (λ (x : Row). LeftThere c.args.image.now (ArmRow c.in-Arm.owner c.in-Arm.arm c.in-Arm.reason) x c.left_to_ask-first.result) c.row_of-under.ensures c.left_to_ask-first.ensures.left)))

pub leave_on-requires-clause-room : goal.leave_on-requires-clause-room
leave_on-requires-clause-room c = room_lower c.args.stack.now c.args.r.top (c.args.r.top - 1) (omega arith) c.requires.room
