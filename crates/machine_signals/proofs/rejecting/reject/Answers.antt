use Rattle.std.proofs.Common.{◌-◌, refl, ap, sym, ◌∙◌, arith}
use Rattle.machine_activations.specs.declared.row.Kind.TheVariants.{Arm as ArmRow}
use Rattle.machine_activations.specs.declared.row.Row.{Row}
use Rattle.machine_signals.proofs.Roomy.{room_lower}
use Rattle.machine_signals.proofs.Rejects.{not_frame, raise_asks, jump_rejects}
use Rattle.machine_signals.proofs.RejectCalls.{top_within, some_under, raise_kind, end_within, seeks_so}
use Rattle.machine_signals.proofs.rejecting.reject.Goals as goal

pub overflow_sub-under : goal.overflow_sub-under
overflow_sub-under c =
    some_under c.args.image.now c.args.stack.now.layout c.requires.tables.prepared c.args.stack.now.region.items c.args.stack.now.rows.items c.args.r c.requires.room.ample.wide
    c.requires.rejects.start c.requires.rejects.store c.requires.rejects.rejects c.row_of.result c.row_of.ensures c.in-Arm.owner c.in-Arm.arm c.in-Arm.reason c.in-Arm.is

pub row_of-requires-in-Raise : goal.row_of-requires-in-Raise
row_of-requires-in-Raise c =
    let l = top_within c.args.image.now c.args.stack.now.layout c.requires.tables.prepared c.args.stack.now.region.items c.args.stack.now.rows.items c.args.r c.requires.room.ample.wide
    c.requires.rejects.start c.requires.rejects.store c.requires.rejects.rejects in record { there = omega (arith, l) }

pub end_of-from-requires : goal.end_of-from-requires
end_of-from-requires c =
    end_within c.args.image.now c.args.stack.now.layout c.requires.tables.prepared c.args.stack.now.region.items c.args.stack.now.rows.items c.args.r c.requires.room.ample.wide
    c.requires.rejects.start c.requires.rejects.store c.requires.rejects.rejects c.row_of.result c.row_of.ensures c.in-Arm.owner c.in-Arm.arm c.in-Arm.reason c.in-Arm.is
    c.in-Raise.signal c.in-Raise.args c.in-Raise.beyond c.in-Raise.is c.row_of-in-Raise.result c.row_of-in-Raise.ensures c.args.stack.now.region.items refl

pub seek_arm-requires-clause-asks : goal.seek_arm-requires-clause-asks
seek_arm-requires-clause-asks c =
    raise_asks c.args.image.now c.args.stack.now.layout c.requires.tables.prepared c.args.stack.now.region.items c.args.stack.now.rows.items c.args.r c.requires.room.ample.wide
    c.requires.rejects.start c.requires.rejects.store c.requires.rejects.rejects c.in-Arm.owner c.in-Arm.arm c.in-Raise.signal c.in-Raise.args c.in-Raise.beyond
    (raise_kind c.args.image.now c.args.stack.now.layout c.requires.tables.prepared c.args.stack.now.region.items c.args.stack.now.rows.items c.args.r c.requires.room.ample.wide
    c.requires.rejects.start c.requires.rejects.store c.requires.rejects.rejects c.row_of.result c.row_of.ensures c.in-Arm.owner c.in-Arm.arm c.in-Arm.reason c.in-Arm.is
    c.in-Raise.signal c.in-Raise.args c.in-Raise.beyond c.in-Raise.is) c.requires.arms

pub seek_arm-requires-clause-seeks : goal.seek_arm-requires-clause-seeks
seek_arm-requires-clause-seeks c = record {
  start = c.requires.rejects.start;
  store = c.requires.rejects.store;
  seeking = seeks_so c.args.image.now c.args.stack.now.layout c.requires.tables.prepared c.args.stack.now.region.items c.args.stack.now.rows.items c.args.r c.requires.room.ample.wide
      c.requires.rejects.start c.requires.rejects.store c.requires.rejects.rejects c.row_of.result c.row_of.ensures c.in-Arm.owner c.in-Arm.arm c.in-Arm.reason c.in-Arm.is
      c.in-Raise.signal c.in-Raise.args c.in-Raise.beyond c.in-Raise.is c.row_of-in-Raise.result c.row_of-in-Raise.ensures c.end_of-from.result c.end_of-from.ensures;
}

pub leave_on-requires-clause-leaves : goal.leave_on-requires-clause-leaves
leave_on-requires-clause-leaves c = record {
  start = c.requires.rejects.start;
  unstuck = c.requires.rejects.unstuck;
  store = c.requires.rejects.store;
  leaving = jump_rejects c.args.image.now c.args.stack.now.layout c.requires.tables.prepared c.args.stack.now.region.items c.args.stack.now.rows.items c.args.r c.requires.room.ample.wide
      c.requires.rejects.start c.requires.rejects.store c.requires.rejects.rejects c.in-Arm.owner c.in-Arm.arm c.in-Jump.target c.in-Jump.beyond
      (ap (λ (x : Row). x.kind) (sym c.row_of.ensures) ∙ c.in-Arm.is ∙ ap (λ k. ArmRow c.in-Arm.owner c.in-Arm.arm k) c.in-Jump.is);
}

pub returns-in-Frame-clause-leads : goal.returns-in-Frame-clause-leads
returns-in-Frame-clause-leads c s m unstuck turns w =
    absurd (not_frame c.args.image.now c.args.stack.now.layout c.requires.tables.prepared c.args.stack.now.region.items c.args.stack.now.rows.items c.args.r c.requires.room.ample.wide s m w unstuck
    (ap (λ (x : Row). x.kind) (sym c.row_of.ensures) ∙ c.in-Frame.is))

pub returns-in-Raise-clause-leads : goal.returns-in-Raise-clause-leads
returns-in-Raise-clause-leads c s m unstuck turns w =
    c.seek_arm.ensures.leads s m turns
    (seeks_so c.args.image.now c.args.stack.now.layout c.requires.tables.prepared c.args.stack.now.region.items c.args.stack.now.rows.items c.args.r c.requires.room.ample.wide s m w
    c.row_of.result c.row_of.ensures c.in-Arm.owner c.in-Arm.arm c.in-Arm.reason c.in-Arm.is
    c.in-Raise.signal c.in-Raise.args c.in-Raise.beyond c.in-Raise.is c.row_of-in-Raise.result c.row_of-in-Raise.ensures c.end_of-from.result c.end_of-from.ensures)

pub returns-in-Jump-clause-leads : goal.returns-in-Jump-clause-leads
returns-in-Jump-clause-leads c s m unstuck turns w =
    c.leave_on.ensures.leads s m unstuck turns
    (jump_rejects c.args.image.now c.args.stack.now.layout c.requires.tables.prepared c.args.stack.now.region.items c.args.stack.now.rows.items c.args.r c.requires.room.ample.wide s m w
    c.in-Arm.owner c.in-Arm.arm c.in-Jump.target c.in-Jump.beyond
    (ap (λ (x : Row). x.kind) (sym c.row_of.ensures) ∙ c.in-Arm.is ∙ ap (λ k. ArmRow c.in-Arm.owner c.in-Arm.arm k) c.in-Jump.is))

pub seek_arm-requires-clause-room : goal.seek_arm-requires-clause-room
seek_arm-requires-clause-room c = room_lower c.args.stack.now c.args.r.top (c.args.r.top - 1) (omega arith) c.requires.room

pub leave_on-requires-clause-room : goal.leave_on-requires-clause-room
leave_on-requires-clause-room c = room_lower c.args.stack.now c.args.r.top (c.args.r.top - 1) (omega arith) c.requires.room
