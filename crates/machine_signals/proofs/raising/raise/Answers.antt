use Rattle.std.proofs.Common.{◌-◌, ap, sym, subst, ◌∙◌}
use Rattle.machine_rules.specs.declared.end.End.TheVariants.{Spent}
use Rattle.machine_rules.specs.State.{Ended}
use Rattle.machine_rules.specs.Steps.{Ends}
use Rattle.machine_activations.specs.Calling.{LeadsTo}
use Rattle.machine_signals.proofs.Raised.{row_low, operands_low, raise_spent}
use Rattle.machine_signals.proofs.RaiseCalls.{raiser_read, can_seek, then_seeks, arms_wait}
use Rattle.machine_signals.proofs.raising.raise.Goals as goal

pub returns-then-turns-eq0-clause-leads : goal.returns-then-turns-eq0-clause-leads
unfolding LeadsTo
returns-then-turns-eq0-clause-leads c s m turns w =
    subst (λ t. Ends c.args.image.now s (Ended Spent) (record m { turns = t })) turns
    (raise_spent c.args.image.now c.args.stack.now.layout c.requires.tables.prepared c.args.stack.now.region.items c.args.stack.now.rows.items c.args.r c.args.signal c.args.args c.requires.room.ample s m w
    (turns ∙ c.if-turns-eq0.true))

pub wait-requires-clause-there : goal.wait-requires-clause-there
wait-requires-clause-there c =
    row_low c.args.image.now c.args.stack.now.layout c.requires.tables.prepared c.args.stack.now.region.items c.args.stack.now.rows.items c.args.r c.args.signal c.args.args c.requires.room.ample
    c.requires.raises.start c.requires.raises.store c.requires.raises.raises

pub wait-requires-clause-operands : goal.wait-requires-clause-operands
wait-requires-clause-operands c =
    operands_low c.args.image.now c.args.stack.now.layout c.requires.tables.prepared c.args.stack.now.region.items c.args.stack.now.rows.items c.args.r c.args.signal c.args.args c.requires.room.ample
    c.requires.raises.start c.requires.raises.store c.requires.raises.raises

pub around-first-requires-clause-read : goal.around-first-requires-clause-read
around-first-requires-clause-read c =
    raiser_read c.args.image.now c.args.stack.now.layout c.requires.tables.prepared c.args.stack.now.region.items c.args.stack.now.rows.items c.args.r c.args.signal c.args.args c.requires.room.ample c.wait.new.rows.items c.wait.ensures
    c.requires.raises.start c.requires.raises.store c.requires.raises.raises c.row_of.result c.row_of.ensures

pub seek_arm-requires-clause-seeks : goal.seek_arm-requires-clause-seeks
seek_arm-requires-clause-seeks c =
    can_seek c.args.image.now c.args.stack.now.layout c.requires.tables.prepared c.args.stack.now.region.items c.args.stack.now.rows.items c.args.r c.args.signal c.args.args c.requires.room.ample c.wait.new.rows.items c.wait.ensures
    c.requires.raises.start c.requires.raises.store c.requires.raises.raises c.row_of.result c.row_of.ensures c.around-first.result c.around-first.ensures.begins

pub returns-clause-arms : goal.returns-clause-arms
returns-clause-arms c holds =
    c.seek_arm.ensures.arms
    (arms_wait c.args.image.now c.args.stack.now.layout c.requires.tables.prepared c.args.stack.now.region.items c.args.stack.now.rows.items c.args.r c.args.signal c.args.args c.requires.room.ample c.wait.new.rows.items c.wait.ensures
    c.requires.raises.start c.requires.raises.store c.requires.raises.raises holds)

pub returns-clause-leads : goal.returns-clause-leads
returns-clause-leads c s m turns w =
    c.seek_arm.ensures.leads s (record m { turns = m.turns - 1 }) (ap (λ t. t - 1) turns)
    (then_seeks c.args.image.now c.args.stack.now.layout c.requires.tables.prepared c.args.stack.now.region.items c.args.stack.now.rows.items c.args.r c.args.signal c.args.args c.requires.room.ample c.wait.new.rows.items c.wait.ensures
    s m w c.row_of.result c.row_of.ensures c.around-first.result c.around-first.ensures.begins (λ none. c.if-turns-eq0.false (sym turns ∙ none)))
