use Rattle.std.proofs.Common.{suc, ◌-◌, refl, subst, ◌∙◌}
use Rattle.machine_rules.specs.declared.end.End.TheVariants.{Spent}
use Rattle.machine_rules.specs.State.{Ended}
use Rattle.machine_rules.specs.Steps.{Ends}
use Rattle.machine_activations.specs.Calling.{LeadsTo}
use Rattle.machine_calls.specs.Linking.{LinkLeads}
use Rattle.machine_calls.proofs.LinkLeads.{calls_link_there, calls_link_at, link_spent, link_reaches, fetched_there}
use Rattle.machine_calls.proofs.linking.call_link.Goals as goal

pub returns-then-turns-eq0-clause-leads : goal.returns-then-turns-eq0-clause-leads
unfolding LinkLeads LeadsTo
returns-then-turns-eq0-clause-leads c s m turns marks shown = record {
  started = m.started;
  shown = marks;
  leads = subst (λ t. Ends c.args.image.now s (Ended Spent) (record m { turns = t; begun = suc m.begun })) turns
      (link_spent c.args.image.now c.args.stack.now.layout c.requires.prepared c.args.stack.now.region.items c.args.stack.now.rows.items c.args.r shown.procedure shown.top shown.rest shown.shows c.args.number c.requires.at.at.entry
      (fetched_there c.args.image.now c.args.stack.now.layout c.requires.prepared c.args.stack.now.region.items c.args.stack.now.rows.items c.args.r c.args.number c.requires.at s m shown) c.requires.at.at.at m s shown.reaches (turns ∙ c.if-turns-eq0.true));
}

pub call_bound-requires-clause-calls : goal.call_bound-requires-clause-calls
call_bound-requires-clause-calls c =
    calls_link_there c.args.image.now c.args.stack.now.layout c.requires.prepared c.args.stack.now.region.items c.args.stack.now.rows.items c.args.r c.args.number c.requires.at c.requires.stands.start c.requires.stands.store c.requires.stands.shown

pub returns-clause-leads : goal.returns-clause-leads
unfolding calls_link_at
returns-clause-leads c s m turns marks shown =
    c.call_bound.ensures.leads (calls_link_at c.args.image.now c.args.stack.now.layout c.requires.prepared c.args.stack.now.region.items c.args.stack.now.rows.items c.args.r shown.procedure shown.top shown.rest shown.shows c.args.number c.requires.at.at.entry (fetched_there c.args.image.now c.args.stack.now.layout c.requires.prepared c.args.stack.now.region.items c.args.stack.now.rows.items c.args.r c.args.number c.requires.at s m shown) c.requires.at.at.at)
    s (record m { turns = c.args.turns.now - 1; begun = suc m.begun }) refl marks
    (link_reaches c.args.image.now c.args.stack.now.layout c.requires.prepared c.args.stack.now.region.items c.args.stack.now.rows.items c.args.r shown.procedure shown.top shown.rest shown.shows c.args.number c.requires.at.at.entry
    (fetched_there c.args.image.now c.args.stack.now.layout c.requires.prepared c.args.stack.now.region.items c.args.stack.now.rows.items c.args.r c.args.number c.requires.at s m shown) c.requires.at.at.at m s shown.reaches c.args.turns.now turns c.if-turns-eq0.false)
