use Rattle.std.proofs.Common.{◌-◌, sym, ◌∙◌}
use Rattle.std.proofs.lemmas.Option.{same_Some}
use Rattle.machine_activations.specs.Calling.{LeadsTo}
use Rattle.machine_rules.specs.Calls.{call}
use Rattle.machine_calls.proofs.LinkGoes.{spends_none, spends_one, framed}
use Rattle.machine_calls.proofs.linking.start_first.Goals as goal

pub returns-then-turns-eq0-clause-leads : goal.returns-then-turns-eq0-clause-leads
unfolding LeadsTo
returns-then-turns-eq0-clause-leads c b s m turns reaches =
    spends_none c.args.image.now s m (λ m1. call c.args.instance 0 b.body b.enters.top b.enters.rest m1) c.args.turns.now reaches turns c.if-turns-eq0.true

pub returns-clause-leads : goal.returns-clause-leads
returns-clause-leads c b s m turns reaches =
    framed c.args.image.now c.args.stack.now.layout c.args.stack.now.region.items c.args.stack.now.rows.items c.args.r c.args.instance 0 b.body c.procedure_of-body.result.now
    (same_Some b.body c.procedure_of-body.result.now (sym b.enters.is ∙ c.procedure_of-body.ensures)) b.enters
    (λ s m. LeadsTo c.args.image.now c.add_frame.new.stack.layout c.add_frame.new.stack.region.items c.add_frame.new.stack.rows.items s m c.add_frame.result)
    (λ e s m reaches. c.add_frame.ensures.leads c.args.image.now c.requires.prepared e s m reaches) s (record m { turns = c.args.turns.now - 1 })
    (spends_one c.args.image.now s m (λ m1. call c.args.instance 0 b.body b.enters.top b.enters.rest m1) c.args.turns.now reaches turns c.if-turns-eq0.false)
