use Rattle.std.proofs.Common.{suc, refl, sym, subst}
use Rattle.machine_rules.specs.declared.end.End.TheVariants.{Spent as TurnsSpent}
use Rattle.machine_rules.specs.State.{Ended}
use Rattle.machine_rules.specs.Steps.{Ends}
use Rattle.machine_topmost.specs.declared.registers.Why.TheVariants.{BoundsFault, ZeroDivisor}
use Rattle.machine_activations.specs.declared.calling.Sequel.TheVariants.{Ends as EndsSo}
use Rattle.machine_activations.specs.Calling.{LeadsTo}
use Rattle.machine_calls.specs.declared.linking.LinkSequel.{LinkSequel}
use Rattle.machine_calls.specs.Linking.{IsAmpleForLink, LinkedTo}
use Rattle.frame_machine.specs.Happening.{CanPause, HoldsOnLink}
use Rattle.frame_machine.specs.SoFar.{PausesAt}
use Rattle.frame_machine.proofs.Pauses.{spent_ends, bounds_raises, divisor_raises}
use Rattle.frame_machine.proofs.Readying.{ready_then, tables_of}
use Rattle.frame_machine.proofs.Touches.{linked_by}
use Rattle.frame_machine.proofs.happening.happen.Goals as goal

pub touch-requires-clause-pauses : goal.touch-requires-clause-pauses
touch-requires-clause-pauses c = subst (λ w. CanPause c.args.image.now c.args.parts.now c.args.r.now w) c.in-Touches.is c.requires.pauses

pub returns-in-Touches-clause-leads : goal.returns-in-Touches-clause-leads
returns-in-Touches-clause-leads c s m turns marks free q =
    c.touch.ensures.leads s m turns marks free (subst (λ w. PausesAt c.args.image.now c.args.parts.now.stack.layout c.args.parts.now.stack.region.items c.args.parts.now.stack.rows.items c.args.r.now w s m) c.in-Touches.is q)

pub returns-in-Spent-clause-leads : goal.returns-in-Spent-clause-leads
unfolding LeadsTo
returns-in-Spent-clause-leads c s m turns marks free q =
    linked_by c.args.image.now c.args.parts.now.stack.layout c.args.parts.now.stack.region.items c.args.parts.now.stack.rows.items c.args.r.now c.args.parts.now.started.items c.args.parts.now.started.items s
    (record m { turns = c.args.turns.now; begun = suc m.begun }) (EndsSo TurnsSpent) refl marks
    (subst (λ t. Ends c.args.image.now s (Ended TurnsSpent) (record m { turns = t; begun = suc m.begun })) turns
    (spent_ends c.args.image.now c.args.parts.now.stack.layout c.args.parts.now.stack.region.items c.args.parts.now.stack.rows.items c.args.r.now s m (subst (λ w. PausesAt c.args.image.now c.args.parts.now.stack.layout c.args.parts.now.stack.region.items c.args.parts.now.stack.rows.items c.args.r.now w s m) c.in-Spent.is q)))

pub raise-sequel-requires-clause-raises : goal.raise-sequel-requires-clause-raises
raise-sequel-requires-clause-raises c =
    let p : CanPause c.args.image.now c.args.parts.now c.args.r.now BoundsFault = subst (λ w. CanPause c.args.image.now c.args.parts.now c.args.r.now w) c.in-BoundsFault.is c.requires.pauses in
    record { start = p.start; store = record p.store { begun = suc p.store.begun }; raises = bounds_raises c.args.image.now c.args.parts.now.stack.layout c.args.parts.now.stack.region.items c.args.parts.now.stack.rows.items c.args.r.now p.start p.store p.pauses }

pub returns-in-BoundsFault-clause-leads : goal.returns-in-BoundsFault-clause-leads
returns-in-BoundsFault-clause-leads c s m turns marks free q =
    subst (λ (l : LinkSequel). LinkedTo c.args.image.now c.raise-sequel.new.stack.layout c.raise-sequel.new.stack.region.items c.raise-sequel.new.stack.rows.items c.args.r.now c.args.parts.now.started.items s
    (record m { turns = c.raise-sequel.new.turns; begun = suc m.begun }) l) (sym c.settle.ensures)
    (linked_by c.args.image.now c.raise-sequel.new.stack.layout c.raise-sequel.new.stack.region.items c.raise-sequel.new.stack.rows.items c.args.r.now c.args.parts.now.started.items c.args.parts.now.started.items s
    (record m { turns = c.raise-sequel.new.turns; begun = suc m.begun }) c.raise-sequel.result refl marks
    (c.raise-sequel.ensures.leads s (record m { begun = suc m.begun }) turns
    (bounds_raises c.args.image.now c.args.parts.now.stack.layout c.args.parts.now.stack.region.items c.args.parts.now.stack.rows.items c.args.r.now s m (subst (λ w. PausesAt c.args.image.now c.args.parts.now.stack.layout c.args.parts.now.stack.region.items c.args.parts.now.stack.rows.items c.args.r.now w s m) c.in-BoundsFault.is q))))

pub raise-sequel-requires-in-ZeroDivisor-clause-raises : goal.raise-sequel-requires-in-ZeroDivisor-clause-raises
raise-sequel-requires-in-ZeroDivisor-clause-raises c =
    let p : CanPause c.args.image.now c.args.parts.now c.args.r.now ZeroDivisor = subst (λ w. CanPause c.args.image.now c.args.parts.now c.args.r.now w) c.in-ZeroDivisor.is c.requires.pauses in
    record { start = p.start; store = record p.store { begun = suc p.store.begun }; raises = divisor_raises c.args.image.now c.args.parts.now.stack.layout c.args.parts.now.stack.region.items c.args.parts.now.stack.rows.items c.args.r.now p.start p.store p.pauses }

pub returns-in-ZeroDivisor-clause-leads : goal.returns-in-ZeroDivisor-clause-leads
returns-in-ZeroDivisor-clause-leads c s m turns marks free q =
    subst (λ (l : LinkSequel). LinkedTo c.args.image.now c.raise-sequel-in-ZeroDivisor.new.stack.layout c.raise-sequel-in-ZeroDivisor.new.stack.region.items c.raise-sequel-in-ZeroDivisor.new.stack.rows.items c.args.r.now c.args.parts.now.started.items s
    (record m { turns = c.raise-sequel-in-ZeroDivisor.new.turns; begun = suc m.begun }) l) (sym c.settle-in-ZeroDivisor.ensures)
    (linked_by c.args.image.now c.raise-sequel-in-ZeroDivisor.new.stack.layout c.raise-sequel-in-ZeroDivisor.new.stack.region.items c.raise-sequel-in-ZeroDivisor.new.stack.rows.items c.args.r.now c.args.parts.now.started.items c.args.parts.now.started.items s
    (record m { turns = c.raise-sequel-in-ZeroDivisor.new.turns; begun = suc m.begun }) c.raise-sequel-in-ZeroDivisor.result refl marks
    (c.raise-sequel-in-ZeroDivisor.ensures.leads s (record m { begun = suc m.begun }) turns
    (divisor_raises c.args.image.now c.args.parts.now.stack.layout c.args.parts.now.stack.region.items c.args.parts.now.stack.rows.items c.args.r.now s m (subst (λ w. PausesAt c.args.image.now c.args.parts.now.stack.layout c.args.parts.now.stack.region.items c.args.parts.now.stack.rows.items c.args.r.now w s m) c.in-ZeroDivisor.is q))))

pub returns-in-BoundsFault-clause-ample : goal.returns-in-BoundsFault-clause-ample
returns-in-BoundsFault-clause-ample c =
    subst (λ (l : LinkSequel). IsAmpleForLink c.raise-sequel.new.stack.layout c.raise-sequel.new.stack.region.items c.raise-sequel.new.stack.rows.items c.args.r.now l) (sym c.settle.ensures)
    c.raise-sequel.ensures.room.ample

pub returns-in-BoundsFault-clause-arms : goal.returns-in-BoundsFault-clause-arms
returns-in-BoundsFault-clause-arms c =
    subst (λ (l : LinkSequel). HoldsOnLink c.args.image.now c.raise-sequel.new.stack.rows.items c.args.r.now l) (sym c.settle.ensures)
    (c.raise-sequel.ensures.arms c.requires.arms)

pub returns-in-ZeroDivisor-clause-ample : goal.returns-in-ZeroDivisor-clause-ample
returns-in-ZeroDivisor-clause-ample c =
    subst (λ (l : LinkSequel). IsAmpleForLink c.raise-sequel-in-ZeroDivisor.new.stack.layout c.raise-sequel-in-ZeroDivisor.new.stack.region.items c.raise-sequel-in-ZeroDivisor.new.stack.rows.items c.args.r.now l) (sym c.settle-in-ZeroDivisor.ensures)
    c.raise-sequel-in-ZeroDivisor.ensures.room.ample

pub returns-in-ZeroDivisor-clause-arms : goal.returns-in-ZeroDivisor-clause-arms
returns-in-ZeroDivisor-clause-arms c =
    subst (λ (l : LinkSequel). HoldsOnLink c.args.image.now c.raise-sequel-in-ZeroDivisor.new.stack.rows.items c.args.r.now l) (sym c.settle-in-ZeroDivisor.ensures)
    (c.raise-sequel-in-ZeroDivisor.ensures.arms c.requires.arms)

pub raise-sequel-requires-clause-tables : goal.raise-sequel-requires-clause-tables
raise-sequel-requires-clause-tables c = tables_of c.args.image.now c.args.parts.now c.requires.ready

pub raise-sequel-requires-in-ZeroDivisor-clause-tables : goal.raise-sequel-requires-in-ZeroDivisor-clause-tables
raise-sequel-requires-in-ZeroDivisor-clause-tables c = tables_of c.args.image.now c.args.parts.now c.requires.ready

pub returns-in-BoundsFault-clause-ready : goal.returns-in-BoundsFault-clause-ready
returns-in-BoundsFault-clause-ready c = ready_then c.args.image.now c.args.parts.now c.requires.ready c.raise-sequel.new.stack c.raise-sequel.result c.raise-sequel.ensures.room

pub returns-in-ZeroDivisor-clause-ready : goal.returns-in-ZeroDivisor-clause-ready
returns-in-ZeroDivisor-clause-ready c =
    ready_then c.args.image.now c.args.parts.now c.requires.ready c.raise-sequel-in-ZeroDivisor.new.stack c.raise-sequel-in-ZeroDivisor.result c.raise-sequel-in-ZeroDivisor.ensures.room
