use Rattle.frame_machine.proofs.HostSequels.{top_behind, carries_at, read_there, none_raises}
use Rattle.frame_machine.proofs.Onwards.{arm_waits}
use Rattle.frame_machine.proofs.Readying.{ready_then, tables_of}
use Rattle.frame_machine.proofs.hosting.read_then.Goals as goal

pub returns-in-Goes-clause-carries : goal.returns-in-Goes-clause-carries
returns-in-Goes-clause-carries c =
    carries_at c.args.image.now c.args.parts.now c.args.r c.in-Goes.after c.requires.ready c.requires.ample c.requires.arms
    (top_behind c.args.r c.requires.behind.0 c.args.sequel c.in-Goes.after c.in-Goes.is c.requires.behind.1)

pub returns-in-Goes-clause-leads : goal.returns-in-Goes-clause-leads
returns-in-Goes-clause-leads c s m turns reads =
    read_there c.args.image.now c.args.parts.now.stack.layout c.args.parts.now.stack.region.items c.args.parts.now.stack.rows.items c.args.r s m c.args.sequel reads c.in-Goes.after c.args.turns.now c.in-Goes.is turns

pub raise-requires-clause-raises : goal.raise-requires-clause-raises
raise-requires-clause-raises c = record {
  start = c.requires.reads.start;
  store = c.requires.reads.store;
  raises = none_raises c.args.image.now c.args.parts.now.stack.layout c.args.parts.now.stack.region.items c.args.parts.now.stack.rows.items c.args.r c.requires.reads.start c.requires.reads.store c.args.sequel
      c.requires.reads.reads c.in-NoInput.is;
}

pub returns-in-NoInput-clause-carries : goal.returns-in-NoInput-clause-carries
returns-in-NoInput-clause-carries c =
    record { ready = ready_then c.args.image.now c.args.parts.now c.requires.ready c.raise.new.stack c.raise.result c.raise.ensures.room; ample = c.raise.ensures.room.ample; arms = c.raise.ensures.arms c.requires.arms }

pub returns-in-NoInput-clause-waits_not : goal.returns-in-NoInput-clause-waits_not
returns-in-NoInput-clause-waits_not c = arm_waits c.raise.result c.raise.ensures.runs

pub returns-in-NoInput-clause-leads : goal.returns-in-NoInput-clause-leads
returns-in-NoInput-clause-leads c s m turns reads =
    c.raise.ensures.leads s m turns
    (none_raises c.args.image.now c.args.parts.now.stack.layout c.args.parts.now.stack.region.items c.args.parts.now.stack.rows.items c.args.r s m c.args.sequel reads c.in-NoInput.is)

pub raise-requires-clause-tables : goal.raise-requires-clause-tables
raise-requires-clause-tables c = tables_of c.args.image.now c.args.parts.now c.requires.ready
