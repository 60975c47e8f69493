use Rattle.std.proofs.Common.{true, length-set, refl, arith}
use Rattle.std.specs.Vec.{with_item}
use Rattle.machine_ready.proofs.Preparing.{ready_is_prepared}
use Rattle.machine_ready.proofs.Running.{ready_can_run}
use Rattle.frame_machine.proofs.Readying.{ready_marked}
use Rattle.frame_machine.proofs.Starts.{code_there, holds_first, started_then}
use Rattle.frame_machine.proofs.running.start.Goals as goal

pub code_of-code-requires : goal.code_of-code-requires
code_of-code-requires c = code_there c.args.image.now c.args.instance c.requires.ready.order c.requires.there

pub begin-requires-clause-code : goal.begin-requires-clause-code
begin-requires-clause-code c = record {
  image = c.args.image.now;
  prepared = ready_is_prepared c.args.image.now c.args.parts.now c.requires.ready;
  instance = c.args.instance;
  is = c.code_of-code.ensures;
}

pub returns-clause-carries : goal.returns-clause-carries
returns-clause-carries c = record {
  ready = ready_marked c.args.image.now c.args.parts.now c.requires.ready (with_item c.args.parts.now.started c.args.instance true) (length-set c.args.parts.now.started.items c.args.instance true)
      c.begin.new.stack c.begin.result c.begin.ensures.room;
  ample = c.begin.ensures.room.ample;
  arms = holds_first c.args.image.now c.args.parts.now.stack.rows.items c.begin.new.stack.rows.items c.begin.result c.begin.ensures.adds;
}

pub returns-clause-starts : goal.returns-clause-starts
returns-clause-starts c =
    started_then c.args.image.now (ready_can_run c.args.image.now c.args.parts.now c.requires.ready) c.args.parts.now
    (record c.args.parts.now { started = with_item c.args.parts.now.started c.args.instance true; stack = c.begin.new.stack }) c.args.instance c.args.turns.now c.begin.new.turns c.begin.result
    (let t = c.requires.there in let l = c.requires.ready.started in omega (arith, t, l)) c.requires.unmarked refl refl
    (λ s m turns reaches. c.begin.ensures.leads c.args.image.now (ready_is_prepared c.args.image.now c.args.parts.now c.requires.ready) c.code_of-code.ensures s m turns reaches)
