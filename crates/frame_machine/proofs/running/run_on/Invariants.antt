use Rattle.std.proofs.Common.{◌+◌, ◌-◌, ◌*◌, ◌≤◌, Ok}
use Rattle.machine_calls.specs.Hosting.{AsksOn, vain_by}
use Rattle.frame_machine.specs.Onward.{Follows, waits}
use Rattle.frame_machine.specs.SoFar.{At, Carries}
use Rattle.frame_machine.proofs.Onwards.{still_most}
use Rattle.frame_machine.proofs.running.run_on.Given as goal

abbrev pub invariant-running : goal.invariant-running
invariant-running g l = record {
  counted : l.fn.steps ≤ l.steps;
  carries : Carries l.image l.parts l.sequel;
  follows : Follows l.image l.fn.parts l.parts l.fn.remaining.turns l.remaining.turns (l.steps - l.fn.steps) l.fn.remaining.ahead l.remaining.ahead (g.S.Source.left l.fn.input) (g.S.Source.left l.input)
      (g.K.Sink.written l.fn.out) (g.K.Sink.written l.out) (At l.image l.fn.parts l.fn.first) (Ok l.sequel);
  asks : AsksOn l.fn.remaining.ahead (g.S.Source.left l.fn.input) (g.S.Source.left l.input) (g.S.Source.calls l.fn.input) (g.S.Source.calls l.input) (vain_by l.remaining.ahead);
  source_stays : g.S.Source.faults l.fn.input ≤ g.S.Source.faults l.input;
  sink_stays : g.K.Sink.faults l.fn.out ≤ g.K.Sink.faults l.out;
}

abbrev pub decreases-running : goal.decreases-running
decreases-running g l = 2 * still_most l.image l.fn.steps l.steps + waits l.sequel
