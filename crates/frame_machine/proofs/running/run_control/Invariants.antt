use Rattle.std.proofs.Common.{◌-◌, ◌≤◌, drop}
use Rattle.machine_activations.specs.declared.calling.Sequel.TheVariants.{Empty}
use Rattle.mesa_base.specs.Asked.{Asked}
use Rattle.machine_calls.specs.Hosting.{vain_by}
use Rattle.machine_ready.specs.Ready.{IsReady}
use Rattle.frame_machine.specs.SoFar.{At, SoFar}
use Rattle.frame_machine.proofs.running.run_control.Given as goal

abbrev pub invariant-loop-instance : goal.invariant-loop-instance
invariant-loop-instance g l = record {
  ready : IsReady l.image l.parts;
  counted : l.fn.steps ≤ l.steps;
  so : SoFar l.image l.turns l.parts (drop l.instance-index l.image.control) l.remaining.turns (l.steps - l.fn.steps) l.remaining.ahead (g.S.Source.left l.fn.input) (g.S.Source.left l.input)
      (g.K.Sink.written l.fn.out) (g.K.Sink.written l.out) (At l.image l.parts Empty);
  asked : Asked (g.S.Source.left l.fn.input) (g.S.Source.left l.input) (g.S.Source.calls l.fn.input) (g.S.Source.calls l.input) (vain_by l.remaining.ahead);
  source_stays : g.S.Source.faults l.fn.input ≤ g.S.Source.faults l.input;
  sink_stays : g.K.Sink.faults l.fn.out ≤ g.K.Sink.faults l.out;
}
