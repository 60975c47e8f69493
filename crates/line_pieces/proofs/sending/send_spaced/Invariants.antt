use Rattle.std.proofs.Common.{◌≤◌, take, flat_map}
use Rattle.line_pieces.specs.Outputs.{stream, PrintsAll}
use Rattle.line_pieces.specs.Texts.{with_blank}
use Rattle.line_pieces.proofs.sending.send_spaced.Given as goal

abbrev pub invariant-loop-name : goal.invariant-loop-name
invariant-loop-name g l =
    PrintsAll (flat_map with_blank (take l.name-index l.names)) (stream (g.E.Sink.written l.initial.err) (g.E.Sink.faults l.initial.err))
    (stream (g.E.Sink.written l.err) (g.E.Sink.faults l.err))
    × (g.E.Sink.faults l.initial.err ≤ g.E.Sink.faults l.err)
