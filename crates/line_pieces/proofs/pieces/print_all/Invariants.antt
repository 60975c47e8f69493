use Rattle.std.proofs.Common.{◌≤◌, take}
use Rattle.line_pieces.specs.Joined.{joined}
use Rattle.line_pieces.specs.Outputs.{stream, PrintsAll}
use Rattle.line_pieces.proofs.pieces.print_all.Given as goal

abbrev pub invariant-loop-piece : goal.invariant-loop-piece
invariant-loop-piece g l =
    PrintsAll (joined (take l.piece-index l.pieces)) (stream (g.E.Sink.written l.initial.out) (g.E.Sink.faults l.initial.out)) (stream (g.E.Sink.written l.out) (g.E.Sink.faults l.out))
    × (g.E.Sink.faults l.initial.out ≤ g.E.Sink.faults l.out)
