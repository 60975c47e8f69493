use Rattle.line_pieces.specs.Outputs.{stream}
use Rattle.line_pieces.proofs.Received.{receives-so}
use Rattle.line_pieces.proofs.pieces.say_all.Goals as goal

pub returns : goal.returns
returns g c =
    receives-so (stream (g.E.Sink.written c.args.err.now) (g.E.Sink.faults c.args.err.now))
    (stream (g.E.Sink.written c.print_all.new.out) (g.E.Sink.faults c.print_all.new.out)) _ c.print_all.result
    c.print_all.ensures.whole c.print_all.ensures.cut c.print_all.ensures.fault
