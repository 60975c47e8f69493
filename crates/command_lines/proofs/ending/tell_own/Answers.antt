use Rattle.line_pieces.specs.Outputs.{stream}
use Rattle.command_lines.proofs.Told.{own_told}
use Rattle.command_lines.proofs.ending.tell_own.Goals as goal

pub returns : goal.returns
returns g c =
    own_told c.args.path.now c.args.name.now
    (stream (g.E.Sink.written c.args.err.now) (g.E.Sink.faults c.args.err.now))
    (stream (g.E.Sink.written c.say_all.new.err) (g.E.Sink.faults c.say_all.new.err)) c.say_all.ensures
