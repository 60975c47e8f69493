use Rattle.line_pieces.specs.Outputs.{stream}
use Rattle.command_lines.proofs.Told.{number_told}
use Rattle.command_lines.proofs.causes.tell_number.Goals as goal

pub returns : goal.returns
returns g c =
    number_told c.args.file.now c.args.cause.now c.args.number
    (stream (g.E.Sink.written c.args.err.now) (g.E.Sink.faults c.args.err.now))
    (stream (g.E.Sink.written c.say_all.new.err) (g.E.Sink.faults c.say_all.new.err)) c.say_all.ensures
