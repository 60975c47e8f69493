-- The line names a signal by the machine's own path and name.
use Rattle.std.proofs.Common.{Some, ap, sym, ◌∙◌}
use Rattle.mesa_command.proofs.Ending.{instance_there, own_shown}
use Rattle.mesa_command.proofs.running.uncaught_signal.Goals as goal

pub path-requires : goal.path-requires
path-requires c = instance_there c.args.machine.now c.in-Own.instance c.in-Own.number (rw c.in-Own.is at c.requires)

pub returns-in-Own : goal.returns-in-Own
returns-in-Own c =
    rw c.in-Own.is
    (own_shown c.args.machine.now c.in-Own.instance c.in-Own.number c.as_slice.result.now c.bytes.result.now
    (c.path.ensures ∙ ap Some (sym c.as_slice.ensures)) (c.signal_name.ensures ∙ ap Some (sym c.bytes.ensures)))
