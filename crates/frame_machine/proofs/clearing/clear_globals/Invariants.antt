use Rattle.frame_machine.proofs.Cleared.{ClearedUpTo}
use Rattle.frame_machine.proofs.clearing.clear_globals.Given as goal

abbrev pub invariant-loop-instance : goal.invariant-loop-instance
invariant-loop-instance l = ClearedUpTo l.instance l.fn.globals.items l.globals.items
