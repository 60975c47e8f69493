use Rattle.std.proofs.Common.{◌≡◌, length}
use Rattle.machine_rules.specs.LookUps.{code_of}
use Rattle.machine_rules.specs.Steps.{globals_in}
use Rattle.machine_ready.proofs.Each.{EachOf}
use Rattle.machine_ready.proofs.globals.all_globals.Given as goal

abbrev pub invariant-loop-number : goal.invariant-loop-number
invariant-loop-number l = EachOf (λ j words. length words.items ≡ globals_in (code_of l.image j)) l.number l.globals.items
