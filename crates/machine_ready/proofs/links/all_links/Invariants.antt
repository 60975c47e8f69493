use Rattle.std.proofs.Common.{◌≡◌}
use Rattle.machine_rules.specs.LookUps.{links_of}
use Rattle.machine_ready.proofs.Each.{EachOf}
use Rattle.machine_ready.proofs.links.all_links.Given as goal

abbrev pub invariant-loop-number : goal.invariant-loop-number
invariant-loop-number l = EachOf (λ j links. links ≡ links_of l.image j) l.number l.links
