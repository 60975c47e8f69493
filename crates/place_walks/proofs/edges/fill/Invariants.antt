use Rattle.std.proofs.Common.{take}
use Rattle.place_walks.specs.Edges.{Holds, SameCells}
use Rattle.place_walks.proofs.edges.fill.Given as goal

abbrev pub invariant-loop-edge : goal.invariant-loop-edge
invariant-loop-edge l = record { holds : Holds l.table (take l.edge-index l.edges); cells : SameCells l.initial.table l.table }
