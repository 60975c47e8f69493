use Rattle.std.proofs.Common.{sym, subst, arith}
use Rattle.signaller.specs.Tables.{IsCatchTable}
use Rattle.signaller_examples.proofs.Disjoint.{apart_table}
use Rattle.signaller_examples.proofs.tests.look_up.Goals as goal

pub index-requires : goal.index-requires
index-requires g c = record { table = subst IsCatchTable (sym c.in_ok-table.ensures) (apart_table 100 (omega arith)) }
