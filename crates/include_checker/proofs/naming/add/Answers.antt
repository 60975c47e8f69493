use Rattle.std.proofs.Common.{sym, ◌∙◌}
use Rattle.include_checker.proofs.Rows.{stands}
use Rattle.include_checker.proofs.naming.add.Goals as goal

pub returns-else-is_left : goal.returns-else-is_left
returns-else-is_left c =
    stands c.args.row.now c.as_slice.result.now c.args.number c.in-Some.number c.as_slice.ensures c.in-Some.is (sym c.is_left.ensures ∙ c.if-is_left.false)
