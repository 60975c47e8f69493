use Rattle.std.proofs.Common.{find, sym, ap, ◌∙◌}
use Rattle.include_rules.specs.Naming.{is_left}
use Rattle.include_checker.proofs.Taking.{row_at, no_row}
use Rattle.include_checker.proofs.left.first_left.Goals as goal

pub returns-in-Some : goal.returns-in-Some
returns-in-Some c =
    c.first_of.ensures ∙ ap (find (is_left c.args.taken.now)) (c.as_slice.ensures ∙ sym (row_at c.args.names.now c.args.text c.in-Some.row.now (sym c.in-Some.ensures)))

pub returns-in-None : goal.returns-in-None
returns-in-None c = ap (find (is_left c.args.taken.now)) (sym (no_row c.args.names.now c.args.text (sym c.in-None.ensures)))
