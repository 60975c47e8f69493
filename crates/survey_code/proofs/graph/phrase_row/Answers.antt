use Rattle.std.proofs.Common.{◌+◌, length, ap, subst, ◌∙◌, arith}
use Rattle.std.specs.Prelude.{option_map}
use Rattle.survey_code.specs.Leads.{AreStarts}
use Rattle.survey_code.proofs.Building.{few, phrase_lists}
use Rattle.survey_code.proofs.graph.phrase_row.Goals as goal

pub phrase_node-requires : goal.phrase_node-requires
phrase_node-requires c = let f = few c.args.procedure.now.code c.requires in let e = ap length c.as_slice-entries.ensures in omega (arith, f, e)

pub returns : goal.returns
returns c =
    let p = c.args.procedure.now in
    phrase_lists p c.args.arms.now c.in_ok-row.row c.add.new.row c.args.beyond c.phrase_node.result
    (subst (λ xs. AreStarts xs c.args.arms.now c.in_ok-row.row) c.as_slice-entries.ensures c.in_ok-row.ensures) c.in_ok-add.ensures
    (c.phrase_node.ensures ∙ ap (λ xs. option_map (λ n. length xs + n) c.args.beyond) c.as_slice-entries.ensures)
