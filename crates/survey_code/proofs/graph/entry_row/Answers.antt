use Rattle.std.proofs.Common.{◌+◌, length, ap, subst, ◌∙◌, arith}
use Rattle.std.specs.Prelude.{option_map}
use Rattle.survey_code.specs.Leads.{goal_of, IsGoal}
use Rattle.survey_code.proofs.Building.{few, entry_lists}
use Rattle.survey_code.proofs.graph.entry_row.Goals as goal

pub ahead_of-requires : goal.ahead_of-requires
ahead_of-requires c = let f = few c.args.procedure.now.code c.requires.order in let l = c.requires.within in omega (arith, f, l)

pub phrase_node-requires : goal.phrase_node-requires
phrase_node-requires c = let f = few c.args.procedure.now.code c.requires.order in let e = ap length c.as_slice-entries.ensures in omega (arith, f, e)

pub returns : goal.returns
returns c =
    let p = c.args.procedure.now in
    let i = c.args.entry.instruction in
    entry_lists c.args.code.now p c.args.number c.args.entry.at i c.new-row.result c.add.new.row c.add-2.new.row c.add-3.new.row c.ahead_of.result c.jump_of.result c.phrase_node.result
    c.new-row.ensures c.in_ok-add.ensures c.in_ok-add-2.ensures c.in_ok-add-3.ensures (c.ahead_of.ensures p)
    (subst (λ xs. IsGoal xs (goal_of i) c.jump_of.result) c.as_slice-entries.ensures c.jump_of.ensures)
    (c.phrase_node.ensures ∙ ap (λ xs. option_map (λ n. length xs + n) c.args.position) c.as_slice-entries.ensures ∙ ap (option_map (λ n. length p.code + n)) c.requires.position)
