use Rattle.std.proofs.Common.{length, refl, ap, ◌∙◌, arith}
use Rattle.machine_rules.specs.LookUps.{signals_bound}
use Rattle.machine_ready.proofs.Linked.{table_long, table_read, links_are}
use Rattle.machine_ready.proofs.links.links_of.Goals as goal

pub signals_bound-requires : goal.signals_bound-requires
signals_bound-requires c =
    let there = table_read c.args.image.now c.args.number c.as_slice.result.now c.index-as_slice-number.result c.as_slice.ensures c.requires.order c.requires.there c.index-as_slice-number.is in
    let long = table_long c.args.image.now c.requires.order c.args.number c.code_of-code.result.now c.index-as_slice-number.result c.code_of-code.ensures there in
    let one = ap length c.as_slice-2.ensures in let two = ap length c.as_slice-table.ensures in omega (arith, long, one, two)

pub returns : goal.returns
returns c =
    let there = table_read c.args.image.now c.args.number c.as_slice.result.now c.index-as_slice-number.result c.as_slice.ensures c.requires.order c.requires.there c.index-as_slice-number.is in
    links_are c.args.image.now c.args.number c.code_of-code.result.now c.index-as_slice-number.result _ c.code_of-code.ensures there refl
    (c.in_ok-signals_bound.ensures ∙ ap (λ l. signals_bound l c.as_slice-table.result.now) c.as_slice-2.ensures
    ∙ ap (λ t. signals_bound c.code_of-code.result.now.links t) c.as_slice-table.ensures)
