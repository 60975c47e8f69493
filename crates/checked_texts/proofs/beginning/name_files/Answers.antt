use Rattle.std.proofs.Common.{rules, ◌∙◌}
use Rattle.checked_texts.proofs.Passing.{item_does, item_does_not, no_more_items}
use Rattle.checked_texts.proofs.beginning.name_files.Goals as goal

pub loop-item-preserved : goal.loop-item-preserved
loop-item-preserved c =
    c.loop-item.invariant ∙ item_does c.args.directory.now c.loop-item.item-index c.item-item.result (search rules) (search rules) (search rules)

pub returns : goal.returns
returns c = c.loop-item.invariant ∙ no_more_items c.args.directory.now c.loop-item.item-index (search rules)

pub returns-then-not-names_file : goal.returns-then-not-names_file
returns-then-not-names_file c =
    λ _. c.loop-item.invariant
    ∙ item_does_not c.args.directory.now c.loop-item.item-index c.item-item.result (search rules) (search rules) (search rules)
