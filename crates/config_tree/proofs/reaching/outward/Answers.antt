use Rattle.std.proofs.Common.{List, ℕ, Some, ap, ◌∙◌}
use Rattle.config_tree.specs.Going.{entry_at}
use Rattle.config_tree.specs.Outward.{step_shown}
use Rattle.config_tree.proofs.Pairs.{next_outward}
use Rattle.config_tree.proofs.reaching.outward.Goals as goal

pub returns-in_ok-copy-in-Goes : goal.returns-in_ok-copy-in-Goes
unfolding step_shown
returns-in_ok-copy-in-Goes c =
    ap (λ (r : List ℕ). Some (entry_at c.args.entry.now.exporter (record { scope = c.in-Goes.around; record_name = r }))) c.in_ok-copy-in-Goes.ensures
    ∙ next_outward c.args.records.now c.args.tree.now c.args.entry.now c.requires _ c.in-Goes.ensures

pub returns-in-Stays : goal.returns-in-Stays
unfolding step_shown
returns-in-Stays c = next_outward c.args.records.now c.args.tree.now c.args.entry.now c.requires _ c.in-Stays.ensures

pub returns-in-Leaves : goal.returns-in-Leaves
unfolding step_shown
returns-in-Leaves c = next_outward c.args.records.now c.args.tree.now c.args.entry.now c.requires _ c.in-Leaves.ensures
