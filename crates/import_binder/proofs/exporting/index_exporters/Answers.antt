use Rattle.std.proofs.Common.{List, [], ap, ◌∙◌}
use Rattle.config_rules.specs.declared.tree.Outgoing.{Outgoing}
use Rattle.import_binder.specs.Index.{indexed, mentions_in}
use Rattle.import_binder.proofs.Answered.{if_ok}
use Rattle.import_binder.proofs.exporting.index_exporters.Goals as goal

pub returns : goal.returns
returns c =
    if_ok c.index_of.result _ _
    (λ index h. h ∙ ap (λ (gs : List Outgoing). indexed [] (mentions_in c.args.tree.now gs)) (c.as_slice.ensures ∙ c.in_ok-entries.ensures))
    c.index_of.ensures
