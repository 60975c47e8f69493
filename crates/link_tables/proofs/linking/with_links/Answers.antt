use Rattle.std.proofs.Common.{List, [], ap, ◌∙◌}
use Rattle.config_rules.specs.declared.tree.Binding.{Binding}
use Rattle.link_tables.specs.Passes.{tables, all_tables}
use Rattle.link_tables.proofs.Gathering.{if_ok}
use Rattle.link_tables.proofs.WholeImage.{whole}
use Rattle.link_tables.proofs.linking.with_links.Goals as goal

pub returns-in-Ok : goal.returns-in-Ok
returns-in-Ok c =
    if_ok c.joined.result _ _
    (λ image h.
    whole c.args.objects.items c.args.tree.now c.args.plain c.in-Ok.linked image c.requires.tree c.requires.plain
    (c.in-Ok.ensures ∙ ap (λ (bs : List (List Binding)). all_tables bs (tables [] []) c.args.tree.now.instances) c.requires.bindings) h)
    c.joined.ensures
