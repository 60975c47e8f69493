use Rattle.std.proofs.Common.{◌≡◌, sym, ◌∙◌}
use Rattle.mesa_types.specs.declared.faces.Shape.{Shape}
use Rattle.config_rules.specs.Grown.{shape_of}
use Rattle.config_tree.specs.Growing.{nameless}
use Rattle.config_tree.proofs.Growths.{shape_there}
use Rattle.config_tree.proofs.NotedShapes.{if_ok}
use Rattle.config_tree.proofs.growing.shape_of.Goals as goal

pub returns : goal.returns
returns c =
    let there = shape_there c.args.shapes.now c.args.component c.index-shapes-at.result c.index-shapes-at.result c.requires c.index-shapes-at.is in
    if_ok (λ (s : Shape). s ≡ c.index-shapes-at.result) (λ (s : Shape). s ≡ shape_of (nameless c.args.shapes.now) c.args.component) c.copy.result (λ s e. e ∙ sym there) c.copy.ensures
