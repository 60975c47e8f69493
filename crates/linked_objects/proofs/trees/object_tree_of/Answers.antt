-- The copies of the shapes have the answer of the objects' own.
use Rattle.std.proofs.Common.{length}
use Rattle.cmesa_grammar.specs.Plain.{plain}
use Rattle.config_rules.specs.Components.{components}
use Rattle.link_tables.specs.Parts.{shapes_of}
use Rattle.linked_programs.proofs.Answering.{tree_of_shapes}
use Rattle.linked_objects.proofs.Copies.{long_enough}
use Rattle.linked_objects.proofs.trees.object_tree_of.Goals as goal

pub returns-clause-of_shapes : goal.returns-clause-of_shapes
returns-clause-of_shapes c =
    let config = plain c.args.config.now in
    let shapes = c.in_ok-shapes.shapes in
    tree_of_shapes config shapes (shapes_of c.args.objects.now) c.in_ok-shapes.ensures
    (long_enough c.args.objects.now shapes (length (components config)) c.in_ok-shapes.ensures c.requires.one_each) c.expand-tree.result c.expand-tree.ensures.tree
