-- The copies of the shapes have the answer of the modules' own.
use Rattle.std.proofs.Common.{map, length}
use Rattle.mesa_types.specs.Plain.{plain}
use Rattle.cmesa_grammar.specs.Plain as grammar
use Rattle.config_rules.specs.Components.{components}
use Rattle.linked_programs.specs.Modules.{shapes_of}
use Rattle.linked_programs.proofs.Answering.{tree_of_shapes}
use Rattle.linked_programs.proofs.Copying.{long_enough}
use Rattle.linked_programs.proofs.trees.config_tree_of.Goals as goal

pub returns-clause-of_shapes : goal.returns-clause-of_shapes
returns-clause-of_shapes c =
    let config = grammar.plain c.args.config.now in
    let shapes = c.in_ok-shapes.shapes in
    tree_of_shapes config shapes (shapes_of (map plain c.args.modules.now)) c.in_ok-shapes.ensures
    (long_enough c.args.modules.now shapes (length (components config)) c.in_ok-shapes.ensures c.requires.one_each) c.expand-tree.result c.expand-tree.ensures.tree
