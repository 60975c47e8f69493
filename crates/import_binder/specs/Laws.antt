-- What is so of the index of each tree in order.
use Rattle.std.specs.Prelude.{List, [], Contains}
use Rattle.mesa_types.specs.declared.faces.Shape.{Shape}
use Rattle.config_rules.specs.declared.tree.Tree.{Tree}
use Rattle.config_rules.specs.InOrder.{ShapeInOrder, TreeIn}
use Rattle.config_rules.specs.Outgoing.{outgoing}
use Rattle.import_binder.specs.Exporting.{HoldsExporters}
use Rattle.import_binder.specs.InOrder.{IsInOrder, EachGivesOnce}
use Rattle.import_binder.specs.Index.{indexed, mentions_in}

abbrev pub IndexHoldsExporters : Type 0
IndexHoldsExporters = (t : Tree) → IsInOrder t → HoldsExporters t (indexed [] (mentions_in t (outgoing t)))

-- in a tree of shapes in order no export gives an item of one name twice
abbrev pub TreesGiveOnce : Type 0
TreesGiveOnce = (shapes : List Shape) (t : Tree) → ((s : Shape) → Contains shapes s → ShapeInOrder s) → TreeIn shapes t → EachGivesOnce t
