-- What is so of objects that came of files, and of the trees of their shapes (rule of this project).
use Rattle.std.specs.Prelude.{ℕ, List, All}
use Rattle.object_files.specs.declared.object.Object.{Object}
use Rattle.object_rules.specs.ModuleForms.{module_form}
use Rattle.object_rules.specs.Parts.{ModulePart}
use Rattle.config_rules.specs.declared.tree.Tree.{Tree}
use Rattle.linked_programs.specs.import_binder.specs.InOrder.{IsInOrder}
use Rattle.link_tables.specs.Parts.{shapes_of}
use Rattle.linked_programs.specs.Laws.{IsOfShapes}
use Rattle.linked_objects.specs.Filed.{IsFiled}

-- what the form of objects fits in some version it fits in version 2
abbrev pub VersionsFitTheSecond : Type 0
VersionsFitTheSecond = (version : ℕ) (m : ModulePart) → (module_form version).fits m → (module_form 2).fits m

-- a tree of the shapes of such objects can be bound
abbrev pub FiledTreesAreInOrder : Type 0
FiledTreesAreInOrder = (t : Tree) (objects : List Object) → IsOfShapes (shapes_of objects) t → All IsFiled objects → IsInOrder t
