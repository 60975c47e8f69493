-- What `bind` has read: a tree in which every item stands for something, the objects of its components, and what its links are bound to.
use Rattle.std.specs.Prelude.{◌≡◌, ℕ, List, map, All, Result, Ok, Err}
use Rattle.object_files.specs.declared.object.Object.{Object}
use Rattle.object_rules.specs.Parts.{ModulePart, parts_of}
use Rattle.config_rules.specs.Through.{Answer}
use Rattle.config_rules.specs.declared.tree.Tree.{Tree}
use Rattle.import_binder.specs.Bindings.{AreBindings}
use Rattle.link_tables.specs.Parts.{shapes_of}
use Rattle.spelled_trees.specs.Paths.{PathsAndRecords}
use Rattle.linked_objects.specs.linked_programs.specs.Laws.{IsOfShapes}
use Rattle.linked_objects.specs.Filed.{IsFiled}
use Rattle.command_passes.specs.command_rules.specs.Binding.{Bound}
use Rattle.command_passes.specs.command_rules.specs.Case.{Case}
use Rattle.command_passes.specs.command_rules.specs.Configurations.{tree_in}
use Rattle.command_passes.specs.command_rules.specs.Passes.{Pass, given, and_then}
use Rattle.command_passes.specs.declared.stop.Stop.{Stop}
use Rattle.command_sources.specs.Bound.{IsBad}
use Rattle.command_sources.specs.declared.objects.BoundObjects.{BoundObjects}

abbrev pub parts_in : List Object → List ModulePart
parts_in objects = map parts_of objects

abbrev pub bound : BoundObjects → Bound
bound b = record { tree = b.tree; parts = parts_in b.objects.items }

-- its image can be linked
pub record CanBeLinked (b : BoundObjects) : Type 0 where
  pub of_shapes : IsOfShapes (shapes_of b.objects.items) b.tree
  pub filed : All IsFiled b.objects.items
  pub named : PathsAndRecords b.tree
  pub its : AreBindings b.tree b.bindings

-- a tree of such parts in which every item binds
abbrev pub binding : (file : List ℕ) → (Answer Tree → Type 0) → List ModulePart → Pass Case Bound
binding file is_tree parts = and_then (tree_in file is_tree) (λ t. given (record { tree = t; parts = parts }))

-- what is bound is this tree with these objects; or why nothing is
abbrev pub Binds : (file : List ℕ) → Tree → List Object → Result BoundObjects Stop → Type 0
Binds file t objects (Ok b) = (bound b ≡ record { tree = t; parts = parts_in objects }) × CanBeLinked b
Binds file t objects (Err why) = IsBad file t why
