-- What is bound: a tree in which every item stands for something, its modules with the bases of their files, and what its links are bound to.
use Rattle.std.specs.Prelude.{◌≡◌, ◌≢◌, ℕ, List, length, map, All, Result, Ok, Err}
use Rattle.std.specs.Str.{IsAscii}
use Rattle.mesa_types.specs.Plain.{plain}
use Rattle.mesa_types.specs.Typed.{Module}
use Rattle.config_rules.specs.Through.{Answer}
use Rattle.config_rules.specs.declared.tree.Tree.{Tree}
use Rattle.import_binder.specs.Bindings.{AreBindings}
use Rattle.spelled_trees.specs.Paths.{PathsAndRecords}
use Rattle.command_passes.specs.checked_texts.specs.Laws.{CanBeKept}
use Rattle.linked_objects.specs.linked_programs.specs.Laws.{IsOfShapes}
use Rattle.linked_objects.specs.linked_programs.specs.Modules.{shapes_of}
use Rattle.command_passes.specs.command_rules.specs.Case.{Case, Memory}
use Rattle.command_passes.specs.command_rules.specs.Configurations as rules
use Rattle.command_passes.specs.command_rules.specs.Configurations.{Configured, tree_in}
use Rattle.command_passes.specs.command_rules.specs.Passes.{Stops, Pass, given, and_then}
use Rattle.command_passes.specs.Stops.{stop_case}
use Rattle.command_passes.specs.declared.stop.Stop.{Stop}
use Rattle.command_sources.specs.declared.sources.BoundSource.{BoundSource}

abbrev pub configured : BoundSource → Configured
configured b = record { tree = b.tree; bases = b.bases; modules = map plain b.modules }

-- its files can be made
pub record IsBound (b : BoundSource) : Type 0 where
  pub of_shapes : IsOfShapes (shapes_of (map plain b.modules)) b.tree
  pub kept : All CanBeKept (map plain b.modules)
  pub named : PathsAndRecords b.tree
  pub its : AreBindings b.tree b.bindings
  pub plain_bases : All IsAscii b.bases
  pub as_many : length b.bases ≡ length b.modules

-- a tree of these modules in which every item binds
abbrev pub binding : (file : List ℕ) → (Answer Tree → Type 0) → (bases : List (List ℕ)) → List Module → Pass Case Configured
binding file is_tree bases modules = and_then (tree_in file is_tree) (λ t. given (record { tree = t; bases = bases; modules = modules }))

-- the first item that is bad ends the call, want of memory aside
abbrev pub IsBad : (file : List ℕ) → Tree → Stop → Type 0
IsBad file t why = stop_case why ≢ Memory → rules.Binds file t (Stops (stop_case why))

-- what is bound is this tree with these modules; or why nothing is
abbrev pub Binds : (file : List ℕ) → Tree → (bases : List (List ℕ)) → List Module → Result BoundSource Stop → Type 0
Binds file t bases modules (Ok b) = (configured b ≡ record { tree = t; bases = bases; modules = modules }) × IsBound b
Binds file t bases modules (Err why) = IsBad file t why
