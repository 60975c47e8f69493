-- What checking gives of a text with the built-in interface for each item of its DIRECTORY (rule of this project).
use Rattle.std.specs.Prelude.{◌≡◌, ℕ, ◌≤◌, List, replicate, IfOk}
use Rattle.std.specs.List.{All}
use Rattle.mesa_base.specs.declared.limits.TheConstants.{TREE_NODES}
use Rattle.mesa_types.specs.declared.faces.Import.{Import}
use Rattle.syntax_trees.specs.declared.syntax.Module.{Module}
use Rattle.mesa_types.specs.Nodes.{nodes}
use Rattle.syntax_trees.specs.PlainSyntax.{syntax}
use Rattle.mesa_types.specs.Sound.{Sound}
use Rattle.interface_records.specs.declared.interface.Interface.{Interface}
use Rattle.interface_records.specs.Faces.{SameFace, iodefs}
use Rattle.check_rules.specs.CheckedModule.{checked}
use Rattle.check_rules.specs.Typed as t
use Rattle.written_trees.specs.Laws.{IsTreeOf}

-- a module that can be translated and run by itself: it is sound, has so many nodes as a text can have and no more, and imports nothing
-- but the built-in interface
pub record StandsAlone (m : t.Module) : Type 0 where
  pub sound : Sound m
  pub few : nodes m ≤ TREE_NODES
  pub host : All (λ (i : Import). SameFace i.face iodefs.face) m.imports

-- the built-in interface, so many times
abbrev pub built_in : ℕ → List Interface
built_in count = replicate count iodefs

abbrev pub CheckedTextsStandAlone : Type 0
CheckedTextsStandAlone = (text : List ℕ) (x : Module) (count : ℕ) → IsTreeOf text x → IfOk (checked (syntax x) (built_in count)) StandsAlone
