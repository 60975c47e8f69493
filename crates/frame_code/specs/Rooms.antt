-- What the translation of a procedure stands on (rule of this project).
use Rattle.std.specs.Prelude.{◌≡◌, ◌+◌, ◌≤◌}
use Rattle.mesa_types.specs.Counts.{hidden}
use Rattle.mesa_types.specs.Typed.{Module, Procedure}
use Rattle.code_rules.specs.Modules.{words_of_fields}
use Rattle.code_rules.specs.Reading.{Coded, scratch}
use Rattle.code_blocks.specs.Translation.{block}
use Rattle.code_bodies.specs.code_trees.specs.Excess.{excess}
use Rattle.code_bodies.specs.code_trees.specs.Routines.{kinds_laid}
use Rattle.code_bodies.specs.code_trees.specs.declared.routine.Routine.{Routine}
use Rattle.code_writer.specs.Bounds.{CanBeWritten}

-- the words of a procedure's parameters, results and frame have 16 bits, each number of its block has the bits of its type, and what is
-- written of the block is short and shallow enough
pub record HasRoom (P : Coded) (p : Procedure) : Type 0 where
  pub takes : words_of_fields p.head.takes ≤ 65535
  pub gives : words_of_fields p.head.gives ≤ 65535
  pub frame : scratch P + 16 + hidden p.body.does ≤ 65535
  pub fits : excess (block P (scratch P + 16) p.body.does) ≡ 0
  pub bounds : CanBeWritten (block P (scratch P + 16) p.body.does)

-- the routine has the links and the globals of the module
pub record IsOf (m : Module) (r : Routine) : Type 0 where
  pub imports : r.links.imports.now ≡ m.imports
  pub globals : kinds_laid r.globals ≡ m.globals
