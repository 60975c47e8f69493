-- The globals of a module have room.
use Rattle.std.proofs.Common.{List, ap, ◌∙◌}
use Rattle.mesa_types.specs.declared.types.FieldType.{FieldType}
use Rattle.mesa_types.specs.Plain.{kinds_of, plain}
use Rattle.frame_code.proofs.BodyRooms.{globals_alone, globals_fit, nothing_laid}
use Rattle.frame_code.proofs.procedures.routine_of.Goals as goal

pub new-requires-2 : goal.new-requires-2
new-requires-2 c =
    globals_fit (plain c.args.«module».now) c.requires (kinds_of c.as_slice.result.now) (ap (λ (l : List FieldType). kinds_of l) c.as_slice.ensures)

pub new-requires-3 : goal.new-requires-3
new-requires-3 c = nothing_laid

pub returns : goal.returns
returns c = record {
  imports = c.in_ok-new.ensures;
  globals = c.in_ok-new-2.ensures ∙ globals_alone (kinds_of c.as_slice.result.now) ∙ ap (λ (l : List FieldType). kinds_of l) c.as_slice.ensures;
}
