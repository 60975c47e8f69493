use Rattle.std.proofs.Common.{◌≡◌, map, take}
use Rattle.mesa_types.specs.Plain.{plain}
use Rattle.code_rules.specs.Modules.{procedures_of}
use Rattle.code_blocks.specs.Modules.{procedure_code}
use Rattle.frame_code.specs.Rooms.{IsOf}
use Rattle.frame_code.proofs.procedures.procedures_in.Given as goal

abbrev pub invariant-loop-number : goal.invariant-loop-number
invariant-loop-number l = record {
  made : l.made ≡ take l.number (map (procedure_code (plain l.module)) (procedures_of (plain l.module)));
  routine : IsOf (plain l.module) l.routine;
}
