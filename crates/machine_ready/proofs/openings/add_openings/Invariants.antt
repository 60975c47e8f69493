use Rattle.std.proofs.Common.{List, ◌++◌, take}
use Rattle.std.specs.List.{AllZip}
use Rattle.code_forms.specs.declared.module_code.Arm.{Arm}
use Rattle.machine_ready.specs.Openings.{IsOpening}
use Rattle.machine_ready.proofs.openings.add_openings.Given as goal

abbrev pub invariant-loop-arm : goal.invariant-loop-arm
invariant-loop-arm l = (before : List Arm) → AllZip (IsOpening l.code) before l.fn.openings
    → AllZip (IsOpening l.code) (before ++ take l.arm-index l.arms) l.openings
