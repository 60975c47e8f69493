-- The numbers of the code that is chosen for a sound module have the bytes that files have for them (rule of this project).
use Rattle.std.specs.Prelude.{◌≡◌, ◌≤◌}
use Rattle.mesa_base.specs.declared.limits.TheConstants.{TREE_NODES}
use Rattle.mesa_types.specs.Nodes.{nodes}
use Rattle.mesa_types.specs.Sound.{Sound}
use Rattle.mesa_types.specs.Typed.{Module}
use Rattle.code_forms.specs.declared.module_code.ModuleCode.{ModuleCode}
use Rattle.code_blocks.specs.Modules.{Parts, module_code}
use Rattle.code_limits.specs.Few.{FewLinksAndArms}
use Rattle.built_files.specs.Objects.{NumbersInBytes}

-- the parts of a code; `frame_code` says of the code that it gives that these are the ones chosen for the module
abbrev pub code_parts : ModuleCode → Parts
code_parts c = record {
  name = c.name;
  globals = c.global_words;
  signals = c.signals;
  strings = c.strings;
  links = c.links;
  procedures = c.procedures;
}

-- where four bytes count its links, and two the arms that each jump leaves, which soundness does not limit
abbrev pub ChosenCodesAreInBytes : Type 0
ChosenCodesAreInBytes = (m : Module) (c : ModuleCode) → Sound m → nodes m ≤ TREE_NODES → code_parts c ≡ module_code m → FewLinksAndArms c.links c.procedures → NumbersInBytes c
