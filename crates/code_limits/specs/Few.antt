-- What soundness does not limit of a code (rule of this project): how many links a module has, and how many arms a jump leaves.
use Rattle.std.specs.Prelude.{ℕ, ◌<◌, ◌^◌, List, length, All}
use Rattle.code_forms.specs.declared.instruction.Instruction.{Instruction}
use Rattle.code_forms.specs.declared.instruction.Instruction.TheVariants.{Leave, LeaveReturn}
use Rattle.code_forms.specs.declared.module_code.CodeEntry.{CodeEntry}
use Rattle.code_forms.specs.declared.module_code.CodeLink.{CodeLink}
use Rattle.code_forms.specs.declared.module_code.CodeProcedure.{CodeProcedure}

abbrev pub arms_left : Instruction → ℕ
arms_left (Leave arms target) = arms
arms_left (LeaveReturn arms) = arms
arms_left _ = 0

-- two bytes count them
abbrev pub LeavesFew : CodeEntry → Type 0
LeavesFew e = arms_left e.instruction < 65536

abbrev pub AllLeaveFew : CodeProcedure → Type 0
AllLeaveFew p = All LeavesFew p.code

-- four bytes count the links, and two the arms that each jump leaves
pub record FewLinksAndArms (links : List CodeLink) (procedures : List CodeProcedure) : Type 0 where
  pub few_links : length links < 2 ^ 32
  pub few_arms : All AllLeaveFew procedures
