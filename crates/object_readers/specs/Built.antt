-- What is built of the rows of a module.
use Rattle.std.specs.Prelude.{◌≡◌, ℕ, List}
use Rattle.code_forms.specs.declared.bad_code.BadCode.{BadCode}
use Rattle.code_forms.specs.declared.module_code.CodeLink.{CodeLink}
use Rattle.code_forms.specs.declared.module_code.CodeProcedure.{CodeProcedure}
use Rattle.code_forms.specs.declared.module_code.CodeSignal.{CodeSignal}
use Rattle.code_forms.specs.declared.module_code.ModuleCode.{ModuleCode}
use Rattle.code_forms.specs.Same.{bare}
use Rattle.code_forms.specs.Valid.{Valid, IsFirstFaultOf}
use Rattle.object_rules.specs.declared.object_fault.ObjectFault.{ObjectFault}
use Rattle.object_rules.specs.declared.object_fault.ObjectFault.TheVariants.{Code}
use Rattle.object_rules.specs.Parts.{ModulePart, HasCodeFault}

-- the code has this name and what the rows say, depths aside, and is valid
pub record IsCodeOf (name : List ℕ) (globals : ℕ) (signals : List CodeSignal) (strings : List (List ℕ)) (links : List CodeLink)
    (procedures : List CodeProcedure) (code : ModuleCode) : Type 0 where
  pub same_name : code.name ≡ name
  pub same_globals : code.global_words ≡ globals
  pub same_signals : code.signals ≡ signals
  pub same_strings : code.strings ≡ strings
  pub same_links : code.links ≡ links
  pub same_procedures : bare code.procedures ≡ bare procedures
  pub valid : Valid code

-- the first fault of the code of the module of this number
pub record HasBadCode (number globals strings : ℕ) (signals : List CodeSignal) (links : List CodeLink) (procedures : List CodeProcedure)
    (fault : ObjectFault) : Type 0 where
  pub bad : BadCode
  pub is : fault ≡ Code number bad.procedure bad.fault
  pub first : IsFirstFaultOf globals strings signals links procedures bad

-- the same of the parts of a module
pub record HasFault (number : ℕ) (m : ModulePart) (fault : ObjectFault) : Type 0 where
  pub bad : BadCode
  pub is : fault ≡ Code number bad.procedure bad.fault
  pub first : HasCodeFault m bad
