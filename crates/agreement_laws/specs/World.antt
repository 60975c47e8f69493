-- The program and the image that stands for it; the code of a procedure of an instance, and what a scope of its body says.
use Rattle.std.specs.Prelude.{◌≡◌, ℕ, ◌+◌, ◌<◌, Some, slice_get}
use Rattle.mesa_types.specs.Typed.{Kinds, Procedure}
use Rattle.mesa_types.specs.Shapes.{AllHaveWords, words_in_all}
use Rattle.mesa_types.specs.Sound.{Scope, Sound, BodyIn, scope_of}
use Rattle.code_forms.specs.declared.module_code.CodeProcedure.{CodeProcedure}
use Rattle.code_forms.specs.declared.module_code.ModuleCode.{ModuleCode}
use Rattle.code_forms.specs.Phrases.{PhrasesFill}
use Rattle.code_forms.specs.Routine.{routine, spots}
use Rattle.object_files.specs.declared.image.Image.{Image}
use Rattle.source_meaning.specs.Program as source
use Rattle.source_meaning.specs.Program.{Program, module_of}
use Rattle.source_meaning.specs.Lawful.{Lawful}
use Rattle.source_meaning.specs.State.{ProcedureId}
use Rattle.machine_rules.specs.LookUps.{module_number, code_of, procedure_of, text_of}
use Rattle.code_rules.specs.Modules.{CodeFor, ProcedureCode, coded}
use Rattle.code_rules.specs.Reading.{Coded}
use Rattle.agreement_rules.specs.Layout.{Strings}
use Rattle.agreement_rules.specs.Stands.{Stands, WantsTheHost}

pub record World : Type 0 where
  pub program : Program
  pub image : Image

-- what is known of the two
pub record Ready (W : World) : Type 0 where
  pub lawful : Lawful W.program
  pub stands : Stands W.program W.image
  pub host : WantsTheHost W.image

abbrev pub texts_of : World → Strings
texts_of W = text_of W.image

-- a procedure as the source has it, and the scope of its body
abbrev pub meant_procedure : World → ProcedureId → Procedure
meant_procedure W p = source.procedure_of W.program p.instance p.number

abbrev pub body_scope : World → ProcedureId → Scope
body_scope W p =
    scope_of (module_of W.program p.instance) (meant_procedure W p).head.takes (meant_procedure W p).head.gives (meant_procedure W p).body

-- its variables, its first scratch word and its first hidden one; and the globals of an instance
abbrev pub locals_of : World → ProcedureId → Kinds
locals_of W p = (body_scope W p).locals

abbrev pub scratch_of : World → ProcedureId → ℕ
scratch_of W p = words_in_all (locals_of W p)

abbrev pub hidden_of : World → ProcedureId → ℕ
hidden_of W p = scratch_of W p + 16

abbrev pub globals_of : World → (instance : ℕ) → Kinds
globals_of W j = (module_of W.program j).globals

-- C is this procedure with its code, in a module of this number
pub record CodeOf (W : World) (p : ProcedureId) (C : Coded) : Type 0 where
  pub instance : source.Instance
  pub is_instance : slice_get W.program.instances p.instance ≡ Some instance
  pub number : ℕ
  pub number_of : module_number W.image p.instance ≡ Some number
  pub few : number < 65534
  pub object : ModuleCode
  pub is_object : code_of W.image p.instance ≡ Some object
  pub procedure : CodeProcedure
  pub is_there : procedure_of W.image p.instance p.number ≡ Some procedure
  pub is : C ≡ coded (module_of W.program p.instance) (meant_procedure W p) (routine object procedure) procedure
  pub sound : Sound (module_of W.program p.instance)
  pub body : BodyIn (module_of W.program p.instance) (meant_procedure W p).head.takes (meant_procedure W p).head.gives (meant_procedure W p).body
  pub have_words : AllHaveWords (locals_of W p)
  pub code_for : CodeFor (module_of W.program p.instance) object
  pub its_code : ProcedureCode (module_of W.program p.instance) (routine object) (meant_procedure W p) procedure
  pub fills : PhrasesFill (spots procedure.code) procedure.phrases

-- the scope is one in the body of this procedure: what it says of the module and the procedure is what the body's says
pub record ScopeIn (W : World) (p : ProcedureId) (Γ : Scope) : Type 0 where
  pub globals : Γ.globals ≡ (body_scope W p).globals
  pub locals : Γ.locals ≡ (body_scope W p).locals
  pub takes : Γ.takes ≡ (body_scope W p).takes
  pub gives : Γ.gives ≡ (body_scope W p).gives
  pub procedures : Γ.procedures ≡ (body_scope W p).procedures
  pub signals : Γ.signals ≡ (body_scope W p).signals
  pub imports : Γ.imports ≡ (body_scope W p).imports
  pub strings : Γ.strings ≡ (body_scope W p).strings
