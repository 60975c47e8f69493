-- The code of a sound module stands for it.
use Rattle.std.proofs.Common.{refl, ℕ, suc, List, [], ◌∷◌, length, map, All, arith}
use Rattle.mesa_types.specs.declared.types.FieldType.{FieldType}
use Rattle.mesa_types.specs.Plain.{kinds_of}
use Rattle.mesa_types.specs.Shapes.{join, AllHaveWords}
use Rattle.mesa_types.specs.Sound.{Sound, BodyIn, ProcedureIn, HeadIn, FieldsWithin, scope_of}
use Rattle.mesa_types.specs.Typed.{Kinds, NoKinds, AndKind, Body, Procedure, Module}
use Rattle.code_forms.specs.declared.module_code.CodeLink.{CodeLink}
use Rattle.code_forms.specs.declared.module_code.CodeProcedure.{CodeProcedure}
use Rattle.code_forms.specs.declared.module_code.CodeSignal.{CodeSignal}
use Rattle.code_forms.specs.Routine.{Routine, routine_with}
use Rattle.code_rules.specs.Modules.{ProcedureCode, ProceduresCode, main_of, procedures_of}
use Rattle.code_blocks.specs.Modules.{procedure_code, module_code}
use Rattle.code_blocks.specs.Laws.{ModulesAreCoded}
use Rattle.code_blocks.proofs.Bodies.{body_stands}
use Rattle.code_blocks.proofs.ExtractRows.{HaveWords}

join_have : (ks js : Kinds) → AllHaveWords ks → AllHaveWords js → AllHaveWords (join ks js)
unfolding AllHaveWords join
join_have NoKinds js g h = h
join_have (AndKind k ks) js g h = (g.0, join_have ks js g.1 h)

-- a body whose variables have words
pub record BodyFine (m : Module) (p : Procedure) : Type 0 where
  pub sound : BodyIn m p.head.takes p.head.gives p.body
  pub words : HaveWords (scope_of m p.head.takes p.head.gives p.body)

all_have : (m : Module) (takes gives : List FieldType) (body : Body) → AllHaveWords m.globals → AllHaveWords (kinds_of takes) → AllHaveWords (kinds_of gives)
    → AllHaveWords body.variables → HaveWords (scope_of m takes gives body)
unfolding scope_of
all_have m takes gives body globals ts gs vs = (
  globals,
  join_have (kinds_of takes) (join (kinds_of gives) body.variables) ts
      (join_have (kinds_of gives) body.variables gs vs),
)

none_have : AllHaveWords (kinds_of [])
unfolding AllHaveWords
none_have = tt

pub main_fine : (m : Module) → Sound m → BodyFine m (main_of m)
main_fine m s = record { sound = s.body; words = all_have m [] [] m.body s.have_words none_have none_have (s.body).variables }

procedure_fine : (m : Module) → Sound m → (p : Procedure) → ProcedureIn m p → BodyFine m p
unfolding ProcedureIn HeadIn FieldsWithin
procedure_fine m s p h = record {
  sound = h.2;
  words = all_have m p.head.takes p.head.gives p.body s.have_words ((h.1).0).1 ((h.1).1).1 (h.2).variables;
}

abbrev pub AllFine : Module → List Procedure → Type 0
AllFine m [] = Unit {0}
AllFine m (p ∷ ps) = BodyFine m p × AllFine m ps

pub all_fine : (m : Module) → Sound m → (ps : List Procedure) → All (ProcedureIn m) ps → AllFine m ps
all_fine m s [] h = tt
all_fine m s (p ∷ ps) h =
    (procedure_fine m s p (h 0 p (omega arith)), all_fine m s ps (λ k d lt. h (suc k) d (omega (arith, lt))))

module _ (m : Module) (globals strings : ℕ) (signals : List CodeSignal) (links : List CodeLink) (procedures : List CodeProcedure) where
  abbrev with_all : CodeProcedure → Routine
  with_all = routine_with globals strings signals links procedures

  procedure_stands : (p : Procedure) → BodyFine m p → ProcedureCode m with_all p (procedure_code m p)
  procedure_stands p h = record {
    name = refl;
    args = refl;
    results = refl;
    body = body_stands m p with_all (λ c. refl) (λ c. refl) (λ c. refl) h.sound h.words;
  }

  procedures_stand : (ps : List Procedure) → AllFine m ps → ProceduresCode m with_all ps (map (procedure_code m) ps)
  procedures_stand [] h = tt
  procedures_stand (p ∷ ps) h = (procedure_stands p h.0, procedures_stand ps h.1)

pub modules_are_coded : ModulesAreCoded
modules_are_coded m s =
    let c = module_code m in
    record {
      named = refl;
      global_words = refl;
      each_signal = refl;
      each_string = refl;
      each_link = refl;
      each_procedure = procedures_stand m c.globals (length c.strings) c.signals c.links c.procedures (procedures_of m)
          (main_fine m s, all_fine m s m.procedures s.procedures);
    }
