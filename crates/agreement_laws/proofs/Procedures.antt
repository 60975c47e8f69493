-- Each procedure of a program has its code in an image that stands for it.
use Rattle.std.proofs.Common.{◌≡◌, ℕ, zero, suc, ◌<◌, List, [], ◌∷◌, length, get_or, Some, refl, sym, ap, ◌∙◌, subst, arith}
use Rattle.std.specs.Prelude.{slice_get, option_and_then}
use Rattle.std.proofs.lemmas.Option.{none-some, same_Some, slice_get_within, slice_get-get_or}
use Rattle.mesa_types.specs.Typed.{Kinds, NoKinds, AndKind, Procedure, Module}
use Rattle.mesa_types.specs.Shapes.{HasWords, AllHaveWords, join}
use Rattle.mesa_types.specs.Plain.{kinds_of}
use Rattle.mesa_types.specs.Sound.{Sound, BodyIn, HeadIn, ProcedureIn, FieldsWithin, scope_of}
use Rattle.code_forms.specs.declared.module_code.CodeProcedure.{CodeProcedure}
use Rattle.code_forms.specs.declared.module_code.ModuleCode.{ModuleCode}
use Rattle.code_forms.specs.Routine.{Routine, routine}
use Rattle.source_meaning.specs.Program as source
use Rattle.source_meaning.specs.Program.{or_else, module_of, no_procedure, procedure_in, procedure_of, main_of, head_named}
use Rattle.source_meaning.specs.State.{ProcedureId}
use Rattle.machine_rules.specs.LookUps as machine
use Rattle.machine_rules.specs.LookUps.{code_in, code_of}
use Rattle.code_rules.specs.Modules.{CodeFor, ProcedureCode, ProceduresCode, procedures_of, coded}
use Rattle.code_rules.specs.Reading.{Coded}
use Rattle.agreement_laws.specs.World.{World, Ready, meant_procedure, locals_of, CodeOf}
use Rattle.agreement_laws.proofs.Instances.{instance_there}

-- the procedure is there
abbrev pub IsThere : Module → (number : ℕ) → Type 0
IsThere m zero = Unit {0}
IsThere m (suc k) = k < length m.procedures

-- the n-th procedure has the n-th code
pub record CodedAt (m : Module) (r : CodeProcedure → Routine) (p : Procedure) (cs : List CodeProcedure) (n : ℕ) : Type 0 where
  pub procedure : CodeProcedure
  pub is : slice_get cs n ≡ Some procedure
  pub code : ProcedureCode m r p procedure

coded_at : (m : Module) (r : CodeProcedure → Routine) (ps : List Procedure) (cs : List CodeProcedure) (n : ℕ) (p : Procedure) → ProceduresCode m r ps cs → slice_get ps n ≡ Some p
    → CodedAt m r p cs n
coded_at m r [] cs n p h e = absurd (none-some p e)
coded_at m r (q ∷ ps) [] n p h e = absurd h
coded_at m r (q ∷ ps) (c ∷ cs) zero p h e = record { procedure = c; is = refl; code = subst (λ x. ProcedureCode m r x c) (same_Some q p e) h.0 }
coded_at m r (q ∷ ps) (c ∷ cs) (suc n) p h e = let x = coded_at m r ps cs n p h.1 e in record { procedure = x.procedure; is = x.is; code = x.code }

-- what is known of a procedure of a sound module
pub record Known (m : Module) (p : Procedure) : Type 0 where
  pub takes : AllHaveWords (kinds_of p.head.takes)
  pub gives : AllHaveWords (kinds_of p.head.gives)
  pub body : BodyIn m p.head.takes p.head.gives p.body

known_in : (m : Module) (p : Procedure) → ProcedureIn m p → Known m p
unfolding ProcedureIn HeadIn FieldsWithin
known_in m p h = record { takes = h.1.0.1; gives = h.1.1.1; body = h.2 }

pub known : (m : Module) → Sound m → (n : ℕ) → IsThere m n → Known m (procedure_in m n)
unfolding procedure_in main_of head_named or_else HasWords
known m sound zero there = record { takes = tt; gives = tt; body = sound.body }
known m sound (suc k) there =
    let p = get_or m.procedures k no_procedure in
    subst (λ x. Known m x) (ap (λ o. or_else no_procedure o) (sym (slice_get-get_or m.procedures k no_procedure there))) (known_in m p (sound.procedures k no_procedure there))

there_at : (m : Module) (n : ℕ) → IsThere m n → slice_get (procedures_of m) n ≡ Some (procedure_in m n)
unfolding procedure_in main_of head_named or_else
there_at m zero there = refl
there_at m (suc k) there =
    slice_get-get_or m.procedures k no_procedure there ∙ ap (λ o. Some (or_else no_procedure o)) (sym (slice_get-get_or m.procedures k no_procedure there))

join_has_words : (ks js : Kinds) → AllHaveWords ks → AllHaveWords js → AllHaveWords (join ks js)
unfolding HasWords join
join_has_words NoKinds js h g = g
join_has_words (AndKind k ks) js h g = (h.0, join_has_words ks js h.1 g)

locals_have_words : (W : World) (p : ProcedureId) → Known (module_of W.program p.instance) (meant_procedure W p) → AllHaveWords (locals_of W p)
unfolding scope_of
locals_have_words W p k = join_has_words _ _ k.takes (join_has_words _ _ k.gives k.body.variables)

pub record HasCode (W : World) (p : ProcedureId) : Type 0 where
  pub code : Coded
  pub code_of : CodeOf W p code

pub procedure_stands : (W : World) → Ready W → (p : ProcedureId) (m : source.Instance) → slice_get W.program.instances p.instance ≡ Some m
    → IsThere (module_of W.program p.instance) p.number → HasCode W p
unfolding code_of code_in machine.procedure_of procedure_of
procedure_stands W ready p m e there =
    let x = instance_there W ready p.instance m e in
    let m1 = module_of W.program p.instance in
    let sound : Sound m1 = subst Sound (sym x.module_is) x.lawful.sound in
    let object = x.stands.object.code in
    let code : CodeFor m1 object = subst (λ z. CodeFor z object) (sym x.module_is) x.stands.code in
    let k = known m1 sound p.number there in
    let c = coded_at m1 (routine object) (procedures_of m1) object.procedures p.number (meant_procedure W p) code.each_procedure (there_at m1 p.number there) in
    let number = x.instance.module in
    let lt = slice_get_within W.image.modules number x.stands.object x.stands.is_there in
    let most = ready.stands.modules in
    record {
      code = coded m1 (meant_procedure W p) (routine object c.procedure) c.procedure;
      code_of = record {
        instance = m;
        is_instance = e;
        number = number;
        number_of = x.number_of;
        few = omega (arith, lt, most);
        object = object;
        is_object = x.is_code;
        procedure = c.procedure;
        is_there = ap (λ o. option_and_then (λ (y : ModuleCode). slice_get y.procedures p.number) o) x.is_code ∙ c.is;
        is = refl;
        sound = sound;
        body = k.body;
        have_words = locals_have_words W p k;
        code_for = code;
        its_code = c.code;
        fills = (ready.stands.valid number x.stands.object x.stands.is_there p.number c.procedure (slice_get_within object.procedures p.number c.procedure c.is) c.is).phrases;
      };
    }
