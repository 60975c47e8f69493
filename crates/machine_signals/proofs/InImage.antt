-- What is read of an image where a procedure of an instance is there.
use Rattle.std.proofs.Common.{◌≡◌, ℕ, ◌<◌, List, length, get_or, Option, Some, refl, sym, ap, subst, ◌∙◌}
use Rattle.std.specs.Prelude.{slice_get, IsSome}
use Rattle.std.proofs.lemmas.Option.{same_Some, slice_get_within, get_or_from_slice_get, option_and_then_some}
use Rattle.code_forms.specs.declared.module_code.CodeProcedure.{CodeProcedure}
use Rattle.code_forms.specs.declared.module_code.ModuleCode.{ModuleCode}
use Rattle.object_files.specs.declared.image.Image.{Image}
use Rattle.object_files.specs.declared.image.Instance.{Instance}
use Rattle.object_files.specs.declared.object.Object.{Object}
use Rattle.machine_rules.specs.LookUps.{code_of, procedure_of}
use Rattle.machine_ready.proofs.Reading.{CodeAt, code_at, some_there}

-- the procedure and the code of its instance
pub record ProcedureAt (image : Image) (j n : ℕ) : Type 0 where
  pub code : ModuleCode
  pub its_code : code_of image j ≡ Some code
  pub found : CodeAt image j code
  pub procedure : CodeProcedure
  pub there : slice_get code.procedures n ≡ Some procedure
  pub is : procedure_of image j n ≡ Some procedure

pub procedure_at : (image : Image) (j n : ℕ) → IsSome (procedure_of image j n) → ProcedureAt image j n
unfolding procedure_of
procedure_at image j n h =
    let p = some_there (procedure_of image j n) h in
    option_and_then_some (λ (m : ModuleCode). slice_get m.procedures n) (code_of image j) p.0 p.1 (λ m e there.
    record { code = m; its_code = e; found = code_at image j m e; procedure = p.0; there = there; is = p.1 })

some_is : {X : Type 0} (o : Option X) (x : X) → o ≡ Some x → IsSome o
some_is {X} o x e = subst (λ (k : Option X). IsSome k) (sym e) refl

pub has_code : (image : Image) (j n : ℕ) → IsSome (procedure_of image j n) → IsSome (code_of image j)
has_code image j n h = let p = procedure_at image j n h in some_is (code_of image j) p.code p.its_code

-- as it is read of the image's lists
module _ (image : Image) (j : ℕ) (instances : List Instance) (modules : List Object) (same_instances : instances ≡ image.instances) (same_modules : modules ≡ image.modules)
    (there : IsSome (code_of image j)) where
  code : (m : ModuleCode) × (code_of image j ≡ Some m)
  code = some_there (code_of image j) there

  at : CodeAt image j code.0
  at = code_at image j code.0 code.1

  instance_is : slice_get instances j ≡ Some at.instance
  instance_is = ap (λ (xs : List Instance). slice_get xs j) same_instances ∙ at.is

  pub instance_within : j < length instances
  instance_within = slice_get_within instances j at.instance instance_is

  module _ (d : Instance) where
    instance_read : get_or instances j d ≡ at.instance
    instance_read = get_or_from_slice_get instances j at.instance d instance_is

    object_is : slice_get modules (get_or instances j d).module ≡ Some at.object
    object_is =
        ap (λ (xs : List Object). slice_get xs (get_or instances j d).module) same_modules
        ∙ ap (λ (x : Instance). slice_get image.modules x.module) instance_read ∙ at.there

    pub module_within : (get_or instances j d).module < length modules
    module_within = slice_get_within modules (get_or instances j d).module at.object object_is

    pub code_read : (o : Object) (m : ModuleCode) → o ≡ get_or modules (get_or instances j d).module o → m ≡ o.code → code_of image j ≡ Some m
    code_read o m is own =
        let same : o ≡ at.object = is ∙ get_or_from_slice_get modules (get_or instances j d).module at.object o object_is in
        code.1 ∙ ap Some (sym at.code ∙ sym (own ∙ ap (λ (x : Object). x.code) same))

-- a procedure is read of the code
pub procedure_read : (image : Image) (j n : ℕ) (code : ModuleCode) (procedures : List CodeProcedure) → IsSome (procedure_of image j n) → code_of image j ≡ Some code
    → procedures ≡ code.procedures → (p : CodeProcedure) × (slice_get procedures n ≡ Some p) × (procedure_of image j n ≡ Some p)
procedure_read image j n code procedures h is own =
    let p = procedure_at image j n h in
    let one : p.code ≡ code = same_Some p.code code (sym p.its_code ∙ is) in
    (p.procedure, subst (λ (l : List CodeProcedure). slice_get l n ≡ Some p.procedure) (ap (λ (m : ModuleCode). m.procedures) one ∙ sym own) p.there, p.is)
