-- What is taken of each procedure of each module.
use Rattle.std.proofs.Common.{◌≡◌, ℕ, zero, suc, ◌<◌, List, [], ◌∷◌, length, get_or, Option, None, Some, Result, Ok, Err, refl, sym, ap, subst, ◌∙◌}
use Rattle.std.specs.Prelude.{Contains, IfOk, OnOk, slice_get, option_and_then, option_map}
use Rattle.std.specs.List.{AllZip}
use Rattle.std.proofs.lemmas.List.Elements.{Contains-get_or}
use Rattle.std.proofs.lemmas.Option.{none-some, same_Some}
use Rattle.code_forms.specs.declared.module_code.CodeProcedure.{CodeProcedure}
use Rattle.code_forms.specs.declared.module_code.ModuleCode.{ModuleCode}
use Rattle.object_files.specs.declared.image.Image.{Image}
use Rattle.object_files.specs.declared.image.Instance.{Instance}
use Rattle.object_files.specs.declared.object.Object.{Object}
use Rattle.machine_rules.specs.Laws.{HasValidCode}
use Rattle.machine_rules.specs.LookUps.{code_of, code_in, module_number}
use Rattle.survey_rules.proofs.Codes.{procedure_there}
use Rattle.survey_code.specs.declared.surveyed.Surveyed.{Surveyed}
use Rattle.survey_code.specs.Sites.{IsSurveyed}
use Rattle.signal_survey.specs.Graph.{AreSurveyed}
use Rattle.signal_survey.specs.Modules.{IsModuleSurveyed}

pub taken_in : (ps procedures : List CodeProcedure) (i : ℕ) (p : CodeProcedure) → ps ≡ procedures → i < length ps → p ≡ get_or ps i p → Contains procedures p
taken_in ps procedures i p same l is =
    subst (λ (xs : List CodeProcedure). Contains xs p) same (subst (λ x. Contains ps x) (sym is) (Contains-get_or ps i p l))

-- what stands beside an element
pub record Beside {A B : Type 0} (R : A → B → Type 0) (x : A) (ys : List B) (n : ℕ) : Type 0 where
  pub y : B
  pub is : slice_get ys n ≡ Some y
  pub so : R x y

pub beside : {A B : Type 0} (R : A → B → Type 0) (xs : List A) (ys : List B) → AllZip R xs ys → (n : ℕ) (x : A) → slice_get xs n ≡ Some x → Beside R x ys n
beside R [] ys h n x e = absurd (none-some x e)
beside R (a ∷ xs) [] h n x e = absurd h
beside R (a ∷ xs) (b ∷ ys) h zero x e = record { y = b; is = refl; so = subst (λ z. R z b) (same_Some a x e) h.0 }
beside R (a ∷ xs) (b ∷ ys) h (suc n) x e = (let r = beside R xs ys h.1 n x e in record { y = r.y; is = r.is; so = r.so })

pub then_some : {X Y : Type 0} (f : X → Option Y) (o : Option X) (y : Y) → option_and_then f o ≡ Some y → (x : X) × (o ≡ Some x) × (f x ≡ Some y)
then_some f None y e = absurd (none-some y e)
then_some f (Some x) y e = (x, refl, e)

mapped_some : {X Y : Type 0} (f : X → Y) (o : Option X) (y : Y) → option_map f o ≡ Some y → (x : X) × (o ≡ Some x) × (f x ≡ y)
mapped_some f None y e = absurd (none-some y e)
mapped_some f (Some x) y e = (x, refl, same_Some (f x) y e)

-- the module of an instance
pub record OfModule (image : Image) (j : ℕ) (m : ModuleCode) : Type 0 where
  pub instance : Instance
  pub is_instance : slice_get image.instances j ≡ Some instance
  pub k : ℕ
  pub number : module_number image j ≡ Some k
  pub o : Object
  pub is_object : slice_get image.modules k ≡ Some o
  pub code : o.code ≡ m

pub of_module : (image : Image) (j : ℕ) (m : ModuleCode) → code_of image j ≡ Some m → OfModule image j m
unfolding code_of code_in module_number
of_module image j m e =
    let t = then_some (code_in image) (module_number image j) m e in
    let n = mapped_some (λ (i : Instance). i.module) (slice_get image.instances j) t.0 t.1 in
    let c = mapped_some (λ (o : Object). o.code) (slice_get image.modules t.0) m t.2 in
    record { instance = n.0; is_instance = n.1; k = t.0; number = t.1; o = c.0; is_object = c.1; code = c.2 }

pub are_surveyed : (image : Image) (modules : List Object) (surveys : List (List Surveyed)) → modules ≡ image.modules → AllZip IsModuleSurveyed modules surveys → AreSurveyed image surveys
are_surveyed image modules surveys same h j n m p c =
    let of = of_module image j m c.is_module in
    let at = beside IsModuleSurveyed modules surveys h of.k of.o (ap (λ (l : List Object). slice_get l of.k) same ∙ of.is_object) in
    let there : slice_get of.o.code.procedures n ≡ Some p = ap (λ (x : ModuleCode). slice_get x.procedures n) of.code ∙ procedure_there image j n m p c in
    let it = beside (IsSurveyed of.o.code) of.o.code.procedures at.y (at.so).each n p there in
    record {
      it = it.y;
      is =
          ap (λ o. option_and_then (λ (list : List Surveyed). slice_get list n) (option_and_then (λ k. slice_get surveys k) o)) of.number
          ∙ ap (λ o. option_and_then (λ (list : List Surveyed). slice_get list n) o) at.is ∙ it.is;
      surveyed = subst (λ x. IsSurveyed x p it.y) of.code it.so;
    }

pub modules_valid : (image : Image) (modules : List Object) (surveys : List (List Surveyed)) → modules ≡ image.modules → AllZip IsModuleSurveyed modules surveys → HasValidCode image
modules_valid image modules surveys same h n o e =
    (beside IsModuleSurveyed modules surveys h n o (ap (λ (l : List Object). slice_get l n) same ∙ e)).so.valid

pub surveyed_if : {E : Type 0} (r : Result (List (List Surveyed)) E) (image : Image) (modules : List Object) → modules ≡ image.modules → IfOk r (AllZip IsModuleSurveyed modules)
    → IfOk r (AreSurveyed image)
surveyed_if (Ok surveys) image modules same h = are_surveyed image modules surveys same h
surveyed_if (Err e) image modules same h = tt

pub valid_if : {E : Type 0} (r : Result (List (List Surveyed)) E) (image : Image) (modules : List Object) → modules ≡ image.modules → IfOk r (AllZip IsModuleSurveyed modules)
    → OnOk r (HasValidCode image)
valid_if (Ok surveys) image modules same h = modules_valid image modules surveys same h
valid_if (Err e) image modules same h = tt
