-- Valid code stands in an image that can be run: one instance of it, whose links are the host's WriteChar.
use Rattle.std.proofs.Common.{◌≡◌, ℕ, zero, suc, ◌<◌, [], ◌∷◌, Option, Some, None, refl, sym, ap, subst, ◌∙◌, arith}
use Rattle.std.specs.Prelude.{Contains, codes, map, option_and_then, option_map, slice_get}
use Rattle.std.proofs.lemmas.Option.{none-some, same_Some, slice_get_within, slice_get-get_or, get_or_from_slice_get, slice_get-map}
use Rattle.code_forms.specs.declared.module_code.CodeKind.{CodeKind}
use Rattle.code_forms.specs.declared.module_code.CodeKind.TheVariants as kind
use Rattle.code_forms.specs.declared.module_code.CodeLink.{CodeLink}
use Rattle.code_forms.specs.declared.module_code.CodeProcedure.{CodeProcedure}
use Rattle.code_forms.specs.declared.module_code.ModuleCode.{ModuleCode}
use Rattle.code_forms.specs.Valid.{Valid}
use Rattle.mesa_types.specs.declared.faces.ItemKind.TheVariants.{Procedure}
use Rattle.object_files.specs.declared.image.Image.{Image}
use Rattle.object_files.specs.declared.image.Instance.{Instance}
use Rattle.object_files.specs.declared.image.Link.{Link}
use Rattle.object_files.specs.declared.image.Link.TheVariants.{Wanted}
use Rattle.object_files.specs.declared.object.Object.{Object}
use Rattle.machine_rules.specs.Laws.{CanRun, HasValidCode, IsBound}
use Rattle.machine_rules.specs.LookUps.{module_number, code_in, code_of, procedure_of, link_of, bound_to, WriteChar, host_named, host_of}
use Rattle.machine_rules.proofs.Located.{World}
use Rattle.survey_rules.specs.Escapes.{IsCode}
use Rattle.survey_rules.proofs.Codes.{world, procedure_there}

abbrev its_object : ModuleCode → Object
its_object m = record { shape = record { name = []; imports = []; exports = [] }; code = m }

abbrev its_instance : Instance
its_instance = record { path = []; «module» = 0 }

abbrev pub image_of : ModuleCode → Image
image_of m = record {
  modules = its_object m ∷ [];
  wanted = record { face = []; stamp = 0; item = record { kind = Procedure; name = codes "WriteChar"; takes = []; gives = [] } } ∷ [];
  instances = its_instance ∷ [];
  links = map (λ (l : CodeLink). Wanted 0) m.links ∷ [];
  offered = [];
  control = [];
}

-- what is so of the first of one is so of each
of_one : {A : Type 0} (P : A → Type 0) (x : A) → P x → (n : ℕ) (y : A) → slice_get (x ∷ []) n ≡ Some y → P y
of_one P x h zero y e = subst P (same_Some x y e) h
of_one P x h (suc n) y e = absurd (none-some y e)

bound : (m : ModuleCode) (k : CodeKind) (o : Option Link) → o ≡ Some (Wanted 0) → IsBound (image_of m) k o
unfolding host_of host_named
bound m kind.Procedure o e = subst (λ x. IsBound (image_of m) kind.Procedure x) (sym e) (WriteChar, refl)
bound m kind.Signal o e = subst (λ x. IsBound (image_of m) kind.Signal x) (sym e) tt
bound m kind.Error o e = subst (λ x. IsBound (image_of m) kind.Error x) (sym e) tt

links_bound : (m : ModuleCode) (j k : ℕ) (l : CodeLink) → link_of (image_of m) j k ≡ Some l → IsBound (image_of m) l.kind (bound_to (image_of m) j k)
unfolding link_of bound_to code_of code_in module_number
links_bound m zero k l e = bound m l.kind _ (slice_get-map (λ (l : CodeLink). Wanted 0) m.links k ∙ ap (option_map (λ (l : CodeLink). Wanted 0)) e)
links_bound m (suc j) k l e = absurd (none-some l e)

pub can_run : (m : ModuleCode) → Valid m → CanRun (image_of m)
can_run m v = record {
  code = of_one (λ (o : Object). Valid o.code) (its_object m) v;
  modules = of_one (λ (i : Instance). i.«module» < 1) its_instance (omega arith);
  links = links_bound m;
  control = λ k d l. absurd (omega (arith, l));
}

pub is_code : (m : ModuleCode) (n : ℕ) (p : CodeProcedure) → slice_get m.procedures n ≡ Some p → IsCode (image_of m) 0 n m p
unfolding procedure_of code_of code_in module_number
is_code m n p e = record { is_module = refl; is_procedure = e }

-- an image in which the procedure stands
pub record Standing (m : ModuleCode) (p : CodeProcedure) : Type 0 where
  pub image : Image
  pub ready : CanRun image
  pub world : World image
  pub instance : ℕ
  pub number : ℕ
  pub is : IsCode image instance number m p

pub stands_in_an_image : (m : ModuleCode) → Valid m → (p : CodeProcedure) → Contains m.procedures p → Standing m p
stands_in_an_image m v p c = record {
  image = image_of m;
  ready = can_run m v;
  world = world (image_of m) (can_run m v);
  instance = 0;
  number = c.0;
  is = is_code m c.0 p (slice_get-get_or m.procedures c.0 p c.1 ∙ ap Some c.2);
}

-- And each procedure of an image whose code is valid is one of valid code.

valid_in : (image : Image) → HasValidCode image → (n : ℕ) (o : Option Object) → slice_get image.modules n ≡ o → (m : ModuleCode) → option_map (λ (object : Object). object.code) o ≡ Some m
    → Valid m
valid_in image v n None e m is = absurd (none-some m is)
valid_in image v n (Some o) e m is = subst (λ (c : ModuleCode). Valid c) (same_Some o.code m is) (v n o e)

valid_of : (image : Image) → HasValidCode image → (n : Option ℕ) (m : ModuleCode) → option_and_then (code_in image) n ≡ Some m → Valid m
unfolding code_in
valid_of image v None m e = absurd (none-some m e)
valid_of image v (Some n) m e = valid_in image v n (slice_get image.modules n) refl m e

valid_there : (image : Image) → HasValidCode image → (j : ℕ) (m : ModuleCode) → code_of image j ≡ Some m → Valid m
unfolding code_of
valid_there image v j m e = valid_of image v (module_number image j) m e

pub of_valid_code : (image : Image) → HasValidCode image → (j n : ℕ) (m : ModuleCode) (p : CodeProcedure) → IsCode image j n m p → Valid m × Contains m.procedures p
of_valid_code image v j n m p c =
    let there = procedure_there image j n m p c in
    (valid_there image v j m c.is_module, (n, slice_get_within m.procedures n p there, get_or_from_slice_get m.procedures n p p there))
