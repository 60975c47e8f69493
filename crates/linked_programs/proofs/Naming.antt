-- A linked image has the names of the instances and the signals of its program.
use Rattle.std.proofs.Common.{◌≡◌, ℕ, zero, suc, ◌<◌, List, [], ◌∷◌, length, map, Option, Some, None, slice_get, refl, sym, ap, ◌∙◌, arith}
use Rattle.std.specs.Prelude.{IsSome, option_map, option_and_then}
use Rattle.std.proofs.lemmas.Bool.{false≢true}
use Rattle.std.proofs.lemmas.Option.{none-some, same_Some, slice_get_within, slice_get-map}
use Rattle.code_forms.specs.declared.module_code.CodeSignal.{CodeSignal}
use Rattle.code_forms.specs.declared.module_code.ModuleCode.{ModuleCode}
use Rattle.frame_code.specs.code_rules.specs.Modules.{signal_code}
use Rattle.object_files.specs.declared.image.Image.{Image}
use Rattle.object_files.specs.declared.image.Instance.{Instance}
use Rattle.object_files.specs.declared.object.Object.{Object}
use Rattle.built_runs.specs.machine_rules.specs.LookUps.{code_in, code_of, module_number, signal_of}
use Rattle.source_meaning.specs.Program.{Program, instance_of, module_of, no_instance, or_else}
use Rattle.source_meaning.specs.Program as source
use Rattle.built_runs.specs.agreement_rules.specs.Stands.{Stands}
use Rattle.built_runs.specs.bound_images.specs.Programs.{program_of}
use Rattle.built_runs.specs.bound_images.proofs.Running.{images_stand}
use Rattle.linked_programs.specs.Names.{LinkedNamesAgree, NamesAgree}

something : {A : Type 0} (o : Option A) → IsSome o → (x : A) × (o ≡ Some x)
something (Some x) h = (x, refl)
something None h = absurd (false≢true h)

mapped : {A B : Type 0} (f : A → B) (o : Option A) (y : B) → option_map f o ≡ Some y → (x : A) × (o ≡ Some x) × (f x ≡ y)
mapped f (Some x) y e = (x, refl, same_Some (f x) y e)
mapped f None y e = absurd (none-some y e)

then_there : {A B : Type 0} (f : A → Option B) (o : Option A) (y : B) → option_and_then f o ≡ Some y → (x : A) × (o ≡ Some x) × (f x ≡ Some y)
then_there f (Some x) y e = (x, refl, e)
then_there f None y e = absurd (none-some y e)

in_range : {A : Type 0} (xs : List A) (k : ℕ) → k < length xs → (x : A) × (slice_get xs k ≡ Some x)
in_range [] k l = absurd (omega (arith, l))
in_range (x ∷ xs) zero l = (x, refl)
in_range (x ∷ xs) (suc k) l = in_range xs k (omega (arith, l))

-- what is found for a signal of an instance
record Found (image : Image) (j k : ℕ) : Type 0 where
  instance : Instance
  object : Object
  signal : CodeSignal
  is_instance : slice_get image.instances j ≡ Some instance
  is_object : slice_get image.modules instance.module ≡ Some object
  is_signal : slice_get object.code.signals k ≡ Some signal
  whole : signal_of image j k ≡ Some signal

found : (image : Image) (j k : ℕ) → IsSome (signal_of image j k) → Found image j k
unfolding signal_of code_of code_in module_number
found image j k h =
    let s = something (signal_of image j k) h in
    let c = then_there (λ (m : ModuleCode). slice_get m.signals k) (code_of image j) s.0 s.1 in
    let n = then_there (code_in image) (module_number image j) c.0 c.1 in
    let i = mapped (λ (i : Instance). i.module) (slice_get image.instances j) n.0 n.1 in
    let o = mapped (λ (o : Object). o.code) (slice_get image.modules n.0) c.0 n.2 in
    record {
      instance = i.0;
      object = o.0;
      signal = s.0;
      is_instance = i.1;
      is_object = ap (slice_get image.modules) i.2 ∙ o.1;
      is_signal = ap (λ (m : ModuleCode). slice_get m.signals k) o.2 ∙ c.2;
      whole = s.1;
    }

names : (P : Program) (image : Image) (j k : ℕ) → Stands P image → Found image j k → (m : source.Instance) → slice_get P.instances j ≡ Some m → NamesAgree P image j k
unfolding instance_of module_of or_else
names P image j k stands f m at =
    let I = stands.instances j m f.instance at f.is_instance in
    let same : I.object ≡ f.object = same_Some I.object f.object (sym I.is_there ∙ f.is_object) in
    let signals : f.object.code.signals ≡ map signal_code m.code.signals = ap (λ (o : Object). o.code.signals) (sym same) ∙ I.code.each_signal in
    let its = mapped signal_code (slice_get m.code.signals k) f.signal
    (sym (slice_get-map signal_code m.code.signals k) ∙ (ap (λ ss. slice_get ss k) (sym signals) ∙ f.is_signal)) in
    let one : instance_of P j ≡ m = ap (or_else no_instance) at in
    record {
      path = ap (option_map (λ (i : Instance). i.path)) f.is_instance ∙ ap Some (I.path ∙ ap (λ (i : source.Instance). i.path) (sym one));
      item = its.0;
      is_there = ap (λ (i : source.Instance). slice_get i.code.signals k) one ∙ its.1;
      name = ap (option_map (λ (s : CodeSignal). s.name)) f.whole ∙ ap Some (ap (λ (s : CodeSignal). s.name) (sym its.2));
    }

pub linked_names_agree : LinkedNamesAgree
linked_names_agree t modules image (objects, built) j k h =
    let stands = images_stand t modules objects image built in
    let f = found image j k h in
    let l = slice_get_within image.instances j f.instance f.is_instance in
    let m = in_range (program_of t modules).instances j (omega (arith, l, stands.as_many)) in
    names (program_of t modules) image j k stands f m.0 m.1
