-- What is read of an image.
use Rattle.std.proofs.Common.{◌≡◌, ℕ, ◌<◌, List, length, Option, Some, None, refl, sym, ap, subst, ◌∙◌}
use Rattle.std.specs.Prelude.{slice_get, option_map, IsSome}
use Rattle.std.proofs.lemmas.Bool.{false≢true}
use Rattle.std.proofs.lemmas.Option.{none-some, same_Some, slice_get_within, option_and_then_some}
use Rattle.code_forms.specs.declared.module_code.CodeSignal.{CodeSignal}
use Rattle.code_forms.specs.declared.module_code.ModuleCode.{ModuleCode}
use Rattle.object_files.specs.declared.image.Image.{Image}
use Rattle.object_files.specs.declared.image.Instance.{Instance}
use Rattle.object_files.specs.declared.object.Object.{Object}
use Rattle.machine_rules.specs.LookUps.{module_number, code_in, code_of, signal_of}

pub mapped : {X Y : Type 0} (f : X → Y) (o : Option X) (y : Y) → option_map f o ≡ Some y → (x : X) × (o ≡ Some x) × (f x ≡ y)
mapped f None y e = absurd (none-some y e)
mapped f (Some x) y e = (x, refl, same_Some (f x) y e)

pub some_there : {X : Type 0} (o : Option X) → IsSome o → (x : X) × (o ≡ Some x)
some_there None h = absurd (false≢true h)
some_there (Some x) h = (x, refl)

-- the code of an instance is that of its module
pub record CodeAt (image : Image) (j : ℕ) (m : ModuleCode) : Type 0 where
  pub instance : Instance
  pub is : slice_get image.instances j ≡ Some instance
  pub object : Object
  pub there : slice_get image.modules instance.module ≡ Some object
  pub code : object.code ≡ m

pub code_at : (image : Image) (j : ℕ) (m : ModuleCode) → code_of image j ≡ Some m → CodeAt image j m
unfolding code_of module_number code_in
code_at image j m e = option_and_then_some (code_in image) (module_number image j) m e (λ n a there.
    let i = mapped (λ (x : Instance). x.module) (slice_get image.instances j) n a in
    let o = mapped (λ (x : Object). x.code) (slice_get image.modules n) m there in
    record {
      instance = i.0;
      is = i.1;
      object = o.0;
      there = subst (λ k. slice_get image.modules k ≡ Some o.0) (sym i.2) o.1;
      code = o.2;
    })

pub record SignalAt (image : Image) (j k : ℕ) : Type 0 where
  pub code : ModuleCode
  pub its_code : code_of image j ≡ Some code
  pub found : CodeAt image j code
  pub signal : CodeSignal
  pub there : slice_get code.signals k ≡ Some signal
  pub is : signal_of image j k ≡ Some signal

pub signal_at : (image : Image) (j k : ℕ) → IsSome (signal_of image j k) → SignalAt image j k
unfolding signal_of
signal_at image j k h =
    let s = some_there (signal_of image j k) h in
    option_and_then_some (λ (m : ModuleCode). slice_get m.signals k) (code_of image j) s.0 s.1 (λ m e there.
    record { code = m; its_code = e; found = code_at image j m e; signal = s.0; there = there; is = s.1 })

-- the signal of a number is read of the code's signals
pub signal_read : (image inside : Image) (j k : ℕ) (code : ModuleCode) (signals : List CodeSignal) → inside ≡ image → IsSome (signal_of image j k) → code_of inside j ≡ Some code
    → signals ≡ code.signals → (s : CodeSignal) × (slice_get signals k ≡ Some s) × (signal_of image j k ≡ Some s)
signal_read image inside j k code signals same h is own =
    let s = signal_at image j k h in
    let one : s.code ≡ code = same_Some s.code code (sym s.its_code ∙ ap (λ (i : Image). code_of i j) (sym same) ∙ is) in
    (s.signal, subst (λ (l : List CodeSignal). slice_get l k ≡ Some s.signal) (ap (λ (m : ModuleCode). m.signals) one ∙ sym own) s.there, s.is)

pub instance_there : (image inside : Image) (j k : ℕ) → inside ≡ image → IsSome (signal_of image j k) → j < length inside.instances
instance_there image inside j k same h =
    let s = signal_at image j k h in
    subst (λ (i : Image). j < length i.instances) (sym same) (slice_get_within image.instances j s.found.instance s.found.is)
