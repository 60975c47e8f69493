-- What the code finds in an image.
use Rattle.std.proofs.Common.{◌≡◌, ℕ, ◌<◌, List, length, get_or, Option, Some, None, refl, sym, ap, subst, ◌∙◌}
use Rattle.std.specs.Prelude.{slice_get, option_map, IsSome}
use Rattle.std.proofs.lemmas.Bool.{false≢true}
use Rattle.std.proofs.lemmas.Option.{none-some, same_Some, slice_get_within, get_or_from_slice_get, option_and_then_some}
use Rattle.code_forms.specs.declared.module_code.CodeProcedure.{CodeProcedure}
use Rattle.code_forms.specs.declared.module_code.ModuleCode.{ModuleCode}
use Rattle.interface_records.specs.declared.wanted.Wanted.{Wanted as WantedEntry}
use Rattle.object_files.specs.declared.image.Image.{Image}
use Rattle.object_files.specs.declared.image.Instance.{Instance}
use Rattle.object_files.specs.declared.object.Object.{Object}
use Rattle.machine_rules.specs.LookUps.{module_number, code_in, code_of, procedure_of, Host, host_named, host_of}

mapped : {X Y : Type 0} (f : X → Y) (o : Option X) (y : Y) → option_map f o ≡ Some y → (x : X) × (o ≡ Some x) × (f x ≡ y)
mapped f None y e = absurd (none-some y e)
mapped f (Some x) y e = (x, refl, same_Some (f x) y e)

pub some_there : {X : Type 0} (o : Option X) → IsSome o → (x : X) × (o ≡ Some x)
some_there None h = absurd (false≢true h)
some_there (Some x) h = (x, refl)

-- what is read at a place
pub read_is : {X : Type 0} (xs ys : List X) (n : ℕ) (y x : X) → xs ≡ ys → slice_get ys n ≡ Some y → x ≡ get_or xs n x → x ≡ y
read_is {X} xs ys n y x same there is = is ∙ ap (λ (l : List X). get_or l n x) same ∙ get_or_from_slice_get ys n y x there

pub place_is : {X : Type 0} (xs ys : List X) (n : ℕ) (y x : X) → xs ≡ ys → slice_get ys n ≡ Some y → get_or xs n x ≡ y
place_is {X} xs ys n y x same there = ap (λ (l : List X). get_or l n x) same ∙ get_or_from_slice_get ys n y x there

pub read_within : {X : Type 0} (xs ys : List X) (n : ℕ) (y : X) → xs ≡ ys → slice_get ys n ≡ Some y → n < length xs
read_within {X} xs ys n y same there = subst (λ (l : List X). n < length l) (sym same) (slice_get_within ys n y there)

-- a procedure of an instance is one of its module
pub record ProcedureAt (image : Image) (j n : ℕ) : Type 0 where
  pub instance : Instance
  pub is_instance : slice_get image.instances j ≡ Some instance
  pub object : Object
  pub is_object : slice_get image.modules instance.module ≡ Some object
  pub procedure : CodeProcedure
  pub there : slice_get object.code.procedures n ≡ Some procedure
  pub is : procedure_of image j n ≡ Some procedure

pub procedure_at : (image : Image) (j n : ℕ) → IsSome (procedure_of image j n) → ProcedureAt image j n
unfolding procedure_of code_of module_number code_in
procedure_at image j n h =
    let p = some_there (procedure_of image j n) h in
    option_and_then_some (λ (m : ModuleCode). slice_get m.procedures n) (code_of image j) p.0 p.1 (λ m code there.
    option_and_then_some (code_in image) (module_number image j) m code (λ k number found.
    let i = mapped (λ (x : Instance). x.module) (slice_get image.instances j) k number in
    let o = mapped (λ (x : Object). x.code) (slice_get image.modules k) m found in
    record {
      instance = i.0;
      is_instance = i.1;
      object = o.0;
      is_object = subst (λ q. slice_get image.modules q ≡ Some o.0) (sym i.2) o.1;
      procedure = p.0;
      there = subst (λ (c : ModuleCode). slice_get c.procedures n ≡ Some p.0) (sym o.2) there;
      is = p.1;
    }))

-- a procedure of the host is that of a wanted item's name
pub record HostAt (image : Image) (n : ℕ) : Type 0 where
  pub wanted : WantedEntry
  pub there : slice_get image.wanted n ≡ Some wanted
  pub host : Host
  pub named : host_named wanted.item.name ≡ Some host
  pub is : host_of image n ≡ Some host

pub host_at : (image : Image) (n : ℕ) → IsSome (host_of image n) → HostAt image n
unfolding host_of
host_at image n h =
    let p = some_there (host_of image n) h in
    option_and_then_some (λ (w : WantedEntry). host_named w.item.name) (slice_get image.wanted n) p.0 p.1 (λ w there named.
    record { wanted = w; there = there; host = p.0; named = named; is = p.1 })

pub is_there : {X : Type 0} (o : Option X) (x : X) → o ≡ Some x → IsSome o
is_there {X} o x e = subst (λ (p : Option X). IsSome p) (sym e) refl
