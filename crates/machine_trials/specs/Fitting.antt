-- That links are bound to what is like them, as it is tested instance by instance.
use Rattle.std.specs.Prelude.{◌≡◌, ℕ, ◌<◌, List, length, Some, IsSomeAnd, slice_get}
use Rattle.code_forms.specs.declared.module_code.CodeKind.{CodeKind}
use Rattle.code_forms.specs.declared.module_code.CodeKind.TheVariants.{Procedure, Signal, Error}
use Rattle.code_forms.specs.declared.module_code.CodeLink.{CodeLink}
use Rattle.code_forms.specs.declared.module_code.CodeProcedure.{CodeProcedure}
use Rattle.code_forms.specs.declared.module_code.CodeSignal.{CodeSignal}
use Rattle.code_forms.specs.declared.module_code.ModuleCode.{ModuleCode}
use Rattle.object_files.specs.declared.image.Image.{Image}
use Rattle.object_files.specs.declared.image.Link.{Link}
use Rattle.machine_rules.specs.LookUps.{code_of}
use Rattle.machine_activations.specs.Links.{IsLike}
use Rattle.machine_ready.specs.Order.{IsBoundAlike}

-- a link is like the procedure above 0, or the signal, of this number of a module
abbrev pub IsOfCode : CodeLink → CodeKind → ModuleCode → ℕ → Type 0
IsOfCode l Procedure m n = (0 < n) × IsSomeAnd (slice_get m.procedures n) (λ (p : CodeProcedure). IsLike l Procedure p.args p.results)
IsOfCode l Signal m n = IsSomeAnd (slice_get m.signals n) (λ (s : CodeSignal). IsLike l s.kind s.args s.results)
IsOfCode l Error m n = IsSomeAnd (slice_get m.signals n) (λ (s : CodeSignal). IsLike l s.kind s.args s.results)

-- the first so many links
abbrev pub LinksFit : Image → List CodeLink → List Link → ℕ → Type 0
LinksFit image links table count = (k : ℕ) (l : CodeLink) (b : Link) → k < count → slice_get links k ≡ Some l → slice_get table k ≡ Some b → IsBoundAlike image l b

-- an instance binds each link of its module, and no more
pub record TableFits (image : Image) (j : ℕ) : Type 0 where
  pub code : ModuleCode
  pub table : List Link
  pub its_code : code_of image j ≡ Some code
  pub its_table : slice_get image.links j ≡ Some table
  pub as_many : length code.links ≡ length table
  pub alike : LinksFit image code.links table (length code.links)

-- the first so many instances do
abbrev pub TablesFit : Image → ℕ → Type 0
TablesFit image count = (j : ℕ) → j < count → TableFits image j
