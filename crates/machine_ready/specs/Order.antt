-- What a file holds of the parts of an image that are run, the file's size aside (rule of this project): counts and numbers are in range, and
-- what a link is bound to is like the link. That the code of a module is valid and within its ranges is known of each `ValidCode`.
use Rattle.std.specs.Prelude.{◌≡◌, ℕ, ◌<◌, ◌≤◌, length, All, None, MatchOption, IsSomeAnd, slice_get}
use Rattle.mesa_base.specs.declared.limits.TheConstants.{INSTANCES}
use Rattle.mesa_types.specs.declared.faces.ItemKind.{ItemKind}
use Rattle.mesa_types.specs.declared.faces.ItemKind.TheVariants as item
use Rattle.mesa_types.specs.Types.{words_of_fields}
use Rattle.code_forms.specs.declared.module_code.CodeKind.{CodeKind}
use Rattle.code_forms.specs.declared.module_code.CodeKind.TheVariants.{Procedure, Signal, Error}
use Rattle.code_forms.specs.declared.module_code.CodeLink.{CodeLink}
use Rattle.interface_records.specs.declared.wanted.Wanted.{Wanted as WantedEntry}
use Rattle.object_files.specs.declared.image.Image.{Image}
use Rattle.object_files.specs.declared.image.Instance.{Instance}
use Rattle.object_files.specs.declared.image.Link.{Link}
use Rattle.object_files.specs.declared.image.Link.TheVariants.{Wanted, To}
use Rattle.machine_rules.specs.LookUps.{link_of, bound_to}
use Rattle.machine_activations.specs.Links.{IsLike, IsOfInstance}

abbrev pub code_kind : ItemKind → CodeKind
code_kind item.Procedure = Procedure
code_kind item.Signal = Signal
code_kind item.Error = Error

-- what a link is bound to, a wanted item or something of an instance, is like the link
abbrev pub IsBoundAlike : Image → CodeLink → Link → Type 0
IsBoundAlike image l (Wanted n) = IsSomeAnd (slice_get image.wanted n)
    (λ (w : WantedEntry). IsLike l (code_kind w.item.kind) (words_of_fields w.item.takes) (words_of_fields w.item.gives))
IsBoundAlike image l (To j number) = IsOfInstance image l l.kind j number

pub record ImageInOrder (image : Image) : Type 0 where
  pub few_modules : length image.modules ≤ 65534
  pub few_instances : length image.instances ≤ INSTANCES
  pub modules : All (λ (i : Instance). i.module < length image.modules) image.instances
  -- an instance binds each link of its module, and no more
  pub tables : length image.links ≡ length image.instances
  pub links : (j k : ℕ) → MatchOption (link_of image j k) (bound_to image j k ≡ None) (λ l. IsSomeAnd (bound_to image j k) (IsBoundAlike image l))
  pub control : All (λ j. j < length image.instances) image.control
