-- What is found of an instance.
use Rattle.std.proofs.Common.{◌≡◌, ℕ, List, [], Some, None, sym, ◌∙◌, ap}
use Rattle.std.specs.Prelude.{option_and_then, option_map, slice_get}
use Rattle.code_forms.specs.declared.module_code.ModuleCode.{ModuleCode}
use Rattle.object_files.specs.declared.image.Image.{Image}
use Rattle.object_files.specs.declared.image.Instance.{Instance}
use Rattle.object_files.specs.declared.object.Object.{Object}
use Rattle.machine_rules.specs.LookUps.{module_number, code_in, code_of, signal_of}
use Rattle.command_passes.specs.command_rules.specs.Shown.{signal_name}

-- the code of an instance is that of its module
pub code_at : (image : Image) (j : ℕ) (i : Instance) → slice_get image.instances j ≡ Some i
    → code_of image j ≡ option_map (λ (o : Object). o.code) (slice_get image.modules i.module)
unfolding code_of code_in module_number
code_at image j i is = ap (λ o. option_and_then (code_in image) (option_map (λ (x : Instance). x.module) o)) is

pub no_code : (image : Image) (j : ℕ) → slice_get image.instances j ≡ None → code_of image j ≡ None
unfolding code_of module_number
no_code image j none = ap (λ o. option_and_then (code_in image) (option_map (λ (x : Instance). x.module) o)) none

-- the name of its signal is found in that code
pub name_at : (image : Image) (j k : ℕ) (m : ModuleCode) (name : List ℕ) → code_of image j ≡ Some m → name ≡ signal_name (slice_get m.signals k)
    → name ≡ signal_name (signal_of image j k)
unfolding signal_of
name_at image j k m name is e = e ∙ sym (ap (λ o. signal_name (option_and_then (λ (c : ModuleCode). slice_get c.signals k) o)) is)

pub no_name : (image : Image) (j k : ℕ) → code_of image j ≡ None → signal_name (signal_of image j k) ≡ []
unfolding signal_of
no_name image j k none = ap (λ o. signal_name (option_and_then (λ (c : ModuleCode). slice_get c.signals k) o)) none
