-- Each element of a list has a byte at least, so the bytes of an image are no fewer than its elements.
use Rattle.std.proofs.Common.{ℕ, ◌<◌, ◌≤◌, ◌^◌, Bool, List, [], ◌∷◌, ◌++◌, length, codes, length-append, arith}
use Rattle.std.specs.Prelude.{nat_le, slice_get}
use Rattle.std.specs.Int.{bytes_high_first}
use Rattle.mesa_base.specs.declared.limits.TheConstants.{FILE_BYTES, INSTANCES}
use Rattle.interface_records.specs.declared.wanted.Wanted.{Wanted as Entry}
use Rattle.file_forms.specs.Files.{versioned}
use Rattle.file_forms.specs.Forms.{Form, number, pair, list, at_least, spell_each}
use Rattle.file_forms.specs.Names.{name, short_text}
use Rattle.face_rules.specs.FaceForms.{item}
use Rattle.object_files.specs.declared.image.Image.{Image}
use Rattle.object_files.specs.declared.image.Instance.{Instance}
use Rattle.object_files.specs.declared.image.Link.{Link}
use Rattle.object_files.specs.declared.image.Offer.{Offer}
use Rattle.object_rules.specs.declared.limits.TheConstants.{IMAGE_MODULES}
use Rattle.object_rules.specs.ImageForms.{ImagePart, parts_of_image, entry_parts, entry, instance_form, link_tables, module_at, exports_in, offer_parts, offer, image_parts, image_form}
use Rattle.object_rules.specs.ModuleForms.{module_form}
use Rattle.object_rules.specs.Numbers.{number_where, is_below}
use Rattle.object_rules.specs.Parts.{ModulePart}
use Rattle.object_writers.specs.ObjectBytes.{image_file}
use Rattle.large_images.specs.Laws.{LargeCountsAreLargeFiles}

-- ---- lists and pairs

each_long : {A : Type 0} (each : List A → Form A) → ((before : List A) (a : A) → 1 ≤ length ((each before).spell a)) → (before all : List A) → length all ≤ length (spell_each each before all)
unfolding spell_each
each_long each some before [] = omega arith
each_long each some before (a ∷ all) =
    let one = some before a in
    let more = each_long each some (before ++ a ∷ []) all in
    omega (arith, one, more, length-append ((each before).spell a) (spell_each each (before ++ a ∷ []) all))

list_long : {A : Type 0} (test : ℕ → Bool) (each : List A → Form A) → ((before : List A) (a : A) → 1 ≤ length ((each before).spell a)) → (all : List A)
    → length all ≤ length ((list test each).spell all)
list_long test each some all =
    let more = each_long each some [] all in
    omega (arith, more, length-append (bytes_high_first 4 (length all)) (spell_each each [] all))

first_of : {A B : Type 0} (f : Form A) (g : A → Form B) (p : A × B) (n : ℕ) → n ≤ length (f.spell p.0) → n ≤ length ((pair f g).spell p)
first_of f g p n le = omega (arith, le, length-append (f.spell p.0) ((g p.0).spell p.1))

second_of : {A B : Type 0} (f : Form A) (g : A → Form B) (p : A × B) (n : ℕ) → n ≤ length ((g p.0).spell p.1) → n ≤ length ((pair f g).spell p)
second_of f g p n le = omega (arith, le, length-append (f.spell p.0) ((g p.0).spell p.1))

-- ---- elements

name_long : (x : List ℕ) → 1 ≤ length (name.spell x)
unfolding name short_text
name_long x = omega arith

entry_long : (version : ℕ) (e : Entry) → 1 ≤ length ((entry version).spell e)
unfolding entry
entry_long version e = first_of name (λ _. pair (number 6) (λ _. item version)) (entry_parts e) 1 (name_long e.face)

offer_long : (modules : List ModulePart) (instances : List Instance) (o : Offer) → 1 ≤ length ((offer modules instances).spell o)
unfolding offer
offer_long modules instances o =
    first_of name (λ _. pair (number_where 4 (is_below (length instances))) (λ j.
    number_where 4 (is_below (length (exports_in (module_at modules (slice_get instances j))))))) (offer_parts o) 1 (name_long o.name)

-- ---- an image, by the forms behind one another

abbrev started : List Instance → Form (List ℕ)
started instances = list (at_least 0) (λ _. number_where 4 (is_below (length instances)))

abbrev offered : List ModulePart → List Instance → Form (List Offer × List ℕ)
offered modules instances = pair (list (at_least 0) (λ _. offer modules instances)) (λ _. started instances)

abbrev linked : List ModulePart → List Entry → List Instance → Form (List (List Link) × (List Offer × List ℕ))
linked modules wanted instances = pair (link_tables modules wanted instances) (λ _. offered modules instances)

abbrev made : List ModulePart → List Entry → Form (List Instance × (List (List Link) × (List Offer × List ℕ)))
made modules wanted = pair (list (λ n. nat_le n INSTANCES) (instance_form modules)) (linked modules wanted)

abbrev needing : ℕ → List ModulePart → Form (List Entry × (List Instance × (List (List Link) × (List Offer × List ℕ))))
needing version modules = pair (list (at_least 0) (λ _. entry version)) (made modules)

abbrev modules_in : ℕ → Form (List ModulePart)
modules_in version = list (λ n. nat_le n IMAGE_MODULES) (λ _. module_form version)

module _ (version : ℕ) (i : ImagePart) where
  wanted_long : length i.wanted ≤ length ((image_form version).spell i)
  unfolding image_form
  wanted_long =
      second_of (modules_in version) (needing version) (image_parts i) (length i.wanted)
      (first_of (list (at_least 0) (λ _. entry version)) (made i.modules) (image_parts i).1 (length i.wanted)
      (list_long (at_least 0) (λ _. entry version) (λ _ e. entry_long version e) i.wanted))

  -- what stands behind the instances' links
  behind_long : (n : ℕ) → n ≤ length ((offered i.modules i.instances).spell (i.offered, i.control)) → n ≤ length ((image_form version).spell i)
  unfolding image_form
  behind_long n le =
      second_of (modules_in version) (needing version) (image_parts i) n
      (second_of (list (at_least 0) (λ _. entry version)) (made i.modules) (image_parts i).1 n
      (second_of (list (λ n. nat_le n INSTANCES) (instance_form i.modules)) (linked i.modules i.wanted) (image_parts i).1.1 n
      (second_of (link_tables i.modules i.wanted i.instances) (λ _. offered i.modules i.instances) (image_parts i).1.1.1 n le)))

  offered_long : length i.offered ≤ length ((image_form version).spell i)
  offered_long =
      behind_long (length i.offered)
      (first_of (list (at_least 0) (λ _. offer i.modules i.instances)) (λ _. started i.instances) (i.offered, i.control) (length i.offered)
      (list_long (at_least 0) (λ _. offer i.modules i.instances) (λ _ o. offer_long i.modules i.instances o) i.offered))

  started_long : length i.control ≤ length ((image_form version).spell i)
  started_long =
      behind_long (length i.control)
      (second_of (list (at_least 0) (λ _. offer i.modules i.instances)) (λ _. started i.instances) (i.offered, i.control) (length i.control)
      (list_long (at_least 0) (λ _. number_where 4 (is_below (length i.instances))) (λ _ n. omega arith) i.control))

-- ---- the law

in_file : (i : Image) (n : ℕ) → n ≤ length ((image_form 2).spell (parts_of_image i)) → 2 ^ 32 ≤ n → FILE_BYTES < length (image_file i)
in_file i n le large =
    let over : 536870912 < length (image_file i) =
    omega (
      arith,
      le,
      large,
      length-append ((number 1).spell 2) ((image_form 2).spell (parts_of_image i)),
      length-append (codes "MIM") ((versioned image_form).spell (2, parts_of_image i)),
    ) in
    over

pub large_counts_are_large_files : LargeCountsAreLargeFiles
large_counts_are_large_files = record {
  wanted = λ i. in_file i (length i.wanted) (wanted_long 2 (parts_of_image i));
  offered = λ i. in_file i (length i.offered) (offered_long 2 (parts_of_image i));
  started = λ i. in_file i (length i.control) (started_long 2 (parts_of_image i));
}
