-- Images whose files are within their size have no more elements together than files can count.
use Rattle.std.proofs.Common.{◌≡◌, ℕ, zero, suc, ◌+◌, ◌-◌, ◌*◌, ◌<◌, ◌≤◌, List, [], ◌∷◌, ◌++◌, length, map, flat_map, drop, nat_le, get_or, refl, ap, ◌∙◌, append-nil, length-append, length-drop, arith, zero-lt-suc, suc-le-suc}
use Rattle.mesa_base.specs.declared.limits.TheConstants.{INSTANCES}
use Rattle.interface_records.specs.declared.wanted.Wanted.{Wanted as Entry}
use Rattle.file_forms.specs.Files.{versioned}
use Rattle.file_forms.specs.Forms.{Form, list, spell_each}
use Rattle.file_forms.specs.Names.{name}
use Rattle.file_forms.proofs.Numbers.{length-number}
use Rattle.face_rules.specs.FaceForms.{item as item_form}
use Rattle.object_files.specs.declared.image.Image.{Image}
use Rattle.object_files.specs.declared.image.Instance.{Instance}
use Rattle.object_files.specs.declared.image.Offer.{Offer}
use Rattle.object_rules.specs.declared.limits.TheConstants.{IMAGE_MODULES}
use Rattle.object_rules.specs.ModuleForms.{module_form}
use Rattle.object_rules.specs.ImageForms.{entry, instance_form, link_tables, offer, image_form, parts_of_image}
use Rattle.object_rules.specs.Numbers.{number_where, is_below}
use Rattle.object_rules.specs.Parts.{ModulePart, parts_of}
use Rattle.std.specs.Int.{bytes_high_first}
use Rattle.loader_rules.specs.Laws.{HasFile}

-- elements of four bytes or more
spelled_each : {A : Type 0} (f : Form A) → ((a : A) → 4 ≤ length (f.spell a)) → (before all : List A) → 4 * length all ≤ length (spell_each (λ _. f) before all)
unfolding spell_each
spelled_each f four before [] = omega arith
spelled_each f four before (a ∷ all) =
    let here = four a in
    let rest = spelled_each f four (before ++ a ∷ []) all in
    omega (arith, here, rest, length-append (f.spell a) (spell_each (λ _. f) (before ++ a ∷ []) all))

entry_is_long : (version : ℕ) (e : Entry) → 4 ≤ length ((entry version).spell e)
unfolding entry
entry_is_long version e =
    let stamp : length (bytes_high_first 6 e.stamp) ≡ 6 = length-number 6 e.stamp in
    omega (arith, stamp, length-append (name.spell e.face) (bytes_high_first 6 e.stamp ++ (item_form version).spell e.item), length-append (bytes_high_first 6 e.stamp) ((item_form version).spell e.item))

offer_is_long : (modules : List ModulePart) (instances : List Instance) (o : Offer) → 4 ≤ length ((offer modules instances).spell o)
unfolding offer
offer_is_long modules instances o =
    let instance : length (bytes_high_first 4 o.instance) ≡ 4 = length-number 4 o.instance in
    omega (arith, instance, length-append (name.spell o.name) (bytes_high_first 4 o.instance ++ bytes_high_first 4 o.export), length-append (bytes_high_first 4 o.instance) (bytes_high_first 4 o.export))

started_is_long : (n : ℕ) (j : ℕ) → 4 ≤ length ((number_where 4 (is_below n)).spell j)
started_is_long n j = let its : length (bytes_high_first 4 j) ≡ 4 = length-number 4 j in omega (arith, its)

-- what stands in a file is no longer than the file
pub record IsSmall (i : Image) : Type 0 where
  pub wanted : 4 * length i.wanted ≤ 536870912
  pub offered : 4 * length i.offered ≤ 536870912
  pub started : 4 * length i.control ≤ 536870912

within : (a b c d e f g : List ℕ) → length (a ++ (b ++ (c ++ (d ++ (e ++ (f ++ g)))))) ≡ length a + (length b + (length c + (length d + (length e + (length f + length g)))))
within a b c d e f g =
    length-append a (b ++ (c ++ (d ++ (e ++ (f ++ g)))))
    ∙ ap (λ n. length a + n) (length-append b (c ++ (d ++ (e ++ (f ++ g))))
    ∙ ap (λ n. length b + n) (length-append c (d ++ (e ++ (f ++ g)))
    ∙ ap (λ n. length c + n) (length-append d (e ++ (f ++ g))
    ∙ ap (λ n. length d + n) (length-append e (f ++ g)
    ∙ ap (λ n. length e + n) (length-append f g)))))

module _ (version : ℕ) (i : Image) where
  abbrev modules : List ModulePart
  modules = map parts_of i.modules

  abbrev entries : List ℕ
  entries = spell_each (λ _. entry version) [] i.wanted

  abbrev offers : List ℕ
  offers = spell_each (λ _. offer modules i.instances) [] i.offered

  abbrev starts : List ℕ
  starts = spell_each (λ _. number_where 4 (is_below (length i.instances))) [] i.control

  whole : (versioned image_form).spell (version, parts_of_image i)
      ≡ bytes_high_first 1 version
      ++ ((list (λ n. nat_le n IMAGE_MODULES) (λ _. module_form version)).spell modules
      ++ ((bytes_high_first 4 (length i.wanted) ++ entries)
      ++ ((list (λ n. nat_le n INSTANCES) (instance_form modules)).spell i.instances
      ++ ((link_tables modules i.wanted i.instances).spell i.links
      ++ ((bytes_high_first 4 (length i.offered) ++ offers) ++ (bytes_high_first 4 (length i.control) ++ starts))))))
  unfolding image_form
  whole = refl

  pub small : HasFile version i → IsSmall i
  small h =
      let ms = (list (λ n. nat_le n IMAGE_MODULES) (λ _. module_form version)).spell modules in
      let is = (list (λ n. nat_le n INSTANCES) (instance_form modules)).spell i.instances in
      let ls = (link_tables modules i.wanted i.instances).spell i.links in
      let bytes : List ℕ = h.0 in
      let few : length bytes ≤ 536870912 = h.1.file.few in
      let text : drop 3 bytes ≡ (versioned image_form).spell (version, parts_of_image i) = h.1.file.spells.text ∙ append-nil ((versioned image_form).spell (version, parts_of_image i)) in
      let long = ap length (text ∙ whole)
      ∙ within (bytes_high_first 1 version) ms (bytes_high_first 4 (length i.wanted) ++ entries) is ls (bytes_high_first 4 (length i.offered) ++ offers) (bytes_high_first 4 (length i.control) ++ starts) in
      let dropped : length (drop 3 bytes) ≡ length bytes - 3 = length-drop 3 bytes in
      let w = length-append (bytes_high_first 4 (length i.wanted)) entries in
      let o = length-append (bytes_high_first 4 (length i.offered)) offers in
      let c = length-append (bytes_high_first 4 (length i.control)) starts in
      let wanted = spelled_each (entry version) (entry_is_long version) [] i.wanted in
      let offered = spelled_each (offer modules i.instances) (offer_is_long modules i.instances) [] i.offered in
      let started = spelled_each (number_where 4 (is_below (length i.instances))) (started_is_long (length i.instances)) [] i.control in
      record {
        wanted = omega (arith, few, long, dropped, w, wanted);
        offered = omega (arith, few, long, dropped, o, offered);
        started = omega (arith, few, long, dropped, c, started);
      }

-- ---- of several images

pub all_counted : {A : Type 0} (h : Image → List A) (images : List Image) → ((k : ℕ) (d : Image) → k < length images → 4 * length (h (get_or images k d)) ≤ 536870912)
    → 4 * length (flat_map h images) ≤ length images * 536870912
all_counted h [] small = omega arith
all_counted h (i ∷ images) small =
    let here : 4 * length (h i) ≤ 536870912 = small zero i (zero-lt-suc _) in
    let rest = all_counted h images (λ k d less. small (suc k) d (suc-le-suc less)) in
    omega (arith, here, rest, length-append (h i) (flat_map h images))
