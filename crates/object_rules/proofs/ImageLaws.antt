-- The laws of images in files.
use Rattle.std.proofs.Common.{◌≡◌, ℕ, zero, suc, ◌≤◌, true, List, length, Option, Some, refl, arith}
use Rattle.std.specs.Prelude.{nat_le, ◌==◌, not, slice_get}
use Rattle.std.proofs.lemmas.Bool.Decides.{nat_tests}
use Rattle.mesa_base.specs.declared.file_fault.Field.TheVariants as field
use Rattle.mesa_base.specs.declared.limits.TheConstants.{INSTANCES, CONFIGURATION_DEPTH}
use Rattle.object_files.specs.interface_records.specs.declared.wanted.Wanted.{Wanted as Entry}
use Rattle.file_forms.specs.Forms.{number, pair, ruled, several, list, choose, at_least, between}
use Rattle.file_forms.specs.Lawful.{Lawful}
use Rattle.file_forms.specs.Names.{name}
use Rattle.file_forms.proofs.Fields.{number_law}
use Rattle.file_forms.proofs.Pairs.{pair_law, led_law}
use Rattle.file_forms.proofs.Made.{ruled_law, built_law, variant_law, choose_law}
use Rattle.file_forms.proofs.Lists.{several_law, list_law}
use Rattle.file_forms.proofs.NameLaws.{name_law}
use Rattle.face_rules.specs.FaceForms.{item as item_form}
use Rattle.face_rules.proofs.FaceLaws.{item_law}
use Rattle.object_files.specs.declared.image.Instance.{Instance}
use Rattle.object_files.specs.declared.image.Link.{Link}
use Rattle.object_files.specs.declared.image.Link.TheVariants.{Wanted, To}
use Rattle.object_rules.specs.declared.limits.TheConstants.{IMAGE_MODULES}
use Rattle.object_rules.specs.ImageForms.{entry_of, entry_parts, entry, path, has_path, instance_of, instance_parts, instance_form, needed_by, module_at, is_wanted, is_given, link_tag, of_wanted, of_to, wanted_link, bound_link, link, link_table, link_tables, exports_in, offer_of, offer_parts, offer, image_of, image_parts, image_form}
use Rattle.object_rules.specs.ModuleForms.{module_form}
use Rattle.object_rules.specs.Numbers.{number_where, is_below}
use Rattle.object_rules.specs.Parts.{ModulePart}
use Rattle.object_rules.proofs.ModuleLaws.{module_law}
use Rattle.object_rules.proofs.NumberLaws.{number_where_law}

entry_law : (version : ℕ) → Lawful (entry version)
unfolding entry
entry_law version =
    built_law entry_of (pair name (λ _. pair (number 6) (λ _. item_form version)))
    (pair_law name (λ _. pair (number 6) (λ _. item_form version)) name_law (λ _ _.
    pair_law (number 6) (λ _. item_form version) (number_law 6) (λ _ _.
    item_law version)))
    entry_parts (λ p fits. refl) (λ x. refl)

path_law : Lawful path
unfolding path
path_law =
    led_law length (ruled (number 1) (between 1 CONFIGURATION_DEPTH) field.Length) (λ n. several n (λ _. name)) (ruled_law (number 1) (between 1 CONFIGURATION_DEPTH) field.Length (number_law 1))
    (λ n _. several_law (λ _. name) (λ _. name_law) n) (λ n p few fits. fits.0)

instance_law : (modules : List ModulePart) (before : List Instance) → Lawful (instance_form modules before)
unfolding instance_form
instance_law modules before =
    built_law instance_of (pair (ruled path (λ p. not (has_path before p)) field.Twice) (λ _. number_where 4 (is_below (length modules))))
    (pair_law (ruled path (λ p. not (has_path before p)) field.Twice) (λ _. number_where 4 (is_below (length modules))) (ruled_law path (λ p. not (has_path before p)) field.Twice path_law) (λ _ _.
    number_where_law 4 (is_below (length modules))))
    instance_parts (λ p fits. refl) (λ x. refl)

wanted_forth : (x : Link) (n : ℕ) → of_wanted x ≡ Some n → x ≡ Wanted n
wanted_forth (Wanted k) n e = cc
wanted_forth (To j k) n e = absurd cc

to_forth : (x : Link) (p : ℕ × ℕ) → of_to x ≡ Some p → x ≡ To p.0 p.1
to_forth (Wanted k) p e = absurd cc
to_forth (To j k) p e = cc

module _ (modules : List ModulePart) (wanted : List Entry) (instances : List Instance) where
  module _ (needed : Option Entry) where
    wanted_law : Lawful (wanted_link wanted needed)
    unfolding wanted_link
    wanted_law =
        variant_law Wanted (number_where 4 (λ n. is_wanted needed (slice_get wanted n))) (number_where_law 4 (λ n. is_wanted needed (slice_get wanted n))) of_wanted (λ n fits. refl) wanted_forth

    bound_law : Lawful (bound_link modules instances needed)
    unfolding bound_link
    bound_law =
        variant_law (λ p. To p.0 p.1) (pair (number_where 4 (is_below (length instances))) (λ j. number_where 4 (is_given needed (module_at modules (slice_get instances j)))))
        (pair_law (number_where 4 (is_below (length instances))) (λ j. number_where 4 (is_given needed (module_at modules (slice_get instances j)))) (number_where_law 4 (is_below (length instances))) (λ j _.
        number_where_law 4 (is_given needed (module_at modules (slice_get instances j)))))
        of_to (λ p fits. refl) to_forth

    below_three : (n : ℕ) → between 1 2 n ≡ true → n ≤ 2
    below_three n e = grind (arith, nat_tests)

    wanted_tag : (x : Link) → (wanted_link wanted needed).fits x → link_tag x ≡ 1
    unfolding wanted_link
    wanted_tag (Wanted n) fits = refl
    wanted_tag (To j n) fits = absurd fits

    bound_tag : (x : Link) → (bound_link modules instances needed).fits x → link_tag x ≡ 2
    unfolding bound_link
    bound_tag (Wanted n) fits = absurd fits
    bound_tag (To j n) fits = refl

    told : (tag : ℕ) (x : Link) → between 1 2 tag ≡ true → (choose (tag == 1) (wanted_link wanted needed) (bound_link modules instances needed)).fits x → link_tag x ≡ tag
    told zero x few fits = absurd cc
    told (suc zero) x few fits = wanted_tag x fits
    told (suc (suc zero)) x few fits = bound_tag x fits
    told (suc (suc (suc n))) x few fits = let least : suc (suc (suc n)) ≤ 2 = below_three (suc (suc (suc n))) few in absurd (omega (arith, least))

    link_law : Lawful (link modules wanted instances needed)
    unfolding link
    link_law =
        led_law link_tag (ruled (number 1) (between 1 2) field.Kind) (λ tag. choose (tag == 1) (wanted_link wanted needed) (bound_link modules instances needed))
        (ruled_law (number 1) (between 1 2) field.Kind (number_law 1))
        (λ tag _. choose_law (tag == 1) (wanted_link wanted needed) (bound_link modules instances needed) (λ _. wanted_law) (λ _. bound_law))
        (λ tag x few fits. told tag x few.1 fits)

  link_table_law : (needed : List Entry) → Lawful (link_table modules wanted instances needed)
  unfolding link_table
  link_table_law needed =
      several_law (λ before. link modules wanted instances (slice_get needed (length before))) (λ before. link_law (slice_get needed (length before))) (length needed)

  pub link_tables_law : Lawful (link_tables modules wanted instances)
  unfolding link_tables
  link_tables_law =
      several_law (λ before. link_table modules wanted instances (needed_by (module_at modules (slice_get instances (length before)))))
      (λ before. link_table_law (needed_by (module_at modules (slice_get instances (length before))))) (length instances)

offer_law : (modules : List ModulePart) (instances : List Instance) → Lawful (offer modules instances)
unfolding offer
offer_law modules instances =
    built_law offer_of (pair name (λ _. pair (number_where 4 (is_below (length instances))) (λ j. number_where 4 (is_below (length (exports_in (module_at modules (slice_get instances j))))))))
    (pair_law name (λ _. pair (number_where 4 (is_below (length instances))) (λ j. number_where 4 (is_below (length (exports_in (module_at modules (slice_get instances j))))))) name_law (λ _ _.
    pair_law (number_where 4 (is_below (length instances))) (λ j. number_where 4 (is_below (length (exports_in (module_at modules (slice_get instances j)))))) (number_where_law 4 (is_below (length instances))) (λ j _.
    number_where_law 4 (is_below (length (exports_in (module_at modules (slice_get instances j))))))))
    offer_parts (λ p fits. refl) (λ x. refl)

pub image_law : (version : ℕ) → Lawful (image_form version)
unfolding image_form
image_law version =
    built_law image_of (pair (list (λ n. nat_le n IMAGE_MODULES) (λ _. module_form version)) (λ modules. pair (list (at_least 0) (λ _. entry version)) (λ wanted. pair (list (λ n. nat_le n INSTANCES) (instance_form modules)) (λ instances. pair (link_tables modules wanted instances) (λ _. pair (list (at_least 0) (λ _. offer modules instances)) (λ _. list (at_least 0) (λ _. number_where 4 (is_below (length instances)))))))))
    (pair_law (list (λ n. nat_le n IMAGE_MODULES) (λ _. module_form version)) (λ modules. pair (list (at_least 0) (λ _. entry version)) (λ wanted. pair (list (λ n. nat_le n INSTANCES) (instance_form modules)) (λ instances. pair (link_tables modules wanted instances) (λ _. pair (list (at_least 0) (λ _. offer modules instances)) (λ _. list (at_least 0) (λ _. number_where 4 (is_below (length instances)))))))) (list_law (λ _. module_form version) (λ _. module_law version) (λ n. nat_le n IMAGE_MODULES)) (λ modules _.
    pair_law (list (at_least 0) (λ _. entry version)) (λ wanted. pair (list (λ n. nat_le n INSTANCES) (instance_form modules)) (λ instances. pair (link_tables modules wanted instances) (λ _. pair (list (at_least 0) (λ _. offer modules instances)) (λ _. list (at_least 0) (λ _. number_where 4 (is_below (length instances))))))) (list_law (λ _. entry version) (λ _. entry_law version) (at_least 0)) (λ wanted _.
    pair_law (list (λ n. nat_le n INSTANCES) (instance_form modules)) (λ instances. pair (link_tables modules wanted instances) (λ _. pair (list (at_least 0) (λ _. offer modules instances)) (λ _. list (at_least 0) (λ _. number_where 4 (is_below (length instances)))))) (list_law (instance_form modules) (instance_law modules) (λ n. nat_le n INSTANCES)) (λ instances _.
    pair_law (link_tables modules wanted instances) (λ _. pair (list (at_least 0) (λ _. offer modules instances)) (λ _. list (at_least 0) (λ _. number_where 4 (is_below (length instances))))) (link_tables_law modules wanted instances) (λ _ _.
    pair_law (list (at_least 0) (λ _. offer modules instances)) (λ _. list (at_least 0) (λ _. number_where 4 (is_below (length instances)))) (list_law (λ _. offer modules instances) (λ _. offer_law modules instances) (at_least 0)) (λ _ _.
    list_law (λ _. number_where 4 (is_below (length instances))) (λ _. number_where_law 4 (is_below (length instances))) (at_least 0)))))))
    image_parts (λ p fits. refl) (λ x. refl)
