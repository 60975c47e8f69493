-- The laws of interfaces in files.
use Rattle.std.proofs.Common.{ℕ, List, ◌++◌, refl}
use Rattle.mesa_base.specs.declared.file_fault.Field.TheVariants as field
use Rattle.file_forms.specs.Forms.{number, pair, at_least}
use Rattle.file_forms.specs.Names.{fresh_name}
use Rattle.file_forms.specs.Lawful.{Lawful}
use Rattle.file_forms.proofs.Fields.{number_law}
use Rattle.file_forms.proofs.Pairs.{pair_law}
use Rattle.file_forms.proofs.Made.{ruled_law, built_law}
use Rattle.file_forms.proofs.Lists.{list_law}
use Rattle.file_forms.proofs.NameLaws.{fresh_name_law}
use Rattle.face_rules.specs.Layers.{value_bytes, holds}
use Rattle.face_rules.specs.TypeForms.{any, is_of_constants, types}
use Rattle.face_rules.specs.FaceForms.{item_names, face}
use Rattle.face_rules.specs.InterfaceForms.{constant_of, constant_parts, value_of, constant, constant_names, constants, named_of, named_parts, named_type, type_names, named_types, interface_of, interface_parts, interface}
use Rattle.face_rules.proofs.TypeLaws.{type_law}
use Rattle.face_rules.proofs.FaceLaws.{face_law}

constant_law : (version : ℕ) (seen : List (List ℕ)) → Lawful (constant version seen)
unfolding constant
constant_law version seen =
    built_law constant_of (pair (fresh_name seen) (λ _. pair (types version is_of_constants) value_of))
    (pair_law (fresh_name seen) (λ _. pair (types version is_of_constants) value_of) (fresh_name_law seen) (λ _ _.
    pair_law (types version is_of_constants) value_of (type_law version _ is_of_constants) (λ t _. ruled_law (number (value_bytes t)) (holds t) field.Number (number_law (value_bytes t)))))
    constant_parts (λ p fits. refl) (λ c. refl)

constants_law : (version : ℕ) (seen : List (List ℕ)) → Lawful (constants version seen)
unfolding constants
constants_law version seen = list_law (λ before. constant version (seen ++ constant_names before)) (λ before. constant_law version (seen ++ constant_names before)) (at_least 0)

named_type_law : (version : ℕ) (seen : List (List ℕ)) → Lawful (named_type version seen)
unfolding named_type
named_type_law version seen =
    built_law named_of (pair (fresh_name seen) (λ _. types version any))
    (pair_law (fresh_name seen) (λ _. types version any) (fresh_name_law seen) (λ _ _. type_law version _ any))
    named_parts (λ p fits. refl) (λ n. refl)

named_types_law : (version : ℕ) (seen : List (List ℕ)) → Lawful (named_types version seen)
unfolding named_types
named_types_law version seen = list_law (λ before. named_type version (seen ++ type_names before)) (λ before. named_type_law version (seen ++ type_names before)) (at_least 0)

pub interface_law : (version : ℕ) → Lawful (interface version)
unfolding interface
interface_law version =
    built_law interface_of (pair (face version) (λ f. pair (constants version (item_names f.items)) (λ cs. named_types version (item_names f.items ++ constant_names cs))))
    (pair_law (face version) (λ f. pair (constants version (item_names f.items)) (λ cs. named_types version (item_names f.items ++ constant_names cs))) (face_law version) (λ f _.
    pair_law (constants version (item_names f.items)) (λ cs. named_types version (item_names f.items ++ constant_names cs)) (constants_law version (item_names f.items)) (λ cs _.
    named_types_law version (item_names f.items ++ constant_names cs))))
    interface_parts (λ p fits. refl) (λ i. refl)
