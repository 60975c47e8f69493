-- What has a spelling in some version has the same in version 2: modules and images.
use Rattle.std.proofs.Common.{ℕ, List, length}
use Rattle.std.specs.Prelude.{nat_le}
use Rattle.mesa_base.specs.declared.limits.TheConstants.{GLOBAL_WORDS, DISTINCT_STRINGS, INSTANCES}
use Rattle.code_forms.specs.declared.module_code.CodeSignal.{CodeSignal}
use Rattle.file_forms.specs.Forms.{number, pair, list, at_least}
use Rattle.file_forms.specs.Names.{name}
use Rattle.face_rules.specs.FaceForms.{face}
use Rattle.face_rules.proofs.Grows.{Grows, itself, pair_grows, built_grows, list_grows}
use Rattle.face_rules.proofs.Versions.{item_grows, face_grows}
use Rattle.object_rules.specs.declared.limits.TheConstants.{IMAGE_MODULES}
use Rattle.object_rules.specs.ImageForms.{entry_of, entry_parts, entry, instance_form, link_tables, offer, image_of, image_parts, image_form}
use Rattle.object_rules.specs.ModuleForms.{import_of, import_parts, is_next, import_form, signal, text, procedure, given, export_of, export_parts, export_form, module_of, module_parts, module_form}
use Rattle.object_rules.specs.Numbers.{number_where, length_where, last_of, is_below}
use Rattle.object_rules.specs.Parts.{ProcedurePart, link_codes}

import_grows : (version : ℕ) → Grows (import_form version) (import_form 2)
unfolding import_form
import_grows version =
    built_grows import_of import_parts _ _
    (pair_grows (face version) (face 2) _ _ (face_grows version) (λ f h. itself (list (at_least 0) (λ before. number_where 4 (is_next (length f.items) (last_of before))))))

export_grows : (version : ℕ) (signals : List CodeSignal) (procedures : List ProcedurePart) → Grows (export_form version signals procedures) (export_form 2 signals procedures)
unfolding export_form
export_grows version signals procedures =
    built_grows export_of export_parts _ _
    (pair_grows (face version) (face 2) _ _ (face_grows version) (λ f h. itself (list (at_least 0) (given signals procedures f.items))))

pub module_grows : (version : ℕ) → Grows (module_form version) (module_form 2)
unfolding module_form
module_grows version =
    built_grows module_of module_parts _ _
    (pair_grows name name _ _ (itself name) (λ x h.
    pair_grows (list (at_least 0) (λ _. import_form version)) (list (at_least 0) (λ _. import_form 2)) _ _
    (list_grows (at_least 0) (λ _. import_form version) (λ _. import_form 2) (λ before. import_grows version)) (λ imports h.
    pair_grows (length_where 2 (λ n. nat_le n GLOBAL_WORDS)) (length_where 2 (λ n. nat_le n GLOBAL_WORDS)) _ _ (itself _) (λ words h.
    pair_grows (list (at_least 0) (λ _. signal)) (list (at_least 0) (λ _. signal)) _ _ (itself _) (λ signals h.
    pair_grows (list (λ n. nat_le n DISTINCT_STRINGS) (λ _. text)) (list (λ n. nat_le n DISTINCT_STRINGS) (λ _. text)) _ _ (itself _) (λ strings h.
    pair_grows (list (at_least 1) (procedure signals (link_codes imports))) (list (at_least 1) (procedure signals (link_codes imports))) _ _ (itself _) (λ procedures h.
    list_grows (at_least 0) (λ _. export_form version signals procedures) (λ _. export_form 2 signals procedures) (λ before.
    export_grows version signals procedures))))))))

entry_grows : (version : ℕ) → Grows (entry version) (entry 2)
unfolding entry
entry_grows version =
    built_grows entry_of entry_parts _ _
    (pair_grows name name _ _ (itself name) (λ x h. pair_grows (number 6) (number 6) _ _ (itself (number 6)) (λ stamp h. item_grows name version)))

pub image_grows : (version : ℕ) → Grows (image_form version) (image_form 2)
unfolding image_form
image_grows version =
    built_grows image_of image_parts _ _
    (pair_grows (list (λ n. nat_le n IMAGE_MODULES) (λ _. module_form version)) (list (λ n. nat_le n IMAGE_MODULES) (λ _. module_form 2)) _ _
    (list_grows (λ n. nat_le n IMAGE_MODULES) (λ _. module_form version) (λ _. module_form 2) (λ before. module_grows version)) (λ modules h.
    pair_grows (list (at_least 0) (λ _. entry version)) (list (at_least 0) (λ _. entry 2)) _ _
    (list_grows (at_least 0) (λ _. entry version) (λ _. entry 2) (λ before. entry_grows version)) (λ wanted h.
    itself (pair (list (λ n. nat_le n INSTANCES) (instance_form modules)) (λ instances.
    pair (link_tables modules wanted instances) (λ _.
    pair (list (at_least 0) (λ _. offer modules instances)) (λ _.
    list (at_least 0) (λ _. number_where 4 (is_below (length instances))))))))))
