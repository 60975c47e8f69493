-- The laws of modules in files.
use Rattle.std.proofs.Common.{◌≡◌, ℕ, zero, suc, ◌+◌, ◌≤◌, true, List, length, refl, arith}
use Rattle.std.specs.Prelude.{nat_le, slice_get}
use Rattle.std.proofs.lemmas.Bool.Decides.{nat_tests}
use Rattle.mesa_base.specs.declared.file_fault.Field.TheVariants as field
use Rattle.mesa_base.specs.declared.limits.TheConstants.{GLOBAL_WORDS, DISTINCT_STRINGS, STRING_BYTES}
use Rattle.mesa_types.specs.declared.faces.Item.{Item}
use Rattle.mesa_types.specs.declared.faces.Pair.{Pair}
use Rattle.code_forms.specs.declared.limits.TheConstants.{FRAME_WORDS, STACK_WORDS}
use Rattle.code_forms.specs.declared.module_code.CodeKind.{CodeKind}
use Rattle.code_forms.specs.declared.module_code.CodeKind.TheVariants.{Procedure, Signal, Error}
use Rattle.code_forms.specs.declared.module_code.CodeLink.{CodeLink}
use Rattle.code_forms.specs.declared.module_code.CodeSignal.{CodeSignal}
use Rattle.code_forms.specs.Instructions.{bytes_of}
use Rattle.file_forms.specs.Forms.{number, raw, pair, ruled, list, at_least, between}
use Rattle.file_forms.specs.Lawful.{Lawful}
use Rattle.file_forms.specs.Names.{name}
use Rattle.file_forms.proofs.Fields.{number_law, raw_law}
use Rattle.file_forms.proofs.Pairs.{pair_law, led_law}
use Rattle.file_forms.proofs.Made.{ruled_law, built_law}
use Rattle.file_forms.proofs.Lists.{list_law}
use Rattle.file_forms.proofs.NameLaws.{name_law}
use Rattle.face_rules.specs.FaceForms.{face}
use Rattle.face_rules.proofs.FaceLaws.{face_law}
use Rattle.object_rules.specs.CatchForms.{phrase}
use Rattle.object_rules.specs.Filling.{filling, size_of_all}
use Rattle.object_rules.specs.Instructions.{instruction}
use Rattle.object_rules.specs.ModuleForms.{import_of, import_parts, is_next, import_form, number_of_kind, kind_of_number, signal_kind, may_give, signal_of, signal_parts, signal, text, may_have, code, procedure_of, procedure_parts, procedure, gives_item, pair_of, pair_parts, last_item, given, export_of, export_parts, export_form, module_of, module_parts, module_form}
use Rattle.object_rules.specs.Numbers.{u16, number_where, length_where, last_of}
use Rattle.object_rules.specs.Parts.{ProcedurePart, link_codes}
use Rattle.object_rules.proofs.NumberLaws.{number_where_law, length_where_law}
use Rattle.object_rules.proofs.CatchLaws.{phrase_law}
use Rattle.object_rules.proofs.FillingLaws.{full_size, filling_law}
use Rattle.object_rules.proofs.InstructionLaws.{instruction_law, instruction_sized}

import_law : (version : ℕ) → Lawful (import_form version)
unfolding import_form
import_law version =
    built_law import_of (pair (face version) (λ f. list (at_least 0) (λ before. number_where 4 (is_next (length f.items) (last_of before)))))
    (pair_law (face version) (λ f. list (at_least 0) (λ before. number_where 4 (is_next (length f.items) (last_of before)))) (face_law version) (λ f _.
    list_law (λ before. number_where 4 (is_next (length f.items) (last_of before))) (λ before. number_where_law 4 (is_next (length f.items) (last_of before))) (at_least 0)))
    import_parts (λ p fits. refl) (λ x. refl)

below_four : (n : ℕ) → between 2 3 n ≡ true → n ≤ 3
below_four n e = grind (arith, nat_tests)

kind_back : (n : ℕ) → between 2 3 n ≡ true → number_of_kind (kind_of_number n) ≡ n
kind_back zero e = absurd cc
kind_back (suc zero) e = absurd cc
kind_back (suc (suc zero)) e = refl
kind_back (suc (suc (suc zero))) e = refl
kind_back (suc (suc (suc (suc n)))) e = let few : suc (suc (suc (suc n))) ≤ 3 = below_four (suc (suc (suc (suc n)))) e in absurd (omega (arith, few))

kind_forth : (k : CodeKind) → kind_of_number (number_of_kind k) ≡ k
kind_forth Procedure = refl
kind_forth Signal = refl
kind_forth Error = refl

signal_kind_law : Lawful signal_kind
unfolding signal_kind
signal_kind_law =
    built_law kind_of_number (ruled (number 1) (between 2 3) field.Kind) (ruled_law (number 1) (between 2 3) field.Kind (number_law 1)) number_of_kind (λ n fits. kind_back n fits.1) kind_forth

signal_law : Lawful signal
unfolding signal
signal_law =
    built_law signal_of (pair signal_kind (λ kind. pair name (λ _. pair u16 (λ _. length_where 2 (may_give kind)))))
    (pair_law signal_kind (λ kind. pair name (λ _. pair u16 (λ _. length_where 2 (may_give kind)))) signal_kind_law (λ kind _.
    pair_law name (λ _. pair u16 (λ _. length_where 2 (may_give kind))) name_law (λ _ _.
    pair_law u16 (λ _. length_where 2 (may_give kind)) (number_law 2) (λ _ _.
    length_where_law 2 (may_give kind)))))
    signal_parts (λ p fits. refl) (λ x. refl)

text_law : Lawful text
unfolding text
text_law =
    led_law length (length_where 2 (λ n. nat_le n STRING_BYTES)) raw (length_where_law 2 (λ n. nat_le n STRING_BYTES)) (λ n _. raw_law n) (λ n bytes few fits. fits.0)

code_law : Lawful code
unfolding code
code_law =
    led_law (size_of_all bytes_of) (length_where 4 (at_least 1)) (filling bytes_of instruction) (length_where_law 4 (at_least 1))
    (λ n _. filling_law bytes_of instruction instruction_law instruction_sized n) (λ n all few fits. full_size bytes_of instruction instruction_law instruction_sized n all fits)

procedure_law : (signals : List CodeSignal) (links : List CodeLink) (before : List ProcedurePart) → Lawful (procedure signals links before)
unfolding procedure
procedure_law signals links before =
    built_law procedure_of (pair name (λ _. pair (length_where 2 (may_have before)) (λ args. pair (length_where 2 (may_have before)) (λ results. pair (length_where 2 (between (args + results) FRAME_WORDS)) (λ _. pair (length_where 4 (λ n. nat_le n STACK_WORDS)) (λ _. pair code (λ _. list (at_least 0) (λ _. phrase signals links))))))))
    (pair_law name (λ _. pair (length_where 2 (may_have before)) (λ args. pair (length_where 2 (may_have before)) (λ results. pair (length_where 2 (between (args + results) FRAME_WORDS)) (λ _. pair (length_where 4 (λ n. nat_le n STACK_WORDS)) (λ _. pair code (λ _. list (at_least 0) (λ _. phrase signals links))))))) name_law (λ _ _.
    pair_law (length_where 2 (may_have before)) (λ args. pair (length_where 2 (may_have before)) (λ results. pair (length_where 2 (between (args + results) FRAME_WORDS)) (λ _. pair (length_where 4 (λ n. nat_le n STACK_WORDS)) (λ _. pair code (λ _. list (at_least 0) (λ _. phrase signals links)))))) (length_where_law 2 (may_have before)) (λ args _.
    pair_law (length_where 2 (may_have before)) (λ results. pair (length_where 2 (between (args + results) FRAME_WORDS)) (λ _. pair (length_where 4 (λ n. nat_le n STACK_WORDS)) (λ _. pair code (λ _. list (at_least 0) (λ _. phrase signals links))))) (length_where_law 2 (may_have before)) (λ results _.
    pair_law (length_where 2 (between (args + results) FRAME_WORDS)) (λ _. pair (length_where 4 (λ n. nat_le n STACK_WORDS)) (λ _. pair code (λ _. list (at_least 0) (λ _. phrase signals links)))) (length_where_law 2 (between (args + results) FRAME_WORDS)) (λ _ _.
    pair_law (length_where 4 (λ n. nat_le n STACK_WORDS)) (λ _. pair code (λ _. list (at_least 0) (λ _. phrase signals links))) (length_where_law 4 (λ n. nat_le n STACK_WORDS)) (λ _ _.
    pair_law code (λ _. list (at_least 0) (λ _. phrase signals links)) code_law (λ _ _.
    list_law (λ _. phrase signals links) (λ _. phrase_law signals links) (at_least 0))))))))
    procedure_parts (λ p fits. refl) (λ x. refl)

given_law : (signals : List CodeSignal) (procedures : List ProcedurePart) (items : List Item) (before : List Pair) → Lawful (given signals procedures items before)
unfolding given
given_law signals procedures items before =
    built_law pair_of (pair (number_where 4 (is_next (length items) (last_item before))) (λ k. number_where 4 (gives_item signals procedures (slice_get items k))))
    (pair_law (number_where 4 (is_next (length items) (last_item before))) (λ k. number_where 4 (gives_item signals procedures (slice_get items k))) (number_where_law 4 (is_next (length items) (last_item before))) (λ k _.
    number_where_law 4 (gives_item signals procedures (slice_get items k))))
    pair_parts (λ p fits. refl) (λ x. refl)

export_law : (version : ℕ) (signals : List CodeSignal) (procedures : List ProcedurePart) → Lawful (export_form version signals procedures)
unfolding export_form
export_law version signals procedures =
    built_law export_of (pair (face version) (λ f. list (at_least 0) (given signals procedures f.items)))
    (pair_law (face version) (λ f. list (at_least 0) (given signals procedures f.items)) (face_law version) (λ f _.
    list_law (given signals procedures f.items) (given_law signals procedures f.items) (at_least 0)))
    export_parts (λ p fits. refl) (λ x. refl)

pub module_law : (version : ℕ) → Lawful (module_form version)
unfolding module_form
module_law version =
    built_law module_of (pair name (λ _. pair (list (at_least 0) (λ _. import_form version)) (λ imports. pair (length_where 2 (λ n. nat_le n GLOBAL_WORDS)) (λ _. pair (list (at_least 0) (λ _. signal)) (λ signals. pair (list (λ n. nat_le n DISTINCT_STRINGS) (λ _. text)) (λ _. pair (list (at_least 1) (procedure signals (link_codes imports))) (λ procedures. list (at_least 0) (λ _. export_form version signals procedures))))))))
    (pair_law name (λ _. pair (list (at_least 0) (λ _. import_form version)) (λ imports. pair (length_where 2 (λ n. nat_le n GLOBAL_WORDS)) (λ _. pair (list (at_least 0) (λ _. signal)) (λ signals. pair (list (λ n. nat_le n DISTINCT_STRINGS) (λ _. text)) (λ _. pair (list (at_least 1) (procedure signals (link_codes imports))) (λ procedures. list (at_least 0) (λ _. export_form version signals procedures))))))) name_law (λ _ _.
    pair_law (list (at_least 0) (λ _. import_form version)) (λ imports. pair (length_where 2 (λ n. nat_le n GLOBAL_WORDS)) (λ _. pair (list (at_least 0) (λ _. signal)) (λ signals. pair (list (λ n. nat_le n DISTINCT_STRINGS) (λ _. text)) (λ _. pair (list (at_least 1) (procedure signals (link_codes imports))) (λ procedures. list (at_least 0) (λ _. export_form version signals procedures)))))) (list_law (λ _. import_form version) (λ _. import_law version) (at_least 0)) (λ imports _.
    pair_law (length_where 2 (λ n. nat_le n GLOBAL_WORDS)) (λ _. pair (list (at_least 0) (λ _. signal)) (λ signals. pair (list (λ n. nat_le n DISTINCT_STRINGS) (λ _. text)) (λ _. pair (list (at_least 1) (procedure signals (link_codes imports))) (λ procedures. list (at_least 0) (λ _. export_form version signals procedures))))) (length_where_law 2 (λ n. nat_le n GLOBAL_WORDS)) (λ _ _.
    pair_law (list (at_least 0) (λ _. signal)) (λ signals. pair (list (λ n. nat_le n DISTINCT_STRINGS) (λ _. text)) (λ _. pair (list (at_least 1) (procedure signals (link_codes imports))) (λ procedures. list (at_least 0) (λ _. export_form version signals procedures)))) (list_law (λ _. signal) (λ _. signal_law) (at_least 0)) (λ signals _.
    pair_law (list (λ n. nat_le n DISTINCT_STRINGS) (λ _. text)) (λ _. pair (list (at_least 1) (procedure signals (link_codes imports))) (λ procedures. list (at_least 0) (λ _. export_form version signals procedures))) (list_law (λ _. text) (λ _. text_law) (λ n. nat_le n DISTINCT_STRINGS)) (λ _ _.
    pair_law (list (at_least 1) (procedure signals (link_codes imports))) (λ procedures. list (at_least 0) (λ _. export_form version signals procedures)) (list_law (procedure signals (link_codes imports)) (procedure_law signals (link_codes imports)) (at_least 1)) (λ procedures _.
    list_law (λ _. export_form version signals procedures) (λ _. export_law version signals procedures) (at_least 0))))))))
    module_parts (λ p fits. refl) (λ x. refl)
