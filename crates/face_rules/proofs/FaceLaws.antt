-- The laws of items and faces in files.
use Rattle.std.proofs.Common.{◌≡◌, ℕ, zero, suc, ◌≤◌, true, List, refl, arith}
use Rattle.std.specs.Prelude.{nat_le, ◌&&◌}
use Rattle.std.proofs.lemmas.Bool.Decides.{nat_tests}
use Rattle.mesa_types.specs.declared.faces.ItemKind.{ItemKind}
use Rattle.mesa_types.specs.declared.faces.ItemKind.TheVariants.{Procedure, Signal, Error}
use Rattle.mesa_base.specs.declared.file_fault.Field.TheVariants as field
use Rattle.file_forms.specs.Forms.{Form, number, pair, ruled, at_least}
use Rattle.file_forms.specs.Names.{name, fresh_name}
use Rattle.file_forms.specs.Lawful.{Lawful}
use Rattle.file_forms.proofs.Fields.{number_law, always_law}
use Rattle.file_forms.proofs.Pairs.{pair_law}
use Rattle.file_forms.proofs.Made.{ruled_law, built_law}
use Rattle.file_forms.proofs.Lists.{list_law}
use Rattle.file_forms.proofs.NameLaws.{name_law, fresh_name_law}
use Rattle.face_rules.specs.TypeForms.{fields}
use Rattle.face_rules.specs.FaceForms.{number_of, kind_of, item_kind, gives, item_of, item_parts, item_named, item, item_names, items, face_of, face_parts, face}
use Rattle.face_rules.proofs.TypeLaws.{fields_law}

below_four : (n : ℕ) → nat_le 1 n && nat_le n 3 ≡ true → n ≤ 3
below_four n e = grind (arith, nat_tests)

kind_back : (n : ℕ) → nat_le 1 n && nat_le n 3 ≡ true → number_of (kind_of n) ≡ n
kind_back zero e = absurd cc
kind_back (suc zero) e = refl
kind_back (suc (suc zero)) e = refl
kind_back (suc (suc (suc zero))) e = refl
kind_back (suc (suc (suc (suc n)))) e = let few : suc (suc (suc (suc n))) ≤ 3 = below_four (suc (suc (suc (suc n)))) e in absurd (omega (arith, few))

kind_forth : (k : ItemKind) → kind_of (number_of k) ≡ k
kind_forth Procedure = refl
kind_forth Signal = refl
kind_forth Error = refl

item_kind_law : Lawful item_kind
unfolding item_kind
item_kind_law = built_law kind_of (ruled (number 1) (λ n. nat_le 1 n && nat_le n 3) field.Kind) (ruled_law (number 1) (λ n. nat_le 1 n && nat_le n 3) field.Kind (number_law 1)) number_of (λ n fits. kind_back n fits.1) kind_forth

gives_law : (version : ℕ) (k : ItemKind) → Lawful (gives version k)
unfolding gives
gives_law version Procedure = fields_law version
gives_law version Signal = fields_law version
gives_law version Error = always_law _

pub item_named_law : (called : Form (List ℕ)) → Lawful called → (version : ℕ) → Lawful (item_named called version)
unfolding item_named
item_named_law called law version =
    built_law item_of (pair item_kind (λ kind. pair called (λ _. pair (fields version) (λ _. gives version kind))))
    (pair_law item_kind (λ kind. pair called (λ _. pair (fields version) (λ _. gives version kind))) item_kind_law (λ kind _.
    pair_law called (λ _. pair (fields version) (λ _. gives version kind)) law (λ _ _.
    pair_law (fields version) (λ _. gives version kind) (fields_law version) (λ _ _. gives_law version kind))))
    item_parts (λ p fits. refl) (λ i. refl)

pub item_law : (version : ℕ) → Lawful (item version)
item_law version = item_named_law name name_law version

pub items_law : (version : ℕ) → Lawful (items version)
unfolding items
items_law version = list_law (λ before. item_named (fresh_name (item_names before)) version) (λ before. item_named_law (fresh_name (item_names before)) (fresh_name_law (item_names before)) version) (at_least 0)

pub face_law : (version : ℕ) → Lawful (face version)
unfolding face
face_law version =
    built_law face_of (pair name (λ _. pair (number 6) (λ _. items version)))
    (pair_law name (λ _. pair (number 6) (λ _. items version)) name_law (λ _ _. pair_law (number 6) (λ _. items version) (number_law 6) (λ _ _. items_law version)))
    face_parts (λ p fits. refl) (λ f. refl)
