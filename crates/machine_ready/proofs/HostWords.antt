-- How many words the procedures of the built-in interface take and give, by their types.
use Rattle.std.proofs.Common.{◌≡◌, ℕ, zero, suc, List, [], ◌∷◌, map, sum, Option, Some, None, refl, sym, ap, ◌∙◌, zero-add, arith}
use Rattle.std.specs.Prelude.{Any, codes}
use Rattle.mesa_types.specs.declared.faces.Item.{Item}
use Rattle.mesa_types.specs.declared.faces.ItemKind.TheVariants as item
use Rattle.mesa_types.specs.declared.types.FieldType.{FieldType, roll-FieldType, out-FieldType, roll-out-FieldType, out-roll-FieldType}
use Rattle.mesa_types.specs.declared.types.TypeTree.{TypeTree}
use Rattle.mesa_types.specs.declared.types.TypeTree.TheOpen.{TypeTree-F, FieldType-F}
use Rattle.mesa_types.specs.declared.types.TypeTree.TheVariants as v
use Rattle.mesa_types.specs.declared.types.TypeTree.TheFolds.{fold-FieldType, fold-roll-TypeTree, fold-roll-FieldType}
use Rattle.mesa_types.specs.Types.{types_in, Measure, measure_step, field_step, words_of, words_of_fields}
use Rattle.interface_records.specs.declared.wanted.Wanted.{Wanted as WantedEntry}
use Rattle.interface_records.specs.Faces.{iodefs}
use Rattle.machine_rules.specs.LookUps.{Host, WriteChar, WriteString, WriteDecimal, ReadChar, EndOfInput, host_named}
use Rattle.machine_activations.specs.Links.{host_takes, host_gives}
use Rattle.machine_ready.specs.Hosts.{SameItem}

-- the words of fields are those of their types

abbrev field_words : FieldType → ℕ
field_words = fold-FieldType Measure ℕ measure_step field_step

field_words_are : (f : FieldType) → field_words f ≡ words_of f.kind
field_words_are f = ap field_words (sym (roll-out-FieldType f)) ∙ ap (λ k. k) (fold-roll-FieldType Measure ℕ measure_step field_step (out-FieldType f))

all_words : (fs : List FieldType) → map field_words fs ≡ map words_of (types_in fs)
all_words [] = refl
all_words (f ∷ fs) = ap (λ k. k ∷ map field_words fs) (field_words_are f) ∙ ap (λ ks. words_of f.kind ∷ ks) (all_words fs)

words_by_types : (fs : List FieldType) → words_of_fields fs ≡ sum (map words_of (types_in fs))
words_by_types fs = ap sum (all_words fs)

no_words : (fs : List FieldType) → types_in fs ≡ [] → words_of_fields fs ≡ 0
no_words fs e = words_by_types fs ∙ ap (λ ts. sum (map words_of ts)) e

field_type : (name : Option (List ℕ)) (t : TypeTree) → types_in (roll-FieldType (record { name = name; kind = t }) ∷ []) ≡ t ∷ []
field_type name t = ap (λ (f : FieldType-F TypeTree FieldType). f.kind ∷ []) (out-roll-FieldType (record { name = name; kind = t }))

one_type : (fs : List FieldType) (name : Option (List ℕ)) (t : TypeTree) (n : ℕ) → words_of t ≡ n → types_in fs ≡ types_in (roll-FieldType (record { name = name; kind = t }) ∷ []) → words_of_fields fs ≡ n
one_type fs name t n words e = words_by_types fs ∙ ap (λ ts. sum (map words_of ts)) (e ∙ field_type name t) ∙ zero-add (words_of t) ∙ words

character_words : words_of v.Character ≡ 1
character_words = ap words_of (sym v.rolls-Character) ∙ ap (λ (m : Measure). m.words) (fold-roll-TypeTree Measure ℕ measure_step field_step TypeTree-F.Character)

integer_words : words_of v.Integer ≡ 1
integer_words = ap words_of (sym v.rolls-Integer) ∙ ap (λ (m : Measure). m.words) (fold-roll-TypeTree Measure ℕ measure_step field_step TypeTree-F.Integer)

boolean_words : words_of v.Boolean ≡ 1
boolean_words = ap words_of (sym v.rolls-Boolean) ∙ ap (λ (m : Measure). m.words) (fold-roll-TypeTree Measure ℕ measure_step field_step TypeTree-F.Boolean)

string_words : words_of v.String ≡ 2
string_words = ap words_of (sym v.rolls-String) ∙ ap (λ (m : Measure). m.words) (fold-roll-TypeTree Measure ℕ measure_step field_step TypeTree-F.String)

-- a procedure of the host for which an item stands
pub record IsHost (w : WantedEntry) : Type 0 where
  pub host : Host
  pub named : host_named w.item.name ≡ Some host
  pub takes : words_of_fields w.item.takes ≡ host_takes host
  pub gives : words_of_fields w.item.gives ≡ host_gives host

-- a procedure of the built-in interface is one of the host's
pub host_procedure : (w : WantedEntry) → Any (SameItem w.item) iodefs.face.items → w.item.kind ≡ item.Procedure → IsHost w
unfolding host_named
host_procedure w (zero, x, l, is, same) kind = record {
  host = WriteChar;
  named = rw (same.0 ∙ sym (ap (λ i. i.name) is)) refl;
  takes = one_type w.item.takes (Some (codes "c")) v.Character 1 character_words (same.1.1 ∙ sym (ap (λ (i : Item). types_in i.takes) is));
  gives = no_words w.item.gives (same.1.2 ∙ sym (ap (λ (i : Item). types_in i.gives) is));
}
host_procedure w (suc zero, x, l, is, same) kind = record {
  host = WriteString;
  named = rw (same.0 ∙ sym (ap (λ i. i.name) is)) refl;
  takes = one_type w.item.takes (Some (codes "s")) v.String 2 string_words (same.1.1 ∙ sym (ap (λ (i : Item). types_in i.takes) is));
  gives = no_words w.item.gives (same.1.2 ∙ sym (ap (λ (i : Item). types_in i.gives) is));
}
host_procedure w (suc (suc zero), x, l, is, same) kind = record {
  host = WriteDecimal;
  named = rw (same.0 ∙ sym (ap (λ i. i.name) is)) refl;
  takes = one_type w.item.takes (Some (codes "n")) v.Integer 1 integer_words (same.1.1 ∙ sym (ap (λ (i : Item). types_in i.takes) is));
  gives = no_words w.item.gives (same.1.2 ∙ sym (ap (λ (i : Item). types_in i.gives) is));
}
host_procedure w (suc (suc (suc zero)), x, l, is, same) kind = record {
  host = ReadChar;
  named = rw (same.0 ∙ sym (ap (λ i. i.name) is)) refl;
  takes = no_words w.item.takes (same.1.1 ∙ sym (ap (λ (i : Item). types_in i.takes) is));
  gives = one_type w.item.gives None v.Character 1 character_words (same.1.2 ∙ sym (ap (λ (i : Item). types_in i.gives) is));
}
host_procedure w (suc (suc (suc (suc zero))), x, l, is, same) kind = record {
  host = EndOfInput;
  named = rw (same.0 ∙ sym (ap (λ i. i.name) is)) refl;
  takes = no_words w.item.takes (same.1.1 ∙ sym (ap (λ (i : Item). types_in i.takes) is));
  gives = one_type w.item.gives None v.Boolean 1 boolean_words (same.1.2 ∙ sym (ap (λ (i : Item). types_in i.gives) is));
}
host_procedure w (suc (suc (suc (suc (suc zero)))), x, l, is, same) kind =
    absurd (let e : item.Error ≡ item.Procedure = ap (λ i. i.kind) is ∙ sym same.1.0 ∙ kind in cc)
host_procedure w (suc (suc (suc (suc (suc (suc k))))), x, l, is, same) kind = absurd (omega arith)
