-- The keys of the index, which are the same where they are equal.
use Rattle.std.specs.Prelude.{◌≡◌, Bool, true, false, ◌&&◌, ◌++◌, bytes_eq, nat_eq, IsTrue}
use Rattle.std.specs.Hash as fed
use Rattle.std.specs.Hash.{HashWrites}
use Rattle.std.specs.Cmp.{IsEquivalence, IsPartialEquivalence, partial_equiv_from_equiv}
use Rattle.std.proofs.Common.{refl, sym, ap, ◌∙◌}
use Rattle.std.proofs.lemmas.Slice.Eq.{bytes_eq-Decides}
use Rattle.std.proofs.lemmas.Bool.Decides.{Decides-eqb}
use Rattle.import_binder.specs.declared.key.ExporterKey.{ExporterKey}

abbrev pub same_key : ExporterKey → ExporterKey → Bool
same_key a b = nat_eq a.scope b.scope && (bytes_eq a.record_name b.record_name && bytes_eq a.item b.item)

are_both : (a b : Bool) → a && b ≡ true → (a ≡ true) × (b ≡ true)
are_both true b h = (refl, h)
are_both false b h = cc

all_three : (a b c : Bool) → a ≡ true → b ≡ true → c ≡ true → a && (b && c) ≡ true
all_three a b c p q r = ap (λ x. x && (b && c)) p ∙ ap (λ x. x && c) q ∙ r

pub keys_same : (a b : ExporterKey) → same_key a b ≡ true → a ≡ b
keys_same a b h =
    let p = are_both (nat_eq a.scope b.scope) (bytes_eq a.record_name b.record_name && bytes_eq a.item b.item) h in
    let q = are_both (bytes_eq a.record_name b.record_name) (bytes_eq a.item b.item) p.1 in
    λ j. record {
      scope = (Decides-eqb a.scope b.scope).0 p.0 j;
      record_name = (bytes_eq-Decides a.record_name b.record_name).0 q.0 j;
      item = (bytes_eq-Decides a.item b.item).0 q.1 j;
    }

pub own_key : (a : ExporterKey) → same_key a a ≡ true
own_key a =
    all_three (nat_eq a.scope a.scope) (bytes_eq a.record_name a.record_name) (bytes_eq a.item a.item)
    ((Decides-eqb a.scope a.scope).1 refl) ((bytes_eq-Decides a.record_name a.record_name).1 refl) ((bytes_eq-Decides a.item a.item).1 refl)

turned : (a b : ExporterKey) (x y : Bool) → same_key a b ≡ x → same_key b a ≡ y → x ≡ y
turned a b true true p q = refl
turned a b false false p q = refl
turned a b true false p q = sym (own_key a) ∙ ap (λ c. same_key c a) (keys_same a b p) ∙ q
turned a b false true p q = sym (sym (own_key b) ∙ ap (λ c. same_key c b) (keys_same b a q) ∙ p)

pub key_equivalence : IsEquivalence same_key
key_equivalence = record {
  refl = own_key;
  symm = λ a b. turned a b (same_key a b) (same_key b a) refl refl;
  congr = λ a b c h. ap (λ k. same_key k c) (keys_same a b h);
}

pub key_partial_equivalence : IsPartialEquivalence same_key
key_partial_equivalence = partial_equiv_from_equiv key_equivalence

abbrev fed_key : ExporterKey → HashWrites
fed_key k = fed.u32 k.scope ++ fed.slice fed.u8 k.record_name ++ fed.slice fed.u8 k.item

pub fed_alike : (a b : ExporterKey) → IsTrue (same_key a b) → fed_key a ≡ fed_key b
fed_alike a b h = ap fed_key (keys_same a b h)
