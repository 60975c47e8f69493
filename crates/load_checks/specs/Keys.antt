-- The keys of the index of those who offer items, which are the same where they are equal.
use Rattle.std.specs.Prelude.{◌≡◌, Bool, true, false, ◌&&◌, ◌++◌, bytes_eq, nat_eq, IsTrue}
use Rattle.std.specs.Hash as fed
use Rattle.std.specs.Hash.{HashWrites}
use Rattle.std.specs.Cmp.{IsEquivalence, IsPartialEquivalence, partial_equiv_from_equiv}
use Rattle.std.proofs.Common.{refl, sym, ap, ◌∙◌}
use Rattle.std.proofs.lemmas.Slice.Eq.{bytes_eq-Decides}
use Rattle.std.proofs.lemmas.Bool.Decides.{Decides-eqb}
use Rattle.interface_records.specs.declared.wanted.Wanted.{Wanted as Entry}
use Rattle.load_checks.specs.declared.key.EntryKey.{EntryKey}

abbrev pub same_key : EntryKey → EntryKey → Bool
same_key a b = bytes_eq a.face b.face && (nat_eq a.stamp b.stamp && bytes_eq a.item b.item)

two_true : (a b : Bool) → a && b ≡ true → (a ≡ true) × (b ≡ true)
two_true true b h = (refl, h)
two_true false b h = absurd cc

three_true : (a b c : Bool) → a ≡ true → b ≡ true → c ≡ true → a && (b && c) ≡ true
three_true a b c p q r = ap (λ x. x && (b && c)) p ∙ ap (λ x. x && c) q ∙ r

pub keys_same : (a b : EntryKey) → same_key a b ≡ true → a ≡ b
keys_same a b h =
    let p = two_true (bytes_eq a.face b.face) (nat_eq a.stamp b.stamp && bytes_eq a.item b.item) h in
    let q = two_true (nat_eq a.stamp b.stamp) (bytes_eq a.item b.item) p.1 in
    λ j. record {
      face = (bytes_eq-Decides a.face b.face).0 p.0 j;
      stamp = (Decides-eqb a.stamp b.stamp).0 q.0 j;
      item = (bytes_eq-Decides a.item b.item).0 q.1 j;
    }

pub own_key : (a : EntryKey) → same_key a a ≡ true
own_key a =
    three_true (bytes_eq a.face a.face) (nat_eq a.stamp a.stamp) (bytes_eq a.item a.item)
    ((bytes_eq-Decides a.face a.face).1 refl) ((Decides-eqb a.stamp a.stamp).1 refl) ((bytes_eq-Decides a.item a.item).1 refl)

turned : (a b : EntryKey) (x y : Bool) → same_key a b ≡ x → same_key b a ≡ y → x ≡ y
turned a b true true p q = refl
turned a b false false p q = refl
turned a b true false p q = sym (own_key a) ∙ ap (λ c. same_key c a) (keys_same a b p) ∙ q
turned a b false true p q = sym (sym (own_key b) ∙ ap (λ c. same_key c b) (keys_same b a q) ∙ p)

pub key_equivalence : IsEquivalence same_key
key_equivalence = record {
  refl = own_key;
  symm = λ a b. turned a b (same_key a b) (same_key b a) refl refl;
  congr = λ a b c h. ap (λ k. same_key k c) (keys_same a b h);
}

pub key_partial_equivalence : IsPartialEquivalence same_key
key_partial_equivalence = partial_equiv_from_equiv key_equivalence

abbrev fed_key : EntryKey → HashWrites
fed_key k = fed.slice fed.u8 k.face ++ fed.u64 k.stamp ++ fed.slice fed.u8 k.item

pub fed_alike : (a b : EntryKey) → IsTrue (same_key a b) → fed_key a ≡ fed_key b
fed_alike a b h = ap fed_key (keys_same a b h)

abbrev pub key_of : Entry → EntryKey
key_of e = record { face = e.face; stamp = e.stamp; item = e.item.name }
