-- The name and the stamp of a face, by which it is found.
use Rattle.std.specs.Prelude.{◌≡◌, Bool, true, false, ◌&&◌, ◌++◌, bytes_eq, nat_eq, IsTrue}
use Rattle.std.specs.Hash as fed
use Rattle.std.specs.Hash.{HashWrites}
use Rattle.std.specs.Cmp.{IsEquivalence, IsPartialEquivalence, partial_equiv_from_equiv}
use Rattle.std.proofs.Common.{refl, sym, ap, ◌∙◌}
use Rattle.std.proofs.lemmas.Slice.Eq.{bytes_eq-Decides}
use Rattle.std.proofs.lemmas.Bool.Decides.{Decides-eqb}
use Rattle.mesa_types.specs.declared.faces.Face.{Face}
use Rattle.config_tree.specs.declared.face_key.FaceKey.{FaceKey}

abbrev pub key_of : Face → FaceKey
key_of f = record { name = f.name; stamp = f.stamp }

abbrev pub same_key : FaceKey → FaceKey → Bool
same_key a b = nat_eq a.stamp b.stamp && bytes_eq a.name b.name

both : (a b : Bool) → a && b ≡ true → (a ≡ true) × (b ≡ true)
both true b h = (refl, h)
both false b h = absurd (false_not h)
  where
    false_not : false ≡ true → ⊥
    false_not e = cc

both_true : (a b : Bool) → a ≡ true → b ≡ true → a && b ≡ true
both_true a b p q = ap (λ x. x && b) p ∙ q

pub keys_same : (a b : FaceKey) → same_key a b ≡ true → a ≡ b
keys_same a b h =
    let p = both (nat_eq a.stamp b.stamp) (bytes_eq a.name b.name) h in
    λ j. record { name = (bytes_eq-Decides a.name b.name).0 p.1 j; stamp = (Decides-eqb a.stamp b.stamp).0 p.0 j }

pub own_key : (a : FaceKey) → same_key a a ≡ true
own_key a = both_true (nat_eq a.stamp a.stamp) (bytes_eq a.name a.name) ((Decides-eqb a.stamp a.stamp).1 refl) ((bytes_eq-Decides a.name a.name).1 refl)

turned : (a b : FaceKey) (x y : Bool) → same_key a b ≡ x → same_key b a ≡ y → x ≡ y
turned a b true true p q = refl
turned a b false false p q = refl
turned a b true false p q = sym (own_key a) ∙ ap (λ c. same_key c a) (keys_same a b p) ∙ q
turned a b false true p q = sym (sym (own_key b) ∙ ap (λ c. same_key c b) (keys_same b a q) ∙ p)

pub key_equivalence : IsEquivalence same_key
key_equivalence = record {
  refl = own_key;
  symm = λ a b. turned a b (same_key a b) (same_key b a) refl refl;
  congr = λ a b c h. ap (λ k. same_key k c) (keys_same a b h);
}

pub key_partial_equivalence : IsPartialEquivalence same_key
key_partial_equivalence = partial_equiv_from_equiv key_equivalence

abbrev fed_key : FaceKey → HashWrites
fed_key k = fed.u64 k.stamp ++ fed.slice fed.u8 k.name

pub fed_alike : (a b : FaceKey) → IsTrue (same_key a b) → fed_key a ≡ fed_key b
fed_alike a b h = ap fed_key (keys_same a b h)
