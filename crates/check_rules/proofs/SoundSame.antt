-- What tests of sameness say: what is the same is equal, and a type conforms to a target of the same shape.
use Rattle.std.proofs.Common.{◌≡◌, ℕ, List, [], ◌∷◌, refl, sym, ◌∙◌, ap, inl, inr, ◌⊎◌}
use Rattle.std.specs.Prelude.{Bool, true, false, ◌&&◌, Option, Some, None, nat_eq, bytes_eq}
use Rattle.std.proofs.lemmas.Bool.{eqb-true}
use Rattle.mesa_types.specs.declared.types.Origin.{Origin}
use Rattle.mesa_types.specs.Typed as t
use Rattle.interface_records.specs.PlainTypes as v
use Rattle.interface_records.specs.PlainTypes.{PlainType, Parts, PlainField, base_of, kind_of, kinds_of, same, same_parts, same_names, same_name, same_origin, same_stamp, conforms, one_base, is_long}
use Rattle.check_rules.specs.Parts.{same_types, same_fields}
use Rattle.check_rules.proofs.SoundTypes.{no_truth, both_left, both_right, one_of, no_lie, some_base, based_left, based_right}
use Rattle.std.specs.Prelude.{T}
use Rattle.std.proofs.Math.Dec.{eqb_refl}

pub bytes_same : (xs ys : List ℕ) → bytes_eq xs ys ≡ true → xs ≡ ys
bytes_same [] [] e = refl
bytes_same [] (y ∷ ys) e = no_truth e
bytes_same (x ∷ xs) [] e = no_truth e
bytes_same (x ∷ xs) (y ∷ ys) e =
    let head : x ≡ y = eqb-true x y (both_left (nat_eq x y) (bytes_eq xs ys) e) in
    let rest : xs ≡ ys = bytes_same xs ys (both_right (nat_eq x y) (bytes_eq xs ys) e) in
    cc

stamps_same : (a b : Option ℕ) → same_stamp a b ≡ true → a ≡ b
stamps_same (Some m) (Some n) e = ap Some (eqb-true m n e)
stamps_same None None e = refl
stamps_same (Some m) None e = no_truth e
stamps_same None (Some n) e = no_truth e

origins_same : (a b : Origin) → same_origin a b ≡ true → a ≡ b
origins_same a b e =
    let m : a.«module» ≡ b.«module» = bytes_same a.«module» b.«module» (both_left _ _ e) in
    let r = both_right (bytes_eq a.«module» b.«module») _ e in
    let s : a.stamp ≡ b.stamp = stamps_same a.stamp b.stamp (both_left _ _ r) in
    let n : a.number ≡ b.number = eqb-true a.number b.number (both_right (same_stamp a.stamp b.stamp) _ r) in
    built a.«module» b.«module» m a.stamp b.stamp s a.number b.number n
  where
    built : (m n : List ℕ) → m ≡ n → (s r : Option ℕ) → s ≡ r → (i j : ℕ) → i ≡ j
        → let x : Origin = record { «module» = m; stamp = s; number = i } in let y : Origin = record { «module» = n; stamp = r; number = j } in x ≡ y
    built m n p s r q i j o = rw (p, q, o) refl

names_same : (xs ys : List (List ℕ)) → same_names xs ys ≡ true → xs ≡ ys
unfolding same_names
names_same [] [] e = refl
names_same [] (y ∷ ys) e = no_truth e
names_same (x ∷ xs) [] e = no_truth e
names_same (x ∷ xs) (y ∷ ys) e =
    let head : x ≡ y = bytes_same x y (both_left (bytes_eq x y) (same_names xs ys) e) in
    let rest : xs ≡ ys = names_same xs ys (both_right (bytes_eq x y) (same_names xs ys) e) in
    cc

name_same : (x y : Option (List ℕ)) → same_name x y ≡ true → x ≡ y
name_same (Some x) (Some y) e = ap Some (bytes_same x y e)
name_same None None e = refl
name_same (Some x) None e = no_truth e
name_same None (Some y) e = no_truth e

mutual
  unfolding same

  pub types_same : (j k : PlainType) → same j k ≡ true → j ≡ k
  types_same v.Integer v.Integer e = refl
  types_same v.Cardinal v.Cardinal e = refl
  types_same v.LongInteger v.LongInteger e = refl
  types_same v.LongCardinal v.LongCardinal e = refl
  types_same v.Boolean v.Boolean e = refl
  types_same v.Character v.Character e = refl
  types_same v.String v.String e = refl
  types_same (v.Enumeration o xs) (v.Enumeration p ys) e =
      let head : o ≡ p = origins_same o p (both_left (same_origin o p) (same_names xs ys) e) in
      let rest : xs ≡ ys = names_same xs ys (both_right (same_origin o p) (same_names xs ys) e) in
      cc
  types_same (v.Subrange j m n) (v.Subrange k x y) e =
      let head : j ≡ k = types_same j k (both_left (same j k) _ e) in
      let r = both_right (same j k) (nat_eq m x && nat_eq n y) e in
      let first : m ≡ x = eqb-true m x (both_left (nat_eq m x) (nat_eq n y) r) in
      let last : n ≡ y = eqb-true n y (both_right (nat_eq m x) (nat_eq n y) r) in
      cc
  types_same (v.Array i d) (v.Array j f) e =
      let head : i ≡ j = types_same i j (both_left (same i j) (same d f) e) in
      let rest : d ≡ f = types_same d f (both_right (same i j) (same d f) e) in
      cc
  types_same (v.Record o ps) (v.Record p qs) e =
      let head : o ≡ p = origins_same o p (both_left (same_origin o p) (same_parts ps qs) e) in
      let rest : ps ≡ qs = all_same ps qs (both_right (same_origin o p) (same_parts ps qs) e) in
      cc
  types_same j k e = no_truth e

  all_same : (ps qs : Parts) → same_parts ps qs ≡ true → ps ≡ qs
  all_same v.NoPart v.NoPart e = refl
  all_same (v.AndPart x j ps) (v.AndPart y k qs) e =
      let name : x ≡ y = name_same x y (both_left (same_name x y) _ e) in
      let r = both_right (same_name x y) (same j k && same_parts ps qs) e in
      let head : j ≡ k = types_same j k (both_left (same j k) (same_parts ps qs) r) in
      let rest : ps ≡ qs = all_same ps qs (both_right (same j k) (same_parts ps qs) r) in
      cc
  all_same v.NoPart (v.AndPart y k qs) e = no_truth e
  all_same (v.AndPart x j ps) v.NoPart e = no_truth e

-- what conforms has the shape of its target, unless one of the two is LONG
pub conforming_kind : (j k : PlainType) → conforms j k ≡ true → is_long j ≡ false → is_long k ≡ false → kind_of j ≡ kind_of k
unfolding conforms
conforming_kind j k e f g = by (one_of (one_base (base_of j) (base_of k)) (same j k) e)
  where
    by : (one_base (base_of j) (base_of k) ≡ true) ⊎ (same j k ≡ true) → kind_of j ≡ kind_of k
    by (inl h) = some_base j (based_left (base_of j) (base_of k) h) f ∙ sym (some_base k (based_right (base_of j) (base_of k) h) g)
    by (inr h) = ap kind_of (types_same j k h)

-- where a target is LONG and its value is not, or the other way round, the one that is not has one word
pub conforming_word : (j k : PlainType) → conforms j k ≡ true → is_long j ≡ false → is_long k ≡ true → kind_of j ≡ t.Ordinal
unfolding conforms
conforming_word j k e f g = by (one_of (one_base (base_of j) (base_of k)) (same j k) e)
  where
    by : (one_base (base_of j) (base_of k) ≡ true) ⊎ (same j k ≡ true) → kind_of j ≡ t.Ordinal
    by (inl h) = some_base j (based_left (base_of j) (base_of k) h) f
    by (inr h) = no_lie (sym g ∙ (sym (ap is_long (types_same j k h)) ∙ f))

pub word_conforming : (j k : PlainType) → conforms j k ≡ true → is_long j ≡ true → is_long k ≡ false → kind_of k ≡ t.Ordinal
unfolding conforms
word_conforming j k e f g = by (one_of (one_base (base_of j) (base_of k)) (same j k) e)
  where
    by : (one_base (base_of j) (base_of k) ≡ true) ⊎ (same j k ≡ true) → kind_of k ≡ t.Ordinal
    by (inl h) = some_base k (based_right (base_of j) (base_of k) h) g
    by (inr h) = no_lie (sym f ∙ (ap is_long (types_same j k h) ∙ g))

-- lists of the same types have the same shapes
pub same_kinds : (fs gs : List PlainField) → same_types fs gs ≡ true → kinds_of fs ≡ kinds_of gs
unfolding same_types kinds_of
same_kinds [] [] e = refl
same_kinds [] (g ∷ gs) e = no_truth e
same_kinds (f ∷ fs) [] e = no_truth e
same_kinds (f ∷ fs) (g ∷ gs) e =
    let head : kind_of f.kind ≡ kind_of g.kind = ap kind_of (types_same f.kind g.kind (both_left (same f.kind g.kind) (same_types fs gs) e)) in
    let rest : kinds_of fs ≡ kinds_of gs = same_kinds fs gs (both_right (same f.kind g.kind) (same_types fs gs) e) in
    cc

pub same_field_kinds : (fs gs : List PlainField) → same_fields fs gs ≡ true → kinds_of fs ≡ kinds_of gs
unfolding same_fields kinds_of
same_field_kinds [] [] e = refl
same_field_kinds [] (g ∷ gs) e = no_truth e
same_field_kinds (f ∷ fs) [] e = no_truth e
same_field_kinds (f ∷ fs) (g ∷ gs) e =
    let r = both_right (same_name f.name g.name) (same f.kind g.kind && same_fields fs gs) e in
    let head : kind_of f.kind ≡ kind_of g.kind = ap kind_of (types_same f.kind g.kind (both_left (same f.kind g.kind) (same_fields fs gs) r)) in
    let rest : kinds_of fs ≡ kinds_of gs = same_field_kinds fs gs (both_right (same f.kind g.kind) (same_fields fs gs) r) in
    cc

number_itself : (n : ℕ) → nat_eq n n ≡ true
number_itself n = is_true (nat_eq n n) (eqb_refl n)
  where
    is_true : (b : Bool) → T b → b ≡ true
    is_true true h = refl
    is_true false h = absurd h

pub bytes_itself : (xs : List ℕ) → bytes_eq xs xs ≡ true
bytes_itself [] = refl
bytes_itself (x ∷ xs) = rw (number_itself x, bytes_itself xs) refl
