-- Images one behind the other: what stands of each in the lists of all, and where.
use Rattle.std.proofs.Common.{◌≡◌, ℕ, ◌+◌, inl, inr, ◌⊎◌, List, [], ◌∷◌, ◌++◌, length, map, flat_map, Some, slice_get, refl, sym, ap, subst, ◌∙◌, append-nil, append_assoc, length-append, arith}
use Rattle.std.proofs.lemmas.Grind.{flat_map-append}
use Rattle.std.proofs.lemmas.Option.{none-some}
use Rattle.object_files.specs.declared.image.Image.{Image}
use Rattle.config_rules.proofs.Members.{Mem, map_get, mapped_length}
use Rattle.loader_rules.specs.Parts.{Part, part, parts_behind, parts}
use Rattle.loader_rules.proofs.Lists.{get_front, get_behind, get_map, Behind, get_split}

pub parts_append : (before xs ys : List Image) → parts_behind before (xs ++ ys) ≡ parts_behind before xs ++ parts_behind (before ++ xs) ys
unfolding parts_behind
parts_append before [] ys = ap (λ b. parts_behind b ys) (sym (append-nil before))
parts_append before (x ∷ xs) ys =
    ap (λ ps. part before x ∷ ps)
    (parts_append (before ++ x ∷ []) xs ys ∙ ap (λ b. parts_behind (before ++ x ∷ []) xs ++ parts_behind b ys) (append_assoc before (x ∷ []) xs))

pub flat_parts : {A : Type 0} (f : Part → List A) (xs ys : List Image) → flat_map f (parts (xs ++ ys)) ≡ flat_map f (parts xs) ++ flat_map f (parts_behind xs ys)
flat_parts f xs ys = ap (flat_map f) (parts_append [] xs ys) ∙ flat_map-append f (parts xs) (parts_behind xs ys)

-- it is one of them, and those before it are those before
pub record IsPart (images : List Image) (p : Part) : Type 0 where
  pub behind : List Image
  pub are : images ≡ p.before ++ p.image ∷ behind

-- about one of them
pub flat_about : {A : Type 0} (f : Part → List A) (images : List Image) (p : Part) (I : IsPart images p)
    → flat_map f (parts images) ≡ flat_map f (parts p.before) ++ (f p ++ flat_map f (parts_behind (p.before ++ p.image ∷ []) I.behind))
unfolding parts_behind
flat_about f images p I = ap (λ is. flat_map f (parts is)) I.are ∙ flat_parts f p.before (p.image ∷ I.behind)

-- of the images before one of them, too
pub before_part : (images : List Image) (p q : Part) → IsPart images p → IsPart p.before q → IsPart images q
before_part images p q I J = record {
  behind = J.behind ++ p.image ∷ I.behind;
  are = I.are ∙ ap (λ is. is ++ p.image ∷ I.behind) J.are ∙ append_assoc q.before (q.image ∷ J.behind) (p.image ∷ I.behind);
}

pub part_mem : (images : List Image) (p : Part) → IsPart images p → Mem p.image images
part_mem images p I = subst (λ is. Mem p.image is) (sym I.are) (among p.before p.image I.behind)
  where
    among : (xs : List Image) (i : Image) (ys : List Image) → Mem i (xs ++ i ∷ ys)
    among [] i ys = inl refl
    among (x ∷ xs) i ys = inr (among xs i ys)

-- ---- lists that are one behind the other as they are

module _ {A : Type 0} (h : Image → List A) where
  pub plain_about : (images : List Image) (p : Part) (I : IsPart images p) → flat_map h images ≡ flat_map h p.before ++ (h p.image ++ flat_map h I.behind)
  plain_about images p I = ap (flat_map h) I.are ∙ flat_map-append h p.before (p.image ∷ I.behind)

  pub plain_there : (images : List Image) (p : Part) → IsPart images p → (j : ℕ) (x : A) → slice_get (h p.image) j ≡ Some x
      → slice_get (flat_map h images) (length (flat_map h p.before) + j) ≡ Some x
  plain_there images p I j x e =
      ap (λ l. slice_get l (length (flat_map h p.before) + j)) (plain_about images p I)
      ∙ (get_behind (flat_map h p.before) (h p.image ++ flat_map h I.behind) j ∙ get_front (h p.image) (flat_map h I.behind) j x e)

-- ---- and with each element changed by what stands before its image

module _ {A B : Type 0} (h : Image → List A) (g : Part → A → B) where
  abbrev changed : Part → List B
  changed p = map (g p) (h p.image)

  pub changed_length : (before images : List Image) → length (flat_map changed (parts_behind before images)) ≡ length (flat_map h images)
  unfolding parts_behind
  changed_length before [] = refl
  changed_length before (i ∷ is) =
      length-append (map (g (part before i)) (h i)) (flat_map changed (parts_behind (before ++ i ∷ []) is))
      ∙ (λ j. mapped_length (g (part before i)) (h i) j + changed_length (before ++ i ∷ []) is j)
      ∙ sym (length-append (h i) (flat_map h is))

  pub changed_there : (images : List Image) (p : Part) → IsPart images p → (j : ℕ) (x : A) → slice_get (h p.image) j ≡ Some x
      → slice_get (flat_map changed (parts images)) (length (flat_map h p.before) + j) ≡ Some (g p x)
  changed_there images p I j x e =
      let rest = flat_map changed (parts_behind (p.before ++ p.image ∷ []) I.behind) in
      ap (λ l. slice_get l (length (flat_map h p.before) + j)) (flat_about changed images p I)
      ∙ (ap (λ n. slice_get (flat_map changed (parts p.before) ++ (changed p ++ rest)) (n + j)) (sym (changed_length [] p.before))
      ∙ (get_behind (flat_map changed (parts p.before)) (changed p ++ rest) j
      ∙ get_front (changed p) rest j (g p x) (map_get (g p) (h p.image) j x e)))

  -- of which image an element of all is
  pub record Located (images : List Image) (k : ℕ) (y : B) : Type 0 where
    pub its : Part
    pub is_part : IsPart images its
    pub at : ℕ
    pub element : A
    pub there : slice_get (h its.image) at ≡ Some element
    pub number : k ≡ length (flat_map h its.before) + at
    pub same : g its element ≡ y

  located_behind : (before images : List Image) (k : ℕ) (y : B) → slice_get (flat_map changed (parts_behind before images)) k ≡ Some y
      → Located (before ++ images) (length (flat_map h before) + k) y
  unfolding parts_behind
  located_behind before [] k y e = absurd (none-some y e)
  located_behind before (i ∷ is) k y e =
      by (λ m f. located_behind (before ++ i ∷ []) is m y f) (get_split (changed (part before i)) (flat_map changed (parts_behind (before ++ i ∷ []) is)) k y e)
    where
      longer : (m : ℕ) → k ≡ length (changed (part before i)) + m → length (flat_map h (before ++ i ∷ [])) + m ≡ length (flat_map h before) + k
      longer m n =
          let first : length (changed (part before i)) ≡ length (h i) = mapped_length (g (part before i)) (h i) in
          let whole : length (flat_map h (before ++ i ∷ [])) ≡ length (flat_map h before) + length (h i) =
          ap length (flat_map-append h before (i ∷ []) ∙ ap (λ l. flat_map h before ++ l) (append-nil (h i))) ∙ length-append (flat_map h before) (h i) in
          omega (arith, n, first, whole)

      by : ((m : ℕ) → slice_get (flat_map changed (parts_behind (before ++ i ∷ []) is)) m ≡ Some y → Located ((before ++ i ∷ []) ++ is) (length (flat_map h (before ++ i ∷ [])) + m) y)
          → (slice_get (changed (part before i)) k ≡ Some y) ⊎ Behind (changed (part before i)) (flat_map changed (parts_behind (before ++ i ∷ []) is)) k y
          → Located (before ++ i ∷ is) (length (flat_map h before) + k) y
      by again (inl first) = let r = get_map (g (part before i)) (h i) k y first in
          record { its = part before i; is_part = record { behind = is; are = refl }; at = k; element = r.0; there = r.1; number = refl; same = r.2 }
      by again (inr later) =
          subst (λ n. Located (before ++ i ∷ is) n y) (longer later.at later.number)
          (subst (λ l. Located l (length (flat_map h (before ++ i ∷ [])) + later.at) y) (append_assoc before (i ∷ []) is) (again later.at later.is))

  pub located : (images : List Image) (k : ℕ) (y : B) → slice_get (flat_map changed (parts images)) k ≡ Some y → Located images k y
  located images k y e = subst (λ n. Located images n y) (none_before k) (located_behind [] images k y e)
    where
      none_before : (n : ℕ) → length (flat_map h []) + n ≡ n
      none_before n = omega arith
