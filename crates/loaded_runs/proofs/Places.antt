-- Trees one behind the other: what stands of each in the lists of all, and where.
use Rattle.std.proofs.Common.{◌≡◌, ℕ, ◌+◌, inl, inr, ◌⊎◌, List, [], ◌∷◌, ◌++◌, length, map, flat_map, Some, slice_get, refl, sym, ap, subst, ◌∙◌, append-nil, append_assoc, length-append, arith}
use Rattle.std.proofs.lemmas.Grind.{flat_map-append}
use Rattle.std.proofs.lemmas.Option.{none-some}
use Rattle.config_rules.proofs.Members.{Mem, map_get, mapped_length}
use Rattle.loaded_runs.specs.Together.{Source, Place, place, places_behind, places}
use Rattle.loader_rules.proofs.Lists.{get_front, get_behind, get_map, Behind, get_split}

pub places_append : (before xs ys : List Source) → places_behind before (xs ++ ys) ≡ places_behind before xs ++ places_behind (before ++ xs) ys
unfolding places_behind
places_append before [] ys = ap (λ b. places_behind b ys) (sym (append-nil before))
places_append before (x ∷ xs) ys =
    ap (λ ps. place before x ∷ ps)
    (places_append (before ++ x ∷ []) xs ys ∙ ap (λ b. places_behind (before ++ x ∷ []) xs ++ places_behind b ys) (append_assoc before (x ∷ []) xs))

-- it is one of them, and those before it are those before
pub record IsPlace (sources : List Source) (p : Place) : Type 0 where
  pub behind : List Source
  pub are : sources ≡ p.before ++ p.source ∷ behind

-- about one of them
pub flat_about : {A : Type 0} (f : Place → List A) (sources : List Source) (p : Place) (I : IsPlace sources p)
    → flat_map f (places sources) ≡ flat_map f (places p.before) ++ (f p ++ flat_map f (places_behind (p.before ++ p.source ∷ []) I.behind))
unfolding places_behind
flat_about f sources p I =
    ap (λ ss. flat_map f (places ss)) I.are
    ∙ (ap (flat_map f) (places_append [] p.before (p.source ∷ I.behind)) ∙ flat_map-append f (places p.before) (places_behind p.before (p.source ∷ I.behind)))

-- of those before one of them, too
pub before_place : (sources : List Source) (p q : Place) → IsPlace sources p → IsPlace p.before q → IsPlace sources q
before_place sources p q I J = record {
  behind = J.behind ++ p.source ∷ I.behind;
  are = I.are ∙ ap (λ ss. ss ++ p.source ∷ I.behind) J.are ∙ append_assoc q.before (q.source ∷ J.behind) (p.source ∷ I.behind);
}

pub place_mem : (sources : List Source) (p : Place) → IsPlace sources p → Mem p.source sources
place_mem sources p I = subst (λ ss. Mem p.source ss) (sym I.are) (among p.before p.source I.behind)
  where
    among : (xs : List Source) (s : Source) (ys : List Source) → Mem s (xs ++ s ∷ ys)
    among [] s ys = inl refl
    among (x ∷ xs) s ys = inr (among xs s ys)

-- a place behind some of them: those stand before it
pub record IsBehind (before sources : List Source) (p : Place) : Type 0 where
  pub is_place : IsPlace (before ++ sources) p
  pub between : List Source
  pub further : p.before ≡ before ++ between

pub behind_mem : (before sources : List Source) (p : Place) → Mem p (places_behind before sources) → IsBehind before sources p
unfolding places_behind
behind_mem before [] p h = absurd h
behind_mem before (s ∷ ss) p (inl e) =
    subst (λ (q : Place). IsBehind before (s ∷ ss) q) e (record { is_place = record { behind = ss; are = refl }; between = []; further = sym (append-nil before) })
behind_mem before (s ∷ ss) p (inr m) =
    let r = behind_mem (before ++ s ∷ []) ss p m in
    record {
      is_place = subst (λ l. IsPlace l p) (append_assoc before (s ∷ []) ss) r.is_place;
      between = s ∷ r.between;
      further = r.further ∙ append_assoc before (s ∷ []) r.between;
    }

-- the places behind one
pub record IsAfter (sources : List Source) (p q : Place) : Type 0 where
  pub is_place : IsPlace sources q
  pub between : List Source
  pub further : q.before ≡ (p.before ++ p.source ∷ []) ++ between

pub after_mem : (sources : List Source) (p q : Place) (I : IsPlace sources p) → Mem q (places_behind (p.before ++ p.source ∷ []) I.behind) → IsAfter sources p q
after_mem sources p q I m =
    let r = behind_mem (p.before ++ p.source ∷ []) I.behind q m in
    record {
      is_place = subst (λ l. IsPlace l q) (append_assoc p.before (p.source ∷ []) I.behind ∙ sym I.are) r.is_place;
      between = r.between;
      further = r.further;
    }

pub place_of : (sources : List Source) (p : Place) → Mem p (places sources) → IsPlace sources p
place_of sources p m = (behind_mem [] sources p m).is_place

-- ---- lists that are one behind the other as they are

module _ {A : Type 0} (h : Source → List A) where
  pub plain_there : (sources : List Source) (p : Place) → IsPlace sources p → (j : ℕ) (x : A) → slice_get (h p.source) j ≡ Some x
      → slice_get (flat_map h sources) (length (flat_map h p.before) + j) ≡ Some x
  plain_there sources p I j x e =
      ap (λ l. slice_get l (length (flat_map h p.before) + j)) (ap (flat_map h) I.are ∙ flat_map-append h p.before (p.source ∷ I.behind))
      ∙ (get_behind (flat_map h p.before) (h p.source ++ flat_map h I.behind) j ∙ get_front (h p.source) (flat_map h I.behind) j x e)

  -- so many stand before those of a place, and before those of one behind it
  pub length_further : (before between : List Source) (p : Place) → p.before ≡ before ++ between
      → length (flat_map h p.before) ≡ length (flat_map h before) + length (flat_map h between)
  length_further before between p e = ap (λ ss. length (flat_map h ss)) e ∙ ap length (flat_map-append h before between) ∙ length-append (flat_map h before) (flat_map h between)

  pub length_next : (before : List Source) (s : Source) → length (flat_map h (before ++ s ∷ [])) ≡ length (flat_map h before) + length (h s)
  length_next before s =
      ap length (flat_map-append h before (s ∷ []) ∙ ap (λ l. flat_map h before ++ l) (append-nil (h s))) ∙ length-append (flat_map h before) (h s)

  -- those of one stand within those of all
  pub length_about : (sources : List Source) (p : Place) (I : IsPlace sources p)
      → length (flat_map h sources) ≡ length (flat_map h p.before) + (length (h p.source) + length (flat_map h I.behind))
  length_about sources p I =
      ap length (ap (flat_map h) I.are ∙ flat_map-append h p.before (p.source ∷ I.behind))
      ∙ (length-append (flat_map h p.before) (h p.source ++ flat_map h I.behind) ∙ ap (λ n. length (flat_map h p.before) + n) (length-append (h p.source) (flat_map h I.behind)))

-- ---- and with each element changed by what stands before it

module _ {A B : Type 0} (h : Source → List A) (g : Place → A → B) where
  abbrev changed : Place → List B
  changed p = map (g p) (h p.source)

  pub changed_length : (before sources : List Source) → length (flat_map changed (places_behind before sources)) ≡ length (flat_map h sources)
  unfolding places_behind
  changed_length before [] = refl
  changed_length before (s ∷ ss) =
      length-append (map (g (place before s)) (h s)) (flat_map changed (places_behind (before ++ s ∷ []) ss))
      ∙ (λ j. mapped_length (g (place before s)) (h s) j + changed_length (before ++ s ∷ []) ss j)
      ∙ sym (length-append (h s) (flat_map h ss))

  pub changed_there : (sources : List Source) (p : Place) → IsPlace sources p → (j : ℕ) (x : A) → slice_get (h p.source) j ≡ Some x
      → slice_get (flat_map changed (places sources)) (length (flat_map h p.before) + j) ≡ Some (g p x)
  changed_there sources p I j x e =
      let rest = flat_map changed (places_behind (p.before ++ p.source ∷ []) I.behind) in
      ap (λ l. slice_get l (length (flat_map h p.before) + j)) (flat_about changed sources p I)
      ∙ (ap (λ n. slice_get (flat_map changed (places p.before) ++ (changed p ++ rest)) (n + j)) (sym (changed_length [] p.before))
      ∙ (get_behind (flat_map changed (places p.before)) (changed p ++ rest) j
      ∙ get_front (changed p) rest j (g p x) (map_get (g p) (h p.source) j x e)))

  -- of which tree an element of all is
  pub record Located (sources : List Source) (k : ℕ) (y : B) : Type 0 where
    pub its : Place
    pub is_place : IsPlace sources its
    pub at : ℕ
    pub element : A
    pub there : slice_get (h its.source) at ≡ Some element
    pub number : k ≡ length (flat_map h its.before) + at
    pub same : g its element ≡ y

  located_behind : (before sources : List Source) (k : ℕ) (y : B) → slice_get (flat_map changed (places_behind before sources)) k ≡ Some y
      → Located (before ++ sources) (length (flat_map h before) + k) y
  unfolding places_behind
  located_behind before [] k y e = absurd (none-some y e)
  located_behind before (s ∷ ss) k y e =
      by (λ m f. located_behind (before ++ s ∷ []) ss m y f) (get_split (changed (place before s)) (flat_map changed (places_behind (before ++ s ∷ []) ss)) k y e)
    where
      longer : (m : ℕ) → k ≡ length (changed (place before s)) + m → length (flat_map h (before ++ s ∷ [])) + m ≡ length (flat_map h before) + k
      longer m n =
          let first : length (changed (place before s)) ≡ length (h s) = mapped_length (g (place before s)) (h s) in
          let whole = length_next h before s in
          omega (arith, n, first, whole)

      by : ((m : ℕ) → slice_get (flat_map changed (places_behind (before ++ s ∷ []) ss)) m ≡ Some y → Located ((before ++ s ∷ []) ++ ss) (length (flat_map h (before ++ s ∷ [])) + m) y)
          → (slice_get (changed (place before s)) k ≡ Some y) ⊎ Behind (changed (place before s)) (flat_map changed (places_behind (before ++ s ∷ []) ss)) k y
          → Located (before ++ s ∷ ss) (length (flat_map h before) + k) y
      by again (inl first) =
          let r = get_map (g (place before s)) (h s) k y first in
          record { its = place before s; is_place = record { behind = ss; are = refl }; at = k; element = r.0; there = r.1; number = refl; same = r.2 }
      by again (inr later) =
          subst (λ n. Located (before ++ s ∷ ss) n y) (longer later.at later.number)
          (subst (λ l. Located l (length (flat_map h (before ++ s ∷ [])) + later.at) y) (append_assoc before (s ∷ []) ss) (again later.at later.is))

  pub located : (sources : List Source) (k : ℕ) (y : B) → slice_get (flat_map changed (places sources)) k ≡ Some y → Located sources k y
  located sources k y e = subst (λ n. Located sources n y) (none_before k) (located_behind [] sources k y e)
    where
      none_before : (n : ℕ) → length (flat_map h []) + n ≡ n
      none_before n = omega arith
