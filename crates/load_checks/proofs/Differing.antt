-- The least item with another face, found link by link, is the first for which one is chosen who has another face than an import that links to it.
use Rattle.std.proofs.Common.{◌≡◌, ℕ, ◌<◌, ◌≤◌, Bool, true, false, not, ◌&&◌, ◌||◌, List, [], ◌∷◌, ◌++◌, nat_eq, Option, Some, None, slice_get, refl, sym, ap, ◌∙◌, if◌then◌else◌, arith, eqb-true, eq-eqb}
use Rattle.std.specs.Prelude.{nat_lt}
use Rattle.std.specs.List.{list_any}
use Rattle.std.proofs.lemmas.Bool.{ltb-true, lt-ltb}
use Rattle.mesa_types.specs.declared.faces.Face.{Face}
use Rattle.object_files.specs.declared.image.Image.{Image}
use Rattle.object_files.specs.declared.image.Instance.{Instance}
use Rattle.object_files.specs.declared.image.Link.{Link}
use Rattle.object_files.specs.declared.image.Link.TheVariants.{Wanted, To}
use Rattle.loader_rules.specs.Exporters.{module_at}
use Rattle.loader_rules.specs.LoadFaults.{is_link_to, faces_linked, faces_among, faces_in, faces_to}
use Rattle.loader_rules.specs.SameFaces.{same_face}
use Rattle.load_checks.specs.Choosing.{Choice, BuiltIn, One, Bad}
use Rattle.load_checks.specs.Faces.{differs_by, differs_at, lowered, all_lowered, lowered_in}

-- the least of the numbers below a bound that pass a test, or the bound
pub record IsLeast (bad : ℕ → Bool) (bound least : ℕ) : Type 0 where
  pub within : least ≤ bound
  pub below : (k : ℕ) → k < least → bad k ≡ false
  pub at : least < bound → bad least ≡ true

same_test : (bad other : ℕ → Bool) (bound least : ℕ) → ((k : ℕ) → bad k ≡ other k) → IsLeast bad bound least → IsLeast other bound least
same_test bad other bound least same h = record {
  within = h.within;
  below = λ k less. sym (same k) ∙ h.below k less;
  at = λ less. sym (same least) ∙ h.at less;
}

-- ---- tests of faces

none_differs : (c : Option Choice) → differs_by c [] ≡ false
none_differs None = refl
none_differs (Some BuiltIn) = refl
none_differs (Some (One g)) = refl
none_differs (Some (Bad f)) = refl

any_append : (test : Face → Bool) (xs ys : List Face) → list_any test (xs ++ ys) ≡ list_any test xs || list_any test ys
any_append test [] ys = refl
any_append test (x ∷ xs) ys = by (test x) (any_append test xs ys)
  where
    by : (b : Bool) → list_any test (xs ++ ys) ≡ list_any test xs || list_any test ys → b || list_any test (xs ++ ys) ≡ (b || list_any test xs) || list_any test ys
    by true h = refl
    by false h = h

differs_append : (c : Option Choice) (xs ys : List Face) → differs_by c (xs ++ ys) ≡ differs_by c xs || differs_by c ys
differs_append None xs ys = refl
differs_append (Some BuiltIn) xs ys = refl
differs_append (Some (One g)) xs ys = any_append (λ (f : Face). not (same_face g.face f)) xs ys
differs_append (Some (Bad f)) xs ys = refl

differs_more : (c : Option Choice) (b : Bool) (f : Face) (fs : List Face) → differs_by c (if b then f ∷ fs else fs) ≡ (b && differs_by c (f ∷ [])) || differs_by c fs
differs_more c true f fs = differs_append c (f ∷ []) fs
differs_more c false f fs = refl

or_grouped : (a b c : Bool) → (a || b) || c ≡ a || (b || c)
or_grouped true b c = refl
or_grouped false b c = refl

or_none : (a : Bool) → a ≡ a || false
or_none true = refl
or_none false = refl

or_true : (a : Bool) → a || true ≡ true
or_true true = refl
or_true false = refl

-- ---- one link

module _ (cs : List Choice) where
  abbrev hits : Face → Link → ℕ → Bool
  hits f l k = is_link_to k l && differs_at cs k (f ∷ [])

  at_wanted : (bad : ℕ → Bool) (bound least : ℕ) (f : Face) (n : ℕ) → IsLeast bad bound least → IsLeast (λ k. bad k || (nat_eq n k && differs_at cs k (f ∷ []))) bound (lowered cs least f (Wanted n))
  at_wanted bad bound least f n h = by (nat_lt n least) refl (differs_at cs n (f ∷ [])) refl
    where
      other : (k : ℕ) (b : Bool) → nat_eq n k ≡ b → (b ≡ true → differs_at cs k (f ∷ []) ≡ false) → b && differs_at cs k (f ∷ []) ≡ false
      other k true e g = g refl
      other k false e g = refl

      none : (k : ℕ) → bad k ≡ false → (nat_eq n k ≡ true → differs_at cs k (f ∷ []) ≡ false) → bad k || (nat_eq n k && differs_at cs k (f ∷ [])) ≡ false
      none k a g = (λ j. a j || (nat_eq n k && differs_at cs k (f ∷ []))) ∙ other k (nat_eq n k) refl g

      kept : (nat_lt n least ≡ true → differs_at cs n (f ∷ []) ≡ false) → IsLeast (λ k. bad k || (nat_eq n k && differs_at cs k (f ∷ []))) bound least
      kept g = record {
        within = h.within;
        below = λ k less.
            none k (h.below k less)
            (λ e.
            let same : n ≡ k = eqb-true n k e in
            ap (λ m. differs_at cs m (f ∷ [])) (sym same) ∙ g (lt-ltb n least (omega (arith, same, less))));
        at = λ less. ap (λ b. b || (nat_eq n least && differs_at cs least (f ∷ []))) (h.at less);
      }

      by : (a : Bool) → nat_lt n least ≡ a → (b : Bool) → differs_at cs n (f ∷ []) ≡ b → IsLeast (λ k. bad k || (nat_eq n k && differs_at cs k (f ∷ []))) bound (if a && b then n else least)
      by true p true q =
          let less : n < least = ltb-true n least p in
          record {
            within = omega (arith, less, h.within);
            below = λ k under. none k (h.below k (omega (arith, less, under))) (λ e. let same : n ≡ k = eqb-true n k e in absurd (omega (arith, same, under)));
            at = λ under. (λ j. bad n || (eq-eqb n n refl j && q j)) ∙ or_true (bad n);
          }
      by true p false q = kept (λ e. q)
      by false p b q = kept (λ e. absurd (let no : false ≡ true = sym p ∙ e in cc))

  one_link : (bad : ℕ → Bool) (bound least : ℕ) (f : Face) (l : Link) → IsLeast bad bound least → IsLeast (λ k. bad k || hits f l k) bound (lowered cs least f l)
  one_link bad bound least f (Wanted n) h = at_wanted bad bound least f n h
  one_link bad bound least f (To j n) h = same_test bad (λ k. bad k || false) bound least (λ k. or_none (bad k)) h

  -- ---- a table, and all

  by_table : (bad : ℕ → Bool) (bound least : ℕ) (fs : List Face) (ls : List Link) → IsLeast bad bound least
      → IsLeast (λ k. bad k || differs_at cs k (faces_among k fs ls)) bound (all_lowered cs least fs ls)
  unfolding faces_among
  by_table bad bound least [] ls h = same_test bad (λ k. bad k || differs_at cs k []) bound least (λ k. or_none (bad k) ∙ ap (λ b. bad k || b) (sym (none_differs (slice_get cs k)))) h
  by_table bad bound least (f ∷ fs) [] h = same_test bad (λ k. bad k || differs_at cs k []) bound least (λ k. or_none (bad k) ∙ ap (λ b. bad k || b) (sym (none_differs (slice_get cs k)))) h
  by_table bad bound least (f ∷ fs) (l ∷ ls) h =
      same_test (λ k. (bad k || hits f l k) || differs_at cs k (faces_among k fs ls)) (λ k. bad k || differs_at cs k (faces_among k (f ∷ fs) (l ∷ ls))) bound
      (all_lowered cs (lowered cs least f l) fs ls)
      (λ k. or_grouped (bad k) (hits f l k) (differs_at cs k (faces_among k fs ls)) ∙ ap (λ b. bad k || b) (sym (differs_more (slice_get cs k) (is_link_to k l) f (faces_among k fs ls))))
      (by_table (λ k. bad k || hits f l k) bound (lowered cs least f l) fs ls (one_link bad bound least f l h))

  module _ (i : Image) where
    by_tables : (bad : ℕ → Bool) (bound least : ℕ) (xs : List Instance) (tables : List (List Link)) → IsLeast bad bound least
        → IsLeast (λ k. bad k || differs_at cs k (faces_in i k xs tables)) bound (lowered_in i cs least xs tables)
    unfolding faces_in
    by_tables bad bound least [] tables h = same_test bad (λ k. bad k || differs_at cs k []) bound least (λ k. or_none (bad k) ∙ ap (λ b. bad k || b) (sym (none_differs (slice_get cs k)))) h
    by_tables bad bound least (x ∷ xs) [] h = same_test bad (λ k. bad k || differs_at cs k []) bound least (λ k. or_none (bad k) ∙ ap (λ b. bad k || b) (sym (none_differs (slice_get cs k)))) h
    by_tables bad bound least (x ∷ xs) (table ∷ tables) h =
        let fs = faces_linked (module_at i (Some x)) in
        same_test (λ k. (bad k || differs_at cs k (faces_among k fs table)) || differs_at cs k (faces_in i k xs tables)) (λ k. bad k || differs_at cs k (faces_among k fs table ++ faces_in i k xs tables))
        bound (lowered_in i cs (all_lowered cs least fs table) xs tables)
        (λ k.
        or_grouped (bad k) (differs_at cs k (faces_among k fs table)) (differs_at cs k (faces_in i k xs tables))
        ∙ ap (λ b. bad k || b) (sym (differs_append (slice_get cs k) (faces_among k fs table) (faces_in i k xs tables))))
        (by_tables (λ k. bad k || differs_at cs k (faces_among k fs table)) bound (all_lowered cs least fs table) xs tables (by_table bad bound least fs table h))

    pub least_is : (bound : ℕ) → IsLeast (λ k. differs_at cs k (faces_to i k)) bound (lowered_in i cs bound i.instances i.links)
    least_is bound = by_tables (λ k. false) bound bound i.instances i.links (record { within = omega arith; below = λ k less. refl; at = λ less. absurd (omega (arith, less)) })
