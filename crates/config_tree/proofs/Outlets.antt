-- One export after the other, one instance after the other.
use Rattle.std.proofs.Common.{◌≡◌, ℕ, suc, ◌+◌, ◌≤◌, ◌⊎◌, inl, inr, ⊎_elim, List, [], ◌∷◌, ◌++◌, length, drop, Some, None, slice_get, refl, sym, ap, ◌∙◌, append-nil, append_assoc, arith}
use Rattle.std.proofs.lemmas.List.{drop_more, drop_all}
use Rattle.std.proofs.lemmas.List.Concat.{flat_map-append}
use Rattle.std.proofs.lemmas.Option.{slice_get_cases}
use Rattle.mesa_types.specs.declared.faces.Export.{Export}
use Rattle.config_rules.specs.declared.tree.Outgoing.{Outgoing}
use Rattle.config_rules.specs.declared.tree.Tree.{Tree}
use Rattle.config_rules.specs.declared.tree.TreeInstance.{TreeInstance}
use Rattle.config_rules.specs.Exporters.{Outlet, outlets_of, outlets_from}
use Rattle.config_rules.specs.Outgoing.{entries_of}
use Rattle.config_tree.specs.Going.{outlet_at, outlets_at}

-- what is left of a list, by whether an element stands there
pub left : {A : Type 0} (xs : List A) (n : ℕ) → ((slice_get xs n ≡ None) × (drop n xs ≡ []) × (drop (n + 1) xs ≡ [])) ⊎ ((x : A) × (slice_get xs n ≡ Some x) × (drop n xs ≡ x ∷ drop (n + 1) xs))
left xs n = ⊎_elim
    (λ h. inr (h.0, h.2, drop_more xs n h.0 h.1 ∙ ap (λ y. y ∷ drop (n + 1) xs) h.3))
    (λ h. inl (h.1, drop_all n xs h.0, drop_all (n + 1) xs (let l = h.0 in omega (arith, l))))
    (slice_get_cases xs n).1

module _ (i s : ℕ) where
  no_exports : (n : ℕ) (rs : List (List ℕ)) → outlets_of i n s rs [] ≡ []
  unfolding outlets_of
  no_exports n [] = refl
  no_exports n (r ∷ rs) = refl

  -- what is left of two lists is the export there, and what is left behind it
  pub next_outlet : (n : ℕ) (rs : List (List ℕ)) (xs : List Export)
      → outlets_of i n s (drop n rs) (drop n xs) ≡ outlet_at i n s (slice_get rs n) (slice_get xs n) ++ outlets_of i (n + 1) s (drop (n + 1) rs) (drop (n + 1) xs)
  unfolding outlets_of
  next_outlet n rs xs = ⊎_elim
      (λ p.
      ap (λ l. outlets_of i n s l (drop n xs)) p.1 ∙ ap (λ l. outlets_of i (n + 1) s l (drop (n + 1) xs)) (sym p.2)
      ∙ ap (λ o. outlet_at i n s o (slice_get xs n) ++ outlets_of i (n + 1) s (drop (n + 1) rs) (drop (n + 1) xs)) (sym p.0))
      (λ p. ⊎_elim
      (λ q.
      ap (λ l. outlets_of i n s (drop n rs) l) q.1 ∙ no_exports n (drop n rs) ∙ sym (no_exports (n + 1) (drop (n + 1) rs))
      ∙ ap (λ l. outlets_of i (n + 1) s (drop (n + 1) rs) l) (sym q.2)
      ∙ (λ j. outlet_at i n s (sym p.1 j) (sym q.0 j) ++ outlets_of i (n + 1) s (drop (n + 1) rs) (drop (n + 1) xs)))
      (λ q.
      (λ j. outlets_of i n s (p.2 j) (q.2 j))
      ∙ ap (λ k. outlet_at i n s (Some p.0) (Some q.0) ++ outlets_of i k s (drop (n + 1) rs) (drop (n + 1) xs)) {x = suc n} {y = n + 1} (omega arith)
      ∙ (λ j. outlet_at i n s (sym p.1 j) (sym q.1 j) ++ outlets_of i (n + 1) s (drop (n + 1) rs) (drop (n + 1) xs)))
      (left xs n))
      (left rs n)

  pub no_outlet : (n : ℕ) (rs : List (List ℕ)) (xs : List Export) → length rs ≤ n → outlets_of i n s (drop n rs) (drop n xs) ≡ []
  unfolding outlets_of
  no_outlet n rs xs l = ap (λ r. outlets_of i n s r (drop n xs)) (drop_all n rs l)

pub next_instance : (n : ℕ) (xs : List TreeInstance) → outlets_from n (drop n xs) ≡ outlets_at n (slice_get xs n) ++ outlets_from (n + 1) (drop (n + 1) xs)
unfolding outlets_from
next_instance n xs = ⊎_elim
    (λ p. ap (λ r. outlets_from n r) p.1 ∙ ap (λ r. outlets_from (n + 1) r) (sym p.2) ∙ ap (λ o. outlets_at n o ++ outlets_from (n + 1) (drop (n + 1) xs)) (sym p.0))
    (λ p.
    ap (λ r. outlets_from n r) p.2
    ∙ ap (λ k. outlets_at n (Some p.0) ++ outlets_from k (drop (n + 1) xs)) {x = suc n} {y = n + 1} (omega arith)
    ∙ ap (λ o. outlets_at n o ++ outlets_from (n + 1) (drop (n + 1) xs)) (sym p.1))
    (left xs n)

pub no_instance : (n : ℕ) (xs : List TreeInstance) → length xs ≤ n → outlets_from n (drop n xs) ≡ []
unfolding outlets_from
no_instance n xs l = ap (λ r. outlets_from n r) (drop_all n xs l)

module _ (t : Tree) where
  -- so many are put, and those that are left are put behind
  pub more_put : (old new all : List Outgoing) (os ps rest : List Outlet) → rest ≡ os ++ ps → new ≡ old ++ entries_of t os → old ++ entries_of t rest ≡ all → new ++ entries_of t ps ≡ all
  more_put old new all os ps rest is grown before =
      ap (λ l. l ++ entries_of t ps) grown ∙ append_assoc old (entries_of t os) (entries_of t ps) ∙ ap (λ l. old ++ l) (sym (flat_map-append _ os ps))
      ∙ ap (λ l. old ++ entries_of t l) (sym is) ∙ before

  pub all_put : (now all : List Outgoing) (rest : List Outlet) → rest ≡ [] → now ++ entries_of t rest ≡ all → now ≡ all
  all_put now all rest is before = sym (append-nil now) ∙ ap (λ l. now ++ entries_of t l) (sym is) ∙ before
