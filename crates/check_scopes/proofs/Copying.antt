-- Scopes that are copied one by one, while those that are copied stay what they are.
use Rattle.std.proofs.Common.{◌≡◌, ℕ, zero, suc, ◌+◌, ◌<◌, ◌≤◌, List, [], ◌∷◌, ◌++◌, length, map, take, take_all, reverse, get_or, refl, sym, ap, ◌∙◌, arith}
use Rattle.std.proofs.Math.ListN.{set}
use Rattle.std.proofs.lemmas.List.{length-map, map-append, map_more, reverse-append, take-map}
use Rattle.check_scopes.specs.Scopes.{Scope}
use Rattle.check_scopes.specs.Shows.{means}
use Rattle.check_scopes.specs.declared.names.Names.{Names}

module _ {T : Type 0} where
  -- one that shows what it showed, in its place
  pub kept : (all : List (Names T)) (i : ℕ) (now new : Names T) → now ≡ get_or all i now → means new ≡ means now
      → map means (set all i new) ≡ map means all
  kept [] i now new here same = refl
  kept (s ∷ ss) zero now new here same = ap (λ m. m ∷ map means ss) (same ∙ ap means here)
  kept (s ∷ ss) (suc i) now new here same = ap (λ ms. means s ∷ ms) (kept ss i now new here same)

  many : (all : List (Names T)) (i n : ℕ) (old : List (Scope T)) → map means all ≡ old → n ≡ length old → i < n → i < length all
  many all i n old stays so_many inside = let few = length-map all means in let as_many = ap length stays in omega (arith, few, as_many)

  -- one more that is copied
  pub copied_more : (all done : List (Names T)) (i n : ℕ) (now copy : Names T) (old : List (Scope T)) → n ≡ length old → i < n → now ≡ get_or all i now
      → means copy ≡ means now → map means all ≡ old → map means done ≡ take i old → map means (done ++ copy ∷ []) ≡ take (i + 1) old
  copied_more all done i n now copy old so_many inside here same stays so_far =
      map-append means done (copy ∷ []) ∙ ap (λ l. l ++ means copy ∷ []) (so_far ∙ ap (take i) (sym stays) ∙ take-map means i all)
      ∙ ap (λ s. map means (take i all) ++ s ∷ []) (same ∙ ap means here) ∙ sym (map_more means all i now (many all i n old stays so_many inside))
      ∙ sym (take-map means (i + 1) all) ∙ ap (take (i + 1)) stays

  backward : (all : List (Names T)) → map means (reverse all) ≡ reverse (map means all)
  backward [] = refl
  backward (s ∷ ss) = ap (map means) (reverse-append (s ∷ []) ss) ∙ map-append means (reverse ss) (s ∷ []) ∙ ap (λ l. l ++ means s ∷ []) (backward ss)
      ∙ sym (reverse-append (means s ∷ []) (map means ss))

  -- all of them, the innermost first
  pub shown_as : (all old : List (Names T)) → map means all ≡ map means old → map means (reverse all) ≡ map means (reverse old)
  shown_as all old h = backward all ∙ ap reverse h ∙ sym (backward old)

  pub all_copied : (done old : List (Names T)) (i n : ℕ) → n ≡ length old → n ≤ i → map means done ≡ take i (map means old)
      → map means (reverse done) ≡ map means (reverse old)
  all_copied done old i n so_many at_end so_far = shown_as done old (so_far ∙ take_all i (map means old) (let as_many = length-map old means in omega (arith, as_many)))
