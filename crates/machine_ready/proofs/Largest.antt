-- The largest of a size.
use Rattle.std.proofs.Common.{◌≡◌, ℕ, zero, suc, ◌+◌, ◌<◌, ◌≤◌, max, List, [], ◌∷◌, length, take, get_or, map, fold, Some, sym, ap, subst, ◌∙◌, append-nil, arith}
use Rattle.std.specs.Prelude.{slice_get, flat_map}
use Rattle.std.proofs.lemmas.List.{map-append, take_more}
use Rattle.std.proofs.lemmas.List.Concat.{flat_map-append}
use Rattle.std.proofs.lemmas.List.Sums.{fold_push, fold-append}
use Rattle.std.proofs.lemmas.Option.{none-some, same_Some}
use Rattle.code_forms.specs.declared.module_code.CodeProcedure.{CodeProcedure}
use Rattle.object_files.specs.declared.object.Object.{Object}

module _ (size : CodeProcedure → ℕ) where
  abbrev sizes : Object → List ℕ
  sizes o = map size o.code.procedures

  -- one procedure more, one module more
  pub procedure_more : (least : ℕ) (ps : List CodeProcedure) (i : ℕ) (p : CodeProcedure) → i < length ps → p ≡ get_or ps i p
      → fold max least (map size (take (i + 1) ps)) ≡ max (fold max least (map size (take i ps))) (size p)
  procedure_more least ps i p l is =
      ap (λ xs. fold max least (map size xs)) (take_more ps i p l)
      ∙ ap (fold max least) (map-append size (take i ps) (get_or ps i p ∷ []))
      ∙ fold_push max least (map size (take i ps)) (size (get_or ps i p))
      ∙ ap (λ x. max (fold max least (map size (take i ps))) (size x)) (sym is)

  pub module_more : (ms : List Object) (i : ℕ) (o : Object) → i < length ms → o ≡ get_or ms i o
      → fold max 0 (flat_map sizes (take (i + 1) ms)) ≡ fold max (fold max 0 (flat_map sizes (take i ms))) (map size o.code.procedures)
  module_more ms i o l is =
      ap (λ xs. fold max 0 (flat_map sizes xs)) (take_more ms i o l)
      ∙ ap (fold max 0) (flat_map-append sizes (take i ms) (get_or ms i o ∷ []))
      ∙ fold-append max 0 (flat_map sizes (take i ms)) (flat_map sizes (get_or ms i o ∷ []))
      ∙ ap (λ (x : Object). fold max (fold max 0 (flat_map sizes (take i ms))) (flat_map sizes (x ∷ []))) (sym is)
      ∙ ap (fold max (fold max 0 (flat_map sizes (take i ms)))) (append-nil (sizes o))

  -- none is larger
  least_below : (least : ℕ) (xs : List ℕ) → least ≤ fold max least xs
  least_below least [] = omega arith
  least_below least (x ∷ xs) = let r = least_below (max least x) xs in omega (arith, r)

  size_below : (least : ℕ) (ps : List CodeProcedure) (n : ℕ) (q : CodeProcedure) → slice_get ps n ≡ Some q → size q ≤ fold max least (map size ps)
  size_below least [] n q e = absurd (none-some q e)
  size_below least (p ∷ ps) zero q e = let r = least_below (max least (size p)) (map size ps) in let same = ap size (same_Some p q e) in omega (arith, r, same)
  size_below least (p ∷ ps) (suc n) q e = size_below (max least (size p)) ps n q e

  pub largest_bounds : (least : ℕ) (ms : List Object) (m n : ℕ) (o : Object) (q : CodeProcedure) → slice_get ms m ≡ Some o → slice_get o.code.procedures n ≡ Some q
      → size q ≤ fold max least (flat_map sizes ms)
  largest_bounds least [] m n o q e is = absurd (none-some o e)
  largest_bounds least (x ∷ ms) zero n o q e is =
      let own = size_below least x.code.procedures n q (subst (λ (y : Object). slice_get y.code.procedures n ≡ Some q) (sym (same_Some x o e)) is) in
      let rest = least_below (fold max least (sizes x)) (flat_map sizes ms) in
      let parts = fold-append max least (sizes x) (flat_map sizes ms) in
      omega (arith, own, rest, parts)
  largest_bounds least (x ∷ ms) (suc m) n o q e is =
      let rest = largest_bounds (fold max least (sizes x)) ms m n o q e is in
      let parts = fold-append max least (sizes x) (flat_map sizes ms) in
      omega (arith, rest, parts)
