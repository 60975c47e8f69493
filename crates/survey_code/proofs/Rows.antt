-- All to which a node leads is marked, one after the other.
use Rattle.std.proofs.Common.{◌≡◌, ⊎_elim, ℕ, ◌+◌, ◌<◌, ◌≤◌, List, length, get_or, Bool, Some, sym, ap, subst, ◌∙◌, arith}
use Rattle.std.specs.Prelude.{Contains, slice_get}
use Rattle.std.proofs.lemmas.Bool.{cases_lt}
use Rattle.std.proofs.lemmas.Grind.{get_or_default_zero}
use Rattle.std.proofs.lemmas.Option.{same_Some}
use Rattle.survey_code.specs.Graphs.{IsGraph, IsReached, onward, IsMarked}
use Rattle.survey_code.specs.Marking.{Marks, Reaches, Grows, RowIsMarked}
use Rattle.survey_code.proofs.Marking.{grows, now_marked, reaches, grows_on}
use Rattle.survey_code.proofs.Closing.{Done}

-- one of a row
in_row : (row items : List ℕ) (i : ℕ) → items ≡ row → i < length items → Contains row (get_or items i 0)
in_row row items i same l =
    subst (λ r. Contains r (get_or items i 0)) same (i, l, get_or_default_zero items i (get_or items i 0) l)

-- what the loop over a row keeps
abbrev pub Marking : (graph : List (List ℕ)) (items : List ℕ) (i : ℕ) (marks : List Bool) (queue : List ℕ) (marks' : List Bool) (queue' : List ℕ) → Type 0
Marking graph items i marks queue marks' queue' =
    Reaches graph marks' queue' × Grows marks queue marks' queue' × ((k : ℕ) → k < i → IsMarked marks' (get_or items k 0))

module _ (graph : List (List ℕ)) (node : ℕ) (row items : List ℕ) (i : ℕ) where
  pub row_inside : (marks : List Bool) (queue : List ℕ) → IsGraph graph → slice_get graph node ≡ Some row → items ≡ row → i < length items → Reaches graph marks queue
      → get_or items i 0 < length marks
  row_inside marks queue g is same l r =
      let c = r.count in
      let inside = g.inside node (get_or items i 0) row is (in_row row items i same l) in
      omega (arith, c, inside)

  pub one_more : (marks : List Bool) (queue : List ℕ) (marks' : List Bool) (queue' : List ℕ) (marks'' : List Bool) (queue'' : List ℕ) → IsGraph graph → Reaches graph marks queue
      → IsMarked marks node → slice_get graph node ≡ Some row → items ≡ row → i < length items → Marking graph items i marks queue marks' queue'
      → Marks marks' queue' (get_or items i 0) marks'' queue'' → Marking graph items (i + 1) marks queue marks'' queue''
  one_more marks queue marks' queue' marks'' queue'' g r m is same l h step =
      let next = get_or items i 0 in
      let within = row_inside marks' queue' g is same l h.0 in
      let is_reached : IsReached graph next = onward node next row (r.reached node m) is (in_row row items i same l) in
      let more = grows graph marks' queue' next marks'' queue'' step within in (
        reaches graph marks' queue' next marks'' queue'' step h.0 is_reached within,
        grows_on marks queue marks' queue' marks'' queue'' h.1 more,
        λ k below. ⊎_elim
            (λ (less : k < i). more.stay (get_or items k 0) (h.2 k less))
            (λ (most : i ≤ k). let e : i ≡ k = omega (arith, below, most) in
            subst (λ x. IsMarked marks'' (get_or items x 0)) e (now_marked graph marks' queue' next marks'' queue'' step within))
            (cases_lt k i),
      )

  pub row_done : (marks : List Bool) → slice_get graph node ≡ Some row → items ≡ row → ((k : ℕ) → k < i → IsMarked marks (get_or items k 0)) → length items ≤ i → RowIsMarked graph marks node
  row_done marks is same all end next other there c =
      let r : row ≡ other = same_Some row other (sym is ∙ there) in
      let l : c.0 < length items = (let a = c.1 in let e = ap length same in let f = ap length r in omega (arith, a, e, f)) in
      let at : get_or items c.0 0 ≡ next = get_or_default items c.0 next l ∙ ap (λ x. get_or x c.0 next) (same ∙ r) ∙ c.2 in
      subst (λ x. IsMarked marks x) at (all c.0 (omega (arith, l, end)))
    where
      get_or_default : (xs : List ℕ) (k x : ℕ) → k < length xs → get_or xs k 0 ≡ get_or xs k x
      get_or_default xs k x l = sym (get_or_default_zero xs k x l)

-- A node of the queue is done.

pub done_more : (graph : List (List ℕ)) (marks : List Bool) (queue : List ℕ) (marks' : List Bool) (queue' : List ℕ) (done node : ℕ) → done < length queue → node ≡ get_or queue done 0
    → Done graph marks queue done → Grows marks queue marks' queue' → RowIsMarked graph marks' node → Done graph marks' queue' (done + 1)
done_more graph marks queue marks' queue' done node l is d g row i below next r there c = ⊎_elim
    (λ (less : i < done). g.stay next (d i less next r (sym (ap (λ x. slice_get graph x) (g.same i (omega (arith, less, l)))) ∙ there) c))
    (λ (most : done ≤ i).
    let e : i ≡ done = omega (arith, below, most) in
    let at : get_or queue' i 0 ≡ node = ap (λ k. get_or queue' k 0) e ∙ g.same done l ∙ sym is in
    row next r (sym (ap (λ x. slice_get graph x) at) ∙ there) c)
    (cases_lt i done)
