-- Marking keeps what is known of marks and queue.
use Rattle.std.proofs.Common.{◌≡◌, ◌⊎◌, inl, inr, ⊎_elim, ℕ, ◌+◌, ◌<◌, ◌≤◌, List, [], ◌∷◌, ◌++◌, length, get_or, set, Bool, true, false, refl, sym, ap, subst, ◌∙◌, arith, length-append}
use Rattle.std.specs.Prelude.{Contains, if◌then◌else◌}
use Rattle.std.specs.List.{count_by}
use Rattle.std.proofs.lemmas.Bool.{cases_lt, cases_eq}
use Rattle.std.proofs.lemmas.List.{get_or-set_same, get_or-set_other, get_or_append_left, length-set}
use Rattle.std.proofs.Math.Seq.{get_or-append_seam}
use Rattle.std.proofs.lemmas.List.Elements.{Contains-append_left, Contains-append_right}
use Rattle.std.proofs.lemmas.List.Sums.{sum_by-set}
use Rattle.survey_code.specs.Graphs.{IsReached, IsMarked}
use Rattle.survey_code.specs.Marking.{Marks, Reaches, Grows}

marked_or : (marks : List Bool) (node : ℕ) (b : Bool) → get_or marks node false ≡ b → IsMarked marks node ⊎ (get_or marks node false ≡ false)
marked_or marks node true e = inl e
marked_or marks node false e = inr e

-- a mark is set
set_there : (marks : List Bool) (node : ℕ) → node < length marks → IsMarked (set marks node true) node
set_there marks node l = get_or-set_same marks node true false l

set_stays : (marks : List Bool) (node k : ℕ) → node < length marks → IsMarked marks k → IsMarked (set marks node true) k
set_stays marks node k l is = ⊎_elim
    (λ (e : k ≡ node). subst (λ x. IsMarked (set marks node true) x) (sym e) (set_there marks node l))
    (λ (n : k ≡ node → ⊥). get_or-set_other marks node k true false n ∙ is)
    (cases_eq k node)

set_more : (marks : List Bool) (node k : ℕ) → IsMarked (set marks node true) k → (k ≡ node) ⊎ IsMarked marks k
set_more marks node k is = ⊎_elim
    (λ (e : k ≡ node). inl e)
    (λ (n : k ≡ node → ⊥). inr (sym (get_or-set_other marks node k true false n) ∙ is))
    (cases_eq k node)

count_more : (marks : List Bool) (node : ℕ) → node < length marks → get_or marks node false ≡ false → count_by (λ b. b) (set marks node true) ≡ count_by (λ b. b) marks + 1
count_more marks node l e =
    let f = λ (b : Bool). if b then 1 else 0 in
    let s = sum_by-set f marks node true false l in
    let none : f (get_or marks node false) ≡ 0 = ap f e in
    omega (arith, s, none)

-- What marking a node does.

module _ (graph : List (List ℕ)) (marks : List Bool) (queue : List ℕ) (node : ℕ) (marks' : List Bool) (queue' : List ℕ) (is : Marks marks queue node marks' queue') where
  -- it stands behind the others
  abbrev behind : List ℕ
  behind = queue ++ node ∷ []

  long : length behind ≡ length queue + 1
  long = length-append queue (node ∷ [])

  before : (i : ℕ) → i < length queue → get_or behind i 0 ≡ get_or queue i 0
  before i l = get_or_append_left queue (node ∷ []) 0 i l

  last : get_or behind (length queue) 0 ≡ node
  last = get_or-append_seam queue node [] 0

  pub grows : node < length marks → Grows marks queue marks' queue'
  grows within = ⊎_elim
      (λ (h : IsMarked marks node × (marks' ≡ marks) × (queue' ≡ queue)). record {
        stay = λ k m. subst (λ x. IsMarked x k) (sym h.1) m;
        longer = omega (arith, ap length h.2);
        same = λ i l. ap (λ q. get_or q i 0) h.2;
      })
      (λ (h : (get_or marks node false ≡ false) × (marks' ≡ set marks node true) × (queue' ≡ behind)). record {
        stay = λ k m. subst (λ x. IsMarked x k) (sym h.1) (set_stays marks node k within m);
        longer = let l = ap length h.2 in let g = long in omega (arith, l, g);
        same = λ i l. ap (λ q. get_or q i 0) h.2 ∙ before i l;
      })
      is

  pub now_marked : node < length marks → IsMarked marks' node
  now_marked within = ⊎_elim
      (λ (h : IsMarked marks node × (marks' ≡ marks) × (queue' ≡ queue)). subst (λ x. IsMarked x node) (sym h.1) h.0)
      (λ (h : (get_or marks node false ≡ false) × (marks' ≡ set marks node true) × (queue' ≡ behind)).
      subst (λ x. IsMarked x node) (sym h.1) (set_there marks node within))
      is

  -- the last of the queue
  in_last : (i : ℕ) → i < length behind → (queued : (k : ℕ) → k < length queue → IsMarked marks (get_or queue k 0)) → node < length marks → IsMarked (set marks node true) (get_or behind i 0)
  in_last i l queued within = ⊎_elim
      (λ (less : i < length queue). subst (λ x. IsMarked (set marks node true) x) (sym (before i less)) (set_stays marks node (get_or queue i 0) within (queued i less)))
      (λ (most : length queue ≤ i). let g = long in
      let same : i ≡ length queue = omega (arith, l, most, g) in
      subst (λ x. IsMarked (set marks node true) x) (sym (ap (λ k. get_or behind k 0) same ∙ last)) (set_there marks node within))
      (cases_lt i (length queue))

  reaches_set : Reaches graph marks queue → IsReached graph node → node < length marks → get_or marks node false ≡ false → Reaches graph (set marks node true) behind
  reaches_set r n within e = record {
    count = length-set marks node true ∙ r.count;
    reached = λ k m. ⊎_elim (λ (s : k ≡ node). subst (λ x. IsReached graph x) (sym s) n) (λ (old : IsMarked marks k). r.reached k old) (set_more marks node k m);
    queued = λ k m. ⊎_elim (λ (s : k ≡ node). subst (λ x. Contains behind x) (sym s) (Contains-append_right queue (node ∷ []) node (0, omega arith, refl)))
        (λ (old : IsMarked marks k). Contains-append_left queue (node ∷ []) k (r.queued k old)) (set_more marks node k m);
    marked = λ i l. in_last i l r.marked within;
    once = let g = long in let o = r.once in let c = count_more marks node within e in omega (arith, g, o, c);
  }

  pub reaches : Reaches graph marks queue → IsReached graph node → node < length marks → Reaches graph marks' queue'
  reaches r n within = ⊎_elim
      (λ (h : IsMarked marks node × (marks' ≡ marks) × (queue' ≡ queue)).
      subst (λ x. Reaches graph x queue') (sym h.1) (subst (λ x. Reaches graph marks x) (sym h.2) r))
      (λ (h : (get_or marks node false ≡ false) × (marks' ≡ set marks node true) × (queue' ≡ behind)).
      subst (λ x. Reaches graph x queue') (sym h.1) (subst (λ x. Reaches graph (set marks node true) x) (sym h.2) (reaches_set r n within h.0)))
      is

-- growing again
pub grows_on : (marks : List Bool) (queue : List ℕ) (marks' : List Bool) (queue' : List ℕ) (marks'' : List Bool) (queue'' : List ℕ)
    → Grows marks queue marks' queue' → Grows marks' queue' marks'' queue'' → Grows marks queue marks'' queue''
grows_on marks queue marks' queue' marks'' queue'' g h = record {
  stay = λ k m. h.stay k (g.stay k m);
  longer = let a = g.longer in let b = h.longer in omega (arith, a, b);
  same = λ i l. h.same i (let a = g.longer in omega (arith, l, a)) ∙ g.same i l;
}

pub grows_none : (marks : List Bool) (queue : List ℕ) → Grows marks queue marks queue
grows_none marks queue = record { stay = λ k m. m; longer = omega arith; same = λ i l. refl }
