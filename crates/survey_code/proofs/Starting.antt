-- The first node is marked, and no other.
use Rattle.std.proofs.Common.{◌≡◌, ⊎_elim, ℕ, ◌<◌, ◌≤◌, List, [], length, Bool, false, sym, subst, ◌∙◌, arith}
use Rattle.std.proofs.Math.ListN.{replicate}
use Rattle.std.specs.Prelude.{if◌then◌else◌}
use Rattle.std.proofs.lemmas.Bool.{false≢true, cases_lt}
use Rattle.std.proofs.lemmas.List.{get_or-replicate, length-replicate, get_or_past}
use Rattle.std.proofs.lemmas.List.Folds.{sum_by-replicate}
use Rattle.survey_code.specs.Graphs.{IsGraph, first, IsMarked}
use Rattle.survey_code.specs.Marking.{Marks, Reaches}
use Rattle.survey_code.proofs.Marking.{now_marked, reaches}
use Rattle.survey_code.proofs.Closing.{Done}

none_marked : (n k : ℕ) → IsMarked (replicate n false) k → ⊥
none_marked n k is = ⊎_elim
    (λ (l : k < n). false≢true (sym (get_or-replicate n k false false l) ∙ is))
    (λ (l : n ≤ k). false≢true (sym (get_or_past (replicate n false) k false (let e = length-replicate n false in omega (arith, e, l))) ∙ is))
    (cases_lt k n)

none_reached : (graph : List (List ℕ)) (n : ℕ) → n ≡ length graph → Reaches graph (replicate n false) []
none_reached graph n e = record {
  count = length-replicate n false ∙ e;
  reached = λ k is. absurd (none_marked n k is);
  queued = λ k is. absurd (none_marked n k is);
  marked = λ i l. absurd (omega (arith, l));
  once = let s = sum_by-replicate (λ (b : Bool). if b then 1 else 0) n false in omega (arith, s);
}

pub begun : (graph : List (List ℕ)) (n : ℕ) (marks : List Bool) (queue : List ℕ) (marks' : List Bool) (queue' : List ℕ) → IsGraph graph → n ≡ length graph
    → marks ≡ replicate n false → queue ≡ [] → Marks marks queue 0 marks' queue' → Reaches graph marks' queue' × Done graph marks' queue' 0 × IsMarked marks' 0
begun graph n marks queue marks' queue' g e none empty step =
    let r : Reaches graph marks queue =
    subst (λ x. Reaches graph x queue) (sym none) (subst (λ x. Reaches graph (replicate n false) x) (sym empty) (none_reached graph n e)) in
    let within : 0 < length marks = (let c = r.count in let s = g.some in omega (arith, c, s)) in (
      reaches graph marks queue 0 marks' queue' step r first within,
      (λ i l. absurd (omega (arith, l))),
      now_marked graph marks queue 0 marks' queue' step within,
    )
