-- At the end what is marked is what is reached.
use Rattle.std.proofs.Common.{◌≡◌, ℕ, ◌<◌, ◌≤◌, List, length, get_or, Bool, Some, sym, subst, ◌∙◌, arith}
use Rattle.std.specs.Prelude.{slice_get}
use Rattle.std.proofs.lemmas.Grind.{get_or_default_zero}
use Rattle.survey_code.specs.Graphs.{IsReached, first, onward, IsMarked, AreReached}
use Rattle.survey_code.specs.Marking.{Reaches, RowIsMarked}

-- the rows of the first so many of the queue are marked
abbrev pub Done : List (List ℕ) → List Bool → List ℕ → ℕ → Type 0
Done graph marks queue done = (i : ℕ) → i < done → RowIsMarked graph marks (get_or queue i 0)

all_marked : (graph : List (List ℕ)) (marks : List Bool) (queue : List ℕ) (done : ℕ) → Reaches graph marks queue → Done graph marks queue done → length queue ≤ done → IsMarked marks 0
    → (node : ℕ) → IsReached graph node → IsMarked marks node
all_marked graph marks queue done r d end start _ first = start
all_marked graph marks queue done r d end start _ (onward node next row before is there) =
    let c = r.queued node (all_marked graph marks queue done r d end start node before) in
    let l = c.1 in
    let at : get_or queue c.0 0 ≡ node = get_or_default queue c.0 node l ∙ c.2 in
    d c.0 (omega (arith, l, end)) next row (subst (λ x. slice_get graph x ≡ Some row) (sym at) is) there
  where
    get_or_default : (xs : List ℕ) (i x : ℕ) → i < length xs → get_or xs i 0 ≡ get_or xs i x
    get_or_default xs i x l = sym (get_or_default_zero xs i x l)

pub are_reached : (graph : List (List ℕ)) (marks : List Bool) (queue : List ℕ) (done : ℕ) → Reaches graph marks queue → Done graph marks queue done → length queue ≤ done
    → IsMarked marks 0 → AreReached graph marks
are_reached graph marks queue done r d end start = record { count = r.count; reached = r.reached; all = all_marked graph marks queue done r d end start }
