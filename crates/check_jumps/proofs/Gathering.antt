-- A rule for each of a list, one after the other, with all that they give.
use Rattle.std.proofs.Common.{◌≡◌, ◌<◌, ◌≤◌, ◌+◌, ℕ, List, [], ◌∷◌, ◌++◌, map, drop, length, get_or, Ok, Err, refl, sym, ap, ◌∙◌, append_assoc}
use Rattle.std.proofs.lemmas.List.{drop_all, map-append}
use Rattle.check_rules.specs.Steps.{State, Check, Checked, and_then}
use Rattle.check_jumps.proofs.Tests.{at_drop}

unfoldable pub gathered : {A B : Type 0} → (A → Check B) → List A → Check (List B)
gathered one [] s = Ok ([], s)
gathered one (x ∷ xs) s = and_then (one x s) (λ r. and_then (gathered one xs r.1) (λ q. Ok (r.0 ∷ q.0, q.1)))

-- what is still to come, behind what is there
abbrev pub behind : {B : Type 0} → List B → Checked (List B × State) → Checked (List B × State)
behind done p = and_then p (λ r. Ok (done ++ r.0, r.1))

pub nothing_behind : {B : Type 0} (p : Checked (List B × State)) → p ≡ behind [] p
nothing_behind (Ok r) = refl
nothing_behind (Err e) = refl

longer : {B : Type 0} (done : List B) (b : B) (p : Checked (List B × State))
    → behind done (and_then p (λ q. Ok (b ∷ q.0, q.1))) ≡ behind (done ++ b ∷ []) p
longer done b (Ok q) = ap (λ bs. Ok (bs, q.1)) (sym (append_assoc done (b ∷ []) q.0))
longer done b (Err e) = refl

one_more : {B : Type 0} (done : List B) (p : Checked (B × State)) (rest : State → Checked (List B × State))
    → behind done (and_then p (λ r. and_then (rest r.1) (λ q. Ok (r.0 ∷ q.0, q.1)))) ≡ and_then p (λ r. behind (done ++ r.0 ∷ []) (rest r.1))
one_more done (Ok r) rest = longer done r.0 (rest r.1)
one_more done (Err e) rest = refl

pub gathered_at : {A B : Type 0} (one : A → Check B) (done : List B) (all : List A) (i : ℕ) (x : A) (s : State)
    → i < length all → x ≡ get_or all i x
    → behind done (gathered one (drop i all) s) ≡ and_then (one x s) (λ r. behind (done ++ r.0 ∷ []) (gathered one (drop (i + 1) all) r.1))
unfolding gathered
gathered_at one done all i x s inside here =
    ap (λ xs. behind done (gathered one xs s)) (at_drop all i x inside here) ∙ one_more done (one x s) (gathered one (drop (i + 1) all))

pub gathered_turn : {A B C : Type 0} (view : C → B) (one : A → Check B) (done new : List C) (y : C) (all : List A) (i : ℕ) (x : A) (s t : State)
    → i < length all → x ≡ get_or all i x → one x s ≡ Ok (view y, t) → new ≡ done ++ y ∷ []
    → behind (map view done) (gathered one (drop i all) s) ≡ behind (map view new) (gathered one (drop (i + 1) all) t)
unfolding gathered
gathered_turn view one done new y all i x s t inside here given pushed =
    gathered_at one (map view done) all i x s inside here
    ∙ ap (λ p. and_then p (λ r. behind (map view done ++ r.0 ∷ []) (gathered one (drop (i + 1) all) r.1))) given
    ∙ ap (λ bs. behind bs (gathered one (drop (i + 1) all) t)) (sym (ap (map view) pushed ∙ map-append view done (y ∷ [])))

pub gathered_end : {A B : Type 0} (one : A → Check B) (done : List B) (all : List A) (i : ℕ) (s : State) → length all ≤ i
    → behind done (gathered one (drop i all) s) ≡ Ok (done, s)
unfolding gathered
gathered_end one done all i s outside = ap (λ xs. behind done (gathered one xs s)) (drop_all i all outside) ∙ ap (λ bs. Ok (bs, s)) (append_nil done)
  where
    append_nil : {B : Type 0} (bs : List B) → bs ++ [] ≡ bs
    append_nil [] = refl
    append_nil (b ∷ bs) = ap (λ cs. b ∷ cs) (append_nil bs)
