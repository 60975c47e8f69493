-- Where a walk that comes nowhere new has come is all that is reached.
use Rattle.std.proofs.Common.{◌≡◌, ◌⊎◌, inl, inr, ⊎_elim, ℕ, ◌+◌, ◌<◌, List, [], ◌∷◌, ◌++◌, length, Some, sym, ap, subst, ◌∙◌, arith, length-append}
use Rattle.std.specs.Prelude.{Contains}
use Rattle.std.proofs.lemmas.List.Elements.{Contains-append_left, Contains-push, Contains-push_cases}
use Rattle.place_walks.specs.declared.place.Place.{Place}
use Rattle.place_walks.specs.declared.walk.Walk.{Walk}
use Rattle.place_walks.specs.Going.{IsGoing, IsResting, HasCome}
use Rattle.place_walks.specs.Reach.{Reached, begun, onward}
use Rattle.place_walks.specs.Walks.{mark_at, IsThere, IsMarked, others_of, left_of, Visits}

nothing_there : (x : Place) → Contains [] x → ⊥
nothing_there x c = let l : c.0 < 0 = c.1 in absurd (omega (arith, l))

module _ (begins : Place → Type 0) (follows : Place → Place → Type 0) (round : ℕ) where
  pub goes_first : (old new : Walk) → IsResting round old → ((x : Place) → begins x → IsThere old.marks x)
      → ((x y : Place) → Reached begins follows x → follows x y → IsThere old.marks y) → Visits round begins old new → IsGoing begins follows round new
  goes_first old new rest first next v =
      let fresh : (x : Place) → IsMarked old.marks round x → ⊥ = λ x m. (let l = rest.before x round m in absurd (omega (arith, l))) in
      record {
        sound = λ x m. ⊎_elim (λ (o : IsMarked old.marks round x). absurd (fresh x o)) (λ (b : begins x). begun x b) (v.added x m);
        begun = λ x b. v.done x b (first x b);
        closed = λ x y m f. ⊎_elim
            (λ (o : IsMarked old.marks round x). absurd (fresh x o))
            (λ (c : Contains new.work.items x). let r : IsMarked new.marks round y ⊎ Contains new.work.items x = inr c in r) (v.work_new x m);
        working = λ x c. ⊎_elim
            (λ (o : Contains old.work.items x). absurd (nothing_there x (subst (λ (l : List Place). Contains l x) rest.no_work o)))
            (λ (m : IsMarked new.marks round x). m) (v.work_marked x c);
        there = λ x y r f. v.there y (next x y r f);
        upto = λ x n e. ⊎_elim
            (λ (o : mark_at old.marks x ≡ Some n). (let l = rest.before x n o in let k : n < round + 1 = omega (arith, l) in k))
            (λ (same : n ≡ round). (let k : n < round + 1 = omega (arith, same) in k)) (v.rounds x n e);
      }

  pub goes_on : (old taken new : Walk) (rest : List Place) (x : Place) → taken.marks ≡ old.marks → taken.work.items ≡ rest → old.work.items ≡ rest ++ x ∷ []
      → IsGoing begins follows round old → Visits round (follows x) taken new → IsGoing begins follows round new
  goes_on old taken new rest x marks_are work_is was w v =
      let here : IsMarked old.marks round x = w.working x (subst (λ (l : List Place). Contains l x) (sym was) (Contains-push rest x)) in
      let marked_old : (z : Place) → IsMarked taken.marks round z → IsMarked old.marks round z = λ z m. ap (λ t. mark_at t z) (sym marks_are) ∙ m in
      let marked_taken : (z : Place) → IsMarked old.marks round z → IsMarked taken.marks round z = λ z m. ap (λ t. mark_at t z) marks_are ∙ m in
      let there_taken : (z : Place) → IsThere old.marks z → IsThere taken.marks z = λ z t. (t.0, ap (λ m. mark_at m z) marks_are ∙ t.1) in
      let rest_old : (z : Place) → Contains taken.work.items z → Contains old.work.items z =
      λ z c. subst (λ (l : List Place). Contains l z) (sym was) (Contains-append_left rest (x ∷ []) z (subst (λ (l : List Place). Contains l z) work_is c)) in
      record {
        sound = λ z m. ⊎_elim
            (λ (o : IsMarked taken.marks round z). w.sound z (marked_old z o))
            (λ (f : follows x z). onward x z (w.sound x here) f) (v.added z m);
        begun = λ z b. v.kept z (marked_taken z (w.begun z b));
        closed = λ z y m f. ⊎_elim
            (λ (o : IsMarked taken.marks round z). ⊎_elim
            (λ (k : IsMarked old.marks round y). let r : IsMarked new.marks round y ⊎ Contains new.work.items z = inl (v.kept y (marked_taken y k)) in r)
            (λ (c : Contains old.work.items z). ⊎_elim
            (λ (d : Contains rest z). let r : IsMarked new.marks round y ⊎ Contains new.work.items z = inr (v.work_kept z (subst (λ (l : List Place). Contains l z) (sym work_is) d)) in r)
            (λ (same : x ≡ z).
            let r : IsMarked new.marks round y ⊎ Contains new.work.items z =
            inl (v.done y (subst (λ u. follows u y) (sym same) f) (there_taken y (w.there z y (w.sound z (marked_old z o)) f))) in
            r)
            (Contains-push_cases rest x z (subst (λ (l : List Place). Contains l z) was c)))
            (w.closed z y (marked_old z o) f))
            (λ (c : Contains new.work.items z). let r : IsMarked new.marks round y ⊎ Contains new.work.items z = inr c in r) (v.work_new z m);
        working = λ z c. ⊎_elim
            (λ (d : Contains taken.work.items z). v.kept z (marked_taken z (w.working z (rest_old z d))))
            (λ (m : IsMarked new.marks round z). m) (v.work_marked z c);
        there = λ z y r f. v.there y (there_taken y (w.there z y r f));
        upto = λ z n e. ⊎_elim
            (λ (o : mark_at taken.marks z ≡ Some n). w.upto z n (ap (λ t. mark_at t z) (sym marks_are) ∙ o))
            (λ (same : n ≡ round). (let k : n < round + 1 = omega (arith, same) in k)) (v.rounds z n e);
      }

  pub all_marked : (walk : Walk) → IsGoing begins follows round walk → walk.work.items ≡ [] → (x : Place) → Reached begins follows x → IsMarked walk.marks round x
  all_marked walk w none _ (begun x b) = w.begun x b
  all_marked walk w none _ (onward x y r f) =
      ⊎_elim
      (λ (m : IsMarked walk.marks round y). m)
      (λ (c : Contains walk.work.items x). absurd (nothing_there x (subst (λ (l : List Place). Contains l x) none c)))
      (w.closed x y (all_marked walk w none x r) f)

  pub has_come : (walk : Walk) → IsGoing begins follows round walk → walk.work.items ≡ [] → HasCome begins follows round walk
  has_come walk w none = record { marked = λ x. (w.sound x, all_marked walk w none x); rests = record { before = w.upto; no_work = none } }

-- a place that is taken leaves less to do
pub less_left : (round : ℕ) (old taken new : Walk) (rest : List Place) (x : Place) {P : Place → Type 0} → taken.marks ≡ old.marks → taken.work.items ≡ rest
    → old.work.items ≡ rest ++ x ∷ [] → Visits round P taken new → left_of round new < left_of round old
less_left round old taken new rest x marks_are work_is was v =
    let less = v.less in
    let same = ap (others_of round) marks_are in
    let short = ap length work_is in
    let long = ap length was ∙ length-append rest (x ∷ []) in
    omega (arith, less, same, short, long)
