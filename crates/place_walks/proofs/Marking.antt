-- A walk comes to places.
use Rattle.std.proofs.Common.{◌≡◌, ◌⊎◌, inl, inr, ⊎_elim, ℕ, zero, suc, ◌+◌, ◌<◌, List, [], ◌∷◌, ◌++◌, length, take, get_or, Option, None, Some, refl, sym, ap, subst, ◌∙◌, arith, length-append}
use Rattle.std.specs.Prelude.{slice_get, sum_by, Contains, if◌then◌else◌}
use Rattle.std.proofs.Math.ListN.{set}
use Rattle.std.proofs.lemmas.Bool.{cases_eq, eq-eqb, ne_eqb}
use Rattle.std.proofs.lemmas.List.{take_more}
use Rattle.std.proofs.lemmas.List.Sums.{sum_by-cons}
use Rattle.std.proofs.lemmas.List.Elements.{Contains-append_left, Contains-push, Contains-push_cases}
use Rattle.std.proofs.lemmas.Option.{none-some, same_Some, slice_get_within}
use Rattle.place_walks.specs.declared.place.Place.{Place}
use Rattle.place_walks.specs.declared.walk.Walk.{Walk}
use Rattle.place_walks.specs.Table.{part, cell, with_cell}
use Rattle.place_walks.specs.Walks.{slot_of, mark_at, IsThere, IsMarked, other, others_of, Visits}
use Rattle.place_walks.proofs.Cells.{get_set_same, get_set_other, part_get, part_within, cell_same, cell_column, cell_row}

-- ---- one mark is set

abbrev marked : List (List (List ℕ)) → (i n a round : ℕ) → List (List (List ℕ))
marked t i n a round = with_cell t i n (set (cell t i n) a round)

slot_row : (row : List (List ℕ)) (n a b round : ℕ) → (a ≡ b → ⊥) → slice_get (part (set row n (set (part row n) a round)) n) b ≡ slice_get (part row n) b
slot_row [] n a b round ne = refl
slot_row (l ∷ ls) zero a b round ne = get_set_other l a b round ne
slot_row (l ∷ ls) (suc n) a b round ne = slot_row ls n a b round ne

slot_cell : (t : List (List (List ℕ))) (i n a b round : ℕ) → (a ≡ b → ⊥) → slice_get (cell (marked t i n a round) i n) b ≡ slice_get (cell t i n) b
slot_cell [] i n a b round ne = refl
slot_cell (r ∷ rs) zero n a b round ne = slot_row r n a b round ne
slot_cell (r ∷ rs) (suc i) n a b round ne = slot_cell rs i n a b round ne

slot_elsewhere : (t : List (List (List ℕ))) (i n a round j q b : ℕ) → (i ≡ j → n ≡ q → a ≡ b → ⊥) → slice_get (cell (marked t i n a round) j q) b ≡ slice_get (cell t j q) b
slot_elsewhere t i n a round j q b ne = elim (cases_eq i j) [
  | inl e ↦ elim (cases_eq n q) [
    | inl f ↦
        subst (λ x. slice_get (cell (marked t i n a round) x q) b ≡ slice_get (cell t x q) b) e
        (subst (λ y. slice_get (cell (marked t i n a round) i y) b ≡ slice_get (cell t i y) b) f (slot_cell t i n a b round (ne e f)))
    | inr differ ↦
        subst (λ x. slice_get (cell (marked t i n a round) x q) b ≡ slice_get (cell t x q) b) e
        (ap (λ l. slice_get l b) (cell_column t i n q (set (cell t i n) a round) differ))
  ]
  | inr differ ↦ ap (λ l. slice_get l b) (cell_row t i j n q (set (cell t i n) a round) differ)
]

slot_same : (a b : Option ℕ) → slot_of a ≡ slot_of b → a ≡ b
slot_same None None e = refl
slot_same None (Some k) e = absurd (omega arith)
slot_same (Some k) None e = absurd (omega arith)
slot_same (Some j) (Some k) e = let same : j ≡ k = omega arith in ap Some same

same_place : (x y : Place) → x.instance ≡ y.instance → x.procedure ≡ y.procedure → x.position ≡ y.position → y ≡ x
same_place x y e f g =
    let one : x ≡ record { instance = y.instance; procedure = x.procedure; position = x.position } =
    ap (λ k. let z : Place = record { instance = k; procedure = x.procedure; position = x.position } in z) e in
    let two : record { instance = y.instance; procedure = x.procedure; position = x.position } ≡ record { instance = y.instance; procedure = y.procedure; position = x.position } =
    ap (λ k. let z : Place = record { instance = y.instance; procedure = k; position = x.position } in z) f in
    let three : record { instance = y.instance; procedure = y.procedure; position = x.position } ≡ y =
    ap (λ k. let z : Place = record { instance = y.instance; procedure = y.procedure; position = k } in z) g in
    sym (one ∙ two ∙ three)

mark_cases : (t : List (List (List ℕ))) (x y : Place) (round : ℕ) → (y ≡ x) ⊎ (mark_at (marked t x.instance x.procedure (slot_of x.position) round) y ≡ mark_at t y)
mark_cases t x y round = elim (cases_eq x.instance y.instance) [
  | inl e ↦ elim (cases_eq x.procedure y.procedure) [
    | inl f ↦ elim (cases_eq (slot_of x.position) (slot_of y.position)) [
      | inl g ↦ inl (same_place x y e f (slot_same x.position y.position g))
      | inr differ ↦ inr (slot_elsewhere t x.instance x.procedure (slot_of x.position) round y.instance y.procedure (slot_of y.position) (λ e' f' g. differ g))
    ]
    | inr differ ↦ inr (slot_elsewhere t x.instance x.procedure (slot_of x.position) round y.instance y.procedure (slot_of y.position) (λ e' f' g. differ f'))
  ]
  | inr differ ↦ inr (slot_elsewhere t x.instance x.procedure (slot_of x.position) round y.instance y.procedure (slot_of y.position) (λ e' f' g. differ e'))
]

mark_here : (t : List (List (List ℕ))) (x : Place) (round mark : ℕ) → mark_at t x ≡ Some mark → mark_at (marked t x.instance x.procedure (slot_of x.position) round) x ≡ Some round
mark_here t x round mark e =
    let in_cell = slice_get_within (cell t x.instance x.procedure) (slot_of x.position) mark e in
    let in_row = part_within (part t x.instance) x.procedure (slot_of x.position) in_cell in
    ap (λ l. slice_get l (slot_of x.position)) (cell_same t x.instance x.procedure (set (cell t x.instance x.procedure) (slot_of x.position) round) in_row)
    ∙ get_set_same (cell t x.instance x.procedure) (slot_of x.position) round in_cell

-- ---- fewer other marks

sum_set : {X : Type 0} (f : X → ℕ) (xs : List X) (i : ℕ) (x v : X) → slice_get xs i ≡ Some x → f v + 1 ≡ f x → sum_by f (set xs i v) + 1 ≡ sum_by f xs
sum_set f [] i x v e h = absurd (none-some x e)
sum_set f (y ∷ ys) zero x v e h =
    let same = ap f (same_Some y x e) in
    let now : sum_by f (v ∷ ys) ≡ f v + sum_by f ys = sum_by-cons f v ys in
    let was : sum_by f (y ∷ ys) ≡ f y + sum_by f ys = sum_by-cons f y ys in
    omega (arith, same, h, now, was)
sum_set f (y ∷ ys) (suc i) x v e h =
    let less = sum_set f ys i x v e h in
    let now : sum_by f (y ∷ set ys i v) ≡ f y + sum_by f (set ys i v) = sum_by-cons f y (set ys i v) in
    let was : sum_by f (y ∷ ys) ≡ f y + sum_by f ys = sum_by-cons f y ys in
    omega (arith, less, now, was)

other_same : (round : ℕ) → other round round ≡ 0
other_same round = ap (λ b. if b then 0 else 1) (eq-eqb round round refl)

other_one : (round mark : ℕ) → (mark ≡ round → ⊥) → other round mark ≡ 1
other_one round mark ne = ap (λ b. if b then 0 else 1) (ne_eqb mark round ne)

fewer_others : (t : List (List (List ℕ))) (i n a round mark : ℕ) → slice_get (cell t i n) a ≡ Some mark → (mark ≡ round → ⊥)
    → others_of round (marked t i n a round) + 1 ≡ others_of round t
fewer_others t i n a round mark e ne =
    let in_cell = slice_get_within (cell t i n) a mark e in
    let in_row = part_within (part t i) n a in_cell in
    let zero_now = other_same round in
    let one_before = other_one round mark ne in
    let here : other round round + 1 ≡ other round mark = omega (arith, zero_now, one_before) in
    sum_set (sum_by (sum_by (other round))) t i (part t i) (set (part t i) n (set (cell t i n) a round)) (part_get t i n in_row)
    (sum_set (sum_by (other round)) (part t i) n (cell t i n) (set (cell t i n) a round) (part_get (part t i) n a in_cell)
    (sum_set (other round) (cell t i n) a mark round e here))

-- ---- a walk comes to a place

visited_where : (round : ℕ) (x : Place) (old new : Walk) (mark : ℕ) → mark_at new.marks x ≡ Some round
    → ((y : Place) → (y ≡ x) ⊎ (mark_at new.marks y ≡ mark_at old.marks y)) → new.work.items ≡ old.work.items ++ x ∷ []
    → others_of round new.marks + 1 ≡ others_of round old.marks → Visits round (λ y. y ≡ x) old new
visited_where round x old new mark is cases work fewer =
    let P : List Place → Place → Type 0 = λ l y. Contains l y in
    record {
      there = λ y t. ⊎_elim
          (λ (e : y ≡ x). let r : IsThere new.marks y = (round, ap (mark_at new.marks) e ∙ is) in r)
          (λ (e : mark_at new.marks y ≡ mark_at old.marks y). let r : IsThere new.marks y = (t.0, e ∙ t.1) in r) (cases y);
      kept = λ y m. ⊎_elim
          (λ (e : y ≡ x). ap (mark_at new.marks) e ∙ is)
          (λ (e : mark_at new.marks y ≡ mark_at old.marks y). e ∙ m) (cases y);
      added = λ y m. ⊎_elim
          (λ (e : y ≡ x). let r : IsMarked old.marks round y ⊎ (y ≡ x) = inr e in r)
          (λ (e : mark_at new.marks y ≡ mark_at old.marks y). let r : IsMarked old.marks round y ⊎ (y ≡ x) = inl (sym e ∙ m) in r) (cases y);
      done = λ y e t. ap (mark_at new.marks) e ∙ is;
      work_kept = λ y c. subst (λ l. P l y) (sym work) (Contains-append_left old.work.items (x ∷ []) y c);
      work_new = λ y m. ⊎_elim
          (λ (e : y ≡ x). let r : IsMarked old.marks round y ⊎ Contains new.work.items y = inr (subst (λ l. P l y) (sym work) (subst (λ z. P (old.work.items ++ x ∷ []) z) (sym e) (Contains-push old.work.items x))) in r)
          (λ (e : mark_at new.marks y ≡ mark_at old.marks y). let r : IsMarked old.marks round y ⊎ Contains new.work.items y = inl (sym e ∙ m) in r) (cases y);
      work_marked = λ y c. ⊎_elim
          (λ (d : Contains old.work.items y). let r : Contains old.work.items y ⊎ IsMarked new.marks round y = inl d in r)
          (λ (e : x ≡ y). let r : Contains old.work.items y ⊎ IsMarked new.marks round y = inr (ap (mark_at new.marks) (sym e) ∙ is) in r)
          (Contains-push_cases old.work.items x y (subst (λ l. P l y) work c));
      rounds = λ y n m. ⊎_elim
          (λ (e : y ≡ x). let r : (mark_at old.marks y ≡ Some n) ⊎ (n ≡ round) = inr (same_Some n round (sym m ∙ ap (mark_at new.marks) e ∙ is)) in r)
          (λ (e : mark_at new.marks y ≡ mark_at old.marks y). let r : (mark_at old.marks y ≡ Some n) ⊎ (n ≡ round) = inl (sym e ∙ m) in r) (cases y);
      less = (let long = ap length work ∙ length-append old.work.items (x ∷ []) in omega (arith, long, fewer));
    }

pub visited : (round : ℕ) (x : Place) (old new : Walk) (mark slot : ℕ) → mark_at old.marks x ≡ Some mark → (mark ≡ round → ⊥) → slot ≡ slot_of x.position
    → new.marks ≡ with_cell old.marks x.instance x.procedure (set (cell old.marks x.instance x.procedure) slot round)
    → new.work.items ≡ old.work.items ++ x ∷ [] → Visits round (λ y. y ≡ x) old new
visited round x old new mark slot e ne slot_is set_to work =
    let set_is : new.marks ≡ marked old.marks x.instance x.procedure (slot_of x.position) round = set_to ∙ ap (λ a. marked old.marks x.instance x.procedure a round) slot_is in
    visited_where round x old new mark
    (ap (λ t. mark_at t x) set_is ∙ mark_here old.marks x round mark e)
    (λ y. subst (λ t. (y ≡ x) ⊎ (mark_at t y ≡ mark_at old.marks y)) (sym set_is) (mark_cases old.marks x y round))
    work
    (ap (λ t. others_of round t + 1) set_is ∙ fewer_others old.marks x.instance x.procedure (slot_of x.position) round mark e ne)

-- where it was already, or there is no such place
pub stayed : (round : ℕ) {P : Place → Type 0} (old new : Walk) → new ≡ old → ((x : Place) → P x → IsThere old.marks x → IsMarked old.marks round x) → Visits round P old new
stayed round {P} old new same h =
    subst (λ w. Visits round P old w) (sym same)
    (record {
      there = λ x t. t;
      kept = λ x m. m;
      added = λ x m. inl m;
      done = h;
      work_kept = λ x c. c;
      work_new = λ x m. inl m;
      work_marked = λ x c. inl c;
      rounds = λ x n m. inl m;
      less = omega arith;
    })

pub visits_both : (round : ℕ) {P Q R : Place → Type 0} (old mid new : Walk) → Visits round P old mid → Visits round Q mid new → ((x : Place) → R x → P x ⊎ Q x)
    → ((x : Place) → P x → R x) → ((x : Place) → Q x → R x) → Visits round R old new
visits_both round {P} {Q} {R} old mid new u v cases one two = record {
  there = λ x t. v.there x (u.there x t);
  kept = λ x m. v.kept x (u.kept x m);
  added = λ x m. ⊎_elim
      (λ (n : IsMarked mid.marks round x). ⊎_elim
      (λ (o : IsMarked old.marks round x). let r : IsMarked old.marks round x ⊎ R x = inl o in r)
      (λ (p : P x). let r : IsMarked old.marks round x ⊎ R x = inr (one x p) in r) (u.added x n))
      (λ (q : Q x). let r : IsMarked old.marks round x ⊎ R x = inr (two x q) in r) (v.added x m);
  done = λ x r t. ⊎_elim (λ (p : P x). v.kept x (u.done x p t)) (λ (q : Q x). v.done x q (u.there x t)) (cases x r);
  work_kept = λ x c. v.work_kept x (u.work_kept x c);
  work_new = λ x m. ⊎_elim
      (λ (n : IsMarked mid.marks round x). ⊎_elim
      (λ (o : IsMarked old.marks round x). let r : IsMarked old.marks round x ⊎ Contains new.work.items x = inl o in r)
      (λ (c : Contains mid.work.items x). let r : IsMarked old.marks round x ⊎ Contains new.work.items x = inr (v.work_kept x c) in r) (u.work_new x n))
      (λ (c : Contains new.work.items x). let r : IsMarked old.marks round x ⊎ Contains new.work.items x = inr c in r) (v.work_new x m);
  work_marked = λ x c. ⊎_elim
      (λ (d : Contains mid.work.items x). ⊎_elim
      (λ (o : Contains old.work.items x). let r : Contains old.work.items x ⊎ IsMarked new.marks round x = inl o in r)
      (λ (m : IsMarked mid.marks round x). let r : Contains old.work.items x ⊎ IsMarked new.marks round x = inr (v.kept x m) in r) (u.work_marked x d))
      (λ (m : IsMarked new.marks round x). let r : Contains old.work.items x ⊎ IsMarked new.marks round x = inr m in r) (v.work_marked x c);
  rounds = λ x n m. ⊎_elim
      (λ (e : mark_at mid.marks x ≡ Some n). u.rounds x n e)
      (λ (e : n ≡ round). let r : (mark_at old.marks x ≡ Some n) ⊎ (n ≡ round) = inr e in r) (v.rounds x n m);
  less = (let l = u.less in let k = v.less in omega (arith, l, k));
}

pub visits_more : (round : ℕ) (places : List Place) (i : ℕ) (d : Place) (old mid new : Walk) → i < length places → Visits round (Contains (take i places)) old mid
    → Visits round (λ x. x ≡ get_or places i d) mid new → Visits round (Contains (take (i + 1) places)) old new
visits_more round places i d old mid new l u v =
    subst (λ xs. Visits round (Contains xs) old new) (sym (take_more places i d l))
    (visits_both round {P = Contains (take i places)} {Q = λ x. x ≡ get_or places i d} {R = Contains (take i places ++ get_or places i d ∷ [])} old mid new u v
    (λ x c. ⊎_elim
    (λ (k : Contains (take i places) x). let r : Contains (take i places) x ⊎ (x ≡ get_or places i d) = inl k in r)
    (λ (e : get_or places i d ≡ x). let r : Contains (take i places) x ⊎ (x ≡ get_or places i d) = inr (sym e) in r)
    (Contains-push_cases (take i places) (get_or places i d) x c))
    (λ x c. Contains-append_left (take i places) (get_or places i d ∷ []) x c)
    (λ x e. subst (λ y. Contains (take i places ++ get_or places i d ∷ []) y) (sym e) (Contains-push (take i places) (get_or places i d))))
