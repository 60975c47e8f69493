-- The points of a sound body have their ways.
use Rattle.std.proofs.Common.{◌≡◌, refl, sym, ap, subst, ℕ, zero, suc, ◌+◌, ◌<◌, ◌≤◌, ◌⊎◌, inl, inr, ⊎_elim, List, [], ◌∷◌, map, Contains, Option, Some, None, Bool, true, false, nat_eq, eq-eqb, ne_eqb, arith}
use Rattle.std.proofs.lemmas.List.Elements.{Contains-append_cases}
use Rattle.mesa_types.specs.declared.types.FieldType.{FieldType}
use Rattle.mesa_types.specs.declared.typed_parts.Label.{Label}
use Rattle.mesa_types.specs.declared.typed_parts.Label.TheVariants.{OnAny, OnUnwind, OnOwn, OnLinked, OnBounds, OnZero}
use Rattle.mesa_types.specs.Typed.{Point, Start, After, At, Leave, Exits, Body, Module}
use Rattle.mesa_types.specs.Sound as sound
use Rattle.mesa_types.specs.Sound.{Scope, Seen, LabelsIn, labels_in, scope_of, points_past}
use Rattle.code_rules.specs.Agreement.{seen, IsOutOf, IsUsed, Agrees, WaysAgree}
use Rattle.code_rules.specs.Laws.{JumpsLeaveTheirArms}
use Rattle.code_rules.specs.Reading.{Destination}
use Rattle.code_rules.specs.Points.{Way, NoWay, OutOf, Points, here_if, here_or, in_marked, in_labelled, one_arm_more, in_arm, in_body}

-- an element is the first one or one of the others
first_or : {X : Type 0} (x z : X) (xs : List X) → Contains (x ∷ xs) z → (x ≡ z) ⊎ Contains xs z
first_or x z xs (zero, l, e) = inl e
first_or x z xs (suc k, l, e) = inr (k, omega arith, e)

none_in : {X : Type 0} (z : X) → Contains [] z → ⊥
none_in z (k, l, e) = omega (l, arith)

in_map : {X Y : Type 0} (f : X → Y) (z : Y) (xs : List X) → Contains (map f xs) z → (x : X) × Contains xs x × (f x ≡ z)
in_map f z [] c = absurd (none_in z c)
in_map f z (x ∷ xs) c =
    ⊎_elim (λ e. (x, (0, omega arith, refl), e)) (λ d. let r : _ = in_map f z xs d in (r.0, (suc (r.1).0, omega ((r.1).1, arith), (r.1).2), r.2))
    (first_or (f x) z (map f xs) c)

-- a visible point is the first one or one of the others
point_or : (q : Point) (k : ℕ) (others : List Seen) (p : Point) (depth : ℕ) → Contains (seen q k ∷ others) (seen p depth)
    → ((q ≡ p) × (k ≡ depth)) ⊎ Contains others (seen p depth)
point_or q k others p depth c =
    ⊎_elim (λ e. inl (ap (λ (x : Seen). x.point) e, ap (λ (x : Seen). x.depth) e)) (λ d. inr d) (first_or (seen q k) (seen p depth) others c)

true_is_not_false : true ≡ false → ⊥
true_is_not_false e = subst (λ b. elim b as (λ x. Type 0) [ true ↦ Unit {0} | false ↦ ⊥ ]) e tt

module _ {A : Type 0} where
  here_true : (b : Bool) (place : A) (outer : Way A) → b ≡ true → IsOutOf 0 (here_if b place outer)
  here_true true place outer e = refl
  here_true false place outer e = absurd (true_is_not_false (sym e))

  here_false : (b : Bool) (place : A) (outer : Way A) (arms : ℕ) → b ≡ false → IsOutOf arms outer → IsOutOf arms (here_if b place outer)
  here_false false place outer arms e h = h
  here_false true place outer arms e h = absurd (true_is_not_false e)

  -- in a body

  pub agrees_in_body : (m : Module) (takes gives : List FieldType) (body : Body) (return : A) → Agrees (scope_of m takes gives body) (in_body return)
  unfolding scope_of
  agrees_in_body m takes gives body return = record {
    ways = λ p depth arms c e.
        ⊎_elim (λ q. subst (λ p. IsOutOf arms (in_body return p)) (ap (λ (x : Seen). x.point) q) (omega (e, arith)))
        (λ d. absurd (none_in _ d)) (first_or _ _ [] c);
    used = λ p depth c.
        ⊎_elim (λ q. subst (IsUsed (scope_of m takes gives body)) (ap (λ (x : Seen). x.point) q) tt) (λ d. absurd (none_in _ d)) (first_or _ _ [] c);
    around = λ p depth c. ⊎_elim (λ q. omega (ap (λ (x : Seen). x.depth) q, arith)) (λ d. absurd (none_in _ d)) (first_or _ _ [] c);
  }

  -- in a marked statement

  module _ (Γ : Scope) (points : Points A) (n : ℕ) (start after : A) where
    marked_kept : (p : Point) (arms : ℕ) → Γ.statements ≤ n → IsUsed Γ p → IsOutOf arms (points p)
        → IsOutOf arms (in_marked n start after points p)
    marked_kept (Start k) arms l u h = here_false (nat_eq n k) start (points (Start k)) arms (ne_eqb n k (λ e. omega (e, l, u, arith))) h
    marked_kept (After k) arms l u h = here_false (nat_eq n k) after (points (After k)) arms (ne_eqb n k (λ e. omega (e, l, u, arith))) h
    marked_kept (At k) arms l u h = h
    marked_kept Leave arms l u h = h

    marked_used : (p : Point) → Γ.statements ≤ n → IsUsed Γ p → IsUsed (sound.in_marked n Γ) p
    unfolding sound.in_marked
    marked_used (Start k) l u = omega (l, u, arith)
    marked_used (After k) l u = omega (l, u, arith)
    marked_used (At k) l u = u
    marked_used Leave l u = tt

    -- the two points of the statement, or one further out
    marked_cases : (p : Point) (depth : ℕ) → Contains (sound.in_marked n Γ).points (seen p depth)
        → ((Start n ≡ p) × (Γ.depth ≡ depth)) ⊎ (((After n ≡ p) × (Γ.depth ≡ depth)) ⊎ Contains Γ.points (seen p depth))
    unfolding sound.in_marked
    marked_cases p depth c =
        ⊎_elim (λ h. inl h) (λ d. inr (point_or (After n) Γ.depth Γ.points p depth d))
        (point_or (Start n) Γ.depth (seen (After n) Γ.depth ∷ Γ.points) p depth c)

    marked_way : (p : Point) (depth arms : ℕ) → Agrees Γ points → Γ.statements ≤ n → depth + arms ≡ Γ.depth
        → ((Start n ≡ p) × (Γ.depth ≡ depth)) ⊎ (((After n ≡ p) × (Γ.depth ≡ depth)) ⊎ Contains Γ.points (seen p depth))
        → IsOutOf arms (in_marked n start after points p)
    marked_way p depth arms agrees l e (inl (q, d)) =
        subst (λ p. IsOutOf arms (in_marked n start after points p)) q
        (subst (λ k. IsOutOf k (here_if (nat_eq n n) start (points (Start n)))) {x = 0} {y = arms} (omega (d, e, arith))
        (here_true (nat_eq n n) start (points (Start n)) (eq-eqb n n refl)))
    marked_way p depth arms agrees l e (inr (inl (q, d))) =
        subst (λ p. IsOutOf arms (in_marked n start after points p)) q
        (subst (λ k. IsOutOf k (here_if (nat_eq n n) after (points (After n)))) {x = 0} {y = arms} (omega (d, e, arith))
        (here_true (nat_eq n n) after (points (After n)) (eq-eqb n n refl)))
    marked_way p depth arms agrees l e (inr (inr c)) = marked_kept p arms l (agrees.used p depth c) (agrees.ways p depth arms c e)

    marked_is_used : (p : Point) (depth : ℕ) → Agrees Γ points → Γ.statements ≤ n
        → ((Start n ≡ p) × (Γ.depth ≡ depth)) ⊎ (((After n ≡ p) × (Γ.depth ≡ depth)) ⊎ Contains Γ.points (seen p depth))
        → IsUsed (sound.in_marked n Γ) p
    unfolding sound.in_marked
    marked_is_used p depth agrees l (inl (q, d)) = subst (IsUsed (sound.in_marked n Γ)) q (omega arith)
    marked_is_used p depth agrees l (inr (inl (q, d))) = subst (IsUsed (sound.in_marked n Γ)) q (omega arith)
    marked_is_used p depth agrees l (inr (inr c)) = marked_used p l (agrees.used p depth c)

    marked_around : (p : Point) (depth : ℕ) → Agrees Γ points
        → ((Start n ≡ p) × (Γ.depth ≡ depth)) ⊎ (((After n ≡ p) × (Γ.depth ≡ depth)) ⊎ Contains Γ.points (seen p depth))
        → depth ≤ Γ.depth
    marked_around p depth agrees (inl (q, d)) = omega (d, arith)
    marked_around p depth agrees (inr (inl (q, d))) = omega (d, arith)
    marked_around p depth agrees (inr (inr c)) = agrees.around p depth c

    pub agrees_in_marked : Agrees Γ points → Γ.statements ≤ n → Agrees (sound.in_marked n Γ) (in_marked n start after points)
    unfolding sound.in_marked
    agrees_in_marked agrees l = record {
      ways = λ p depth arms c e. marked_way p depth arms agrees l e (marked_cases p depth c);
      used = λ p depth c. marked_is_used p depth agrees l (marked_cases p depth c);
      around = λ p depth c. marked_around p depth agrees (marked_cases p depth c);
    }

  -- where labels are visible

  label_found : (label : ℕ → Option A) (l : ℕ) (outer : Way A) (place : A) → label l ≡ Some place → IsOutOf 0 (here_or (label l) outer)
  label_found label l outer place e = subst (λ o. IsOutOf 0 (here_or o outer)) (sym e) refl

  label_passed : (label : ℕ → Option A) (l arms : ℕ) (outer : Way A) → label l ≡ None → IsOutOf arms outer
      → IsOutOf arms (here_or (label l) outer)
  label_passed label l arms outer e h = subst (λ o. IsOutOf arms (here_or o outer)) (sym e) h

  module _ (Γ : Scope) (points : Points A) (past : ℕ) (es : Exits) (label : ℕ → Option A) (agrees : Agrees Γ points) (new : LabelsIn Γ past es)
      (found : (l : ℕ) → Contains (labels_in es) l → (place : A) × (label l ≡ Some place))
      (none : (l : ℕ) → l < Γ.labels → label l ≡ None) where
    labelled_kept : (p : Point) (arms : ℕ) → IsUsed Γ p → IsOutOf arms (points p) → IsOutOf arms (in_labelled label points p)
    labelled_kept (Start k) arms u h = h
    labelled_kept (After k) arms u h = h
    labelled_kept (At l) arms u h = label_passed label l arms (points (At l)) (none l u) h
    labelled_kept Leave arms u h = h

    labelled_used : (p : Point) → IsUsed Γ p → IsUsed (sound.in_labelled past es Γ) p
    unfolding sound.in_labelled LabelsIn
    labelled_used (Start k) u = u
    labelled_used (After k) u = u
    labelled_used (At l) u = omega (u, new.0, arith)
    labelled_used Leave u = tt

    -- a label, or a point further out
    Cases : Point → ℕ → Type 0
    Cases p depth = ((l : ℕ) × Contains (labels_in es) l × (At l ≡ p) × (Γ.depth ≡ depth)) ⊎ Contains Γ.points (seen p depth)

    labelled_cases : (p : Point) (depth : ℕ) → Contains (sound.in_labelled past es Γ).points (seen p depth) → Cases p depth
    unfolding sound.in_labelled Cases
    labelled_cases p depth c =
        ⊎_elim
        (λ d. let r : _ = in_map (λ l. seen (At l) Γ.depth) (seen p depth) (labels_in es) d in
        inl (r.0, r.1, ap (λ (x : Seen). x.point) r.2, ap (λ (x : Seen). x.depth) r.2))
        (λ d. inr d)
        (Contains-append_cases (map (λ l. seen (At l) Γ.depth) (labels_in es)) Γ.points (seen p depth) c)

    labelled_way : (p : Point) (depth arms : ℕ) → depth + arms ≡ Γ.depth → Cases p depth → IsOutOf arms (in_labelled label points p)
    unfolding Cases
    labelled_way p depth arms e (inl (l, c, q, d)) =
        subst (λ p. IsOutOf arms (in_labelled label points p)) q
        (subst (λ k. IsOutOf k (here_or (label l) (points (At l)))) {x = 0} {y = arms} (omega (d, e, arith))
        (label_found label l (points (At l)) (found l c).0 (found l c).1))
    labelled_way p depth arms e (inr c) = labelled_kept p arms (agrees.used p depth c) (agrees.ways p depth arms c e)

    labelled_is_used : (p : Point) (depth : ℕ) → Cases p depth → IsUsed (sound.in_labelled past es Γ) p
    unfolding sound.in_labelled LabelsIn Cases
    labelled_is_used p depth (inl (l, c, q, d)) =
        subst (IsUsed (sound.in_labelled past es Γ)) q (subst (λ k. k < past) c.2 ((new.1 c.0 l c.1).1))
    labelled_is_used p depth (inr c) = labelled_used p (agrees.used p depth c)

    labelled_around : (p : Point) (depth : ℕ) → Cases p depth → depth ≤ Γ.depth
    unfolding Cases
    labelled_around p depth (inl (l, c, q, d)) = omega (d, arith)
    labelled_around p depth (inr c) = agrees.around p depth c

    pub agrees_in_labelled : Agrees (sound.in_labelled past es Γ) (in_labelled label points)
    unfolding sound.in_labelled
    agrees_in_labelled = record {
      ways = λ p depth arms c e. labelled_way p depth arms e (labelled_cases p depth c);
      used = λ p depth c. labelled_is_used p depth (labelled_cases p depth c);
      around = λ p depth c. labelled_around p depth (labelled_cases p depth c);
    }

  -- in an arm

  one_more : (w : Way A) (arms : ℕ) → IsOutOf arms w → IsOutOf (suc arms) (one_arm_more w)
  one_more NoWay arms h = h
  one_more (OutOf k place) arms h = ap suc h

  module _ (Γ : Scope) (points : Points A) (n : ℕ) where
    -- from an UNWIND arm no point is visible
    seen_past : (labels : List Label) (z : Seen) → Contains (points_past labels Γ.points) z → Contains Γ.points z
    unfolding points_past
    seen_past [] z c = c
    seen_past (OnAny ∷ ls) z c = c
    seen_past (OnUnwind ∷ ls) z c = absurd (none_in z c)
    seen_past (OnOwn k ∷ ls) z c = c
    seen_past (OnLinked k m ∷ ls) z c = c
    seen_past (OnBounds ∷ ls) z c = c
    seen_past (OnZero ∷ ls) z c = c

    arm_used : (labels : List Label) (p : Point) → IsUsed Γ p → IsUsed (sound.in_arm n labels Γ) p
    unfolding sound.in_arm
    arm_used labels (Start k) u = u
    arm_used labels (After k) u = u
    arm_used labels (At k) u = u
    arm_used labels Leave u = tt

    arm_way : (p : Point) (depth arms : ℕ) → Agrees Γ points → Contains Γ.points (seen p depth) → depth + arms ≡ suc Γ.depth
        → IsOutOf arms (in_arm points p)
    arm_way p depth zero agrees c e = absurd (omega (agrees.around p depth c, e, arith))
    arm_way p depth (suc arms) agrees c e = one_more (points p) arms (agrees.ways p depth arms c (omega (e, arith)))

    pub agrees_in_arm : (labels : List Label) → Agrees Γ points → Agrees (sound.in_arm n labels Γ) (in_arm points)
    unfolding sound.in_arm
    agrees_in_arm labels agrees = record {
      ways = λ p depth arms c e. arm_way p depth arms agrees (seen_past labels (seen p depth) c) e;
      used = λ p depth c. arm_used labels p (agrees.used p depth (seen_past labels (seen p depth) c));
      around = λ p depth c. omega (agrees.around p depth (seen_past labels (seen p depth) c), arith);
    }

  reached : (Γ : Scope) (points : Points A) (arms : ℕ) (p : Point) → Agrees Γ points → sound.Reaches Γ arms p → IsOutOf arms (points p)
  unfolding sound.Reaches
  reached Γ points arms p agrees (depth, c, e) = agrees.ways p depth arms c e

pub ways_agree : (A : Type 0) → WaysAgree A
ways_agree A = record {
  body = agrees_in_body;
  marked = λ Γ points n start after agrees l. agrees_in_marked Γ points n start after agrees l;
  labelled = λ Γ points past es label agrees new found none. agrees_in_labelled Γ points past es label agrees new found none;
  arm = λ Γ points n labels agrees. agrees_in_arm Γ points n labels agrees;
  jump = reached;
}

pub jumps_leave_their_arms : JumpsLeaveTheirArms
jumps_leave_their_arms = record { in_code = ways_agree Destination; in_scopes = ways_agree (Unit {0}) }
