-- What is around a part of a statement, an arm or a block: in each the points that are visible, and the labels of arms.
use Rattle.std.proofs.Common.{◌≡◌, ℕ, zero, suc, ◌+◌, List, [], ◌∷◌, ◌++◌, length, refl, sym, ◌∙◌, ap, subst, arith, inl, inr, ◌⊎◌}
use Rattle.std.specs.Prelude.{cond, ◌≤◌, ◌<◌, ◌≢◌, Bool, true, false, Some, slice_index_or, Contains, All, map, bytes_eq, if◌then◌else◌}
use Rattle.std.proofs.lemmas.List.Elements.{All-cons}
use Rattle.std.proofs.lemmas.Option.{slice_get_within}
use Rattle.mesa_base.specs.declared.place.Place.{Place}
use Rattle.mesa_base.specs.declared.identifier.Identifier.{Identifier}
use Rattle.mesa_types.specs.Sound as sound
use Rattle.mesa_types.specs.Typed as points
use Rattle.check_rules.specs.Typed as t
use Rattle.interface_records.specs.PlainTypes.{PlainItem, kinds_of}
use Rattle.check_rules.specs.Scopes.{Scope, with_name}
use Rattle.check_rules.specs.Meanings as m
use Rattle.check_rules.specs.Around.{Around, Seen, ArmHere, NoArm, InArm, ArmLabel, ForAny, ForUnwind, ForSignal, in_statement, inside, in_constant, label_scope, with_labels, in_round, is_unwinding, in_arm, all_like, parameters_of, label_for, label_of}
use Rattle.check_rules.specs.Statements.{numbers_from}
use Rattle.check_rules.proofs.SoundTypes.{no_truth, both_left, both_right}
use Rattle.check_rules.proofs.SoundSame.{same_field_kinds}
use Rattle.typing_laws.proofs.SoundSteps.{World, Spot, at, MeaningIn}
use Rattle.typing_laws.proofs.SoundCalls.{raised_of}
use Rattle.typing_laws.proofs.SoundnessStatements.{sees, PhraseHere, SeenIn, LabelIn, IsForSignal, EachSignal, EachLabelIn, LabelsIn, ArmIn, GoalIn, AroundIn}

-- ---- members of lists

pub first_member : {A : Type 0} (x : A) (xs : List A) → Contains (x ∷ xs) x
first_member x xs = (0, omega arith, refl)

pub later_member : {A : Type 0} (x y : A) (xs : List A) → Contains xs y → Contains (x ∷ xs) y
later_member x y xs c = (suc c.0, omega (arith, c.1), c.2)

pub behind_member : {A : Type 0} (xs ys : List A) (y : A) → Contains ys y → Contains (xs ++ ys) y
behind_member [] ys y c = c
behind_member (x ∷ xs) ys y c = later_member x y (xs ++ ys) (behind_member xs ys y c)

pub mapped_member : {A B : Type 0} (f : A → B) (xs : List A) (ys : List B) (k : ℕ) (x : A) → k < length xs → slice_index_or xs k x ≡ x
    → Contains (map f xs ++ ys) (f x)
mapped_member f [] ys k x h e = absurd (omega (arith, h))
mapped_member f (z ∷ xs) ys zero x h e = subst (λ y. Contains (f z ∷ (map f xs ++ ys)) (f y)) e (first_member (f z) (map f xs ++ ys))
mapped_member f (z ∷ xs) ys (suc k) x h e = later_member (f z) (f x) (map f xs ++ ys) (mapped_member f xs ys k x (omega (arith, h)) e)

-- the start of a statement and the place after it, in front of what is visible
abbrev pub with_points : ℕ → ℕ → List sound.Seen → List sound.Seen
with_points n depth ps = record { point = points.Start n; depth = depth } ∷ record { point = points.After n; depth = depth } ∷ ps

two_more : (n depth : ℕ) (ps : List sound.Seen) (y : sound.Seen) → Contains ps y → Contains (with_points n depth ps) y
two_more n depth ps y c =
    later_member (record { point = points.Start n; depth = depth }) y (record { point = points.After n; depth = depth } ∷ ps)
    (later_member (record { point = points.After n; depth = depth }) y ps c)

start_there : (n depth : ℕ) (ps : List sound.Seen) → Contains (with_points n depth ps) (record { point = points.Start n; depth = depth })
start_there n depth ps = first_member (record { point = points.Start n; depth = depth }) (record { point = points.After n; depth = depth } ∷ ps)

after_there : (n depth : ℕ) (ps : List sound.Seen) → Contains (with_points n depth ps) (record { point = points.After n; depth = depth })
after_there n depth ps =
    later_member (record { point = points.Start n; depth = depth }) (record { point = points.After n; depth = depth })
    (record { point = points.After n; depth = depth } ∷ ps)
    (first_member (record { point = points.After n; depth = depth }) ps)

-- ---- places

unfoldable pub marked_spot : ℕ → Spot → Spot
marked_spot n p = record p { points = with_points n p.depth p.points; statements = suc n }

abbrev pub label_points : ℕ → List ℕ → List sound.Seen
label_points depth ns = map (λ l. record { point = points.At l; depth = depth }) ns

unfoldable pub labelled_spot : ℕ → List ℕ → Spot → Spot
labelled_spot past ns p = record p { points = label_points p.depth ns ++ p.points; labels = past }

unfoldable pub arm_spot : ℕ → List t.Label → Spot → Spot
arm_spot n ls p = record p { points = sound.points_past ls p.points; depth = suc p.depth; arm = ls; statement = n }

module _ (W : World) where
  pub is_marked_spot : (n : ℕ) (p : Spot) → sound.in_marked n (at W p) ≡ at W (marked_spot n p)
  unfolding sound.in_marked marked_spot
  is_marked_spot n p = refl

  pub is_labelled_spot : (past : ℕ) (es : t.Exits) (p : Spot) → sound.in_labelled past es (at W p) ≡ at W (labelled_spot past (sound.labels_in es) p)
  unfolding sound.in_labelled labelled_spot
  is_labelled_spot past es p = refl

  pub is_arm_spot : (n : ℕ) (ls : List t.Label) (p : Spot) → sound.in_arm n ls (at W p) ≡ at W (arm_spot n ls p)
  unfolding sound.in_arm arm_spot
  is_arm_spot n ls p = refl

  -- more points that are visible
  more_goal : (p q : Spot) (a b : Around) (x : points.Point) (n : ℕ) → ((y : sound.Seen) → Contains p.points y → Contains q.points y) → a.arms ≡ b.arms
      → GoalIn p a x n → GoalIn q b x n
  more_goal p q a b x n h e g = record { seen = h (record { point = x; depth = n }) g.seen; outside = omega (arith, g.outside, e) }

  arm_same : (p q : Spot) (a : ArmHere) → q.arm ≡ p.arm → q.statement ≡ p.statement → q.depth ≡ p.depth → ArmIn W p a → ArmIn W q a
  unfolding ArmIn
  arm_same p q NoArm e f d h = h
  arm_same p q (InArm n ls) e f d h = record { arm = e ∙ h.arm; statement = f ∙ h.statement; inside = omega (arith, d, h.inside); labels = h.labels }

  -- in a statement that has a number
  pub in_statement_around : (flat : Bool) (p : Spot) (a : Around) → AroundIn W flat p a → AroundIn W flat (marked_spot a.marked p) (in_statement a)
  unfolding marked_spot
  in_statement_around flat p a h = record {
    takes = h.takes;
    gives = h.gives;
    gives_types = h.gives_types;
    strings = h.strings;
    interfaces = h.interfaces;
    further = h.further;
    depth = h.depth;
    few = h.few;
    statements = omega arith;
    labels = h.labels;
    labelled = λ x l e u. more_goal p (marked_spot a.marked p) a (in_statement a) _ _ two refl (h.labelled x l e u);
    exit = λ l e u. more_goal p (marked_spot a.marked p) a (in_statement a) _ _ two refl (h.exit l e u);
    next = λ l e u. more_goal p (marked_spot a.marked p) a (in_statement a) _ _ two refl (h.next l e u);
    leave = λ u. two (record { point = points.Leave; depth = 0 }) (h.leave u);
    arm = arm_same p (marked_spot a.marked p) a.arm refl refl refl h.arm;
  }
    where
      two : (y : sound.Seen) → Contains p.points y → Contains (marked_spot a.marked p).points y
      two y c = two_more a.marked p.depth p.points y c

  pub phrase_here : (p : Spot) (a : Around) → PhraseHere (marked_spot a.marked p) (in_statement a)
  unfolding marked_spot
  phrase_here p a = record { start = start_there a.marked p.depth p.points; after = after_there a.marked p.depth p.points }

  -- not at the outermost level; in a constant, of which no phrase is looked at
  pub inside_around : (flat : Bool) (p : Spot) (a : Around) → AroundIn W flat p a → AroundIn W flat p (inside a)
  inside_around flat p a h = record {
    takes = h.takes;
    gives = h.gives;
    gives_types = h.gives_types;
    strings = h.strings;
    interfaces = h.interfaces;
    further = h.further;
    depth = h.depth;
    few = h.few;
    statements = h.statements;
    labels = h.labels;
    labelled = λ x l e u. let g = h.labelled x l e u in record { seen = g.seen; outside = g.outside };
    exit = λ l e u. let g = h.exit l e u in record { seen = g.seen; outside = g.outside };
    next = λ l e u. let g = h.next l e u in record { seen = g.seen; outside = g.outside };
    leave = h.leave;
    arm = h.arm;
  }

  unfoldable pub constant_spot : Spot → Around → Spot
  constant_spot p a = record p { points = with_points a.statement p.depth p.points }

  pub constant_around : (flat : Bool) (p : Spot) (a : Around) (q : Place) → AroundIn W flat p a → AroundIn W flat (constant_spot p a) (in_constant q a)
  unfolding constant_spot
  constant_around flat p a q h = record {
    takes = h.takes;
    gives = h.gives;
    gives_types = h.gives_types;
    strings = h.strings;
    interfaces = h.interfaces;
    further = h.further;
    depth = h.depth;
    few = h.few;
    statements = h.statements;
    labels = h.labels;
    labelled = λ x l e u. more_goal p (constant_spot p a) a (in_constant q a) _ _ two refl (h.labelled x l e u);
    exit = λ l e u. more_goal p (constant_spot p a) a (in_constant q a) _ _ two refl (h.exit l e u);
    next = λ l e u. more_goal p (constant_spot p a) a (in_constant q a) _ _ two refl (h.next l e u);
    leave = λ u. two (record { point = points.Leave; depth = 0 }) (h.leave u);
    arm = arm_same p (constant_spot p a) a.arm refl refl refl h.arm;
  }
    where
      two : (y : sound.Seen) → Contains p.points y → Contains (constant_spot p a).points y
      two y c = two_more a.statement p.depth p.points y c

  pub constant_phrase : (p : Spot) (a : Around) (q : Place) → PhraseHere (constant_spot p a) (in_constant q a)
  unfolding constant_spot
  constant_phrase p a q = record { start = start_there a.statement p.depth p.points; after = after_there a.statement p.depth p.points }

  -- ---- labels
  pub number_there : (n : ℕ) (xs : List Identifier) (k : ℕ) → k < length xs → Contains (numbers_from n xs) (n + k)
  unfolding numbers_from
  number_there n [] k h = absurd (omega (arith, h))
  number_there n (x ∷ xs) zero h = (0, omega arith, omega arith)
  number_there n (x ∷ xs) (suc k) h = let c = number_there (n + 1) xs k (omega (arith, h)) in let e : n + 1 + k ≡ n + suc k = omega arith in
      later_member n (n + suc k) (numbers_from (n + 1) xs) (subst (Contains (numbers_from (n + 1) xs)) e c)

  record LabelFound (n : ℕ) (xs : List Identifier) (arms : ℕ) (l : Seen) : Type 0 where
    place : ℕ
    small : place < length xs
    number : l.number ≡ n + place
    depth : l.arms ≡ arms

  label_found : (xs : List Identifier) (n arms : ℕ) (scope : Scope Seen) (x : List ℕ) (l : Seen) → label_scope xs n arms scope x ≡ Some l
      → LabelFound n xs arms l ⊎ (scope x ≡ Some l)
  unfolding label_scope
  label_found [] n arms scope x l e = inr e
  label_found (y ∷ ys) n arms scope x l e = by (label_found ys (n + 1) arms (with_name y.name (record { number = n; arms = arms }) scope) x l e)
    where
      here : Seen
      here = record { number = n; arms = arms }

      same_seen : (a b : Seen) → Some a ≡ Some b → a ≡ b
      same_seen a b e = cc

      chosen : (b : Bool) → cond b (Some here) (scope x) ≡ Some l → LabelFound n (y ∷ ys) arms l ⊎ (scope x ≡ Some l)
      chosen true d = inl (subst (LabelFound n (y ∷ ys) arms) (same_seen here l d)
          (record { place = 0; small = omega arith; number = omega arith; depth = refl }))
      chosen false d = inr d

      by : LabelFound (n + 1) ys arms l ⊎ (with_name y.name here scope x ≡ Some l) → LabelFound n (y ∷ ys) arms l ⊎ (scope x ≡ Some l)
      by (inl f) = inl (record { place = suc f.place; small = omega (arith, f.small); number = omega (arith, f.number); depth = f.depth })
      by (inr d) = chosen (bytes_eq y.name x) d

  pub labelled_around : (flat : Bool) (p : Spot) (a : Around) (xs : List Identifier) → AroundIn W flat p a
      → AroundIn W flat (labelled_spot (a.labelled + length xs) (numbers_from a.labelled xs) p) (with_labels xs a)
  unfolding labelled_spot
  labelled_around flat p a xs h = record {
    takes = h.takes;
    gives = h.gives;
    gives_types = h.gives_types;
    strings = h.strings;
    interfaces = h.interfaces;
    further = h.further;
    depth = h.depth;
    few = h.few;
    statements = h.statements;
    labels = omega arith;
    labelled = λ x l e u. by x l u (label_found xs a.labelled a.arms a.labels x l e);
    exit = λ l e u. more_goal p q a (with_labels xs a) _ _ behind refl (h.exit l e u);
    next = λ l e u. more_goal p q a (with_labels xs a) _ _ behind refl (h.next l e u);
    leave = λ u. behind (record { point = points.Leave; depth = 0 }) (h.leave u);
    arm = arm_same p q a.arm refl refl refl h.arm;
  }
    where
      q : Spot
      q = labelled_spot (a.labelled + length xs) (numbers_from a.labelled xs) p

      behind : (y : sound.Seen) → Contains p.points y → Contains q.points y
      behind y c = behind_member (label_points p.depth (numbers_from a.labelled xs)) p.points y c

      by : (x : List ℕ) (l : Seen) → a.unwinding ≤ l.arms → LabelFound a.labelled xs a.arms l ⊎ (a.labels x ≡ Some l)
          → GoalIn q (with_labels xs a) (points.At l.number) l.arms
      by x l u (inl f) =
          let c = number_there a.labelled xs f.place f.small in
          let m = mapped_member (λ n. record { point = points.At n; depth = p.depth }) (numbers_from a.labelled xs) p.points c.0 (a.labelled + f.place) c.1
          c.2 in
          let d : p.depth ≡ l.arms = h.depth ∙ sym f.depth in
          record {
            seen = subst (λ n. Contains q.points (record { point = points.At n; depth = l.arms })) (sym f.number)
                (subst (λ n. Contains q.points (record { point = points.At (a.labelled + f.place); depth = n })) d m);
            outside = omega (arith, f.depth);
          }
      by x l u (inr e) = more_goal p q a (with_labels xs a) _ _ behind refl (h.labelled x l e u)

  -- ---- loops
  pub round_around : (p : Spot) (a : Around) (xs : List Identifier) → AroundIn W false p a → sees p (points.After a.statement) p.depth
      → a.marked ≡ a.statement + 1
      → AroundIn W false (marked_spot a.marked (labelled_spot (a.labelled + length xs) (numbers_from a.labelled xs) p)) (in_round xs a)
  unfolding labelled_spot marked_spot
  round_around p a xs h after next' = record {
    takes = r.takes;
    gives = r.gives;
    gives_types = r.gives_types;
    strings = r.strings;
    interfaces = r.interfaces;
    further = r.further;
    depth = r.depth;
    few = r.few;
    statements = omega arith;
    labels = r.labels;
    labelled = λ x l e u. let g = r.labelled x l e u in record {
      seen = two (record { point = points.At l.number; depth = l.arms }) g.seen;
      outside = g.outside;
    };
    exit = λ l e u. subst (λ (l : Seen). GoalIn z (in_round xs a) (points.After l.number) l.arms) (same_seen here l e)
        (record { seen = exit_seen; outside = omega arith });
    next = λ l e u. subst (λ (l : Seen). GoalIn z (in_round xs a) (points.After (l.number + 1)) l.arms) (same_seen here l e)
        (record { seen = next_seen; outside = omega arith });
    leave = λ u. two (record { point = points.Leave; depth = 0 }) (r.leave u);
    arm = arm_same q z a.arm refl refl refl r.arm;
  }
    where
      q : Spot
      q = labelled_spot (a.labelled + length xs) (numbers_from a.labelled xs) p

      r : AroundIn W false q (with_labels xs a)
      r = labelled_around false p a xs h

      z : Spot
      z = marked_spot a.marked q

      here : Seen
      here = record { number = a.statement; arms = a.arms }

      same_seen : (a b : Seen) → Some a ≡ Some b → a ≡ b
      same_seen a b e = cc

      two : (y : sound.Seen) → Contains q.points y → Contains z.points y
      two y c = two_more a.marked p.depth q.points y c

      exit_seen : sees z (points.After a.statement) a.arms
      exit_seen = subst (λ n. sees z (points.After a.statement) n) h.depth
          (two (record { point = points.After a.statement; depth = p.depth }) (behind_member (label_points p.depth (numbers_from a.labelled xs)) p.points
          (record { point = points.After a.statement; depth = p.depth }) after))

      next_seen : sees z (points.After (a.statement + 1)) a.arms
      next_seen = subst (λ n. sees z (points.After n) a.arms) next' (subst (λ n. sees z (points.After a.marked) n) h.depth
          (after_there a.marked p.depth q.points))

  -- ---- arms
  label_for_signal : (r : t.Raised) (ls : List t.Label) (ps : List sound.Seen) → sound.points_past (label_for r ∷ ls) ps ≡ ps
  unfolding sound.points_past
  label_for_signal (t.OwnSignal n) ls ps = refl
  label_for_signal (t.LinkedSignal k n) ls ps = refl
  label_for_signal t.TheBoundsFault ls ps = refl
  label_for_signal t.TheZeroDivisor ls ps = refl
  label_for_signal t.TheUnnamed ls ps = refl

  points_kept : (ls : List ArmLabel) (ps : List sound.Seen) → is_unwinding ls ≡ false → sound.points_past (map label_of ls) ps ≡ ps
  unfolding sound.points_past
  points_kept [] ps e = refl
  points_kept (ForAny ∷ ls) ps e = refl
  points_kept (ForUnwind ∷ ls) ps e = no_truth (sym e)
  points_kept (ForSignal r i ∷ ls) ps e = label_for_signal r (map label_of ls) ps

  pub arm_around : (flat : Bool) (p : Spot) (a : Around) (ls : List ArmLabel) → AroundIn W flat p a → LabelsIn W ls
      → AroundIn W flat (arm_spot a.statement (map label_of ls) p) (in_arm ls a)
  unfolding arm_spot ArmIn
  arm_around flat p a ls h labels' = record {
    takes = h.takes;
    gives = h.gives;
    gives_types = h.gives_types;
    strings = h.strings;
    interfaces = h.interfaces;
    further = h.further;
    depth = omega (arith, h.depth);
    few = few (is_unwinding ls);
    statements = h.statements;
    labels = h.labels;
    labelled = λ x l e u. moved (points.At l.number) l.arms (is_unwinding ls) refl u (h.labelled x l e);
    exit = λ l e u. moved (points.After l.number) l.arms (is_unwinding ls) refl u (h.exit l e);
    next = λ l e u. moved (points.After (l.number + 1)) l.arms (is_unwinding ls) refl u (h.next l e);
    leave = λ u. left (is_unwinding ls) refl u;
    arm = record { arm = refl; statement = refl; inside = omega arith; labels = labels' };
  }
    where
      few : (b : Bool) → (if b then a.arms + 1 else a.unwinding) ≤ a.arms + 1
      few true = omega arith
      few false = omega (arith, h.few)

      moved : (x : points.Point) (n : ℕ) (b : Bool) → is_unwinding ls ≡ b → (if b then a.arms + 1 else a.unwinding) ≤ n → (a.unwinding ≤ n → GoalIn p a x n)
          → GoalIn (arm_spot a.statement (map label_of ls) p) (in_arm ls a) x n
      moved x n true e u g = let o = (g (omega (arith, u, h.few))).outside in absurd (omega (arith, u, o))
      moved x n false e u g = let v = g u in record {
        seen = subst (λ ps. Contains ps (record { point = x; depth = n })) (sym (points_kept ls p.points e))
            v.seen;
        outside = omega (arith, v.outside);
      }

      left : (b : Bool) → is_unwinding ls ≡ b → (if b then a.arms + 1 else a.unwinding) ≤ 0 → sees (arm_spot a.statement (map label_of ls) p) points.Leave 0
      left true e u = absurd (omega (arith, u))
      left false e u = subst (λ ps. Contains ps (record { point = points.Leave; depth = 0 })) (sym (points_kept ls p.points e)) (h.leave u)

  -- ---- labels of arms
  names_signal : (p : Spot) (r : t.Raised) (i : PlainItem) → SeenIn W false (m.Signal r i) → sound.NamesSignal (at W p) (label_for r)
  unfolding sound.NamesSignal MeaningIn sound.RaisedIs
  names_signal p (t.OwnSignal n) i h = slice_get_within W.signals n _ (h.there).2
  names_signal p (t.LinkedSignal k n) i h = let r = (raised_of W p false (t.LinkedSignal k n) i h).is in linked r
    where
      linked : sound.RaisedIs (at W p) (t.LinkedSignal k n) (kinds_of i.takes) (kinds_of i.gives) → sound.NamesSignal (at W p) (t.OnLinked k n)
      linked r = (r.0, r.1, r.2)
  names_signal p t.TheBoundsFault i h = tt
  names_signal p t.TheZeroDivisor i h = tt
  names_signal p t.TheUnnamed i h = absurd h.there

  each_names : (p : Spot) (ls : List ArmLabel) → EachSignal ls → EachLabelIn W ls → All (sound.NamesSignal (at W p)) (map label_of ls)
  unfolding EachSignal EachLabelIn IsForSignal LabelIn
  each_names p [] h i = λ k d small. absurd (omega (arith, small))
  each_names p (ForSignal r x ∷ ls) h i = All-cons (sound.NamesSignal (at W p)) (label_for r) (map label_of ls) (names_signal p r x i.0)
      (each_names p ls h.1 i.1)
  each_names p (ForAny ∷ ls) h i = absurd h.0
  each_names p (ForUnwind ∷ ls) h i = absurd h.0

  pub arm_labels_in : (p : Spot) (ls : List ArmLabel) → LabelsIn W ls → sound.AreLabels (at W p) (map label_of ls)
  unfolding sound.AreLabels
  arm_labels_in p ls h = by h.form
    where
      some : (ls : List ArmLabel) → ls ≢ [] → map label_of ls ≢ []
      some [] f e = f refl
      some (l ∷ ls) f e = let d : suc (length (map label_of ls)) ≡ 0 = ap length e in omega (arith, d)

      by : (ls ≡ ForAny ∷ []) ⊎ (ls ≡ ForUnwind ∷ []) ⊎ ((ls ≢ []) × EachSignal ls) → sound.AreLabels (at W p) (map label_of ls)
      by (inl e) = inl (ap (map label_of) e)
      by (inr (inl e)) = inr (inl (ap (map label_of) e))
      by (inr (inr e)) = inr (inr (some ls e.0, each_names p ls e.1 h.each))

  label_takes : (p : Spot) (r : t.Raised) (i : PlainItem) → SeenIn W false (m.Signal r i) → sound.LabelTakes (at W p) (label_for r) (kinds_of i.takes)
  unfolding sound.LabelTakes sound.RaisedIs MeaningIn
  label_takes p (t.OwnSignal n) i h = (kinds_of i.gives, (raised_of W p false (t.OwnSignal n) i h).is)
  label_takes p (t.LinkedSignal k n) i h = (kinds_of i.gives, (raised_of W p false (t.LinkedSignal k n) i h).is)
  label_takes p t.TheBoundsFault i h = ((raised_of W p false t.TheBoundsFault i h).is).0
  label_takes p t.TheZeroDivisor i h = ((raised_of W p false t.TheZeroDivisor i h).is).0
  label_takes p t.TheUnnamed i h = absurd h.there

  all_take : (p : Spot) (i : PlainItem) (ls : List ArmLabel) → EachLabelIn W ls → all_like i ls ≡ true
      → All (λ l. sound.LabelTakes (at W p) l (kinds_of i.takes)) (map label_of ls)
  unfolding EachLabelIn LabelIn all_like
  all_take p i [] h e = λ k d small. absurd (omega (arith, small))
  all_take p i (ForSignal r j ∷ ls) h e =
      All-cons (λ l. sound.LabelTakes (at W p) l (kinds_of i.takes)) (label_for r) (map label_of ls)
      (subst (λ ks. sound.LabelTakes (at W p) (label_for r) ks) (same_field_kinds j.takes i.takes (both_left _ _ e)) (label_takes p r j h.0))
      (all_take p i ls h.1 (both_right _ _ (both_right _ _ e)))
  all_take p i (ForAny ∷ ls) h e = no_truth e
  all_take p i (ForUnwind ∷ ls) h e = no_truth e

  pub arm_given : (p : Spot) (ls : List ArmLabel) (first : ℕ) → LabelsIn W ls → (kinds_of (parameters_of ls) ≡ t.NoKinds → first ≡ 0)
      → sound.AreGiven (at W p) (map label_of ls) first (kinds_of (parameters_of ls))
  unfolding sound.AreGiven parameters_of kinds_of EachLabelIn LabelIn
  arm_given p ls first h none = by ls h.each none
    where
      given : (ks : t.Kinds) (ls : List t.Label) → (ks ≡ t.NoKinds → first ≡ 0) → All (λ l. sound.LabelTakes (at W p) l ks) ls
          → sound.AreGiven (at W p) ls first ks
      given t.NoKinds ls n h = n refl
      given (t.AndKind k ks) ls n h = h

      same_one : (b : Bool) (r : t.Raised) (i : PlainItem) (ls : List ArmLabel) → all_like i ls ≡ b → EachLabelIn W (ForSignal r i ∷ ls)
          → (kinds_of (if b then i.takes else []) ≡ t.NoKinds → first ≡ 0)
          → sound.AreGiven (at W p) (map label_of (ForSignal r i ∷ ls)) first (kinds_of (if b then i.takes else []))
      same_one true r i ls e h n = given (kinds_of i.takes) (map label_of (ForSignal r i ∷ ls)) n (first_takes r i ls e h)
        where
          first_takes : (r : t.Raised) (i : PlainItem) (ls : List ArmLabel) → all_like i ls ≡ true → EachLabelIn W (ForSignal r i ∷ ls)
              → All (λ l. sound.LabelTakes (at W p) l (kinds_of i.takes)) (map label_of (ForSignal r i ∷ ls))
          first_takes r i ls e h = All-cons (λ l. sound.LabelTakes (at W p) l (kinds_of i.takes)) (label_for r) (map label_of ls) (label_takes p r i h.0)
              (all_take p i ls h.1 e)
      same_one false r i ls e h n = n refl

      by : (ls : List ArmLabel) → EachLabelIn W ls → (kinds_of (parameters_of ls) ≡ t.NoKinds → first ≡ 0)
          → sound.AreGiven (at W p) (map label_of ls) first (kinds_of (parameters_of ls))
      by [] h n = n refl
      by (ForAny ∷ ls) h n = n refl
      by (ForUnwind ∷ ls) h n = n refl
      by (ForSignal r i ∷ ls) h n = same_one (all_like i ls) r i ls refl h n
