-- What comes of the answers of arms, of marked and labelled statements, and of bodies.
use Rattle.std.specs.Prelude.{◌≡◌, ◌≢◌, refl, ℕ, ◌<◌, List, [], ◌∷◌, Bool, true, false, nat_eq, if◌then◌else◌}
use mathlib.Core.Path.{◌∙◌, sym, subst}
use Rattle.std.proofs.Common.{inl, inr}
use Rattle.mesa_types.specs.Typed.{Stmt, Phrase, NoPhrase, Catch, Arms, NoArms, AndArm, Point, Start, After, At, Leave}
use Rattle.mesa_types.specs.declared.typed_parts.Label.{Label}
use Rattle.mesa_types.specs.declared.typed_parts.Label.TheVariants.{OnUnwind}
use Rattle.mesa_types.specs.Sound.{Seen, Scope, IsForRaises, points_past, in_arm, PhraseIn, ArmsIn, StmtIn}
use Rattle.source_meaning.specs.Value.{how_many}
use Rattle.source_meaning.specs.Program.{Program, Signal, resumes}
use Rattle.source_meaning.specs.State.{Ending, Answer, Normal, Gives, Go, Resumed, Rejected, Retried, Continued, Uncaught, Spent, FrameLimit, Broken, Run, give, branch, marked_of, marked, labelled_of, labelled, body_end_of, body_end}
use Rattle.source_meaning.specs.Variables.{Enabled, Where}
use Rattle.source_meaning.specs.Signals.{Arm, NoArm, TheArm, some_label, arm_in, first_arm, arm_answer, asked, unwound}
use Rattle.source_meaning.proofs.Only.{Answers, Allow, Only, only_give, only_wider, only_after}
use Rattle.source_meaning.proofs.Points.{Among, among_of, Jumps, Beyond, Here, nat_eq_same, true≢false, at≢start, at≢after, leave≢at, leave≢start, leave≢after, mark_points, seen_start, seen_after, seen_at, seen_leave, unmark, unmark_plain, still, label_points, labels_only, elsewhere, same_frame}

-- of a statement in a scope: what may be said of an arm is what may be said of the arm around it
abbrev pub of_statement : Ending → Scope → Jumps → Answers
of_statement e Γ J = record { ending = e; normal = Unit {0}; gives = ⊥; resumed = IsForRaises Γ.arm; rejected = 0 < Γ.depth; again = λ n. IsForRaises Γ.arm × (n ≡ Γ.statement); jumps = J }

abbrev pub of_expression : Ending → Jumps → Answers
of_expression e J = record { ending = e; normal = ⊥; gives = Unit {0}; resumed = ⊥; rejected = ⊥; again = λ n. ⊥; jumps = J }

abbrev pub of_fault : Ending → Jumps → Answers
of_fault e J = record { ending = e; normal = ⊥; gives = ⊥; resumed = ⊥; rejected = ⊥; again = λ n. ⊥; jumps = J }

-- of a body that has run
abbrev pub of_start : Ending → Jumps → Answers
of_start e J = record { ending = e; normal = Unit {0}; gives = ⊥; resumed = ⊥; rejected = ⊥; again = λ n. ⊥; jumps = J }

-- of an arm that has run
abbrev pub of_arm : Ending → Jumps → Answers
of_arm e J = record { ending = e; normal = Unit {0}; gives = ⊥; resumed = Unit {0}; rejected = Unit {0}; again = λ n. ⊥; jumps = J }

-- more jumps

pub more_statement : (e : Ending) (Γ : Scope) {J K : Jumps} {m : Run} → ((f : ℕ) (p : Point) → J f p → K f p) → Only (of_statement e Γ J) m → Only (of_statement e Γ K) m
more_statement e Γ j h = only_wider (record { ending = refl; normal = λ x. x; gives = λ x. x; resumed = λ x. x; rejected = λ x. x; again = λ n x. x; jumps = j }) h

pub more_expression : (e : Ending) {J K : Jumps} {m : Run} → ((f : ℕ) (p : Point) → J f p → K f p) → Only (of_expression e J) m → Only (of_expression e K) m
more_expression e j h = only_wider (record { ending = refl; normal = λ x. x; gives = λ x. x; resumed = λ x. x; rejected = λ x. x; again = λ n x. x; jumps = j }) h

pub more_fault : (e : Ending) {J K : Jumps} {m : Run} → ((f : ℕ) (p : Point) → J f p → K f p) → Only (of_fault e J) m → Only (of_fault e K) m
more_fault e j h = only_wider (record { ending = refl; normal = λ x. x; gives = λ x. x; resumed = λ x. x; rejected = λ x. x; again = λ n x. x; jumps = j }) h

pub choice : {A : Answers} {m n : Run} (b : Bool) → (b ≡ true → Only A m) → (b ≡ false → Only A n) → Only A (branch b m n)
unfolding branch
choice true h g = h refl
choice false h g = g refl

-- Arms.

-- an arm of a phrase that stands in this scope
unfoldable pub ArmFits : Scope → Arm → Type 0
ArmFits Γ NoArm = Unit {0}
ArmFits Γ (TheArm first count s) = (n : ℕ) × (ls : List Label) × Among (Start n) Γ.points × Among (After n) Γ.points × StmtIn (in_arm n ls Γ) s

arm_if_fits : (Γ : Scope) (n : ℕ) (ls : List Label) (b : Bool) (first count : ℕ) (s : Stmt) (a : Arm) → Among (Start n) Γ.points → Among (After n) Γ.points →
    StmtIn (in_arm n ls Γ) s → ArmFits Γ a → ArmFits Γ (if b then TheArm first count s else a)
unfolding ArmFits
arm_if_fits Γ n ls true first count s a x y h g = (n, ls, x, y, h)
arm_if_fits Γ n ls false first count s a x y h g = g

arm_in_fits : (Γ : Scope) (n : ℕ) (fits : Label → Bool) (arms : Arms) → Among (Start n) Γ.points → Among (After n) Γ.points → ArmsIn Γ n arms → ArmFits Γ (arm_in fits arms)
unfolding arm_in StmtIn
arm_in_fits Γ n fits NoArms x y h = unfold ArmFits in tt
arm_in_fits Γ n fits (AndArm ls first count s arms) x y h =
    arm_if_fits Γ n ls (some_label fits ls) first count s (arm_in fits arms) x y h.5 (arm_in_fits Γ n fits arms x y h.6)

pub first_arm_fits : (Γ : Scope) (fits : Label → Bool) (ph : Phrase) → PhraseIn Γ ph → ArmFits Γ (first_arm fits ph)
unfolding first_arm StmtIn ArmFits
first_arm_fits Γ fits NoPhrase h = tt
first_arm_fits Γ fits (Catch n arms) h = arm_in_fits Γ n fits arms (among_of Γ 0 (Start n) h.1) (among_of Γ 0 (After n) h.2) h.3

past_points : (ls : List Label) (p : Point) (pts : List Seen) → Among p (points_past ls pts) → Among p pts
unfolding points_past
past_points (OnUnwind ∷ ls) p pts h = absurd h
past_points [] p pts h = h
past_points (_ ∷ ls) p pts h = h

-- the points that an arm sees are those at its phrase
pub arm_points : (l : Enabled) (c : List Enabled) (Γ : Scope) (cs : List Scope) (n : ℕ) (ls : List Label) (f : ℕ) (p : Point) →
    Here (in_arm n ls Γ).points (record { frame = l.owner; instance = l.instance; chain = c }) cs f p → Beyond (l ∷ c) (Γ ∷ cs) f p
unfolding Here Beyond in_arm
arm_points l c Γ cs n ls f p (inl h) = inl (h.0, past_points ls p Γ.points h.1)
arm_points l c Γ cs n ls f p (inr h) = inr h

pub arm_answer_only : (e : Ending) (l : Enabled) (c : List Enabled) (Γ : Scope) (cs : List Scope) (n : ℕ) (ls : List Label) → Among (Start n) Γ.points → Among (After n) Γ.points →
    (a : Answer) → Allow (of_statement e (in_arm n ls Γ) (Beyond (l ∷ c) (Γ ∷ cs))) a → Only (of_arm e (Beyond (l ∷ c) (Γ ∷ cs))) (arm_answer l.owner a)
unfolding arm_answer Allow Beyond in_arm
arm_answer_only e l c Γ cs n ls x y Normal h = only_give _ Normal tt
arm_answer_only e l c Γ cs n ls x y (Gives vs) h = absurd h
arm_answer_only e l c Γ cs n ls x y (Go g q) h = only_give _ (Go g q) h
arm_answer_only e l c Γ cs n ls x y (Resumed vs) h = only_give _ (Resumed vs) tt
arm_answer_only e l c Γ cs n ls x y Rejected h = only_give _ Rejected tt
arm_answer_only e l c Γ cs n ls x y (Retried k) h = only_give _ (Go l.owner (Start k)) (inl (refl, subst (λ i. Among (Start i) Γ.points) (sym h.1) x))
arm_answer_only e l c Γ cs n ls x y (Continued k) h = only_give _ (Go l.owner (After k)) (inl (refl, subst (λ i. Among (After i) Γ.points) (sym h.1) y))
arm_answer_only e l c Γ cs n ls x y (Uncaught s) h = only_give _ (Uncaught s) tt
arm_answer_only e l c Γ cs n ls x y Spent h = only_give _ Spent tt
arm_answer_only e l c Γ cs n ls x y FrameLimit h = only_give _ FrameLimit tt
arm_answer_only e l c Γ cs n ls x y Broken h = only_give _ Broken h

-- a signal gives values only where they are taken back
pub asked_only : (A : Answers) (P : Program) (sig : Signal) {o : Run} → ((n : ℕ) → resumes P sig n ≡ true → A.gives) → Only A o →
    (a : Answer) → Allow (of_arm A.ending A.jumps) a → Only A (asked P sig o a)
unfolding asked Allow
asked_only A P sig ok o Normal h = o
asked_only A P sig ok o (Gives vs) h = absurd h
asked_only A P sig ok o (Go g q) h = only_give A (Go g q) h
asked_only A P sig ok o (Resumed vs) h = choice _ (λ t. only_give A (Gives vs) (ok (how_many vs) t)) (λ t. o)
asked_only A P sig ok o Rejected h = o
asked_only A P sig ok o (Retried n) h = absurd h
asked_only A P sig ok o (Continued n) h = absurd h
asked_only A P sig ok o (Uncaught s) h = only_give A (Uncaught s) tt
asked_only A P sig ok o Spent h = only_give A Spent tt
asked_only A P sig ok o FrameLimit h = only_give A FrameLimit tt
asked_only A P sig ok o Broken h = only_give A Broken h

pub unwound_only : (A : Answers) (J : Jumps) → ((f : ℕ) (p : Point) → J f p → A.jumps f p) → (f : ℕ) (p : Point) → A.jumps f p → (a : Answer) → Allow (of_arm A.ending J) a → Only A (unwound (Go f p) a)
unfolding unwound Allow
unwound_only A J out f p j Normal h = only_give A (Go f p) j
unwound_only A J out f p j (Gives vs) h = only_give A (Go f p) j
unwound_only A J out f p j (Go g q) h = only_give A (Go g q) (out g q h)
unwound_only A J out f p j (Resumed vs) h = only_give A (Go f p) j
unwound_only A J out f p j Rejected h = only_give A (Go f p) j
unwound_only A J out f p j (Retried n) h = absurd h
unwound_only A J out f p j (Continued n) h = absurd h
unwound_only A J out f p j (Uncaught s) h = only_give A (Uncaught s) tt
unwound_only A J out f p j Spent h = only_give A Spent tt
unwound_only A J out f p j FrameLimit h = only_give A FrameLimit tt
unwound_only A J out f p j Broken h = only_give A Broken h

-- Marks and labels.

module _ (e : Ending) (Γ : Scope) (w : Where) (cs : List Scope) where
  abbrev pub Answered : Answers
  Answered = of_statement e Γ (Here Γ.points w cs)

  marked_of_only : (n d : ℕ) {again : Run} → Only Answered again → (a : Answer) → Allow (of_statement e Γ (Here (mark_points n d Γ.points) w cs)) a →
      Only Answered (marked_of w.frame n again a)
  unfolding marked_of Allow
  marked_of_only n d h (Go g (Start k)) x =
      choice _ (λ t. h) (λ t. only_give Answered (Go g (Start k)) (still w.frame g n k t (unmark w Γ.points cs n d k g (Start k) (seen_start k n d Γ.points) x)))
  marked_of_only n d h (Go g (After k)) x =
      choice _ (λ t. only_give Answered Normal tt) (λ t. only_give Answered (Go g (After k)) (still w.frame g n k t (unmark w Γ.points cs n d k g (After k) (seen_after k n d Γ.points) x)))
  marked_of_only n d h (Go g (At k)) x = only_give Answered (Go g (At k)) (unmark_plain w Γ.points cs n d g (At k) (seen_at k n d Γ.points) x)
  marked_of_only n d h (Go g Leave) x = only_give Answered (Go g Leave) (unmark_plain w Γ.points cs n d g Leave (seen_leave n d Γ.points) x)
  marked_of_only n d h Normal x = only_give Answered Normal tt
  marked_of_only n d h (Gives vs) x = absurd x
  marked_of_only n d h (Resumed vs) x = only_give Answered (Resumed vs) x
  marked_of_only n d h Rejected x = only_give Answered Rejected x
  marked_of_only n d h (Retried k) x = only_give Answered (Retried k) x
  marked_of_only n d h (Continued k) x = only_give Answered (Continued k) x
  marked_of_only n d h (Uncaught s) x = only_give Answered (Uncaught s) tt
  marked_of_only n d h Spent x = only_give Answered Spent tt
  marked_of_only n d h FrameLimit x = only_give Answered FrameLimit tt
  marked_of_only n d h Broken x = only_give Answered Broken x

  pub marked_only : (n d : ℕ) {m again : Run} → Only (of_statement e Γ (Here (mark_points n d Γ.points) w cs)) m → Only Answered again → Only Answered (marked w.frame n m again)
  unfolding marked
  marked_only n d h g = only_after refl h (marked_of_only n d g)

  labelled_of_only : (ls : List ℕ) (d : ℕ) {k : ℕ → Run} → ((l : ℕ) → Here (label_points ls d Γ.points) w cs w.frame (At l) → Only Answered (k l)) →
      (a : Answer) → Allow (of_statement e Γ (Here (label_points ls d Γ.points) w cs)) a → Only Answered (labelled_of w.frame k a)
  unfolding labelled_of Allow
  labelled_of_only ls d k (Go g (At l)) x =
      choice _ (λ t. k l (same_frame w (label_points ls d Γ.points) cs g (At l) t x))
      (λ t. only_give Answered (Go g (At l)) (elsewhere w (label_points ls d Γ.points) Γ.points cs g (At l) t x))
  labelled_of_only ls d k (Go g (Start n)) x = only_give Answered (Go g (Start n)) (labels_only w ls d Γ.points cs g (Start n) (λ l t. at≢start l n (sym t)) x)
  labelled_of_only ls d k (Go g (After n)) x = only_give Answered (Go g (After n)) (labels_only w ls d Γ.points cs g (After n) (λ l t. at≢after l n (sym t)) x)
  labelled_of_only ls d k (Go g Leave) x = only_give Answered (Go g Leave) (labels_only w ls d Γ.points cs g Leave leave≢at x)
  labelled_of_only ls d k Normal x = only_give Answered Normal tt
  labelled_of_only ls d k (Gives vs) x = absurd x
  labelled_of_only ls d k (Resumed vs) x = only_give Answered (Resumed vs) x
  labelled_of_only ls d k Rejected x = only_give Answered Rejected x
  labelled_of_only ls d k (Retried n) x = only_give Answered (Retried n) x
  labelled_of_only ls d k (Continued n) x = only_give Answered (Continued n) x
  labelled_of_only ls d k (Uncaught s) x = only_give Answered (Uncaught s) tt
  labelled_of_only ls d k Spent x = only_give Answered Spent tt
  labelled_of_only ls d k FrameLimit x = only_give Answered FrameLimit tt
  labelled_of_only ls d k Broken x = only_give Answered Broken x

  pub labelled_only : (ls : List ℕ) (d : ℕ) {m : Run} {k : ℕ → Run} → Only (of_statement e Γ (Here (label_points ls d Γ.points) w cs)) m →
      ((l : ℕ) → Here (label_points ls d Γ.points) w cs w.frame (At l) → Only Answered (k l)) → Only Answered (labelled w.frame m k)
  unfolding labelled
  labelled_only ls d h g = only_after refl h (labelled_of_only ls d g)

  pub go_only : (p : Point) → Among p Γ.points → Only Answered (give (Go w.frame p))
  unfolding Here Allow
  go_only p h = only_give Answered (Go w.frame p) (inl (refl, h))

-- The end of a body.

module _ (A : Answers) (Γ : Scope) (only_return : (p : Point) → Among p Γ.points → p ≡ Leave) (no_arm : IsForRaises Γ.arm → ⊥) (outermost : 0 < Γ.depth → ⊥)
    (h j : ℕ) (chain : List Enabled) (cs : List Scope) (out : (f : ℕ) (p : Point) → Beyond chain cs f p → A.jumps f p) where
  far : (g : ℕ) (p : Point) → p ≢ Leave → Here Γ.points (record { frame = h; instance = j; chain = chain }) cs g p → A.jumps g p
  unfolding Here
  far g p n (inl x) = absurd (n (only_return p x.1))
  far g p n (inr x) = out g p x

  elsewhere_leave : (g : ℕ) → nat_eq h g ≡ false → Here Γ.points (record { frame = h; instance = j; chain = chain }) cs g Leave → A.jumps g Leave
  unfolding Here
  elsewhere_leave g t (inl x) = absurd (true≢false (sym (subst (λ i. nat_eq h i ≡ true) (sym x.0) (nat_eq_same h)) ∙ t))
  elsewhere_leave g t (inr x) = out g Leave x

  body_end_of_only : {n : Run} → Only A n → (a : Answer) → Allow (of_statement A.ending Γ (Here Γ.points (record { frame = h; instance = j; chain = chain }) cs)) a → Only A (body_end_of h n a)
  unfolding body_end_of Allow
  body_end_of_only k Normal x = k
  body_end_of_only k (Go g Leave) x = choice _ (λ t. k) (λ t. only_give A (Go g Leave) (elsewhere_leave g t x))
  body_end_of_only k (Go g (Start n)) x = only_give A (Go g (Start n)) (far g (Start n) (λ t. leave≢start n (sym t)) x)
  body_end_of_only k (Go g (After n)) x = only_give A (Go g (After n)) (far g (After n) (λ t. leave≢after n (sym t)) x)
  body_end_of_only k (Go g (At n)) x = only_give A (Go g (At n)) (far g (At n) (λ t. leave≢at n (sym t)) x)
  body_end_of_only k (Gives vs) x = absurd x
  body_end_of_only k (Resumed vs) x = absurd (no_arm x)
  body_end_of_only k Rejected x = absurd (outermost x)
  body_end_of_only k (Retried n) x = absurd (no_arm x.0)
  body_end_of_only k (Continued n) x = absurd (no_arm x.0)
  body_end_of_only k (Uncaught s) x = only_give A (Uncaught s) tt
  body_end_of_only k Spent x = only_give A Spent tt
  body_end_of_only k FrameLimit x = only_give A FrameLimit tt
  body_end_of_only k Broken x = only_give A Broken x

  pub body_end_only : {m n : Run} → Only (of_statement A.ending Γ (Here Γ.points (record { frame = h; instance = j; chain = chain }) cs)) m → Only A n → Only A (body_end h m n)
  unfolding body_end
  body_end_only x k = only_after refl x (body_end_of_only k)
