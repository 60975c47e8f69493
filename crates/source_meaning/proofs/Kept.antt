-- Pairs of runs that are kept by every way in which runs are made of runs. A pair is tight where it is so from the
-- start on, and loose where it is so once a turn has been spent.
use Rattle.std.specs.Prelude.{◌≡◌, refl, ℕ, List, Bool, true, false, ◌&&◌, nat_eq}
use Rattle.mesa_types.specs.Typed.{Start, After, At, Leave}
use Rattle.source_meaning.specs.Value.{Value, Values, nth, word, long}
use Rattle.source_meaning.specs.State.{State, Store, Answer, Normal, Gives, Go, Resumed, Rejected, Retried, Continued, Uncaught, Spent, FrameLimit, Broken, Run, give, give_value, give_word, give_long, after, look, change, spend, enter, put, read, peek, branch, value_then, on_values, on_value, on_word, on_long, normal_then, on_normal, dropped_of, dropped, marked_of, marked, labelled_of, labelled, body_end_of, body_end}
use Rattle.source_meaning.specs.Laws.{GoesOn}

-- a change of the store that keeps the frames
pub record Mild (f : Store → Store) : Type 0 where
  pub its : (s : Store) → GoesOn s (f s)

abbrev pub Pairs : Type 1
Pairs = Run → Run → Type 0

-- the answers that a run may give with no turn spent: all but a jump to a start
abbrev pub IsCalm : Answer → Type 0
IsCalm (Go f (Start n)) = ⊥
IsCalm _ = Unit {0}

-- what comes of an answer: after a jump to a start, a turn has been spent
abbrev pub Follows : Pairs → Pairs → Answer → Pairs
Follows L T (Go f (Start n)) r r' = L r r'
Follows L T _ r r' = T r r'

-- what ends at once with this answer, and prints nothing
pub record Quits (a : Answer) (r : Run) : Type 0 where
  pub its_answer : (σ : State) → (r σ).answer ≡ a
  pub its_output : (σ : State) → (r σ).state.output ≡ σ.output

-- what passes the ends on that a larger bound, or more input, puts off
pub record Passes (k : Answer → Run) : Type 0 where
  pub spent : Quits Spent (k Spent)
  pub broken : Quits Broken (k Broken)

pub record Keeps (R : Pairs) : Type 0 where
  pub its_give : (a : Answer) → R (give a) (give a)
  pub its_after : {m m' : Run} {k k' : Answer → Run} → R m m' → Passes k → ((a : Answer) → R (k a) (k' a)) → R (after m k) (after m' k')
  pub its_look : {k k' : Store → Run} → ((s : Store) → R (k s) (k' s)) → R (look k) (look k')
  pub its_change : {m m' : Run} → (f : Store → Store) → Mild f → R m m' → R (change f m) (change f m')
  pub its_spend : {m m' : Run} → R m m' → R (spend m) (spend m')
  pub its_enter : {m m' : Run} → R m m' → R (enter m) (enter m')
  pub its_put : {m m' : Run} → (text : List ℕ) → R m m' → R (put text m) (put text m')
  pub its_read : {k k' : ℕ → Run} {m m' : Run} → ((b : ℕ) → R (k b) (k' b)) → R m m' → R (read k m) (read k' m')
  pub its_peek : {k k' : Bool → Run} → ((b : Bool) → R (k b) (k' b)) → R (peek k) (peek k')

pub record Kept (L T : Pairs) : Type 0 where
  pub loose : Keeps L
  pub tight_give : (a : Answer) → IsCalm a → T (give a) (give a)
  pub tight_after : {m m' : Run} {k k' : Answer → Run} → T m m' → Passes k → ((a : Answer) → Follows L T a (k a) (k' a)) → T (after m k) (after m' k')
  pub tight_look : {k k' : Store → Run} → ((s : Store) → T (k s) (k' s)) → T (look k) (look k')
  pub tight_change : {m m' : Run} → (f : Store → Store) → Mild f → T m m' → T (change f m) (change f m')
  pub tight_spend : {m m' : Run} → L m m' → T (spend m) (spend m')

-- where nothing hangs on whether a turn has been spent

either : (R : Pairs) {r r' : Run} → (a : Answer) → Follows R R a r r' → R r r'
either R (Go f (Start n)) h = h
either R (Go f (After n)) h = h
either R (Go f (At n)) h = h
either R (Go f Leave) h = h
either R Normal h = h
either R _ h = h

pub always_kept : (R : Pairs) → Keeps R → Kept R R
always_kept R keeps = record {
  loose = keeps;
  tight_give = λ a c. keeps.its_give a;
  tight_after = λ h p g. keeps.its_after h p (λ a. either R a (g a));
  tight_look = keeps.its_look;
  tight_change = keeps.its_change;
  tight_spend = keeps.its_spend;
}

pub give_quits : (a : Answer) → Quits a (give a)
unfolding give
give_quits a = record { its_answer = λ σ. refl; its_output = λ σ. refl }

value_then_passes : (k : Values → Run) → Passes (value_then k)
unfolding value_then
value_then_passes k = record { spent = give_quits Spent; broken = give_quits Broken }

normal_then_passes : (n : Run) → Passes (normal_then n)
unfolding normal_then
normal_then_passes n = record { spent = give_quits Spent; broken = give_quits Broken }

dropped_of_passes : Passes dropped_of
unfolding dropped_of
dropped_of_passes = record { spent = give_quits Spent; broken = give_quits Broken }

marked_of_passes : (f k : ℕ) (n : Run) → Passes (marked_of f k n)
unfolding marked_of
marked_of_passes f k n = record { spent = give_quits Spent; broken = give_quits Broken }

labelled_of_passes : (f : ℕ) (k : ℕ → Run) → Passes (labelled_of f k)
unfolding labelled_of
labelled_of_passes f k = record { spent = give_quits Spent; broken = give_quits Broken }

body_end_of_passes : (f : ℕ) (n : Run) → Passes (body_end_of f n)
unfolding body_end_of
body_end_of_passes f n = record { spent = give_quits Spent; broken = give_quits Broken }

pub branch_kept : (R : Pairs) → {m m' n n' : Run} → (b : Bool) → R m m' → R n n' → R (branch b m n) (branch b m' n')
unfolding branch
branch_kept R true h g = h
branch_kept R false h g = g

-- tight pairs

module _ (L T : Pairs) (kept : Kept L T) where
  pub pass : (a : Answer) → Follows L T a (give a) (give a)
  pass Normal = kept.tight_give _ tt
  pass (Gives vs) = kept.tight_give _ tt
  pass (Go f (Start n)) = kept.loose.its_give _
  pass (Go f (After n)) = kept.tight_give _ tt
  pass (Go f (At n)) = kept.tight_give _ tt
  pass (Go f Leave) = kept.tight_give _ tt
  pass (Resumed vs) = kept.tight_give _ tt
  pass Rejected = kept.tight_give _ tt
  pass (Retried n) = kept.tight_give _ tt
  pass (Continued n) = kept.tight_give _ tt
  pass (Uncaught s) = kept.tight_give _ tt
  pass Spent = kept.tight_give _ tt
  pass FrameLimit = kept.tight_give _ tt
  pass Broken = kept.tight_give _ tt

  pub value_kept : (v : Value) → T (give_value v) (give_value v)
  unfolding give_value
  value_kept v = kept.tight_give _ tt

  pub word_kept : (n : ℕ) → T (give_word n) (give_word n)
  unfolding give_word
  word_kept n = value_kept _

  pub long_kept : (n : ℕ) → T (give_long n) (give_long n)
  unfolding give_long
  long_kept n = value_kept _

  value_then_kept : {k k' : Values → Run} → ((vs : Values) → T (k vs) (k' vs)) → (a : Answer) → Follows L T a (value_then k a) (value_then k' a)
  unfolding value_then
  value_then_kept h (Gives vs) = h vs
  value_then_kept h a = pass a

  pub on_values_kept : {m m' : Run} {k k' : Values → Run} → T m m' → ((vs : Values) → T (k vs) (k' vs)) → T (on_values m k) (on_values m' k')
  unfolding on_values
  on_values_kept h g = kept.tight_after h (value_then_passes _) (value_then_kept g)

  pub on_value_kept : {m m' : Run} {k k' : Value → Run} → T m m' → ((v : Value) → T (k v) (k' v)) → T (on_value m k) (on_value m' k')
  unfolding on_value
  on_value_kept h g = on_values_kept h λ vs. g (nth vs 0)

  pub on_word_kept : {m m' : Run} {k k' : ℕ → Run} → T m m' → ((n : ℕ) → T (k n) (k' n)) → T (on_word m k) (on_word m' k')
  unfolding on_word
  on_word_kept h g = on_values_kept h λ vs. g (word (nth vs 0))

  pub on_long_kept : {m m' : Run} {k k' : ℕ → Run} → T m m' → ((n : ℕ) → T (k n) (k' n)) → T (on_long m k) (on_long m' k')
  unfolding on_long
  on_long_kept h g = on_values_kept h λ vs. g (long (nth vs 0))

  normal_then_kept : {n n' : Run} → T n n' → (a : Answer) → Follows L T a (normal_then n a) (normal_then n' a)
  unfolding normal_then
  normal_then_kept h Normal = h
  normal_then_kept h a = pass a

  pub on_normal_kept : {m m' n n' : Run} → T m m' → T n n' → T (on_normal m n) (on_normal m' n')
  unfolding on_normal
  on_normal_kept h g = kept.tight_after h (normal_then_passes _) (normal_then_kept g)

  dropped_of_kept : (a : Answer) → Follows L T a (dropped_of a) (dropped_of a)
  unfolding dropped_of
  dropped_of_kept (Gives vs) = pass Normal
  dropped_of_kept a = pass a

  pub dropped_kept : {m m' : Run} → T m m' → T (dropped m) (dropped m')
  unfolding dropped
  dropped_kept h = kept.tight_after h dropped_of_passes dropped_of_kept

  marked_of_kept : {n n' : Run} → (f k : ℕ) → L n n' → (a : Answer) → Follows L T a (marked_of f k n a) (marked_of f k n' a)
  unfolding marked_of
  marked_of_kept f k h (Go g (Start j)) = branch_kept L (nat_eq f g && nat_eq k j) h (kept.loose.its_give _)
  marked_of_kept f k h (Go g (After j)) = branch_kept T (nat_eq f g && nat_eq k j) (kept.tight_give _ tt) (kept.tight_give _ tt)
  marked_of_kept f k h a = pass a

  pub marked_kept : {m m' n n' : Run} → (f k : ℕ) → T m m' → L n n' → T (marked f k m n) (marked f k m' n')
  unfolding marked
  marked_kept f k h g = kept.tight_after h (marked_of_passes f k _) (marked_of_kept f k g)

  labelled_of_kept : {k k' : ℕ → Run} → (f : ℕ) → ((l : ℕ) → T (k l) (k' l)) → (a : Answer) → Follows L T a (labelled_of f k a) (labelled_of f k' a)
  unfolding labelled_of
  labelled_of_kept f h (Go g (At l)) = branch_kept T (nat_eq f g) (h l) (kept.tight_give _ tt)
  labelled_of_kept f h a = pass a

  pub labelled_kept : {m m' : Run} {k k' : ℕ → Run} → (f : ℕ) → T m m' → ((l : ℕ) → T (k l) (k' l)) → T (labelled f m k) (labelled f m' k')
  unfolding labelled
  labelled_kept f h g = kept.tight_after h (labelled_of_passes f _) (labelled_of_kept f g)

-- loose pairs

module _ (L : Pairs) (keeps : Keeps L) where
  pub loose_word : (n : ℕ) → L (give_word n) (give_word n)
  unfolding give_word give_value
  loose_word n = keeps.its_give _

  loose_normal_then : {n n' : Run} → L n n' → (a : Answer) → L (normal_then n a) (normal_then n' a)
  unfolding normal_then
  loose_normal_then h Normal = h
  loose_normal_then h a = keeps.its_give a

  pub loose_on_normal : {m m' n n' : Run} → L m m' → L n n' → L (on_normal m n) (on_normal m' n')
  unfolding on_normal
  loose_on_normal h g = keeps.its_after h (normal_then_passes _) (loose_normal_then g)

  loose_body_end_of : {n n' : Run} → (f : ℕ) → L n n' → (a : Answer) → L (body_end_of f n a) (body_end_of f n' a)
  unfolding body_end_of
  loose_body_end_of f h Normal = h
  loose_body_end_of f h (Go g Leave) = branch_kept L (nat_eq f g) h (keeps.its_give _)
  loose_body_end_of f h a = keeps.its_give a

  pub loose_body_end : {m m' n n' : Run} → (f : ℕ) → L m m' → L n n' → L (body_end f m n) (body_end f m' n')
  unfolding body_end
  loose_body_end f h g = keeps.its_after h (body_end_of_passes f _) (loose_body_end_of f g)
