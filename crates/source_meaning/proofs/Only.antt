-- Runs that give only some answers. What follows the input stays, and a run is broken only where that is a fault.
use Rattle.std.specs.Prelude.{◌≡◌, refl, ℕ, zero, suc, List, [], ◌∷◌, Bool, true, false}
use mathlib.Core.Path.{◌∙◌, sym}
use Rattle.mesa_types.specs.Typed.{Point}
use Rattle.source_meaning.specs.Value.{Value, Values, nth, word, long}
use Rattle.source_meaning.specs.State.{ProcedureId, State, Store, Ending, End, Fault, Answer, Normal, Gives, Go, Resumed, Rejected, Retried, Continued, Uncaught, Spent, FrameLimit, Broken, Run, give, give_value, give_word, give_long, carry, after, look, change, spend_of, spend, leave, enter_if, enter, put, read_of, read, peek_of, peek, branch, value_then, on_values, on_value, on_word, on_long, normal_then, on_normal, dropped_of, dropped}
use Rattle.source_meaning.specs.Variables.{add_frame, in_frame}

-- which answers: `again` says of which statements RETRY and CONTINUE may be, `jumps` to which points of which frames
pub record Answers : Type 1 where
  pub ending : Ending
  pub normal : Type 0
  pub gives : Type 0
  pub resumed : Type 0
  pub rejected : Type 0
  pub again : ℕ → Type 0
  pub jumps : ℕ → Point → Type 0

unfoldable pub Allow : Answers → Answer → Type 0
Allow A Normal = A.normal
Allow A (Gives vs) = A.gives
Allow A (Go f p) = A.jumps f p
Allow A (Resumed vs) = A.resumed
Allow A Rejected = A.rejected
Allow A (Retried n) = A.again n
Allow A (Continued n) = A.again n
Allow A (Uncaught s) = Unit {0}
Allow A Spent = Unit {0}
Allow A FrameLimit = Unit {0}
Allow A Broken = A.ending ≡ Fault

-- of an expression: values alone
abbrev pub as_expression : Answers → Answers
as_expression A = record { ending = A.ending; normal = ⊥; gives = Unit {0}; resumed = ⊥; rejected = ⊥; again = λ n. ⊥; jumps = A.jumps }

-- of a fault: neither values nor an end of a statement
abbrev pub as_fault : Answers → Answers
as_fault A = record { ending = A.ending; normal = ⊥; gives = ⊥; resumed = ⊥; rejected = ⊥; again = λ n. ⊥; jumps = A.jumps }

pub record Only (A : Answers) (m : Run) : Type 0 where
  pub its : (σ : State) → σ.ending ≡ A.ending → Allow A (m σ).answer
  pub stays : (σ : State) → σ.ending ≡ A.ending → (m σ).state.ending ≡ A.ending

pub only_give : (A : Answers) (a : Answer) → Allow A a → Only A (give a)
unfolding give
only_give A a h = record { its = λ σ e. h; stays = λ σ e. e }

-- what is allowed less is allowed
pub record Wider (A B : Answers) : Type 0 where
  pub ending : A.ending ≡ B.ending
  pub normal : A.normal → B.normal
  pub gives : A.gives → B.gives
  pub resumed : A.resumed → B.resumed
  pub rejected : A.rejected → B.rejected
  pub again : (n : ℕ) → A.again n → B.again n
  pub jumps : (f : ℕ) (p : Point) → A.jumps f p → B.jumps f p

allow_wider : {A B : Answers} → Wider A B → (a : Answer) → Allow A a → Allow B a
unfolding Allow
allow_wider w Normal h = w.normal h
allow_wider w (Gives vs) h = w.gives h
allow_wider w (Go f p) h = w.jumps f p h
allow_wider w (Resumed vs) h = w.resumed h
allow_wider w Rejected h = w.rejected h
allow_wider w (Retried n) h = w.again n h
allow_wider w (Continued n) h = w.again n h
allow_wider w (Uncaught s) h = tt
allow_wider w Spent h = tt
allow_wider w FrameLimit h = tt
allow_wider w Broken h = sym w.ending ∙ h

pub only_wider : {A B : Answers} {m : Run} → Wider A B → Only A m → Only B m
only_wider w h = record { its = λ σ e. allow_wider w _ (h.its σ (e ∙ sym w.ending)); stays = λ σ e. h.stays σ (e ∙ sym w.ending) ∙ w.ending }

pub only_after : {A B : Answers} {m : Run} {k : Answer → Run} → A.ending ≡ B.ending → Only A m → ((a : Answer) → Allow A a → Only B (k a)) → Only B (after m k)
unfolding after carry
only_after same h g = record {
  its = λ σ e. (g _ (h.its σ (e ∙ sym same))).its _ (h.stays σ (e ∙ sym same) ∙ same);
  stays = λ σ e. (g _ (h.its σ (e ∙ sym same))).stays _ (h.stays σ (e ∙ sym same) ∙ same);
}

pub only_look : {A : Answers} {k : Store → Run} → ((s : Store) → Only A (k s)) → Only A (look k)
unfolding look
only_look g = record { its = λ σ e. (g _).its σ e; stays = λ σ e. (g _).stays σ e }

pub only_change : {A : Answers} {m : Run} → (f : Store → Store) → Only A m → Only A (change f m)
unfolding change
only_change f h = record { its = λ σ e. h.its _ e; stays = λ σ e. h.stays _ e }

spend_of_only : {A : Answers} {m : Run} → Only A m → (n : ℕ) (σ : State) → σ.ending ≡ A.ending → Allow A (spend_of n m σ).answer × ((spend_of n m σ).state.ending ≡ A.ending)
unfolding spend_of give Allow
spend_of_only h zero σ e = (tt, e)
spend_of_only h (suc n) σ e = (h.its _ e, h.stays _ e)

pub only_spend : {A : Answers} {m : Run} → Only A m → Only A (spend m)
unfolding spend
only_spend h = record { its = λ σ e. (spend_of_only h σ.turns σ e).0; stays = λ σ e. (spend_of_only h σ.turns σ e).1 }

enter_if_only : {A : Answers} {m : Run} → Only A m → (b : Bool) (σ : State) → σ.ending ≡ A.ending → Allow A (enter_if b m σ).answer × ((enter_if b m σ).state.ending ≡ A.ending)
unfolding enter_if give leave Allow
enter_if_only h false σ e = (tt, e)
enter_if_only h true σ e = (h.its _ e, h.stays _ e)

pub only_enter : {A : Answers} {m : Run} → Only A m → Only A (enter m)
unfolding enter
only_enter h = record { its = λ σ e. (enter_if_only h _ σ e).0; stays = λ σ e. (enter_if_only h _ σ e).1 }

pub only_put : {A : Answers} {m : Run} → (text : List ℕ) → Only A m → Only A (put text m)
unfolding put
only_put text h = record { its = λ σ e. h.its _ e; stays = λ σ e. h.stays _ e }

-- broken only where a fault follows the input

read_of_only : {A : Answers} {k : ℕ → Run} {m : Run} → ((b : ℕ) → Only A (k b)) → Only A m → (bs : List ℕ) (end : Ending) (σ : State) → σ.ending ≡ end → σ.ending ≡ A.ending →
    Allow A (read_of bs end k m σ).answer × ((read_of bs end k m σ).state.ending ≡ A.ending)
unfolding read_of give Allow
read_of_only g h (b ∷ bs) end σ d e = ((g b).its _ e, (g b).stays _ e)
read_of_only g h [] End σ d e = (h.its σ e, h.stays σ e)
read_of_only g h [] Fault σ d e = (sym e ∙ d, e)

pub only_read : {A : Answers} {k : ℕ → Run} {m : Run} → ((b : ℕ) → Only A (k b)) → Only A m → Only A (read k m)
unfolding read
only_read g h = record { its = λ σ e. (read_of_only g h _ _ σ refl e).0; stays = λ σ e. (read_of_only g h _ _ σ refl e).1 }

peek_of_only : {A : Answers} {k : Bool → Run} → ((b : Bool) → Only A (k b)) → (bs : List ℕ) (end : Ending) (σ : State) → σ.ending ≡ end → σ.ending ≡ A.ending →
    Allow A (peek_of bs end k σ).answer × ((peek_of bs end k σ).state.ending ≡ A.ending)
unfolding peek_of give Allow
peek_of_only g (b ∷ bs) end σ d e = ((g _).its σ e, (g _).stays σ e)
peek_of_only g [] End σ d e = ((g _).its σ e, (g _).stays σ e)
peek_of_only g [] Fault σ d e = (sym e ∙ d, e)

pub only_peek : {A : Answers} {k : Bool → Run} → ((b : Bool) → Only A (k b)) → Only A (peek k)
unfolding peek
only_peek g = record { its = λ σ e. (peek_of_only g _ _ σ refl e).0; stays = λ σ e. (peek_of_only g _ _ σ refl e).1 }

-- What is made of these.

pub only_branch : {A : Answers} {m n : Run} → (b : Bool) → Only A m → Only A n → Only A (branch b m n)
unfolding branch
only_branch true h g = h
only_branch false h g = g

pub only_frame : {A : Answers} {k : ℕ → Run} → (p : ProcedureId) (vs : Values) → ((h : ℕ) → Only A (k h)) → Only A (in_frame p vs k)
unfolding in_frame
only_frame p vs g = only_look λ s. only_change (add_frame p vs) (g s.fresh)

value_then_only : (A : Answers) {k : Values → Run} → ((vs : Values) → Only A (k vs)) → (a : Answer) → Allow (as_expression A) a → Only A (value_then k a)
unfolding value_then Allow
value_then_only A g (Gives vs) h = g vs
value_then_only A g Normal h = absurd h
value_then_only A g (Go f p) h = only_give A (Go f p) h
value_then_only A g (Resumed vs) h = absurd h
value_then_only A g Rejected h = absurd h
value_then_only A g (Retried n) h = absurd h
value_then_only A g (Continued n) h = absurd h
value_then_only A g (Uncaught s) h = only_give A (Uncaught s) tt
value_then_only A g Spent h = only_give A Spent tt
value_then_only A g FrameLimit h = only_give A FrameLimit tt
value_then_only A g Broken h = only_give A Broken h

pub only_values : (A : Answers) {m : Run} {k : Values → Run} → Only (as_expression A) m → ((vs : Values) → Only A (k vs)) → Only A (on_values m k)
unfolding on_values
only_values A h g = only_after refl h (value_then_only A g)

pub only_value : (A : Answers) {m : Run} {k : Value → Run} → Only (as_expression A) m → ((x : Value) → Only A (k x)) → Only A (on_value m k)
unfolding on_value
only_value A h g = only_values A h λ vs. g (nth vs 0)

pub only_word : (A : Answers) {m : Run} {k : ℕ → Run} → Only (as_expression A) m → ((n : ℕ) → Only A (k n)) → Only A (on_word m k)
unfolding on_word
only_word A h g = only_values A h λ vs. g (word (nth vs 0))

pub only_long : (A : Answers) {m : Run} {k : ℕ → Run} → Only (as_expression A) m → ((n : ℕ) → Only A (k n)) → Only A (on_long m k)
unfolding on_long
only_long A h g = only_values A h λ vs. g (long (nth vs 0))

pub only_result : (A : Answers) → A.gives → (v : Value) → Only A (give_value v)
unfolding give_value Allow
only_result A g v = only_give A _ g

pub only_number : (A : Answers) → A.gives → (n : ℕ) → Only A (give_word n)
unfolding give_word
only_number A g n = only_result A g _

pub only_long_number : (A : Answers) → A.gives → (n : ℕ) → Only A (give_long n)
unfolding give_long
only_long_number A g n = only_result A g _

-- of a statement before others: it may end
abbrev pub as_first : Answers → Answers
as_first A = record { ending = A.ending; normal = Unit {0}; gives = ⊥; resumed = A.resumed; rejected = A.rejected; again = A.again; jumps = A.jumps }

normal_then_only : (A : Answers) {n : Run} → Only A n → (a : Answer) → Allow (as_first A) a → Only A (normal_then n a)
unfolding normal_then Allow
normal_then_only A g Normal h = g
normal_then_only A g (Gives vs) h = absurd h
normal_then_only A g (Go f p) h = only_give A (Go f p) h
normal_then_only A g (Resumed vs) h = only_give A (Resumed vs) h
normal_then_only A g Rejected h = only_give A Rejected h
normal_then_only A g (Retried n) h = only_give A (Retried n) h
normal_then_only A g (Continued n) h = only_give A (Continued n) h
normal_then_only A g (Uncaught s) h = only_give A (Uncaught s) tt
normal_then_only A g Spent h = only_give A Spent tt
normal_then_only A g FrameLimit h = only_give A FrameLimit tt
normal_then_only A g Broken h = only_give A Broken h

pub only_normal : (A : Answers) {m n : Run} → Only (as_first A) m → Only A n → Only A (on_normal m n)
unfolding on_normal
only_normal A h g = only_after refl h (normal_then_only A g)

dropped_of_only : (A : Answers) → A.normal → (a : Answer) → Allow (as_expression A) a → Only A (dropped_of a)
unfolding dropped_of Allow
dropped_of_only A o (Gives vs) h = only_give A Normal o
dropped_of_only A o Normal h = absurd h
dropped_of_only A o (Go f p) h = only_give A (Go f p) h
dropped_of_only A o (Resumed vs) h = absurd h
dropped_of_only A o Rejected h = absurd h
dropped_of_only A o (Retried n) h = absurd h
dropped_of_only A o (Continued n) h = absurd h
dropped_of_only A o (Uncaught s) h = only_give A (Uncaught s) tt
dropped_of_only A o Spent h = only_give A Spent tt
dropped_of_only A o FrameLimit h = only_give A FrameLimit tt
dropped_of_only A o Broken h = only_give A Broken h

pub only_dropped : (A : Answers) {m : Run} → A.normal → Only (as_expression A) m → Only A (dropped m)
unfolding dropped
only_dropped A o h = only_after refl h (dropped_of_only A o)

-- a fault serves expressions and statements alike
pub only_fault : (A : Answers) {m : Run} → Only (as_fault A) m → Only A m
only_fault A h = only_wider (record {
  ending = refl;
  normal = λ x. absurd x;
  gives = λ x. absurd x;
  resumed = λ x. absurd x;
  rejected = λ x. absurd x;
  again = λ n x. absurd x;
  jumps = λ f p x. x;
}) h
