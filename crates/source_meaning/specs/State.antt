-- States, answers and runs, and the few ways in which runs are made of runs. Nothing else touches the turns, the
-- activations, the input or the output (rules of this project on turns, activations and the host).
use Rattle.std.specs.Prelude.{ℕ, zero, suc, ◌+◌, ◌-◌, List, [], ◌∷◌, ◌++◌, Bool, true, false, ◌&&◌, nat_eq, nat_lt}
use Rattle.mesa_base.specs.declared.limits.TheConstants.{ACTIVATIONS}
use Rattle.mesa_types.specs.Typed.{Point, Start, After, At, Leave}
use Rattle.source_meaning.specs.Value.{Value, Word, Long, Values, one, nth, word, long}
use Rattle.source_meaning.specs.Program.{Signal}

-- a procedure of an instance; 0 is the body of its module
pub record ProcedureId : Type 0 where
  pub instance : ℕ
  pub number : ℕ

-- what rows read and change: each instance's variables, which instances are started, and of each frame, by its number,
-- whose it is and its variables. A number is drawn when a frame is made and never used again; `fresh` is the next one
pub record Store : Type 0 where
  pub globals : (instance : ℕ) → Values
  pub started : (instance : ℕ) → Bool
  pub procedures : (frame : ℕ) → ProcedureId
  pub variables : (frame : ℕ) → Values
  pub fresh : ℕ

-- what follows the input
pub data Ending : Type 0 where
  End : Ending
  Fault : Ending

-- `standing`: how many activations there are, which are frames and running arms
pub record State : Type 0 where
  pub store : Store
  pub input : List ℕ
  pub ending : Ending
  pub output : List ℕ
  pub turns : ℕ
  pub standing : ℕ

-- Retried and Continued name the statement to which the phrase of the arm belongs
pub data Answer : Type 0 where
  Normal : Answer
  Gives : Values → Answer
  Go : (frame : ℕ) → Point → Answer
  Resumed : Values → Answer
  Rejected : Answer
  Retried : (statement : ℕ) → Answer
  Continued : (statement : ℕ) → Answer
  Uncaught : Signal → Answer
  Spent : Answer
  FrameLimit : Answer
  Broken : Answer

pub record Result : Type 0 where
  pub answer : Answer
  pub state : State

abbrev pub Run : Type 0
Run = State → Result

unfoldable pub give : Answer → Run
give a σ = record { answer = a; state = σ }

-- the first run, and what comes of its answer
unfoldable pub carry : Result → (Answer → Run) → Result
carry r k = k r.answer r.state

unfoldable pub after : Run → (Answer → Run) → Run
after m k σ = carry (m σ) k

unfoldable pub look : (Store → Run) → Run
look k σ = k σ.store σ

unfoldable pub change : (Store → Store) → Run → Run
change f m σ = m (record σ { store = f σ.store })

-- takes one turn and goes on, or the run ends
unfoldable pub spend_of : ℕ → Run → Run
spend_of zero m σ = give Spent σ
spend_of (suc n) m σ = m (record σ { turns = n })

unfoldable pub spend : Run → Run
spend m σ = spend_of σ.turns m σ

-- as one more activation, which is given up at the end; where 8,192 stand the run ends
unfoldable pub leave : Result → Result
leave r = record { answer = r.answer; state = record r.state { standing = r.state.standing - 1 } }

unfoldable pub enter_if : Bool → Run → Run
enter_if false m σ = give FrameLimit σ
enter_if true m σ = leave (m (record σ { standing = σ.standing + 1 }))

unfoldable pub enter : Run → Run
enter m σ = enter_if (nat_lt σ.standing ACTIVATIONS) m σ

unfoldable pub put : List ℕ → Run → Run
put text m σ = m (record σ { output = σ.output ++ text })

-- the next byte of the input, or what to do at its end
unfoldable pub read_of : List ℕ → Ending → (ℕ → Run) → Run → Run
read_of (b ∷ bs) e k m σ = k b (record σ { input = bs })
read_of [] End k m σ = m σ
read_of [] Fault k m σ = give Broken σ

unfoldable pub read : (ℕ → Run) → Run → Run
read k m σ = read_of σ.input σ.ending k m σ

-- whether the input is at its end
unfoldable pub peek_of : List ℕ → Ending → (Bool → Run) → Run
peek_of (b ∷ bs) e k σ = k false σ
peek_of [] End k σ = k true σ
peek_of [] Fault k σ = give Broken σ

unfoldable pub peek : (Bool → Run) → Run
peek k σ = peek_of σ.input σ.ending k σ

-- What follows is made of the runs above.

unfoldable pub branch : Bool → Run → Run → Run
branch true m n = m
branch false m n = n

-- the first answer that is no value is the answer
unfoldable pub value_then : (Values → Run) → Answer → Run
value_then k (Gives vs) = k vs
value_then k a = give a

unfoldable pub on_values : Run → (Values → Run) → Run
on_values m k = after m (value_then k)

unfoldable pub on_value : Run → (Value → Run) → Run
on_value m k = on_values m (λ vs. k (nth vs 0))

unfoldable pub on_word : Run → (ℕ → Run) → Run
on_word m k = on_values m (λ vs. k (word (nth vs 0)))

unfoldable pub on_long : Run → (ℕ → Run) → Run
on_long m k = on_values m (λ vs. k (long (nth vs 0)))

unfoldable pub give_value : Value → Run
give_value v = give (Gives (one v))

unfoldable pub give_word : ℕ → Run
give_word n = give_value (Word n)

unfoldable pub give_long : ℕ → Run
give_long n = give_value (Long n)

-- the first answer that is not Normal is the answer
unfoldable pub normal_then : Run → Answer → Run
normal_then m Normal = m
normal_then m a = give a

unfoldable pub on_normal : Run → Run → Run
on_normal m n = after m (normal_then n)

-- values that nobody takes
unfoldable pub dropped_of : Answer → Run
dropped_of (Gives vs) = give Normal
dropped_of a = give a

unfoldable pub dropped : Run → Run
dropped m = after m dropped_of

-- the points of a statement of frame f: its start, where it is run again, and the place after it
unfoldable pub marked_of : ℕ → ℕ → Run → Answer → Run
marked_of f n again (Go g (Start k)) = branch (nat_eq f g && nat_eq n k) again (give (Go g (Start k)))
marked_of f n again (Go g (After k)) = branch (nat_eq f g && nat_eq n k) (give Normal) (give (Go g (After k)))
marked_of f n again a = give a

unfoldable pub marked : ℕ → ℕ → Run → Run → Run
marked f n m again = after m (marked_of f n again)

-- the labels of a statement of frame f
unfoldable pub labelled_of : ℕ → (ℕ → Run) → Answer → Run
labelled_of f k (Go g (At l)) = branch (nat_eq f g) (k l) (give (Go g (At l)))
labelled_of f k a = give a

unfoldable pub labelled : ℕ → Run → (ℕ → Run) → Run
labelled f m k = after m (labelled_of f k)

-- the end of the body of frame f, which comes where it ends or where a jump leads to its return
unfoldable pub body_end_of : ℕ → Run → Answer → Run
body_end_of f m Normal = m
body_end_of f m (Go g Leave) = branch (nat_eq f g) m (give (Go g Leave))
body_end_of f m a = give a

unfoldable pub body_end : ℕ → Run → Run → Run
body_end f m n = after m (body_end_of f n)
