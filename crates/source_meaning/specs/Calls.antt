-- Calls and starts (Language Manual, chapters 4 and 7; when an instance is started is a rule of this project), and the
-- procedures of the host.
use Rattle.std.specs.Prelude.{ℕ, ◌%◌, List, [], ◌∷◌, true, ◌||◌, nat_eq}
use Rattle.mesa_base.specs.Decimal.{signed_word}
use Rattle.mesa_types.specs.Typed.{Procedure}
use Rattle.mesa_types.specs.Shapes.{count_in}
use Rattle.mesa_types.specs.Plain.{kinds_of}
use Rattle.source_meaning.specs.Value.{Values, NoValues, nth, some_from, join, word, bytes, zeros}
use Rattle.mesa_types.specs.Operators.{truth}
use Rattle.source_meaning.specs.Program.{Host, WriteChar, WriteString, WriteDecimal, ReadChar, EndOfInput, NoInput, Target, ToProcedure, ToHost, ToSignal, Program, procedure_of, beyond_parameters}
use Rattle.source_meaning.specs.State.{Store, Normal, Gives, Run, give, give_word, look, change, spend, enter, put, read, peek, branch, on_normal, body_end}
use Rattle.source_meaning.specs.Variables.{Enabled, Where, put_at, in_frame}
use Rattle.source_meaning.specs.Signals.{Next, raise}

-- procedure q of instance j with its arguments, in a frame of its own; what it gives is made of the frame
unfoldable pub run_procedure : Program → Next → (j q : ℕ) → List Enabled → Values → (ℕ → Run) → Run
run_procedure P next j q chain vs end =
    enter (in_frame (record { instance = j; number = q }) (join vs (zeros (beyond_parameters (procedure_of P j q)))) λ h.
    body_end h (λ σ. next (procedure_of P j q).body.does (record { frame = h; instance = j; chain = chain }) σ) (end h))

-- Starts.

unfoldable pub mark_started : ℕ → Store → Store
mark_started j s = record s { started = put_at s.started j true }

-- the body of instance j
unfoldable pub start : Program → Next → ℕ → List Enabled → Run
start P next j chain = change (mark_started j) (spend (run_procedure P next j 0 chain NoValues (λ h. give Normal)))

-- in a call from instance i to instance j
unfoldable pub start_first : Program → Next → (i j : ℕ) → List Enabled → Run → Run
start_first P next i j chain m = look λ s. branch (nat_eq i j || s.started j) m (on_normal (start P next j chain) m)

-- Calls.

-- the present values of the result variables
unfoldable pub results : Procedure → ℕ → Run
results p h = look λ s. give (Gives (some_from (s.variables h) (count_in (kinds_of p.head.takes)) (count_in (kinds_of p.head.gives))))

unfoldable pub host : Program → Next → Where → Host → Values → Run
host P next w WriteChar vs = put (word (nth vs 0) % 256 ∷ []) (give (Gives NoValues))
host P next w WriteString vs = put (bytes (nth vs 0)) (give (Gives NoValues))
host P next w WriteDecimal vs = put (signed_word (word (nth vs 0))) (give (Gives NoValues))
host P next w ReadChar vs = read (λ b. give_word b) (raise P next w NoInput NoValues)
host P next w EndOfInput vs = peek (λ b. give_word (truth b))

-- what is no procedure gives no value; no lawful program calls it
unfoldable pub call_to : Program → Next → Where → Target → Values → Run
call_to P next w (ToProcedure j q) vs =
    start_first P next w.instance j w.chain (run_procedure P next j q w.chain vs (results (procedure_of P j q)))
call_to P next w (ToHost h) vs = host P next w h vs
call_to P next w (ToSignal s) vs = give (Gives NoValues)

-- in w, whose chain has the phrase of the call
unfoldable pub call : Program → Next → Where → Target → Values → Run
call P next w t vs = spend (call_to P next w t vs)
