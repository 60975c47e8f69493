-- Signals: which arm is asked, what it answers, and what a jump runs on its way out (Language Manual, chapter 8; the order
-- in which phrases are asked, where RETRY and CONTINUE go, and when an UNWIND arm is run, are rules of this project). What is
-- no part of the construct is run through `next`.
use Rattle.std.specs.Prelude.{ℕ, zero, suc, List, [], ◌∷◌, Bool, true, false, ◌&&◌, ◌||◌, nat_eq, if◌then◌else◌}
use Rattle.mesa_types.specs.Typed.{Start, After, Phrase, NoPhrase, Catch, Arms, NoArms, AndArm, Stmt}
use Rattle.mesa_types.specs.declared.typed_parts.Label.{Label}
use Rattle.mesa_types.specs.declared.typed_parts.Label.TheVariants.{OnAny, OnUnwind, OnOwn, OnLinked, OnBounds, OnZero}
use Rattle.source_meaning.specs.Value.{Values, NoValues, how_many, some_from}
use Rattle.mesa_types.specs.Operators.{WordFault, OutOfBounds, DividedByZero, Tried, Fine, Faulty}
use Rattle.source_meaning.specs.Program.{Signal, SignalOf, BoundsFault, ZeroDivisor, NoInput, Unnamed, Program, linked_signal, resumes}
use Rattle.source_meaning.specs.State.{Store, Answer, Normal, Gives, Go, Resumed, Rejected, Retried, Continued, Uncaught, Run, give, after, change, spend, enter, branch}
use Rattle.source_meaning.specs.Variables.{Enabled, Where, store_from}

-- what is run with one turn less: any statement, anywhere
abbrev pub Next : Type 0
Next = Stmt → Where → Run

-- Phrases.

unfoldable pub same_signal : Signal → Signal → Bool
same_signal (SignalOf i n) (SignalOf j m) = nat_eq i j && nat_eq n m
same_signal BoundsFault BoundsFault = true
same_signal ZeroDivisor ZeroDivisor = true
same_signal NoInput NoInput = true
same_signal Unnamed Unnamed = true
same_signal _ _ = false

-- whether a label of a phrase of instance i is for a signal
unfoldable pub is_for : Program → ℕ → Signal → Label → Bool
is_for P i sig OnAny = true
is_for P i sig OnUnwind = false
is_for P i sig (OnOwn n) = same_signal sig (SignalOf i n)
is_for P i sig (OnLinked import item) = same_signal sig (linked_signal P i import item)
is_for P i sig OnBounds = same_signal sig BoundsFault
is_for P i sig OnZero = same_signal sig ZeroDivisor

unfoldable pub is_unwind : Label → Bool
is_unwind OnUnwind = true
is_unwind _ = false

unfoldable pub some_label : (Label → Bool) → List Label → Bool
some_label fits [] = false
some_label fits (l ∷ ls) = fits l || some_label fits ls

pub data Arm : Type 0 where
  NoArm : Arm
  TheArm : (first count : ℕ) → Stmt → Arm

-- the first arm with a label that fits
unfoldable pub arm_in : (Label → Bool) → Arms → Arm
arm_in fits NoArms = NoArm
arm_in fits (AndArm ls first count s arms) = if some_label fits ls then TheArm first count s else arm_in fits arms

unfoldable pub first_arm : (Label → Bool) → Phrase → Arm
first_arm fits NoPhrase = NoArm
first_arm fits (Catch n arms) = arm_in fits arms

-- with the phrase before the chain
unfoldable pub catching : Phrase → Where → Where
catching NoPhrase w = w
catching (Catch n arms) w = record w { chain = record { owner = w.frame; instance = w.instance; phrase = Catch n arms } ∷ w.chain }

-- Arms.

-- RETRY and CONTINUE of an arm are jumps to the points of the statement of its phrase
unfoldable pub arm_answer : (owner : ℕ) → Answer → Run
arm_answer f (Retried n) = give (Go f (Start n))
arm_answer f (Continued n) = give (Go f (After n))
arm_answer f a = give a

-- an arm's statement, in the frame of its phrase and with the phrases beyond it enabled
unfoldable pub arm_body : Next → Enabled → List Enabled → Stmt → Run
arm_body next l chain s =
    let w : Where = record { frame = l.owner; instance = l.instance; chain = chain } in
    after (λ σ. next s w σ) (arm_answer l.owner)

-- an arm's parameters, where some are visible
unfoldable pub put_parameters : Enabled → (first count : ℕ) → Values → Store → Store
put_parameters l first zero vs s = s
put_parameters l first (suc n) vs s = store_from (record { frame = l.owner; instance = l.instance; chain = [] }) first (some_from vs 0 (suc n)) s

-- for a raise: spend, enter, put the parameters, run the arm, leave
unfoldable pub run_arm : Next → Enabled → List Enabled → (first count : ℕ) → Stmt → Values → Run
run_arm next l chain first count s vs = spend (enter (change (put_parameters l first count vs) (arm_body next l chain s)))

-- for a jump: spend, enter, run the arm, leave
unfoldable pub run_unwind_arm : Next → Enabled → List Enabled → Stmt → Run
run_unwind_arm next l chain s = spend (enter (arm_body next l chain s))

-- Raises.

-- an arm that comes to its end, or rejects, has the next phrase asked; so has one that gives back what the signal does not take
unfoldable pub asked : Program → Signal → Run → Answer → Run
asked P sig others Normal = others
asked P sig others Rejected = others
asked P sig others (Resumed vs) = branch (resumes P sig (how_many vs)) (give (Gives vs)) others
asked P sig others a = give a

unfoldable pub ask_arm : Program → Next → Signal → Arm → Enabled → List Enabled → Values → Run → Run
ask_arm P next sig NoArm l chain vs others = others
ask_arm P next sig (TheArm first count s) l chain vs others = after (run_arm next l chain first count s vs) (asked P sig others)

-- the phrases of the chain are asked from the innermost outward
unfoldable pub ask : Program → Next → Signal → Values → List Enabled → Run
ask P next sig vs [] = give (Uncaught sig)
ask P next sig vs (l ∷ chain) =
    ask_arm P next sig (first_arm (is_for P l.instance sig) l.phrase) l chain vs (ask P next sig vs chain)

unfoldable pub raise : Program → Next → Where → Signal → Values → Run
raise P next w sig vs = spend (ask P next sig vs w.chain)

unfoldable pub raised_for : WordFault → Signal
raised_for OutOfBounds = BoundsFault
raised_for DividedByZero = ZeroDivisor

-- goes on with the word, or raises the fault in its place
unfoldable pub on_tried : Program → Next → Where → Tried → (ℕ → Run) → Run
on_tried P next w (Fine n) k = k n
on_tried P next w (Faulty f) k = raise P next w (raised_for f) NoValues

-- Jumps out of a phrase.

-- the jump goes on, unless the UNWIND arm jumps itself or ends the run
unfoldable pub unwound : Answer → Answer → Run
unwound jump Normal = give jump
unwound jump Rejected = give jump
unwound jump (Resumed vs) = give jump
unwound jump (Gives vs) = give jump
unwound jump a = give a

unfoldable pub unwind : Next → Where → Phrase → Arm → Answer → Run
unwind next w ph NoArm jump = give jump
unwind next w ph (TheArm first count s) jump =
    after (run_unwind_arm next (record { owner = w.frame; instance = w.instance; phrase = ph }) w.chain s) (unwound jump)

-- a jump to another frame runs the phrase's first UNWIND arm
unfoldable pub through_of : Next → Where → Phrase → Answer → Run
through_of next w ph (Go f p) = branch (nat_eq f w.frame) (give (Go f p)) (unwind next w ph (first_arm is_unwind ph) (Go f p))
through_of next w ph a = give a

unfoldable pub through : Next → Where → Phrase → Run → Run
through next w ph m = after m (through_of next w ph)
