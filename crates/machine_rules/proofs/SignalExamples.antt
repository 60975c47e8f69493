-- Raises and arms, each with the least turns with which its end is reached.
use Rattle.std.specs.Prelude.{◌≡◌, refl, [], ◌∷◌, codes}
use Rattle.code_forms.specs.declared.instruction.Instruction.TheVariants.{Lit, LoadG, StoreG, Index, Add, DivI, ModC, Eq, JumpIfNot, Call, CallLink, Return, Raise, RaiseHost, ArmEnd, Resume, Leave, Pop}
use Rattle.code_forms.specs.declared.module_code.Label.TheVariants as l
use Rattle.signaller.specs.declared.signal_id.SignalId.TheVariants.{Own, BoundsFault, ZeroDivisor, Unnamed}
use Rattle.machine_rules.specs.declared.end.End.TheVariants.{Done, Uncaught, Spent}
use Rattle.machine_rules.specs.State.{Ended}
use Rattle.machine_rules.proofs.Written.{arm, phrase, procedure, error, signal_with, with_host, Written, alone, Saw, seen}

-- a signal raised inside an arm is offered beyond the phrase that holds the arm
-- R: SIGNAL S; Q: R[! S => BEGIN WriteChar['i]; SIGNAL S; WriteChar['j]; RESUME END]; Q[! S => BEGIN WriteChar['o]; RESUME END];
-- WriteChar['e];
abbrev goes_beyond : Written
goes_beyond = record {
  globals = 0;
  signals = signal_with 0 0 ∷ [];
  strings = [];
  links = with_host [];
  procedures =
      procedure 0 0 0 1
      (Call 1 ∷ Lit 101 ∷ CallLink 0 ∷ Return ∷ Lit 111 ∷ CallLink 0 ∷ Resume 0 ∷ [])
      (phrase 0 5 (arm ((l.Own 0) ∷ []) 0 0 14 25 ∷ []) ∷ [])
      ∷ procedure 0 0 0 1
      (Call 2 ∷ Return ∷ Lit 105 ∷ CallLink 0 ∷ Raise 0 ∷ Lit 106 ∷ CallLink 0 ∷ Resume 0 ∷ [])
      (phrase 0 5 (arm ((l.Own 0) ∷ []) 0 0 6 30 ∷ []) ∷ [])
      ∷ procedure 0 0 0 1 (Raise 0 ∷ Return ∷ []) []
      ∷ [];
}

goes_beyond_11 : seen (alone goes_beyond refl) 11 ≡ Saw (codes "ioje") (Ended Done) 0 0 17
unfolding seen
goes_beyond_11 = refl

-- of two phrases round one call the inner one is asked first, and rejects; then the outer one
-- BEGIN ENABLE S => BEGIN WriteChar['o]; RESUME END; P[! S => WriteChar['i]] END; P: SIGNAL S;
abbrev rejects : Written
rejects = record {
  globals = 0;
  signals = signal_with 0 0 ∷ [];
  strings = [];
  links = with_host [];
  procedures =
      procedure 0 0 0 1
      (Call 1 ∷ Return ∷ Lit 111 ∷ CallLink 0 ∷ Resume 0 ∷ Lit 105 ∷ CallLink 0 ∷ ArmEnd ∷ [])
      (phrase 0 5 (arm ((l.Own 0) ∷ []) 0 0 6 17 ∷ []) ∷ phrase 0 5 (arm ((l.Own 0) ∷ []) 0 0 17 26 ∷ []) ∷ [])
      ∷ procedure 0 0 0 1 (Raise 0 ∷ Return ∷ []) []
      ∷ [];
}

rejects_7 : seen (alone rejects refl) 7 ≡ Saw (codes "io") (Ended Done) 0 0 10
unfolding seen
rejects_7 = refl

rejects_5 : seen (alone rejects refl) 5 ≡ Saw (codes "i") (Ended Spent) 0 0 5
unfolding seen
rejects_5 = refl

-- a signal with one result is not resumed with none; what is resumed with one word goes on with it
-- P: WriteDecimal[SIGNAL S[]]; the inner phrase says RESUME, the outer one writes o and says RESUME[5]
abbrev rejects_words : Written
rejects_words = record {
  globals = 0;
  signals = signal_with 0 1 ∷ [];
  strings = [];
  links = with_host [];
  procedures =
      procedure 0 0 0 1
      (Call 1 ∷ Return ∷ Lit 111 ∷ CallLink 0 ∷ Lit 5 ∷ Resume 1 ∷ Resume 0 ∷ [])
      (phrase 0 5 (arm ((l.Own 0) ∷ []) 0 0 6 20 ∷ []) ∷ phrase 0 5 (arm ((l.Own 0) ∷ []) 0 0 20 23 ∷ []) ∷ [])
      ∷ procedure 0 0 0 1 (Raise 0 ∷ CallLink 2 ∷ Return ∷ []) []
      ∷ [];
}

rejects_words_7 : seen (alone rejects_words refl) 7 ≡ Saw (codes "o5") (Ended Done) 0 0 10
unfolding seen
rejects_words_7 = refl

-- an error is not resumed, and nothing else catches it
abbrev resumes_error : Written
resumes_error = record {
  globals = 0;
  signals = error ∷ [];
  strings = [];
  links = with_host [];
  procedures =
      procedure 0 0 0 1 (Call 1 ∷ Return ∷ Resume 0 ∷ []) (phrase 0 5 (arm ((l.Own 0) ∷ []) 0 0 6 9 ∷ []) ∷ [])
      ∷ procedure 0 0 0 1 (Raise 0 ∷ Return ∷ []) []
      ∷ [];
}

resumes_error_4 : seen (alone resumes_error refl) 4 ≡ Saw [] (Ended (Uncaught (Own 0 0))) 0 0 3
unfolding seen
resumes_error_4 = refl

-- the first fitting arm of a phrase is run, ANY for what no arm before it names: P[! T => WriteChar['t], E, T => WriteChar['e], ANY => ..]
-- with RETRY until each was raised once, in the order T, E, the unnamed error
abbrev first_arm : Written
first_arm = record {
  globals = 1;
  signals = error ∷ error ∷ [];
  strings = [];
  links = with_host [];
  procedures =
      procedure 0 0 0 1
      (Call 1 ∷ Return ∷ Lit 116 ∷ CallLink 0 ∷ Leave 1 0 ∷ Lit 101 ∷ CallLink 0 ∷ Leave 1 0 ∷ Lit 121 ∷ CallLink 0 ∷ Leave 1 5 ∷ [])
      (phrase 0 5 (arm ((l.Own 1) ∷ []) 0 0 6 21 ∷ arm ((l.Own 0) ∷ (l.Own 1) ∷ []) 0 0 21 36 ∷ arm (l.Any ∷ []) 0 0 36 51 ∷ []) ∷ [])
      ∷ procedure 0 0 0 2
      (LoadG 0 1 ∷ Lit 1 ∷ Add ∷ StoreG 0 1 ∷ LoadG 0 1 ∷ Lit 1 ∷ Eq ∷ JumpIfNot 33 ∷ Raise 1 ∷ LoadG 0 1 ∷ Lit 2 ∷ Eq ∷ JumpIfNot 52 ∷ Raise 0 ∷
      RaiseHost 2 ∷ [])
      []
      ∷ [];
}

first_arm_13 : seen (alone first_arm refl) 13 ≡ Saw (codes "tey") (Ended Done) 0 0 48
unfolding seen
first_arm_13 = refl

-- Q: ERROR; Q[! ANY => CONTINUE]; ERROR;
abbrev unnamed : Written
unnamed = record {
  globals = 0;
  signals = [];
  strings = [];
  links = with_host [];
  procedures =
      procedure 0 0 0 0 (Call 1 ∷ RaiseHost 2 ∷ Leave 1 5 ∷ []) (phrase 0 5 (arm (l.Any ∷ []) 0 0 7 14 ∷ []) ∷ [])
      ∷ procedure 0 0 0 0 (RaiseHost 2 ∷ []) []
      ∷ [];
}

unnamed_5 : seen (alone unnamed refl) 5 ≡ Saw [] (Ended (Uncaught Unnamed)) 0 0 4
unfolding seen
unnamed_5 = refl

-- an index that is too large raises BoundsFault, and a divisor 0 ZeroDivisor; nothing catches them, or an arm does, and a label of the one
-- is not for the other
abbrev bounds : Written
bounds = record {
  globals = 0;
  signals = [];
  strings = [];
  links = with_host [];
  procedures =
      procedure 0 0 0 2 (Lit 0 ∷ Lit 3 ∷ Index 3 1 ∷ Pop 1 ∷ Return ∷ []) []
      ∷ [];
}

bounds_2 : seen (alone bounds refl) 2 ≡ Saw [] (Ended (Uncaught BoundsFault)) 0 0 3
unfolding seen
bounds_2 = refl

abbrev divides : Written
divides = record {
  globals = 0;
  signals = [];
  strings = [];
  links = with_host [];
  procedures =
      procedure 0 0 0 2
      (Lit 1 ∷ Lit 0 ∷ DivI ∷ Pop 1 ∷ Return ∷ Lit 98 ∷ CallLink 0 ∷ Leave 1 10 ∷ [])
      (phrase 6 7 (arm (l.BoundsFault ∷ []) 0 0 11 26 ∷ []) ∷ [])
      ∷ [];
}

divides_2 : seen (alone divides refl) 2 ≡ Saw [] (Ended (Uncaught ZeroDivisor)) 0 0 3
unfolding seen
divides_2 = refl

abbrev catches_bounds : Written
catches_bounds = record {
  globals = 0;
  signals = [];
  strings = [];
  links = with_host [];
  procedures =
      procedure 0 0 0 2
      (Lit 0 ∷ Lit 3 ∷ Index 3 1 ∷ Pop 1 ∷ Return ∷ Lit 98 ∷ CallLink 0 ∷ Leave 1 14 ∷ [])
      (phrase 6 11 (arm (l.BoundsFault ∷ []) 0 0 15 30 ∷ []) ∷ [])
      ∷ [];
}

catches_bounds_4 : seen (alone catches_bounds refl) 4 ≡ Saw (codes "b") (Ended Done) 0 0 7
unfolding seen
catches_bounds_4 = refl

abbrev catches_zero : Written
catches_zero = record {
  globals = 0;
  signals = [];
  strings = [];
  links = with_host [];
  procedures =
      procedure 0 0 0 2
      (Lit 1 ∷ Lit 0 ∷ ModC ∷ Pop 1 ∷ Return ∷ Lit 122 ∷ CallLink 0 ∷ Leave 1 10 ∷ ArmEnd ∷ [])
      (phrase 6 7 (arm (l.BoundsFault ∷ l.ZeroDivisor ∷ []) 0 0 11 26 ∷ arm (l.Unwind ∷ []) 0 0 26 27 ∷ []) ∷ [])
      ∷ [];
}

catches_zero_4 : seen (alone catches_zero refl) 4 ≡ Saw (codes "z") (Ended Done) 0 0 7
unfolding seen
catches_zero_4 = refl
