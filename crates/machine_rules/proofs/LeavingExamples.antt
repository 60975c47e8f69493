-- Jumps out of arms, each with the least turns with which its end is reached.
use Rattle.std.specs.Prelude.{◌≡◌, refl, [], ◌∷◌, codes}
use Rattle.code_forms.specs.declared.instruction.Instruction.TheVariants.{Lit, LoadG, StoreG, StoreL, Add, LessI, JumpIfNot, JumpBack, Call, CallLink, Return, Raise, ArmEnd, Resume, Leave, LeaveReturn, Pop}
use Rattle.code_forms.specs.declared.module_code.Label.TheVariants as l
use Rattle.machine_rules.specs.declared.end.End.TheVariants.{Done, Spent}
use Rattle.machine_rules.specs.State.{Ended}
use Rattle.machine_rules.proofs.Written.{arm, phrase, procedure, error, with_host, Written, alone, Saw, seen}

-- E is raised in C, caught where A calls B, and A goes on behind that call; C and B have UNWIND arms:
-- C: BEGIN ENABLE UNWIND => WriteChar['c]; ERROR E END; B: BEGIN ENABLE UNWIND => WriteChar['b]; C[] END;
-- A: BEGIN B[! E => BEGIN WriteChar['a]; CONTINUE END]; WriteChar['d] END; A[];
abbrev pub unwinds : Written
unwinds = record {
  globals = 0;
  signals = error ∷ [];
  strings = [];
  links = with_host [];
  procedures =
      procedure 0 0 0 1 (Call 1 ∷ Return ∷ []) []
      ∷ procedure 0 0 0 1
      (Call 2 ∷ Lit 100 ∷ CallLink 0 ∷ Return ∷ Lit 97 ∷ CallLink 0 ∷ Leave 1 5 ∷ [])
      (phrase 0 5 (arm ((l.Own 0) ∷ []) 0 0 14 29 ∷ []) ∷ [])
      ∷ procedure 0 0 0 1 (Call 3 ∷ Return ∷ Lit 98 ∷ CallLink 0 ∷ ArmEnd ∷ []) (phrase 0 5 (arm (l.Unwind ∷ []) 0 0 6 15 ∷ []) ∷ [])
      ∷ procedure 0 0 0 1 (Raise 0 ∷ Return ∷ Lit 99 ∷ CallLink 0 ∷ ArmEnd ∷ []) (phrase 0 5 (arm (l.Unwind ∷ []) 0 0 6 15 ∷ []) ∷ [])
      ∷ [];
}

-- with its least turns, and cut at each bound
unwinds_12 : seen (alone unwinds refl) 12 ≡ Saw (codes "acbd") (Ended Done) 0 0 17
unfolding seen
unwinds_12 = refl

unwinds_0 : seen (alone unwinds refl) 0 ≡ Saw [] (Ended Spent) 0 0 0
unfolding seen
unwinds_0 = refl

unwinds_1 : seen (alone unwinds refl) 1 ≡ Saw [] (Ended Spent) 0 0 1
unfolding seen
unwinds_1 = refl

unwinds_2 : seen (alone unwinds refl) 2 ≡ Saw [] (Ended Spent) 0 0 2
unfolding seen
unwinds_2 = refl

unwinds_3 : seen (alone unwinds refl) 3 ≡ Saw [] (Ended Spent) 0 0 3
unfolding seen
unwinds_3 = refl

unwinds_4 : seen (alone unwinds refl) 4 ≡ Saw [] (Ended Spent) 0 0 4
unfolding seen
unwinds_4 = refl

unwinds_5 : seen (alone unwinds refl) 5 ≡ Saw [] (Ended Spent) 0 0 4
unfolding seen
unwinds_5 = refl

unwinds_6 : seen (alone unwinds refl) 6 ≡ Saw [] (Ended Spent) 0 0 6
unfolding seen
unwinds_6 = refl

unwinds_7 : seen (alone unwinds refl) 7 ≡ Saw (codes "a") (Ended Spent) 0 0 7
unfolding seen
unwinds_7 = refl

unwinds_8 : seen (alone unwinds refl) 8 ≡ Saw (codes "a") (Ended Spent) 0 0 9
unfolding seen
unwinds_8 = refl

unwinds_9 : seen (alone unwinds refl) 9 ≡ Saw (codes "ac") (Ended Spent) 0 0 10
unfolding seen
unwinds_9 = refl

unwinds_10 : seen (alone unwinds refl) 10 ≡ Saw (codes "ac") (Ended Spent) 0 0 12
unfolding seen
unwinds_10 = refl

unwinds_11 : seen (alone unwinds refl) 11 ≡ Saw (codes "acb") (Ended Spent) 0 0 15
unfolding seen
unwinds_11 = refl

-- the same with the phrase of E round the call as an ENABLE of A, and an UNWIND arm of A within it, which is of the target's own frame:
-- A: BEGIN ENABLE E => BEGIN WriteChar['a]; CONTINUE END; BEGIN ENABLE UNWIND => WriteChar['x]; B[] END END; A[]; WriteChar['d];
abbrev pub unwinds_own : Written
unwinds_own = record {
  globals = 0;
  signals = error ∷ [];
  strings = [];
  links = with_host [];
  procedures =
      procedure 0 0 0 1 (Call 1 ∷ Lit 100 ∷ CallLink 0 ∷ Return ∷ []) []
      ∷ procedure 0 0 0 1
      (Call 2 ∷ Return ∷ Lit 97 ∷ CallLink 0 ∷ Leave 1 5 ∷ Lit 120 ∷ CallLink 0 ∷ ArmEnd ∷ [])
      (phrase 0 5 (arm ((l.Own 0) ∷ []) 0 0 6 21 ∷ []) ∷ phrase 0 5 (arm (l.Unwind ∷ []) 0 0 21 30 ∷ []) ∷ [])
      ∷ procedure 0 0 0 1 (Call 3 ∷ Return ∷ Lit 98 ∷ CallLink 0 ∷ ArmEnd ∷ []) (phrase 0 5 (arm (l.Unwind ∷ []) 0 0 6 15 ∷ []) ∷ [])
      ∷ procedure 0 0 0 1 (Raise 0 ∷ Return ∷ Lit 99 ∷ CallLink 0 ∷ ArmEnd ∷ []) (phrase 0 5 (arm (l.Unwind ∷ []) 0 0 6 15 ∷ []) ∷ [])
      ∷ [];
}

unwinds_own_12 : seen (alone unwinds_own refl) 12 ≡ Saw (codes "acbd") (Ended Done) 0 0 17
unfolding seen
unwinds_own_12 = refl

-- P: BEGIN WriteChar['p]; ERROR E END; P[! E => BEGIN k ← k + 1; IF k < 4 THEN RETRY ELSE CONTINUE END]; WriteDecimal[k];
abbrev retries : Written
retries = record {
  globals = 1;
  signals = error ∷ [];
  strings = [];
  links = with_host [];
  procedures =
      procedure 0 0 0 2
      (Call 1 ∷ LoadG 0 1 ∷ CallLink 2 ∷ Return ∷ LoadG 0 1 ∷ Lit 1 ∷ Add ∷ StoreG 0 1 ∷ LoadG 0 1 ∷ Lit 4 ∷ LessI ∷ JumpIfNot 51 ∷ Leave 1 0 ∷ Leave 1 5 ∷
      [])
      (phrase 0 5 (arm ((l.Own 0) ∷ []) 0 0 16 58 ∷ []) ∷ [])
      ∷ procedure 0 0 0 1 (Lit 112 ∷ CallLink 0 ∷ Raise 0 ∷ Return ∷ []) []
      ∷ [];
}

retries_18 : seen (alone retries refl) 18 ≡ Saw (codes "pppp4") (Ended Done) 0 0 55
unfolding seen
retries_18 = refl

retries_17 : seen (alone retries refl) 17 ≡ Saw (codes "pppp") (Ended Spent) 0 0 54
unfolding seen
retries_17 = refl

-- D: ERROR T; C: BEGIN ENABLE UNWIND => D[]; ERROR E END; B: BEGIN C[! T => BEGIN WriteChar['t]; CONTINUE END]; WriteChar['b] END;
-- A: BEGIN B[! E => BEGIN WriteChar['a]; CONTINUE END]; WriteChar['d] END; A[]; the jump to B replaces the one to A
abbrev pub replaces : Written
replaces = record {
  globals = 0;
  signals = error ∷ error ∷ [];
  strings = [];
  links = with_host [];
  procedures =
      procedure 0 0 0 1 (Call 1 ∷ Return ∷ []) []
      ∷ procedure 0 0 0 1
      (Call 2 ∷ Lit 100 ∷ CallLink 0 ∷ Return ∷ Lit 97 ∷ CallLink 0 ∷ Leave 1 5 ∷ [])
      (phrase 0 5 (arm ((l.Own 0) ∷ []) 0 0 14 29 ∷ []) ∷ [])
      ∷ procedure 0 0 0 1
      (Call 3 ∷ Lit 98 ∷ CallLink 0 ∷ Return ∷ Lit 116 ∷ CallLink 0 ∷ Leave 1 5 ∷ [])
      (phrase 0 5 (arm ((l.Own 1) ∷ []) 0 0 14 29 ∷ []) ∷ [])
      ∷ procedure 0 0 0 1 (Raise 0 ∷ Return ∷ Call 4 ∷ ArmEnd ∷ []) (phrase 0 5 (arm (l.Unwind ∷ []) 0 0 6 12 ∷ []) ∷ [])
      ∷ procedure 0 0 0 1 (Raise 1 ∷ Return ∷ []) []
      ∷ [];
}

replaces_14 : seen (alone replaces refl) 14 ≡ Saw (codes "atbd") (Ended Done) 0 0 19
unfolding seen
replaces_14 = refl

-- C: BEGIN ENABLE UNWIND => WriteChar['c]; ERROR E END; B: BEGIN ENABLE UNWIND => WriteChar['b]; C[! E => D[]] END; D: ERROR T;
-- A: BEGIN B[! T => BEGIN WriteChar['t]; CONTINUE END]; WriteChar['d] END; A[]; B's arm is given up, then C, and B's UNWIND arm runs once
abbrev once : Written
once = record {
  globals = 0;
  signals = error ∷ error ∷ [];
  strings = [];
  links = with_host [];
  procedures =
      procedure 0 0 0 1 (Call 1 ∷ Return ∷ []) []
      ∷ procedure 0 0 0 1
      (Call 2 ∷ Lit 100 ∷ CallLink 0 ∷ Return ∷ Lit 116 ∷ CallLink 0 ∷ Leave 1 5 ∷ [])
      (phrase 0 5 (arm ((l.Own 1) ∷ []) 0 0 14 29 ∷ []) ∷ [])
      ∷ procedure 0 0 0 1
      (Call 3 ∷ Return ∷ Lit 98 ∷ CallLink 0 ∷ ArmEnd ∷ Call 4 ∷ ArmEnd ∷ [])
      (phrase 0 5 (arm (l.Unwind ∷ []) 0 0 6 15 ∷ []) ∷ phrase 0 5 (arm ((l.Own 0) ∷ []) 0 0 15 21 ∷ []) ∷ [])
      ∷ procedure 0 0 0 1 (Raise 0 ∷ Return ∷ Lit 99 ∷ CallLink 0 ∷ ArmEnd ∷ []) (phrase 0 5 (arm (l.Unwind ∷ []) 0 0 6 15 ∷ []) ∷ [])
      ∷ procedure 0 0 0 1 (Raise 1 ∷ Return ∷ []) []
      ∷ [];
}

once_15 : seen (alone once refl) 15 ≡ Saw (codes "tcbd") (Ended Done) 0 0 19
unfolding seen
once_15 = refl

-- an UNWIND arm of B that jumps itself, to B: B goes on and returns to A, whose jump is over
-- B: BEGIN BEGIN ENABLE UNWIND => GOTO x; C[] EXITS x => NULL END; WriteChar['b] END; C: ERROR E;
-- A: BEGIN BEGIN B[! E => BEGIN WriteChar['a]; GOTO d END]; WriteChar['n] EXITS d => NULL END; WriteChar['d] END; A[];
abbrev jumps_inside : Written
jumps_inside = record {
  globals = 0;
  signals = error ∷ [];
  strings = [];
  links = with_host [];
  procedures =
      procedure 0 0 0 1 (Call 1 ∷ Return ∷ []) []
      ∷ procedure 0 0 0 1
      (Call 2 ∷ Lit 110 ∷ CallLink 0 ∷ Lit 100 ∷ CallLink 0 ∷ Return ∷ Lit 97 ∷ CallLink 0 ∷ Leave 1 13 ∷ [])
      (phrase 0 5 (arm ((l.Own 0) ∷ []) 0 0 22 37 ∷ []) ∷ [])
      ∷ procedure 0 0 0 1 (Call 3 ∷ Lit 98 ∷ CallLink 0 ∷ Return ∷ Leave 1 5 ∷ []) (phrase 0 5 (arm (l.Unwind ∷ []) 0 0 14 21 ∷ []) ∷ [])
      ∷ procedure 0 0 0 1 (Raise 0 ∷ Return ∷ []) []
      ∷ [];
}

jumps_inside_11 : seen (alone jumps_inside refl) 11 ≡ Saw (codes "abnd") (Ended Done) 0 0 17
unfolding seen
jumps_inside_11 = refl

-- arms in arms: BEGIN P[! E => BEGIN WriteChar['i]; P[! E => BEGIN WriteChar['o]; GOTO x END, UNWIND => WriteChar['u]] END];
-- WriteChar['n]; EXITS x => NULL END; WriteChar['x]; P: ERROR E; the inner arm leaves both, and the UNWIND arm, which is of the target's own
-- frame, is not run
abbrev leaves_two : Written
leaves_two = record {
  globals = 0;
  signals = error ∷ [];
  strings = [];
  links = with_host [];
  procedures =
      procedure 0 0 0 1
      (Call 1 ∷ Lit 110 ∷ CallLink 0 ∷ Lit 120 ∷ CallLink 0 ∷ Return ∷ Lit 105 ∷ CallLink 0 ∷ Call 1 ∷ ArmEnd ∷ Lit 111 ∷ CallLink 0 ∷ Leave 2 13 ∷
      Lit 117 ∷ CallLink 0 ∷ ArmEnd ∷ [])
      (phrase 0 5 (arm ((l.Own 0) ∷ []) 0 0 22 36 ∷ []) ∷ phrase 30 35 (arm ((l.Own 0) ∷ []) 0 0 36 51 ∷ arm (l.Unwind ∷ []) 0 0 51 60 ∷ []) ∷ [])
      ∷ procedure 0 0 0 1 (Raise 0 ∷ Return ∷ []) []
      ∷ [];
}

leaves_two_10 : seen (alone leaves_two refl) 10 ≡ Saw (codes "iox") (Ended Done) 0 0 12
unfolding seen
leaves_two_10 = refl

-- the same, where the inner arm leaves itself alone, to the outer one: that one, its raiser and the frames under it stay
-- P[! E => BEGIN BEGIN WriteChar['i]; P[! E => BEGIN WriteChar['o]; GOTO k END]; REJECT EXITS k => NULL END; WriteChar['k]; GOTO x END];
abbrev leaves_one : Written
leaves_one = record {
  globals = 0;
  signals = error ∷ [];
  strings = [];
  links = with_host [];
  procedures =
      procedure 0 0 0 1
      (Call 1 ∷ Lit 110 ∷ CallLink 0 ∷ Lit 120 ∷ CallLink 0 ∷ Return ∷ Lit 105 ∷ CallLink 0 ∷ Call 1 ∷ ArmEnd ∷ Lit 107 ∷ CallLink 0 ∷ Leave 1 13 ∷
      Lit 111 ∷ CallLink 0 ∷ Leave 1 36 ∷ [])
      (phrase 0 5 (arm ((l.Own 0) ∷ []) 0 0 22 51 ∷ []) ∷ phrase 30 35 (arm ((l.Own 0) ∷ []) 0 0 51 66 ∷ []) ∷ [])
      ∷ procedure 0 0 0 1 (Raise 0 ∷ Return ∷ []) []
      ∷ [];
}

leaves_one_11 : seen (alone leaves_one refl) 11 ≡ Saw (codes "iokx") (Ended Done) 0 0 15
unfolding seen
leaves_one_11 = refl

-- P: RETURNS [r: INTEGER] = BEGIN Q[! E => RETURN[3]]; r ← 9 END; Q: ERROR E;
-- WriteDecimal[P[]]; DO Q[! E => EXIT]; WriteChar['n] ENDLOOP; WriteChar['x];
abbrev returns_out : Written
returns_out = record {
  globals = 0;
  signals = error ∷ [];
  strings = [];
  links = with_host [];
  procedures =
      procedure 0 0 0 1
      (Call 1 ∷ CallLink 2 ∷ Call 2 ∷ Lit 110 ∷ CallLink 0 ∷ JumpBack 10 ∷ Lit 120 ∷ CallLink 0 ∷ Return ∷ Leave 1 28 ∷ [])
      (phrase 10 15 (arm ((l.Own 0) ∷ []) 0 0 37 44 ∷ []) ∷ [])
      ∷ procedure 0 1 1 1
      (Call 2 ∷ Lit 9 ∷ StoreL 0 1 ∷ Return ∷ Lit 3 ∷ StoreL 0 1 ∷ LeaveReturn 1 ∷ [])
      (phrase 0 5 (arm ((l.Own 0) ∷ []) 0 0 14 25 ∷ []) ∷ [])
      ∷ procedure 0 0 0 1 (Raise 0 ∷ Return ∷ []) []
      ∷ [];
}

returns_out_10 : seen (alone returns_out refl) 10 ≡ Saw (codes "3x") (Ended Done) 0 0 13
unfolding seen
returns_out_10 = refl

-- an UNWIND arm that resumes does as one that ends
abbrev resumes_inside : Written
resumes_inside = record {
  globals = 0;
  signals = error ∷ [];
  strings = [];
  links = with_host [];
  procedures =
      procedure 0 0 0 1 (Call 1 ∷ Return ∷ []) []
      ∷ procedure 0 0 0 1
      (Call 2 ∷ Lit 100 ∷ CallLink 0 ∷ Return ∷ Lit 97 ∷ CallLink 0 ∷ Leave 1 5 ∷ [])
      (phrase 0 5 (arm ((l.Own 0) ∷ []) 0 0 14 29 ∷ []) ∷ [])
      ∷ procedure 0 0 0 1 (Raise 0 ∷ Return ∷ Lit 99 ∷ CallLink 0 ∷ Resume 0 ∷ []) (phrase 0 5 (arm (l.Unwind ∷ []) 0 0 6 17 ∷ []) ∷ [])
      ∷ [];
}

resumes_inside_9 : seen (alone resumes_inside refl) 9 ≡ Saw (codes "acd") (Ended Done) 0 0 13
unfolding seen
resumes_inside_9 = refl

-- code that is not valid, since it finds no word where it writes one: the two words that lie under the call are gone after the jump, and what
-- is not there is 0
abbrev without_operands : Written
without_operands = record {
  globals = 0;
  signals = error ∷ [];
  strings = [];
  links = with_host [];
  procedures =
      procedure 0 0 0 2
      (Lit 7 ∷ Lit 8 ∷ Call 1 ∷ Pop 2 ∷ Return ∷ CallLink 2 ∷ Return ∷ Leave 1 15 ∷ [])
      (phrase 6 11 (arm ((l.Own 0) ∷ []) 0 0 21 28 ∷ []) ∷ [])
      ∷ procedure 0 0 0 1 (Raise 0 ∷ Return ∷ []) []
      ∷ [];
}

without_operands_5 : seen (alone without_operands refl) 5 ≡ Saw (codes "0") (Ended Done) 0 0 7
unfolding seen
without_operands_5 = refl
