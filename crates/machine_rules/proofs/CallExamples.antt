-- Calls, starts, the host and its input, and how activations are counted; each run with the least turns with which its end is reached.
use Rattle.std.specs.Prelude.{◌≡◌, refl, ℕ, List, [], ◌∷◌, length, replicate, ◌<◌, ◌≤◌, codes, true, false}
use Rattle.std.proofs.lemmas.Bool.{lt-ltb, le-ltb}
use Rattle.code_forms.specs.declared.instruction.Instruction.TheVariants.{Lit, Str, LoadL, StoreL, LoadG, StoreG, Add, Sub, Mul, Eq, LessI, JumpIf, JumpIfNot, JumpBack, Call, CallLink, Return, Raise, RaiseLink, Resume, Leave, Pop}
use Rattle.code_forms.specs.declared.module_code.Label.TheVariants as l
use Rattle.object_files.specs.declared.image.Image.{Image}
use Rattle.object_files.specs.declared.image.Link.TheVariants.{To}
use Rattle.signaller.specs.declared.signal_id.SignalId.TheVariants.{Own, NoInput}
use Rattle.machine_rules.specs.declared.end.End.TheVariants.{Done, Uncaught, Spent, FrameLimit}
use Rattle.machine_rules.specs.State.{Frame, Active, Activations, Store, Runs, Ended, Broken, Stepped, Goes, Stops}
use Rattle.machine_rules.specs.Moves.{enter}
use Rattle.machine_rules.specs.Steps.{fresh}
use Rattle.machine_rules.proofs.Written.{arm, phrase, procedure, error, signal_with, procedure_link, signal_link, error_link, with_host, Written, object, bound_to_host, image_of, alone, Saw, seen, seen_over, seen_from}

-- a body that does nothing; its start spends a turn
abbrev nothing : Written
nothing = record {
  globals = 0;
  signals = [];
  strings = [];
  links = with_host [];
  procedures =
      procedure 0 0 0 0 (Return ∷ []) []
      ∷ [];
}

nothing_1 : seen (alone nothing refl) 1 ≡ Saw [] (Ended Done) 0 0 1
unfolding seen
nothing_1 = refl

nothing_0 : seen (alone nothing refl) 0 ≡ Saw [] (Ended Spent) 0 0 0
unfolding seen
nothing_0 = refl

nothing_5 : seen (alone nothing refl) 5 ≡ Saw [] (Ended Done) 4 0 1
unfolding seen
nothing_5 = refl

-- UNTIL EndOfInput[] DO WriteChar[ReadChar[]] ENDLOOP
abbrev echoes : Written
echoes = record {
  globals = 0;
  signals = [];
  strings = [];
  links = with_host [];
  procedures =
      procedure 0 0 0 1 (CallLink 4 ∷ JumpIf 25 ∷ CallLink 3 ∷ CallLink 0 ∷ JumpBack 0 ∷ Return ∷ []) []
      ∷ [];
}

-- with its least turns, and cut at each bound; so many bytes were taken
echoes_10 : seen_over (alone echoes refl) (codes "hi") false 10 ≡ Saw (codes "hi") (Ended Done) 0 2 13
unfolding seen_over
echoes_10 = refl

echoes_0 : seen_over (alone echoes refl) (codes "hi") false 0 ≡ Saw [] (Ended Spent) 0 0 0
unfolding seen_over
echoes_0 = refl

echoes_1 : seen_over (alone echoes refl) (codes "hi") false 1 ≡ Saw [] (Ended Spent) 0 0 1
unfolding seen_over
echoes_1 = refl

echoes_2 : seen_over (alone echoes refl) (codes "hi") false 2 ≡ Saw [] (Ended Spent) 0 0 3
unfolding seen_over
echoes_2 = refl

echoes_3 : seen_over (alone echoes refl) (codes "hi") false 3 ≡ Saw [] (Ended Spent) 0 1 4
unfolding seen_over
echoes_3 = refl

echoes_4 : seen_over (alone echoes refl) (codes "hi") false 4 ≡ Saw (codes "h") (Ended Spent) 0 1 5
unfolding seen_over
echoes_4 = refl

echoes_5 : seen_over (alone echoes refl) (codes "hi") false 5 ≡ Saw (codes "h") (Ended Spent) 0 1 6
unfolding seen_over
echoes_5 = refl

echoes_6 : seen_over (alone echoes refl) (codes "hi") false 6 ≡ Saw (codes "h") (Ended Spent) 0 1 8
unfolding seen_over
echoes_6 = refl

echoes_7 : seen_over (alone echoes refl) (codes "hi") false 7 ≡ Saw (codes "h") (Ended Spent) 0 2 9
unfolding seen_over
echoes_7 = refl

echoes_8 : seen_over (alone echoes refl) (codes "hi") false 8 ≡ Saw (codes "hi") (Ended Spent) 0 2 10
unfolding seen_over
echoes_8 = refl

echoes_9 : seen_over (alone echoes refl) (codes "hi") false 9 ≡ Saw (codes "hi") (Ended Spent) 0 2 11
unfolding seen_over
echoes_9 = refl

-- a fault after the input breaks it off, when it asks whether the input is at its end; the turn of that call is spent
echoes_till_fault : seen_over (alone echoes refl) (codes "h") true 10 ≡ Saw (codes "h") Broken 4 1 6
unfolding seen_over
echoes_till_fault = refl

-- ReadChar finds no input: at its end NoInput is raised, before a fault the run is broken off
abbrev reads : Written
reads = record {
  globals = 0;
  signals = [];
  strings = [];
  links = with_host [];
  procedures =
      procedure 0 0 0 1 (CallLink 3 ∷ Pop 1 ∷ Return ∷ []) []
      ∷ [];
}

reads_at_end : seen_over (alone reads refl) [] false 5 ≡ Saw [] (Ended (Uncaught NoInput)) 2 0 1
unfolding seen_over
reads_at_end = refl

reads_at_fault : seen_over (alone reads refl) [] true 5 ≡ Saw [] Broken 3 0 1
unfolding seen_over
reads_at_fault = refl

-- ReadChar[! NoInput => BEGIN WriteChar['n]; CONTINUE END]
abbrev reads_caught : Written
reads_caught = record {
  globals = 0;
  signals = [];
  strings = [];
  links = with_host [];
  procedures =
      procedure 0 0 0 1 (CallLink 3 ∷ Pop 1 ∷ Return ∷ Lit 110 ∷ CallLink 0 ∷ Leave 1 8 ∷ []) (phrase 0 5 (arm ((l.Link 5) ∷ []) 0 0 9 24 ∷ []) ∷ [])
      ∷ [];
}

reads_caught_5 : seen (alone reads_caught refl) 5 ≡ Saw (codes "n") (Ended Done) 0 0 5
unfolding seen
reads_caught_5 = refl

-- ERROR NoInput
abbrev raises_no_input : Written
raises_no_input = record {
  globals = 0;
  signals = [];
  strings = [];
  links = with_host [];
  procedures =
      procedure 0 0 0 0 (RaiseLink 5 ∷ []) []
      ∷ [];
}

raises_no_input_2 : seen (alone raises_no_input refl) 2 ≡ Saw [] (Ended (Uncaught NoInput)) 0 0 1
unfolding seen
raises_no_input_2 = refl

-- a literal, the empty string, a negative number, and the low byte of a word
abbrev writes : Written
writes = record {
  globals = 0;
  signals = [];
  strings = codes "hey" ∷ [];
  links = with_host [];
  procedures =
      procedure 0 0 0 2 (Str 1 ∷ CallLink 1 ∷ Lit 0 ∷ Lit 0 ∷ CallLink 1 ∷ Lit 65535 ∷ CallLink 2 ∷ Lit 577 ∷ CallLink 0 ∷ Return ∷ []) []
      ∷ [];
}

writes_5 : seen (alone writes refl) 5 ≡ Saw (codes "hey-1A") (Ended Done) 0 0 10
unfolding seen
writes_5 = refl

-- F: [n: INTEGER] RETURNS [INTEGER] = BEGIN IF n < 2 THEN RETURN[n]; RETURN[F[n - 1] + F[n - 2]] END; WriteDecimal[F[10]];
abbrev fibonacci : Written
fibonacci = record {
  globals = 0;
  signals = [];
  strings = [];
  links = with_host [];
  procedures =
      procedure 0 0 0 1 (Lit 10 ∷ Call 1 ∷ CallLink 2 ∷ Return ∷ []) []
      ∷ procedure 1 1 2 3
      (LoadL 0 1 ∷ Lit 2 ∷ LessI ∷ JumpIfNot 25 ∷ LoadL 0 1 ∷ StoreL 1 1 ∷ Return ∷ LoadL 0 1 ∷ Lit 1 ∷ Sub ∷ Call 1 ∷ LoadL 0 1 ∷ Lit 2 ∷ Sub ∷ Call 1 ∷
      Add ∷ StoreL 1 1 ∷ Return ∷ [])
      []
      ∷ [];
}

fibonacci_179 : seen (alone fibonacci refl) 179 ≡ Saw (codes "55") (Ended Done) 0 0 1947
unfolding seen
fibonacci_179 = refl

-- F: RETURNS [a, b: INTEGER] = BEGIN a ← 1; b ← 2; RETURN[b, a] END; [x, y] ← F[]; WriteDecimal[x]; WriteDecimal[y];
abbrev two_results : Written
two_results = record {
  globals = 2;
  signals = [];
  strings = [];
  links = with_host [];
  procedures =
      procedure 0 0 0 2 (Call 1 ∷ StoreG 0 2 ∷ LoadG 0 1 ∷ CallLink 2 ∷ LoadG 1 1 ∷ CallLink 2 ∷ Return ∷ []) []
      ∷ procedure 0 2 2 2 (Lit 1 ∷ StoreL 0 1 ∷ Lit 2 ∷ StoreL 1 1 ∷ LoadL 1 1 ∷ LoadL 0 1 ∷ StoreL 0 2 ∷ Return ∷ []) []
      ∷ [];
}

two_results_4 : seen (alone two_results refl) 4 ≡ Saw (codes "21") (Ended Done) 0 0 15
unfolding seen
two_results_4 = refl

-- Server: S: PUBLIC SIGNAL [x: INTEGER] RETURNS [INTEGER]; Ask: PUBLIC PROCEDURE [x: INTEGER] RETURNS [INTEGER] =
-- BEGIN k: INTEGER ← 9; r: INTEGER; r ← SIGNAL S[x]; RETURN[r * 10 + k] END; Main: WriteDecimal[Ask[4 ! S => RESUME[x + 1]]];
-- the first call starts Server, while its argument waits
abbrev server : Written
server = record {
  globals = 0;
  signals = signal_with 1 1 ∷ [];
  strings = [];
  links = [];
  procedures =
      procedure 0 0 0 0 (Return ∷ []) []
      ∷ procedure 1 1 4 2 (Lit 9 ∷ StoreL 2 1 ∷ LoadL 0 1 ∷ Raise 0 ∷ StoreL 3 1 ∷ LoadL 3 1 ∷ Lit 10 ∷ Mul ∷ LoadL 2 1 ∷ Add ∷ StoreL 1 1 ∷ Return ∷ []) []
      ∷ [];
}

abbrev asker : Written
asker = record {
  globals = 0;
  signals = [];
  strings = [];
  links = with_host (procedure_link 1 1 ∷ signal_link 1 1 ∷ []);
  procedures =
      procedure 0 0 1 2
      (Lit 4 ∷ CallLink 6 ∷ CallLink 2 ∷ Return ∷ LoadL 0 1 ∷ Lit 1 ∷ Add ∷ Resume 1 ∷ [])
      (phrase 3 8 (arm ((l.Link 7) ∷ []) 0 1 14 26 ∷ []) ∷ [])
      ∷ [];
}

-- with these CONTROL instances
abbrev asking : List ℕ → Image
asking control = image_of (object server refl ∷ object asker refl ∷ []) (0 ∷ 1 ∷ []) ([] ∷ bound_to_host (To 0 1 ∷ To 0 0 ∷ []) ∷ []) control

asks_6 : seen (asking (1 ∷ [])) 6 ≡ Saw (codes "59") (Ended Done) 0 0 21
unfolding seen
asks_6 = refl

asks_0 : seen (asking (1 ∷ [])) 0 ≡ Saw [] (Ended Spent) 0 0 0
unfolding seen
asks_0 = refl

asks_1 : seen (asking (1 ∷ [])) 1 ≡ Saw [] (Ended Spent) 0 0 2
unfolding seen
asks_1 = refl

asks_2 : seen (asking (1 ∷ [])) 2 ≡ Saw [] (Ended Spent) 0 0 2
unfolding seen
asks_2 = refl

asks_3 : seen (asking (1 ∷ [])) 3 ≡ Saw [] (Ended Spent) 0 0 7
unfolding seen
asks_3 = refl

asks_4 : seen (asking (1 ∷ [])) 4 ≡ Saw [] (Ended Spent) 0 0 7
unfolding seen
asks_4 = refl

asks_5 : seen (asking (1 ∷ [])) 5 ≡ Saw [] (Ended Spent) 0 0 20
unfolding seen
asks_5 = refl

-- a CONTROL instance that was started by a call is passed over without a turn; started before, it is not started again
asks_then_server : seen (asking (1 ∷ 0 ∷ [])) 6 ≡ Saw (codes "59") (Ended Done) 0 0 21
unfolding seen
asks_then_server = refl

server_then_asks : seen (asking (0 ∷ 1 ∷ 0 ∷ [])) 6 ≡ Saw (codes "59") (Ended Done) 0 0 21
unfolding seen
server_then_asks = refl

-- a raise of another instance's signal, which starts nothing: WriteDecimal[SIGNAL S[4 ! S => RESUME[x + 1]]];
abbrev raiser : Written
raiser = record {
  globals = 0;
  signals = [];
  strings = [];
  links = with_host (signal_link 1 1 ∷ []);
  procedures =
      procedure 0 0 1 2
      (Lit 4 ∷ RaiseLink 6 ∷ CallLink 2 ∷ Return ∷ LoadL 0 1 ∷ Lit 1 ∷ Add ∷ Resume 1 ∷ [])
      (phrase 3 8 (arm ((l.Link 6) ∷ []) 0 1 14 26 ∷ []) ∷ [])
      ∷ [];
}

raises_linked : seen (image_of (object server refl ∷ object raiser refl ∷ []) (0 ∷ 1 ∷ []) ([] ∷ bound_to_host (To 0 0 ∷ []) ∷ []) (1 ∷ [])) 4
    ≡ Saw (codes "5") (Ended Done) 0 0 8
unfolding seen
raises_linked = refl

-- two instances a and b of Counter: n: INTEGER ← 0; Full: PUBLIC ERROR; Next: PUBLIC PROCEDURE RETURNS [INTEGER] =
-- BEGIN n ← n + 1; IF n > 2 THEN ERROR Full; RETURN[n] END; Other counts by a, Main by b, whose Full it catches: that of a is another
-- Other: Go: PUBLIC PROCEDURE = BEGIN THROUGH [1..3] DO WriteDecimal[Next[]] ENDLOOP END;
-- Main: WriteDecimal[Next[]]; Go[! Full => BEGIN WriteChar['x]; CONTINUE END];
abbrev counter : Written
counter = record {
  globals = 1;
  signals = error ∷ [];
  strings = [];
  links = [];
  procedures =
      procedure 0 0 0 0 (Return ∷ []) []
      ∷ procedure 0 1 1 2
      (LoadG 0 1 ∷ Lit 1 ∷ Add ∷ StoreG 0 1 ∷ Lit 2 ∷ LoadG 0 1 ∷ LessI ∷ JumpIfNot 33 ∷ Raise 0 ∷ LoadG 0 1 ∷ StoreL 0 1 ∷ Return ∷ [])
      []
      ∷ [];
}

abbrev other : Written
other = record {
  globals = 0;
  signals = [];
  strings = [];
  links = with_host (procedure_link 0 1 ∷ []);
  procedures =
      procedure 0 0 0 0 (Return ∷ []) []
      ∷ procedure 0 0 1 2
      (Lit 3 ∷ StoreL 0 1 ∷ LoadL 0 1 ∷ Lit 0 ∷ Eq ∷ JumpIf 51 ∷ CallLink 6 ∷ CallLink 2 ∷ LoadL 0 1 ∷ Lit 1 ∷ Sub ∷ StoreL 0 1 ∷ JumpBack 8 ∷ Return ∷
      [])
      []
      ∷ [];
}

abbrev main : Written
main = record {
  globals = 0;
  signals = [];
  strings = [];
  links = with_host (procedure_link 0 1 ∷ error_link ∷ procedure_link 0 0 ∷ []);
  procedures =
      procedure 0 0 0 1
      (CallLink 6 ∷ CallLink 2 ∷ CallLink 8 ∷ Return ∷ Lit 120 ∷ CallLink 0 ∷ Leave 1 15 ∷ [])
      (phrase 10 15 (arm ((l.Link 7) ∷ []) 0 0 16 31 ∷ []) ∷ [])
      ∷ [];
}

-- with the instance whose Full is caught
abbrev counting : ℕ → Image
counting caught = image_of (object counter refl ∷ object other refl ∷ object main refl ∷ []) (0 ∷ 0 ∷ 1 ∷ 2 ∷ [])
    ([] ∷ [] ∷ bound_to_host (To 0 1 ∷ []) ∷ bound_to_host (To 1 1 ∷ To caught 0 ∷ To 2 1 ∷ []) ∷ []) (3 ∷ [])

counts_15 : seen (counting 1) 15 ≡ Saw (codes "112") (Ended (Uncaught (Own 0 0))) 0 0 77
unfolding seen
counts_15 = refl

counts_14 : seen (counting 1) 14 ≡ Saw (codes "112") (Ended Spent) 0 0 77
unfolding seen
counts_14 = refl

-- with that of a it is caught
counts_17 : seen (counting 0) 17 ≡ Saw (codes "112x") (Ended Done) 0 0 81
unfolding seen
counts_17 = refl

-- Activations.

-- where 8,191 or fewer stand one more is made; where 8,192 stand the run ends, and the turn of the call is spent
entered : (a : Active) (S : Activations) (m : Store) → length S < 8192 → enter a S m ≡ Goes (Runs (a ∷ S) m)
unfolding enter
entered a S m l = rw (lt-ltb (length S) 8192 l)

full : (a : Active) (S : Activations) (m : Store) → 8192 ≤ length S → enter a S m ≡ Stops (Ended FrameLimit) m
unfolding enter
full a S m l = rw (le-ltb (length S) 8192 l)

-- P: [n: INTEGER] = BEGIN IF n # 0 THEN P[n - 1] END; P[1]; WriteChar['.]; WriteChar['.];
abbrev descends : Written
descends = record {
  globals = 0;
  signals = [];
  strings = [];
  links = with_host [];
  procedures =
      procedure 0 0 0 1 (Lit 1 ∷ Call 1 ∷ Lit 46 ∷ CallLink 0 ∷ Lit 46 ∷ CallLink 0 ∷ Return ∷ []) []
      ∷ procedure 1 0 1 2 (LoadL 0 1 ∷ Lit 0 ∷ Eq ∷ JumpIfNot 15 ∷ Return ∷ LoadL 0 1 ∷ Lit 1 ∷ Sub ∷ Call 1 ∷ Return ∷ []) []
      ∷ [];
}

-- the body of an instance runs over so many other activations
abbrev body : ℕ → Active
body j = record { instance = j; procedure = 0; offset = 0; operands = []; role = Frame [] }

abbrev over : (instance others : ℕ) → Image → ℕ → Stepped
over j n image turns = Goes (Runs (body j ∷ replicate n (body j)) (fresh image [] false turns))

-- over 8,189 there is room for P[1] and P[0]; over 8,190 there is none for P[0]
descends_8192 : seen_from (alone descends refl) 100 [] (over 0 8189 (alone descends refl) 3) ≡ Saw (codes ".") (Ended Spent) 0 0 20
unfolding seen_from fresh
descends_8192 = refl

descends_8193 : seen_from (alone descends refl) 100 [] (over 0 8190 (alone descends refl) 3) ≡ Saw [] (Ended FrameLimit) 1 0 10
unfolding seen_from fresh
descends_8193 = refl

-- the frame of a start is given up before that of the call is made: over 8,190 both find room, one after the other; over 8,191 the start finds none
starts_8192 : seen_from (asking (1 ∷ [])) 100 [] (over 1 8190 (asking (1 ∷ [])) 2) ≡ Saw [] (Ended Spent) 0 0 7
unfolding seen_from fresh
starts_8192 = refl

starts_8193 : seen_from (asking (1 ∷ [])) 100 [] (over 1 8191 (asking (1 ∷ [])) 2) ≡ Saw [] (Ended FrameLimit) 0 0 2
unfolding seen_from fresh
starts_8193 = refl
