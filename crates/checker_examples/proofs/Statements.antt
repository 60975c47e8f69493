-- Statements: tests, loops, labels, jumps, RETURN, SELECT.
use Rattle.std.specs.Prelude.{◌≡◌, List, [], ◌∷◌, ◌++◌, codes}
use Rattle.std.proofs.Common.{refl}
use Rattle.check_rules.specs.declared.fault.Cause.TheVariants.{UnknownName, TwiceDeclared, TypeMismatch, BadLabel, WrongCount, NotResumable, UnwindJumps}
use Rattle.check_rules.proofs.Texts.{Row, good, wrong, mistakes}
use Rattle.check_rules.proofs.Everything.{everything}

abbrev loops : List Row
loops =
    wrong TypeMismatch (codes "IF ^1 THEN NULL;")
    ∷ wrong TypeMismatch (codes "WHILE ^1 DO ENDLOOP;")
    ∷ wrong TypeMismatch (codes "UNTIL ^'a DO ENDLOOP;")
    ∷ good (codes "i: INTEGER; FOR i IN [0..3] WHILE i < 2 DO NULL ENDLOOP; FOR i DECREASING IN (0..3] DO ENDLOOP; THROUGH ['a..'z] DO ENDLOOP;")
    ∷ wrong TypeMismatch (codes "s: STRING; FOR ^s IN [q..3] DO ENDLOOP;")
    ∷ wrong TypeMismatch (codes "i: INTEGER; FOR i IN ^['a..'z] DO ENDLOOP;")
    ∷ wrong TypeMismatch (codes "i: INTEGER; FOR i IN ^[1..'a] DO ENDLOOP;")
    ∷ wrong UnknownName (codes "FOR ^q IN [1..2] DO ENDLOOP;")
    ∷ wrong TypeMismatch (codes "c: INTEGER = 1; FOR ^c IN [1..2] DO ENDLOOP;")
    ∷ wrong TypeMismatch (codes "THROUGH ^[FALSE..2] DO ENDLOOP;")
    ∷ wrong BadLabel (codes "^EXIT;")
    ∷ wrong BadLabel (codes "^LOOP;")
    ∷ good (codes "DO EXIT; LOOP ENDLOOP;")
    ∷ wrong BadLabel (codes "DO NULL REPEAT FINISHED => ^EXIT ENDLOOP;")
    ∷ wrong BadLabel (codes "GOTO ^L;")
    ∷ wrong BadLabel (codes "GOTO L; EXITS L => GOTO ^L")
    ∷ good (codes "DO GOTO L; DO EXIT ENDLOOP REPEAT L, K => NULL; FINISHED => NULL ENDLOOP; BEGIN GOTO L; EXITS L => NULL END;")
    ∷ wrong TwiceDeclared (codes "GOTO L; EXITS L => NULL; ^L => NULL")
    ∷ wrong TwiceDeclared (codes "DO REPEAT L, ^L => NULL ENDLOOP;")
    ∷ wrong TwiceDeclared (codes "DO REPEAT FINISHED => NULL; ^FINISHED => NULL ENDLOOP;")
    ∷ wrong BadLabel (codes "^RETRY;")
    ∷ wrong BadLabel (codes "^CONTINUE;")
    ∷ wrong BadLabel (codes "^RESUME;")
    ∷ wrong BadLabel (codes "^REJECT;")
    ∷ []

loops_and_labels : mistakes [] 0 loops ≡ []
unfolding everything
loops_and_labels = refl

abbrev returns : List Row
returns =
    good (codes "P: PROCEDURE RETURNS [a: INTEGER] = BEGIN RETURN; RETURN[1]; RETURN[a: 1] END; RETURN; RETURN[];")
    ∷ wrong WrongCount (codes "P: PROCEDURE RETURNS [INTEGER] = BEGIN RETURN^[] END;")
    ∷ wrong WrongCount (codes "P: PROCEDURE RETURNS [INTEGER] = BEGIN RETURN^[1, q] END;")
    ∷ wrong TypeMismatch (codes "P: PROCEDURE RETURNS [INTEGER] = BEGIN RETURN[^TRUE] END;")
    ∷ wrong WrongCount (codes "RETURN^[1];")
    ∷ good (codes "SELECT 1 FROM 1, 2 => NULL; IN [3..4], ~ IN [5..6] => NULL; >= 5, ~ = 3 => NULL ENDCASE => NULL;")
    ∷ wrong TypeMismatch (codes "SELECT 1 FROM ^TRUE => NULL ENDCASE;")
    ∷ wrong TypeMismatch (codes "SELECT 1 FROM ^= TRUE => NULL ENDCASE;")
    ∷ wrong TypeMismatch (codes "SELECT 1 FROM ~ ^IN ['a..'b] => NULL ENDCASE;")
    ∷ good (codes "r: RECORD [x: INTEGER]; SELECT r FROM ENDCASE => NULL;")
    ∷ wrong TypeMismatch (codes "r: RECORD [x: INTEGER]; SELECT r FROM ^r => NULL ENDCASE;")
    ∷ wrong UnknownName (codes "SELECT 1 FROM 1 => NULL ENDCASE => ^q _ 1;")
    ∷ []

returns_and_selects : mistakes [] 0 returns ≡ []
unfolding everything
returns_and_selects = refl

abbrev arms : List Row
arms =
    wrong NotResumable (codes "E: ERROR = CODE; ERROR E[! E => ^RESUME]")
    ∷ wrong NotResumable (codes "BEGIN ENABLE ANY => ^RESUME; NULL END;")
    ∷ wrong NotResumable (codes "BEGIN ENABLE BoundsFault => ^RESUME[q]; NULL END;")
    ∷ wrong UnwindJumps (codes "BEGIN ENABLE UNWIND => ^RESUME; NULL END;")
    ∷ wrong UnwindJumps (codes "BEGIN ENABLE UNWIND => ^RETRY; NULL END;")
    ∷ wrong UnwindJumps (codes "BEGIN ENABLE UNWIND => ^CONTINUE; NULL END;")
    ∷ wrong UnwindJumps (codes "BEGIN ENABLE UNWIND => ^RETURN; NULL END;")
    ∷ wrong UnwindJumps (codes "BEGIN ENABLE UNWIND => ^RETURN[q]; NULL END;")
    ∷ wrong UnwindJumps (codes "BEGIN ENABLE UNWIND => ^GOTO L; NULL; EXITS L => NULL END;")
    ∷ wrong UnwindJumps (codes "DO ENABLE UNWIND => ^EXIT; NULL ENDLOOP;")
    ∷ wrong UnwindJumps (codes "DO ENABLE UNWIND => BEGIN ENABLE ANY => ^LOOP; NULL END; NULL ENDLOOP;")
    ∷ wrong BadLabel (codes "BEGIN ENABLE UNWIND => GOTO ^L; NULL END;")
    ∷ good (codes "BEGIN ENABLE UNWIND => BEGIN DO EXIT ENDLOOP; GOTO K; REJECT; EXITS K => NULL END; NULL END;")
    ∷ good (codes "BEGIN ENABLE UNWIND => BEGIN ENABLE ANY => CONTINUE; NULL END; NULL END;")
    ∷ wrong TypeMismatch (codes "S: SIGNAL RETURNS [INTEGER] = CODE; T: SIGNAL = CODE; BEGIN ENABLE S, T => ^RESUME; NULL END;")
    ∷ wrong WrongCount (codes "S: SIGNAL RETURNS [INTEGER] = CODE; BEGIN ENABLE S => RESUME^[]; NULL END;")
    ∷ wrong WrongCount (codes "S: SIGNAL RETURNS [INTEGER] = CODE; BEGIN ENABLE S => ^RESUME; NULL END;")
    ∷ wrong TypeMismatch (codes "S: SIGNAL RETURNS [INTEGER] = CODE; BEGIN ENABLE S => RESUME[^TRUE]; NULL END;")
    ∷ good (codes "S: SIGNAL [x: INTEGER] RETURNS [r: INTEGER] = CODE; T: SIGNAL [x: INTEGER] RETURNS [r: INTEGER] = CODE; "
    ++ codes "BEGIN ENABLE BEGIN S, T => RESUME[x]; ANY => REJECT END; NULL END;")
    ∷ wrong UnknownName (codes "S: SIGNAL [x: INTEGER] = CODE; T: SIGNAL [z: INTEGER] = CODE; y: INTEGER; BEGIN ENABLE S, T => y _ ^x; NULL END;")
    ∷ good (codes "S: SIGNAL RETURNS [r: INTEGER] = CODE; T: SIGNAL RETURNS [q: INTEGER] = CODE; BEGIN ENABLE S, T => RESUME[r: 1]; NULL END;")
    ∷ wrong TypeMismatch (codes "y: INTEGER; BEGIN ENABLE ^y => NULL; NULL END;")
    ∷ wrong UnknownName (codes "BEGIN ENABLE ^q => NULL; NULL END;")
    ∷ good (codes "Q: PROCEDURE = BEGIN END; P: PROCEDURE RETURNS [INTEGER] = BEGIN DO Q[! ANY => EXIT]; Q[! ANY => RETURN[3]]; "
    ++ codes "Q[! ANY => GOTO L] ENDLOOP; EXITS L => NULL END;")
    ∷ wrong BadLabel (codes "Q: PROCEDURE RETURNS [BOOLEAN] = BEGIN END; WHILE Q[! ANY => ^EXIT] DO ENDLOOP;")
    ∷ good (codes "S: SIGNAL = CODE; P: PROCEDURE = BEGIN ENABLE S => RESUME; SIGNAL S END;")
    ∷ []

jumps_and_arms : mistakes [] 0 arms ≡ []
unfolding everything
jumps_and_arms = refl
