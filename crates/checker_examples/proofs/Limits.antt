-- Limits, at their edge.
use Rattle.std.specs.Prelude.{◌≡◌, ℕ, List, [], ◌∷◌, ◌++◌, codes}
use Rattle.std.proofs.Common.{refl}
use Rattle.check_rules.specs.declared.fault.Cause.TheVariants.{UnknownName, FrameTooLarge, GlobalsTooLarge, TypeTooLarge}
use Rattle.check_rules.proofs.Texts.{Row, fine, bad, good, wrong, mistakes, mistakes_under}
use Rattle.check_rules.proofs.Everything.{everything}

-- 1,024 words of locals: parameters, results, the variables of all blocks, three words for each FOR or THROUGH, one for each SELECT
abbrev locals : List Row
locals =
    good (codes "P: PROCEDURE [n: INTEGER] RETURNS [STRING] = BEGIN x: ARRAY [0..1020] OF INTEGER; END;")
    ∷ wrong FrameTooLarge (codes "^P: PROCEDURE [n: INTEGER] RETURNS [STRING] = BEGIN x: ARRAY [0..1021] OF INTEGER; END;")
    ∷ good (codes "P: PROCEDURE [x: ARRAY [0..1023] OF INTEGER] = BEGIN END;")
    ∷ wrong FrameTooLarge (codes "^P: PROCEDURE [x: ARRAY [0..1023] OF INTEGER] RETURNS [INTEGER] = BEGIN END;")
    ∷ good (codes "P: PROCEDURE = BEGIN BEGIN x: ARRAY [0..511] OF INTEGER; END; BEGIN x: ARRAY [0..511] OF INTEGER; END; END;")
    ∷ wrong FrameTooLarge (codes "^P: PROCEDURE = BEGIN BEGIN x: ARRAY [0..511] OF INTEGER; END; BEGIN x: ARRAY [0..512] OF INTEGER; END; END;")
    ∷ good (codes "P: PROCEDURE = BEGIN x: ARRAY [0..1016] OF INTEGER; i: INTEGER; FOR i IN [1..2] DO ENDLOOP; THROUGH [1..2] DO ENDLOOP; END;")
    ∷ wrong FrameTooLarge (codes "^P: PROCEDURE = BEGIN x: ARRAY [0..1017] OF INTEGER; i: INTEGER; FOR i IN [1..2] DO ENDLOOP; THROUGH [1..2] DO ENDLOOP; END;")
    ∷ good (codes "P: PROCEDURE = BEGIN x: ARRAY [0..1021] OF INTEGER; SELECT 1 FROM 1 => SELECT 2 FROM ENDCASE ENDCASE; DO ENDLOOP; END;")
    ∷ wrong FrameTooLarge (codes "^P: PROCEDURE = BEGIN x: ARRAY [0..1022] OF INTEGER; SELECT 1 FROM 1 => SELECT 2 FROM ENDCASE ENDCASE; DO ENDLOOP; END;")
    ∷ []

abbrev arms_and_bodies : List Row
arms_and_bodies =
    -- the parameters of arms
    good (codes "S: SIGNAL [s, t: STRING] = CODE; P: PROCEDURE = BEGIN ENABLE S => NULL; x: ARRAY [0..1019] OF INTEGER; END;")
    ∷ wrong FrameTooLarge (codes "S: SIGNAL [s, t: STRING] = CODE; ^P: PROCEDURE = BEGIN ENABLE S => NULL; x: ARRAY [0..1020] OF INTEGER; END;")
    ∷ good (codes "S, T: SIGNAL [s, t: STRING] = CODE; P: PROCEDURE = BEGIN ENABLE S, T => NULL; x: ARRAY [0..1019] OF INTEGER; END;")
    ∷ wrong FrameTooLarge (codes "S, T: SIGNAL [s, t: STRING] = CODE; ^P: PROCEDURE = BEGIN ENABLE BEGIN S => NULL; T => NULL END; "
    ++ codes "x: ARRAY [0..1019] OF INTEGER; END;")
    ∷ good (codes "S: SIGNAL [s, t: STRING] = CODE; P: PROCEDURE = BEGIN ENABLE S, BoundsFault => NULL; x: ARRAY [0..1023] OF INTEGER; END;")
    -- the body of a module, without its globals; its fault is at its name, after the bodies of its procedures
    ∷ good (codes "x: ARRAY [0..9999] OF INTEGER; BEGIN y: ARRAY [0..1022] OF INTEGER; SELECT 1 FROM ENDCASE END;")
    ∷ bad FrameTooLarge (codes "^M: PROGRAM = BEGIN BEGIN y: ARRAY [0..1023] OF INTEGER; SELECT 1 FROM ENDCASE END; END.")
    ∷ bad FrameTooLarge (codes "M: PROGRAM = BEGIN ^P: PROCEDURE = BEGIN y: ARRAY [0..1024] OF INTEGER; END; BEGIN y: ARRAY [0..1024] OF INTEGER; END; END.")
    ∷ bad FrameTooLarge (codes "^M: PROGRAM = BEGIN GOTO L; EXITS L => BEGIN y: ARRAY [0..1024] OF INTEGER; END; END.")
    ∷ bad UnknownName (codes "M: PROGRAM = BEGIN BEGIN y: ARRAY [0..1024] OF INTEGER; END; GOTO L; EXITS L => ^q _ 1 END.")
    ∷ []

frames : mistakes [] 0 locals ≡ []
unfolding everything
frames = refl

frames_with_arms : mistakes [] 0 arms_and_bodies ≡ []
unfolding everything
frames_with_arms = refl

-- 2,048 words of a signal or error of a program; no limit in an interface
abbrev signals : List Row
signals =
    good (codes "S: SIGNAL [a: ARRAY [0..1023] OF INTEGER] RETURNS [b: ARRAY [0..1023] OF INTEGER] = CODE; E: ERROR [a: ARRAY [0..2047] OF INTEGER] = CODE;")
    ∷ wrong FrameTooLarge (codes "^S, T: SIGNAL [a: ARRAY [0..1023] OF INTEGER] RETURNS [b: ARRAY [0..1024] OF INTEGER] = CODE;")
    ∷ wrong FrameTooLarge (codes "^E, F: ERROR [a: ARRAY [0..2048] OF INTEGER] = CODE;")
    ∷ wrong UnknownName (codes "S: SIGNAL [a: ARRAY [0..2048] OF INTEGER] RETURNS [^q] = CODE;")
    ∷ []

abbrev of_interfaces : List Row
of_interfaces =
    fine (codes "D: DEFINITIONS = BEGIN S: SIGNAL [a, b: ARRAY [0..16383] OF INTEGER]; E: ERROR [a: ARRAY [0..2048] OF INTEGER]; END.")
    ∷ bad TypeTooLarge (codes "D: DEFINITIONS = BEGIN S: SIGNAL [a, b: ^ARRAY [0..16384] OF INTEGER]; END.")
    ∷ []

words_of_signals : mistakes [] 0 signals ≡ []
unfolding everything
words_of_signals = refl

words_in_interfaces : mistakes_under 10 [] 0 of_interfaces ≡ []
unfolding everything
words_in_interfaces = refl

-- 16,384 words of globals, those of records and strings by their words
abbrev globals : List Row
globals =
    good (codes "x: ARRAY [0..16379] OF INTEGER; s, t: STRING;")
    ∷ wrong GlobalsTooLarge (codes "x: ARRAY [0..16379] OF INTEGER; ^s, t, u: STRING;")
    ∷ wrong GlobalsTooLarge (codes "x: ARRAY [0..16379] OF INTEGER; s: STRING; ^r: RECORD [a, b: INTEGER, c: BOOLEAN] _ q;")
    ∷ wrong GlobalsTooLarge (codes "x: ARRAY [0..16383] OF INTEGER _ q; ^s: CHARACTER; t: q;")
    ∷ wrong UnknownName (codes "x: ARRAY [0..16383] OF INTEGER; s: ^q;")
    ∷ good (codes "x: ARRAY [0..16383] OF INTEGER; c: INTEGER = 1; T: TYPE = INTEGER; P: PROCEDURE = BEGIN y: INTEGER; END;")
    ∷ []

words_of_globals : mistakes [] 0 globals ≡ []
unfolding everything
words_of_globals = refl

-- 64 types around each other, and 16,384 words
abbrev nested : List ℕ → List ℕ
nested text = codes "A: TYPE = RECORD [x: RECORD [x: RECORD [x: RECORD [x: RECORD [x: RECORD [x: INTEGER]]]]]]; "
    ++ codes "B: TYPE = RECORD [x: RECORD [x: RECORD [x: RECORD [x: RECORD [x: RECORD [x: RECORD [x: RECORD [x: A]]]]]]]]; "
    ++ codes "C: TYPE = RECORD [x: RECORD [x: RECORD [x: RECORD [x: RECORD [x: RECORD [x: RECORD [x: RECORD [x: B]]]]]]]]; "
    ++ codes "D: TYPE = RECORD [x: RECORD [x: RECORD [x: RECORD [x: RECORD [x: RECORD [x: RECORD [x: RECORD [x: C]]]]]]]]; "
    ++ codes "E: TYPE = RECORD [x: RECORD [x: RECORD [x: RECORD [x: RECORD [x: RECORD [x: RECORD [x: RECORD [x: D]]]]]]]]; "
    ++ codes "F: TYPE = RECORD [x: RECORD [x: RECORD [x: RECORD [x: RECORD [x: RECORD [x: RECORD [x: RECORD [x: E]]]]]]]]; "
    ++ codes "G: TYPE = RECORD [x: RECORD [x: RECORD [x: RECORD [x: RECORD [x: RECORD [x: RECORD [x: RECORD [x: F]]]]]]]]; "
    ++ codes "H: TYPE = RECORD [x: RECORD [x: RECORD [x: RECORD [x: RECORD [x: RECORD [x: RECORD [x: RECORD [x: G]]]]]]]]; "
    ++ text

abbrev depths : List Row
depths =
    good (nested (codes "x: RECORD [a: H];"))
    ∷ wrong TypeTooLarge (nested (codes "x: ^RECORD [a: RECORD [b: H]];"))
    ∷ wrong UnknownName (nested (codes "x: RECORD [a: RECORD [b: H], c: ^q];"))
    ∷ good (nested (codes "x: ARRAY BOOLEAN OF H;"))
    ∷ wrong TypeTooLarge (nested (codes "x: RECORD [i: INTEGER, a: ^ARRAY BOOLEAN OF ARRAY [0..1] OF H];"))
    ∷ []

types_in_types : mistakes [] 0 depths ≡ []
unfolding everything
types_in_types = refl

abbrev words : List Row
words =
    good (codes "T: TYPE = RECORD [a, b: ARRAY [0..8191] OF INTEGER]; A: TYPE = ARRAY [0..127] OF ARRAY [0..127] OF INTEGER; "
    ++ codes "B: TYPE = ARRAY [0..8191] OF STRING;")
    ∷ wrong TypeTooLarge (codes "T: TYPE = ^RECORD [a, b: ARRAY [0..8191] OF INTEGER, c: BOOLEAN];")
    ∷ wrong TypeTooLarge (codes "T: TYPE = ^ARRAY [0..127] OF ARRAY [0..128] OF INTEGER;")
    ∷ wrong TypeTooLarge (codes "T: TYPE = ^ARRAY [0..8192] OF STRING;")
    ∷ wrong TypeTooLarge (codes "T: TYPE = ^ARRAY [-32767..32767] OF BOOLEAN;")
    ∷ wrong TypeTooLarge (codes "T: TYPE = ^ARRAY CHARACTER OF ARRAY [0..64] OF INTEGER;")
    ∷ wrong TypeTooLarge (codes "P: PROCEDURE [a: ^ARRAY [0..16384] OF INTEGER] = BEGIN END;")
    ∷ wrong TypeTooLarge (codes "P: PROCEDURE = BEGIN a: ARRAY [0..1] OF ^ARRAY [0..16384] OF INTEGER; END;")
    ∷ []

words_of_types : mistakes [] 0 words ≡ []
unfolding everything
words_of_types = refl

-- the last number and the last character
abbrev literals : List Row
literals =
    good (codes "k: CARDINAL _ 65535; c: CHARACTER _ 377C; i: INTEGER _ 32767; j: CARDINAL = 32768; x: CHARACTER [0C..377C]; y: [0..65535];")
    ∷ []

literals_at_their_edge : mistakes [] 0 literals ≡ []
unfolding everything
literals_at_their_edge = refl
