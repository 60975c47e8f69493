-- Types and constants.
use Rattle.std.specs.Prelude.{◌≡◌, List, [], ◌∷◌, codes}
use Rattle.std.proofs.Common.{refl}
use Rattle.check_rules.specs.declared.fault.Cause.TheVariants.{UnknownName, TypeMismatch, NotConstant, FrameTooLarge, GlobalsTooLarge, TypeTooLarge}
use Rattle.check_rules.proofs.Texts.{Row, good, wrong, mistakes}
use Rattle.check_rules.proofs.Everything.{everything}

abbrev subranges : List Row
subranges =
    wrong TypeMismatch (codes "x: ^[5..3];")
    ∷ wrong TypeMismatch (codes "x: ^[3..3);")
    ∷ good (codes "x: [3..3]; y: [3..4); z: (3..4]; w: [-3..3];")
    ∷ wrong NotConstant (codes "y: INTEGER; x: [0..^y];")
    ∷ wrong NotConstant (codes "y: INTEGER; x: [^y..q];")
    ∷ wrong TypeMismatch (codes "x: ^['a..3];")
    ∷ wrong TypeMismatch (codes "x: ^[-1..40000];")
    ∷ good (codes "x: [0..40000]; y: [0..32768); z: ['a..'z]; b: [FALSE..TRUE];")
    ∷ wrong NotConstant (codes "x: INTEGER [^-32768..0];")
    ∷ good (codes "x: INTEGER [-32767..0]; y: CARDINAL [0..65535]; z: CHARACTER ['a..'z];")
    ∷ good (codes "x: CARDINAL [32767..32768];")
    ∷ wrong NotConstant (codes "x: INTEGER [0..^32768];")
    ∷ wrong NotConstant (codes "Digit: TYPE = [0..9]; x: Digit [5..^12];")
    ∷ good (codes "Digit: TYPE = [0..9]; x: Digit [2..4];")
    ∷ good (codes "Color: TYPE = {red, green, blue}; x: Color [red..green]; y: [green..blue];")
    ∷ wrong TypeMismatch (codes "x: INTEGER [0..^'a];")
    ∷ wrong TypeMismatch (codes "T: TYPE = STRING; x: ^T [0..3];")
    ∷ wrong TypeMismatch (codes "x: ^[\"a\"..\"b\"];")
    ∷ wrong TypeMismatch (codes "x: INTEGER; y: ^x [0..3];")
    ∷ []

intervals : mistakes [] 0 subranges ≡ []
unfolding everything
intervals = refl

abbrev large : List Row
large =
    wrong TypeMismatch (codes "x: ARRAY ^INTEGER OF INTEGER;")
    ∷ wrong TypeMismatch (codes "x: ARRAY ^CARDINAL OF q;")
    ∷ wrong TypeMismatch (codes "x: ARRAY ^STRING OF INTEGER;")
    ∷ good (codes "x: ARRAY BOOLEAN OF INTEGER; y: ARRAY {a, b} OF STRING; z: ARRAY CHARACTER OF BOOLEAN;")
    ∷ wrong TypeTooLarge (codes "x: ^ARRAY [0..16384] OF INTEGER;")
    ∷ good (codes "x: ARRAY [0..16383] OF INTEGER;")
    ∷ wrong GlobalsTooLarge (codes "x: ARRAY [0..16383] OF INTEGER; ^y: INTEGER;")
    ∷ wrong GlobalsTooLarge (codes "^x, y: ARRAY [0..16383] OF INTEGER;")
    ∷ good (codes "P: PROCEDURE = BEGIN x: ARRAY [0..1023] OF INTEGER; END;")
    ∷ wrong FrameTooLarge (codes "^P: PROCEDURE = BEGIN x: ARRAY [0..1024] OF INTEGER; END;")
    ∷ wrong UnknownName (codes "P: PROCEDURE = BEGIN x: ARRAY [0..1024] OF INTEGER; ^y _ 1; END;")
    ∷ wrong FrameTooLarge (codes "^P, Q: PROCEDURE [n: INTEGER] = BEGIN x: ARRAY [0..1022] OF INTEGER; SELECT n FROM ENDCASE; END;")
    ∷ good (codes "P: PROCEDURE [n: INTEGER] = BEGIN x: ARRAY [0..1022] OF INTEGER; END;")
    ∷ wrong FrameTooLarge (codes "^S: SIGNAL [a: ARRAY [0..2047] OF INTEGER] RETURNS [INTEGER] = CODE;")
    ∷ good (codes "S: SIGNAL [a: ARRAY [0..2046] OF INTEGER] RETURNS [INTEGER] = CODE;")
    ∷ wrong TypeTooLarge (codes "x: ^RECORD [a, b: ARRAY [0..8191] OF INTEGER, c: INTEGER];")
    ∷ []

limits : mistakes [] 0 large ≡ []
unfolding everything
limits = refl

abbrev constants : List Row
constants =
    wrong NotConstant (codes "c: INTEGER = ^40000;")
    ∷ good (codes "c: CARDINAL = 40000; d: INTEGER = 32767; e: INTEGER = -3; f: CARDINAL = c - 40000;")
    ∷ wrong NotConstant (codes "c: CARDINAL = ^-1;")
    ∷ wrong NotConstant (codes "c: [0..9] = ^10;")
    ∷ wrong NotConstant (codes "c: INTEGER = ^1 / 0;")
    ∷ wrong NotConstant (codes "c: INTEGER = ^1 MOD (1 - 1);")
    ∷ good (codes "c: BOOLEAN = 1 < 2; d: CHARACTER = 'a + 1; e: INTEGER = 'c - 'a; f: BOOLEAN = NOT c OR 3 IN [1..e];")
    ∷ wrong NotConstant (codes "d: CHARACTER = ^377C + 1;")
    ∷ good (codes "c: STRING = \"ab\"; d: STRING = (\"ab\");")
    ∷ wrong NotConstant (codes "s: STRING; c: STRING = ^s;")
    ∷ wrong NotConstant (codes "s: STRING = \"a\"; c: STRING = ^s;")
    ∷ wrong TypeMismatch (codes "c: STRING = ^1;")
    ∷ wrong NotConstant (codes "R: TYPE = RECORD [x: INTEGER]; c: R = ^[1];")
    ∷ wrong TypeMismatch (codes "c: INTEGER = ^'a;")
    ∷ wrong NotConstant (codes "x: INTEGER; c: INTEGER = ^x + 1;")
    ∷ wrong TypeMismatch (codes "c: INTEGER = 1; ^c _ 2;")
    ∷ []

what_is_constant : mistakes [] 0 constants ≡ []
unfolding everything
what_is_constant = refl
