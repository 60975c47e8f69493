-- LONG INTEGER and LONG CARDINAL: where they stand, and where a LONG value is refused, at its first token.
use Rattle.std.specs.Prelude.{◌≡◌, List, [], ◌∷◌, Some, codes}
use Rattle.std.proofs.Common.{refl}
use Rattle.mesa_types.specs.declared.faces.ItemKind.TheVariants as item
use Rattle.interface_records.specs.PlainTypes as v
use Rattle.check_rules.specs.declared.fault.Cause.TheVariants.{UnknownName, TypeMismatch, NotConstant, ExportDiffers, FrameTooLarge, GlobalsTooLarge}
use Rattle.interface_records.specs.PlainTypes.{PlainInterface}
use Rattle.check_rules.proofs.Texts.{Row, fine, bad, good, wrong, runs, mistakes, interface}
use Rattle.check_rules.proofs.Everything.{everything}
use Rattle.checker_examples.proofs.Worked.{io}

abbrev places : List Row
places =
    good (codes "n: LONG INTEGER; c: LONG CARDINAL _ 3; T: TYPE = LONG INTEGER; m: T _ n; a: ARRAY [0..2] OF LONG CARDINAL; a[1] _ m;")
    ∷ good (codes "R: TYPE = RECORD [x: LONG INTEGER, y: INTEGER]; r: R _ [1, 2]; r.x _ r.y; r.y _ r.x; r _ [y: r.x, x: 70000];")
    ∷ good (codes "F: PROCEDURE [n: LONG INTEGER] RETURNS [LONG CARDINAL] = BEGIN RETURN[n] END; i: INTEGER; i _ F[i]; i _ F[n: 4294967295];")
    ∷ good (codes "S: SIGNAL [c: LONG CARDINAL] RETURNS [LONG INTEGER] = CODE; i: CARDINAL; i _ SIGNAL S[i ! S => RESUME[c]];")
    ∷ good (codes "n: LONG INTEGER; i: [0..9]; i _ n; n _ i; i _ i + n; n _ n MOD i - i / n * -n;")
    ∷ good (codes "n: LONG INTEGER; c: LONG CARDINAL; b: BOOLEAN; b _ n = c AND n IN [c..3] OR 3 NOT IN (n..c) AND c ~< 70000 OR 1 > n;")
    ∷ good (codes "n: LONG INTEGER; i: INTEGER; SELECT n FROM 3, i => NULL; IN [0..i] => NULL; > 70000 => NULL ENDCASE; SELECT i FROM n => NULL ENDCASE;")
    ∷ good (codes "n: LONG INTEGER; i: INTEGER; r: RECORD [x, y: LONG CARDINAL]; [n, i] _ r; [y: i] _ r;")
    -- only one of LONG's two types follows it, and no interval follows that
    ∷ wrong TypeMismatch (codes "T: TYPE = LONG INTEGER; x: ^T [0..3];")
    ∷ wrong TypeMismatch (codes "x: ARRAY ^LONG INTEGER OF INTEGER;")
    ∷ wrong TypeMismatch (codes "T: TYPE = LONG CARDINAL; x: ARRAY ^T OF INTEGER;")
    ∷ wrong TypeMismatch (codes "n: LONG INTEGER _ ^TRUE;")
    ∷ wrong TypeMismatch (codes "n: LONG INTEGER; b: BOOLEAN _ ^n;")
    ∷ wrong TypeMismatch (codes "n: LONG INTEGER; c: CHARACTER _ ^n;")
    ∷ wrong TypeMismatch (codes "n: LONG INTEGER _ ^'a;")
    ∷ wrong TypeMismatch (codes "n: LONG INTEGER; n _ n ^+ TRUE;")
    ∷ wrong TypeMismatch (codes "n: LONG INTEGER; b: BOOLEAN _ n ^= TRUE;")
    ∷ wrong TypeMismatch (codes "n: LONG INTEGER; b: BOOLEAN; b _ b ^AND n;")
    -- records and arrays are given whole, of one type alone
    ∷ wrong TypeMismatch (codes "a: ARRAY [0..1] OF LONG INTEGER; b: ARRAY [0..1] OF INTEGER; a _ ^b;")
    ∷ wrong TypeMismatch (codes "a: ARRAY [0..1] OF LONG INTEGER; b: ARRAY [0..1] OF LONG CARDINAL; a _ ^b;")
    ∷ []

where_they_stand : mistakes [] 0 places ≡ []
unfolding everything
where_they_stand = refl

abbrev refused : List Row
refused =
    -- as an index
    wrong TypeMismatch (codes "a: ARRAY [0..2] OF INTEGER; n: LONG INTEGER; a[^n] _ 1;")
    ∷ wrong TypeMismatch (codes "a: ARRAY [0..2] OF INTEGER; n: LONG INTEGER; i: INTEGER; a[^i + n] _ 1;")
    ∷ wrong TypeMismatch (codes "a: ARRAY [0..2] OF INTEGER; a[^70000] _ 1;")
    ∷ wrong TypeMismatch (codes "s: STRING; n: LONG CARDINAL; c: CHARACTER; c _ s[^n];")
    -- as a bound of a type, before what stands behind it is looked at, and also where it is no constant
    ∷ wrong TypeMismatch (codes "x: [0..^65536];")
    ∷ good (codes "x: [0..65535];")
    ∷ wrong TypeMismatch (codes "x: [^65536..q];")
    ∷ wrong TypeMismatch (codes "x: INTEGER [0..^65536];")
    ∷ wrong TypeMismatch (codes "N: LONG INTEGER = 3; x: CARDINAL [^N..9];")
    ∷ wrong TypeMismatch (codes "n: LONG INTEGER; x: CARDINAL [^n..9];")
    ∷ wrong TypeMismatch (codes "N: LONG INTEGER = 3; D: TYPE = [0..9]; x: D [0..^N];")
    -- as a bound of a loop, and as its variable
    ∷ wrong TypeMismatch (codes "n: LONG INTEGER; FOR ^n IN [0..3] DO ENDLOOP;")
    ∷ wrong TypeMismatch (codes "n: LONG INTEGER; FOR ^n IN [0..q] DO ENDLOOP;")
    ∷ wrong TypeMismatch (codes "n: LONG INTEGER; i: INTEGER; FOR i IN [^n..3] DO ENDLOOP;")
    ∷ wrong TypeMismatch (codes "n: LONG INTEGER; i: INTEGER; FOR i IN [0..^n] DO ENDLOOP;")
    ∷ wrong TypeMismatch (codes "n: LONG INTEGER; THROUGH [^n..n] DO ENDLOOP;")
    ∷ wrong TypeMismatch (codes "THROUGH [0..^65536) DO ENDLOOP;")
    ∷ good (codes "i: CARDINAL; FOR i IN [0..65535] DO ENDLOOP;")
    -- beside a character
    ∷ wrong TypeMismatch (codes "c: CHARACTER; n: LONG INTEGER; c _ c + ^n;")
    ∷ wrong TypeMismatch (codes "c: CHARACTER; n: LONG INTEGER; c _ c - ^n;")
    ∷ wrong TypeMismatch (codes "c: CHARACTER; c _ c + ^65536;")
    ∷ wrong TypeMismatch (codes "c: CHARACTER; n: LONG INTEGER; c _ c * ^n;")
    ∷ wrong TypeMismatch (codes "c: CHARACTER; n: LONG INTEGER; c _ ^n + c;")
    ∷ wrong TypeMismatch (codes "c: CHARACTER; n: LONG INTEGER; i: INTEGER; c _ ^i + n - c;")
    ∷ wrong TypeMismatch (codes "c: CHARACTER; n: LONG INTEGER; b: BOOLEAN _ c = ^n;")
    ∷ wrong TypeMismatch (codes "c: CHARACTER; n: LONG INTEGER; b: BOOLEAN _ ^n NOT < c;")
    ∷ wrong TypeMismatch (codes "c: CHARACTER; n: LONG INTEGER; b: BOOLEAN _ c IN ['a..^n];")
    ∷ wrong TypeMismatch (codes "c: CHARACTER; n: LONG INTEGER; b: BOOLEAN _ c IN [^n..n];")
    ∷ wrong TypeMismatch (codes "c: CHARACTER; n: LONG INTEGER; b: BOOLEAN _ ^n IN ['a..'z];")
    ∷ wrong TypeMismatch (codes "c: CHARACTER; n: LONG INTEGER; SELECT c FROM ^n => NULL ENDCASE;")
    ∷ wrong TypeMismatch (codes "c: CHARACTER; n: LONG INTEGER; SELECT ^n FROM 3 => NULL; c => NULL ENDCASE;")
    ∷ wrong TypeMismatch (codes "c: CHARACTER; n: LONG INTEGER; SELECT c FROM IN ['a..^n] => NULL ENDCASE;")
    ∷ wrong TypeMismatch (codes "c: CHARACTER; n: LONG INTEGER; SELECT c FROM > ^n => NULL ENDCASE;")
    -- not before both operands have been checked
    ∷ wrong UnknownName (codes "c: CHARACTER; n: LONG INTEGER; b: BOOLEAN _ n = c + ^q;")
    -- a number beside a character is one of a word
    ∷ good (codes "c: CHARACTER; c _ c + 65535; c _ c - 40000;")
    ∷ []

where_a_long_value_is_refused : mistakes [] 0 refused ≡ []
unfolding everything
where_a_long_value_is_refused = refl

abbrev constants : List Row
constants =
    good (codes "Max: LONG CARDINAL = 4294967295; Min: LONG INTEGER = -2147483647 - 1; B: BOOLEAN = Min < 0 AND Max > 3; C: CARDINAL = 65536 - 1;")
    ∷ good (codes "N: LONG INTEGER = 70000 * 70000; M: INTEGER = N MOD 10; K: LONG CARDINAL = 5; x: ARRAY [0..M + 3) OF INTEGER;")
    ∷ wrong NotConstant (codes "X: INTEGER = ^32768;")
    ∷ wrong NotConstant (codes "X: CARDINAL = ^65536;")
    ∷ wrong NotConstant (codes "X: LONG INTEGER = ^2147483648;")
    ∷ wrong NotConstant (codes "X: LONG CARDINAL = ^-1;")
    ∷ wrong NotConstant (codes "X: [0..9] = ^70000 - 69990;")
    ∷ good (codes "X: [0..9] = 70000 - 69991;")
    ∷ wrong NotConstant (codes "X: LONG INTEGER = ^70000 / (70000 - 70000);")
    ∷ wrong NotConstant (codes "n: LONG INTEGER; X: LONG INTEGER = ^n;")
    ∷ wrong NotConstant (codes "X: LONG INTEGER = ^3000000000 + -1;")
    ∷ wrong TypeMismatch (codes "X: LONG INTEGER = ^'a;")
    ∷ wrong TypeMismatch (codes "X: LONG INTEGER = 3; ^X _ 4;")
    ∷ []

which_are_constant : mistakes [] 0 constants ≡ []
unfolding everything
which_are_constant = refl

abbrev sizes : List Row
sizes =
    good (codes "x: ARRAY [0..8191] OF LONG INTEGER;")
    ∷ wrong GlobalsTooLarge (codes "x: ARRAY [0..8191] OF LONG INTEGER; ^y: BOOLEAN;")
    -- a LONG selector has two hidden words
    ∷ good (codes "P: PROCEDURE [n: LONG INTEGER] = BEGIN x: ARRAY [0..1019] OF INTEGER; SELECT n FROM ENDCASE; END;")
    ∷ wrong FrameTooLarge (codes "^P: PROCEDURE [n: LONG INTEGER] = BEGIN x: ARRAY [0..1020] OF INTEGER; SELECT n FROM ENDCASE; END;")
    ∷ good (codes "P: PROCEDURE [n: LONG INTEGER] = BEGIN x: ARRAY [0..1020] OF INTEGER; SELECT 3 FROM n => NULL ENDCASE; END;")
    ∷ []

how_large_they_are : mistakes [] 0 sizes ≡ []
unfolding everything
how_large_they_are = refl

abbrev worked : List Row
worked =
    runs (codes "n: LONG INTEGER _ 65535; n _ n * n; WriteDecimal[n / 1000]; WriteDecimal[n MOD 1000];")
    ∷ runs (codes "c: LONG CARDINAL _ 4294967295; i: LONG INTEGER; c _ c + 1; IF c = 0 THEN WriteChar['z]; c _ 2147483648; i _ c;")
    ∷ runs (codes "x: INTEGER; n: LONG INTEGER _ 32768; x _ n;")
    ∷ []

worked_rows : mistakes io 0 worked ≡ []
unfolding everything
worked_rows = refl

-- an interface's constants and items in a program
abbrev lim : List PlainInterface
lim = interface 10 (codes "Lim: DEFINITIONS = BEGIN Max: LONG CARDINAL = 100000; Put: PROCEDURE [n: LONG INTEGER]; T: TYPE = LONG INTEGER; END.")

abbrev using : List Row
using =
    fine (codes "DIRECTORY Lim: FROM \"Lim\"; M: PROGRAM IMPORTS Lim = BEGIN n: Lim.T _ Lim.Max; Lim.Put[n]; Lim.Put[Lim.Max + 1]; Lim.Put[3]; END.")
    ∷ fine (codes "DIRECTORY Lim: FROM \"Lim\"; M: PROGRAM EXPORTS Lim = BEGIN Put: PUBLIC PROCEDURE [m: LONG INTEGER] = BEGIN END; END.")
    ∷ bad ExportDiffers (codes "DIRECTORY Lim: FROM \"Lim\"; M: PROGRAM EXPORTS Lim = BEGIN ^Put: PUBLIC PROCEDURE [m: LONG CARDINAL] = BEGIN END; END.")
    ∷ bad ExportDiffers (codes "DIRECTORY Lim: FROM \"Lim\"; M: PROGRAM EXPORTS Lim = BEGIN ^Put: PUBLIC PROCEDURE [m: INTEGER] = BEGIN END; END.")
    ∷ bad TypeMismatch (codes "DIRECTORY Lim: FROM \"Lim\"; M: PROGRAM = BEGIN x: [0..^Lim.Max]; END.")
    ∷ []

interfaces_with_long : mistakes lim 0 using ≡ []
unfolding everything
interfaces_with_long = refl

-- LONG in an interface: an item, and a constant with its number
limits : interface 10 (codes "Lim: DEFINITIONS = BEGIN Max: LONG CARDINAL = 100000; Put: PROCEDURE [n: LONG INTEGER]; Least: LONG INTEGER = -1; END.")
    ≡ record {
      name = codes "Lim";
      stamp = 10;
      items = record { kind = item.Procedure; name = codes "Put"; takes = record { name = Some (codes "n"); kind = v.LongInteger } ∷ []; gives = [] } ∷ [];
      constants = record { name = codes "Max"; kind = v.LongCardinal; value = 100000 } ∷ record { name = codes "Least"; kind = v.LongInteger; value = 4294967295 } ∷ [];
      types = [];
    } ∷ []
unfolding everything
limits = refl
