-- Parentheses: a fault of a value stands at its first token as it is written, which may be a parenthesis; a fault of what stands
-- in the parentheses stays there.
use Rattle.std.specs.Prelude.{◌≡◌, ℕ, List, [], ◌∷◌, ◌++◌, codes}
use Rattle.std.proofs.Common.{refl}
use Rattle.check_rules.specs.declared.fault.Cause.{Cause}
use Rattle.check_rules.specs.declared.fault.Cause.TheVariants.{UnknownName, TypeMismatch, NotConstant, WrongCount}
use Rattle.check_rules.proofs.Texts.{Row, good, wrong, mistakes}
use Rattle.check_rules.proofs.Everything.{everything}

-- F gives nothing, G one number, H two
abbrev given : List ℕ
given = codes "i: INTEGER; b: BOOLEAN; a: ARRAY [0..2] OF INTEGER; R: TYPE = RECORD [x, y: INTEGER]; r: R; F: PROCEDURE = BEGIN END; "
    ++ (codes "G: PROCEDURE RETURNS [INTEGER] = BEGIN RETURN[1] END; H: PROCEDURE RETURNS [INTEGER, INTEGER] = BEGIN RETURN[1, 2] END; "
    ++ codes "P: PROCEDURE [n: INTEGER] = BEGIN END; E: ERROR = CODE; ")

abbrev right : List ℕ → Row
right text = good (given ++ (text ++ codes ";"))

abbrev refused : Cause → List ℕ → Row
refused cause text = wrong cause (given ++ (text ++ codes ";"))

-- what is no value, or one that has no type there
abbrev values : List Row
values =
    refused TypeMismatch (codes "i _ ^(TRUE)")
    ∷ refused TypeMismatch (codes "i _ ^([1])")
    ∷ refused TypeMismatch (codes "i _ ^(F[])")
    ∷ refused TypeMismatch (codes "i _ ^(H[])")
    ∷ refused TypeMismatch (codes "i _ ^(ERROR)")
    ∷ refused TypeMismatch (codes "i _ ^(ERROR E)")
    ∷ refused TypeMismatch (codes "IF ^(F[]) THEN NULL")
    ∷ refused TypeMismatch (codes "WHILE ^(F[]) DO NULL ENDLOOP")
    ∷ refused TypeMismatch (codes "UNTIL ^((1)) DO NULL ENDLOOP")
    ∷ refused TypeMismatch (codes "Q: PROCEDURE = BEGIN k: INTEGER _ ^(F[]); END")
    ∷ refused TypeMismatch (codes "i _ ^((F[]))")
    ∷ refused TypeMismatch (codes "i _ ^((([1])))")
    ∷ right (codes "i _ ((G[])); r _ (([1, (2)])); b _ ((TRUE)); i _ (r.x) + ((a[(0)]))")
    ∷ []

given_to_a_target : mistakes [] 0 values ≡ []
unfolding everything
given_to_a_target = refl

abbrev operands : List Row
operands =
    refused TypeMismatch (codes "i _ ^([1]) + 2")
    ∷ refused TypeMismatch (codes "i _ 2 + ^([1])")
    ∷ refused TypeMismatch (codes "i _ ^(F[]) * 2")
    ∷ refused TypeMismatch (codes "i _ 2 MOD ^((F[]))")
    ∷ refused TypeMismatch (codes "i _ -^(F[])")
    ∷ refused TypeMismatch (codes "b _ NOT ^(F[])")
    ∷ refused TypeMismatch (codes "b _ ^(F[]) AND b")
    ∷ refused TypeMismatch (codes "b _ b AND ^([TRUE])")
    ∷ refused TypeMismatch (codes "b _ ^(H[]) OR b")
    ∷ refused TypeMismatch (codes "b _ b OR ^(ERROR E)")
    ∷ refused TypeMismatch (codes "b _ ^(F[]) = 1")
    ∷ refused TypeMismatch (codes "b _ 1 ~ < ^([1])")
    ∷ refused TypeMismatch (codes "b _ ^(F[]) IN [0..2]")
    ∷ refused TypeMismatch (codes "b _ 1 IN [^(F[])..2]")
    ∷ refused TypeMismatch (codes "b _ 1 IN [0..^([1])]")
    ∷ refused TypeMismatch (codes "FOR i IN [^(F[])..2] DO NULL ENDLOOP")
    ∷ refused TypeMismatch (codes "THROUGH [0..^(F[])] DO NULL ENDLOOP")
    -- operands that do not fit are a fault at the operator
    ∷ refused TypeMismatch (codes "i _ (1) ^+ (TRUE)")
    ∷ refused TypeMismatch (codes "b _ ^NOT (1)")
    ∷ refused TypeMismatch (codes "b _ (b) ^AND (1)")
    -- the first token of a run is that of its first operand
    ∷ refused TypeMismatch (codes "b _ ^(i) + 1")
    ∷ refused TypeMismatch (codes "b _ ^((i) + 1)")
    ∷ []

of_operators : mistakes [] 0 operands ≡ []
unfolding everything
of_operators = refl

abbrev lists : List Row
lists =
    refused TypeMismatch (codes "a[^(F[])] _ 1")
    ∷ refused TypeMismatch (codes "a[^(TRUE)] _ 1")
    ∷ refused TypeMismatch (codes "i _ a[^([1])]")
    ∷ refused TypeMismatch (codes "P[^(F[])]")
    ∷ refused TypeMismatch (codes "P[^(TRUE)]")
    ∷ refused TypeMismatch (codes "P[n: ^(H[])]")
    ∷ refused TypeMismatch (codes "P[n: ^([1])]")
    ∷ refused TypeMismatch (codes "r _ [1, ^(F[])]")
    ∷ refused TypeMismatch (codes "r _ R[x: 1, y: ^((F[]))]")
    ∷ refused TypeMismatch (codes "Q: PROCEDURE RETURNS [INTEGER] = BEGIN RETURN[^(F[])] END")
    ∷ refused TypeMismatch (codes "Q: PROCEDURE RETURNS [n: INTEGER] = BEGIN RETURN[n: ^([1])] END")
    ∷ refused TypeMismatch (codes "S: SIGNAL RETURNS [INTEGER] = CODE; BEGIN ENABLE S => RESUME[^(F[])]; NULL END")
    ∷ refused TypeMismatch (codes "T: SIGNAL [n: INTEGER] = CODE; SIGNAL T[^(H[])]")
    ∷ refused TypeMismatch (codes "SELECT ^(F[]) FROM 1 => NULL ENDCASE")
    ∷ refused TypeMismatch (codes "SELECT i FROM ^(F[]) => NULL ENDCASE")
    ∷ refused TypeMismatch (codes "SELECT i FROM ^(TRUE) => NULL ENDCASE")
    ∷ refused TypeMismatch (codes "SELECT i FROM = ^([1]) => NULL ENDCASE")
    ∷ refused TypeMismatch (codes "SELECT i FROM IN [1..^(F[])] => NULL ENDCASE")
    ∷ refused TypeMismatch (codes "[] _ ^([1, 2])")
    ∷ refused TypeMismatch (codes "[i] _ ^((1))")
    ∷ refused TypeMismatch (codes "[b] _ ^(G[])")
    ∷ right (codes "[] _ (F[]); [i] _ ((G[])); [i, i] _ (H[]); [x: i] _ (r)")
    ∷ []

in_lists_and_statements : mistakes [] 0 lists ≡ []
unfolding everything
in_lists_and_statements = refl

abbrev constants : List Row
constants =
    refused TypeMismatch (codes "Q: PROCEDURE = BEGIN c: INTEGER = ^(F[]); END")
    ∷ refused TypeMismatch (codes "Q: PROCEDURE = BEGIN c: BOOLEAN = ^((1)); END")
    ∷ refused NotConstant (codes "Q: PROCEDURE = BEGIN c: INTEGER = ^(i); END")
    ∷ refused NotConstant (codes "Q: PROCEDURE = BEGIN k: [0..^((i))]; END")
    ∷ refused TypeMismatch (codes "Q: PROCEDURE = BEGIN k: INTEGER [^(TRUE)..2]; END")
    ∷ refused TypeMismatch (codes "Q: PROCEDURE = BEGIN k: [0..^(F[])]; END")
    ∷ []

of_constants_and_bounds : mistakes [] 0 constants ≡ []
unfolding everything
of_constants_and_bounds = refl

-- what stands in parentheses has its faults where they are
abbrev inside : List Row
inside =
    refused UnknownName (codes "i _ (^q)")
    ∷ refused UnknownName (codes "i _ (r.^z)")
    ∷ refused TypeMismatch (codes "i _ (^F)")
    ∷ refused TypeMismatch (codes "i _ (^R)")
    ∷ refused TypeMismatch (codes "i _ (1 ^+ TRUE)")
    ∷ refused TypeMismatch (codes "i _ (^F[] + 1)")
    ∷ refused TypeMismatch (codes "i _ (1 + ^(F[]))")
    ∷ refused TypeMismatch (codes "i _ (^(F[]) + 1)")
    ∷ refused WrongCount (codes "i _ (G^[1])")
    ∷ refused WrongCount (codes "r _ (^[1])")
    ∷ refused TypeMismatch (codes "i _ (^i[1])")
    ∷ refused TypeMismatch (codes "r _ ([1, ^TRUE])")
    ∷ []

stay_inside : mistakes [] 0 inside ≡ []
unfolding everything
stay_inside = refl
