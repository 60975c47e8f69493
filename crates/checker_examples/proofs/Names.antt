-- Names: what is visible where, and what stands twice.
use Rattle.std.specs.Prelude.{◌≡◌, List, [], ◌∷◌, codes}
use Rattle.std.proofs.Common.{refl}
use Rattle.check_rules.specs.declared.fault.Cause.TheVariants.{UnknownName, TwiceDeclared, TypeMismatch, NotConstant, WrongCount}
use Rattle.check_rules.proofs.Texts.{Row, good, wrong, mistakes}
use Rattle.check_rules.proofs.Everything.{everything}

abbrev rows : List Row
rows =
    good (codes "")
    ∷ wrong UnknownName (codes "^x _ 1;")
    ∷ wrong UnknownName (codes "x: INTEGER _ ^x;")
    ∷ wrong UnknownName (codes "x: INTEGER _ ^y; y: INTEGER;")
    ∷ wrong UnknownName (codes "x: [0..^c]; c: INTEGER = 3;")
    ∷ good (codes "c: INTEGER = 3; x: [0..c]; y: INTEGER _ c;")
    ∷ wrong TwiceDeclared (codes "x, ^x: INTEGER;")
    ∷ wrong TwiceDeclared (codes "x: INTEGER; ^x: BOOLEAN;")
    ∷ wrong TwiceDeclared (codes "P: PROCEDURE = BEGIN x: INTEGER; ^x: INTEGER; END;")
    ∷ good (codes "x: BOOLEAN; P: PROCEDURE = BEGIN x: INTEGER; x _ 1; END;")
    ∷ wrong TypeMismatch (codes "x: INTEGER; P: PROCEDURE = BEGIN x: BOOLEAN; x _ ^1; END;")
    ∷ good (codes "x: INTEGER; P: PROCEDURE = BEGIN y: INTEGER _ x; x: BOOLEAN; x _ TRUE; END;")
    ∷ wrong UnknownName (codes "P: PROCEDURE = BEGIN y: INTEGER _ ^z; z: INTEGER; END;")
    ∷ wrong UnknownName (codes "P: PROCEDURE = BEGIN y: INTEGER _ ^y; END;")
    ∷ good (codes "P: PROCEDURE = BEGIN x _ 1; Q[]; END; x: INTEGER; Q: PROCEDURE = BEGIN END;")
    ∷ good (codes "x: INTEGER _ F[]; F: PROCEDURE RETURNS [INTEGER] = BEGIN RETURN[1] END;")
    ∷ good (codes "M: INTEGER; M _ 1;")
    ∷ []

inner_names_hide : mistakes [] 0 rows ≡ []
unfolding everything
inner_names_hide = refl

abbrev in_blocks : List Row
in_blocks =
    wrong UnknownName (codes "P: PROCEDURE = BEGIN x: INTEGER; GOTO L; EXITS L => ^x _ 1 END;")
    ∷ good (codes "P: PROCEDURE [x: INTEGER] = BEGIN GOTO L; EXITS L => x _ 1 END;")
    ∷ good (codes "x: INTEGER; GOTO L; EXITS L => x _ 1")
    ∷ good (codes "P: PROCEDURE = BEGIN ENABLE ANY => x _ 1; x: INTEGER; END;")
    ∷ good (codes "c: {red, green} _ red;")
    ∷ wrong UnknownName (codes "P: PROCEDURE = BEGIN c: {red, green} _ ^red; END;")
    ∷ good (codes "P: PROCEDURE = BEGIN c: {red, green}; c _ red; END;")
    ∷ wrong TwiceDeclared (codes "c: {red, ^red};")
    ∷ wrong TwiceDeclared (codes "red: INTEGER; c: {^red, green};")
    ∷ wrong TwiceDeclared (codes "c: {red, ^c};")
    ∷ wrong UnknownName (codes "x: ARRAY [^red..green] OF INTEGER; c: {red, green};")
    ∷ good (codes "P: PROCEDURE [c: {red, green}] = BEGIN c _ red; END;")
    ∷ wrong UnknownName (codes "P: PROCEDURE [c: {red, green}] = BEGIN END; BEGIN c: BOOLEAN _ ^red; END;")
    ∷ wrong TwiceDeclared (codes "P: PROCEDURE [x: INTEGER, ^x: INTEGER] = BEGIN END;")
    ∷ wrong TwiceDeclared (codes "P: PROCEDURE [x: INTEGER] RETURNS [^x: INTEGER] = BEGIN END;")
    ∷ wrong TwiceDeclared (codes "S: SIGNAL [x: INTEGER] RETURNS [^x: INTEGER] = CODE;")
    ∷ wrong UnknownName (codes "P: PROCEDURE [x: INTEGER, y: [0..^x]] = BEGIN END;")
    ∷ wrong TwiceDeclared (codes "R: TYPE = RECORD [x: INTEGER, ^x: INTEGER];")
    ∷ good (codes "P: PROCEDURE [x: INTEGER] = BEGIN x: BOOLEAN; x _ TRUE; END;")
    ∷ []

what_blocks_show : mistakes [] 0 in_blocks ≡ []
unfolding everything
what_blocks_show = refl

abbrev sorts : List Row
sorts =
    wrong TypeMismatch (codes "T: TYPE = INTEGER; x: INTEGER _ ^T;")
    ∷ wrong TypeMismatch (codes "x: INTEGER; y: ^x;")
    ∷ wrong TypeMismatch (codes "P: PROCEDURE RETURNS [INTEGER] = BEGIN RETURN[1] END; x: INTEGER _ ^P;")
    ∷ wrong NotConstant (codes "c: INTEGER = ^F[1]; F: PROCEDURE [n: INTEGER] RETURNS [INTEGER] = BEGIN RETURN[n] END;")
    ∷ wrong NotConstant (codes "F: PROCEDURE RETURNS [INTEGER] = BEGIN RETURN[1] END; c: INTEGER = ^F[];")
    ∷ wrong UnknownName (codes "x: I.^T;")
    ∷ []

sorts_of_names : mistakes [] 0 sorts ≡ []
unfolding everything
sorts_of_names = refl

-- a procedure or signal that a constant, a bound or a type names before its head: the head is taken as if it were checked
abbrev before_heads : List Row
before_heads =
    wrong NotConstant (codes "c: INTEGER = ^F[1]; F: PROCEDURE [n: INTEGER] RETURNS [INTEGER] = BEGIN RETURN[n] END;")
    ∷ wrong NotConstant (codes "c: INTEGER = ^1 + F[n: 1]; F: PROCEDURE [n: INTEGER] RETURNS [INTEGER] = BEGIN RETURN[n] END;")
    ∷ wrong TypeMismatch (codes "c: INTEGER = F[^TRUE]; F: PROCEDURE [n: INTEGER] RETURNS [INTEGER] = BEGIN RETURN[n] END;")
    ∷ wrong UnknownName (codes "c: INTEGER = F[^q]; F: PROCEDURE [n: INTEGER] RETURNS [INTEGER] = BEGIN RETURN[n] END;")
    ∷ wrong WrongCount (codes "c: INTEGER = F^[]; F: PROCEDURE [n: INTEGER] RETURNS [INTEGER] = BEGIN RETURN[n] END;")
    ∷ wrong WrongCount (codes "c: INTEGER = F^[m: 1]; F: PROCEDURE [n: INTEGER] RETURNS [INTEGER] = BEGIN RETURN[n] END;")
    ∷ wrong TypeMismatch (codes "c: INTEGER = ^F[]; F: PROCEDURE = BEGIN END;")
    ∷ wrong TypeMismatch (codes "c: INTEGER = ^F; F: PROCEDURE RETURNS [INTEGER] = BEGIN RETURN[1] END;")
    ∷ wrong TypeMismatch (codes "c: INTEGER = ^F[]; F: PROCEDURE RETURNS [BOOLEAN] = BEGIN RETURN[TRUE] END;")
    ∷ wrong TypeMismatch (codes "c: INTEGER = 1 ^+ F[]; F: PROCEDURE RETURNS [BOOLEAN] = BEGIN RETURN[TRUE] END;")
    ∷ wrong NotConstant (codes "x: [0..^F[]]; F: PROCEDURE RETURNS [INTEGER] = BEGIN RETURN[1] END;")
    ∷ wrong WrongCount (codes "x: [0..F^[1]]; F: PROCEDURE RETURNS [INTEGER] = BEGIN RETURN[1] END;")
    ∷ wrong WrongCount (codes "F: PROCEDURE [n: [0..G^[]]] = BEGIN END; G: PROCEDURE [n: INTEGER] RETURNS [INTEGER] = BEGIN RETURN[n] END;")
    ∷ wrong NotConstant (codes "c: INTEGER = ^SIGNAL S; S: SIGNAL RETURNS [INTEGER] = CODE;")
    ∷ wrong TypeMismatch (codes "c: INTEGER = SIGNAL ^E; E: ERROR = CODE;")
    ∷ wrong TypeMismatch (codes "c: INTEGER = ^ERROR E; E: ERROR = CODE;")
    -- its types are those that stand before the head, not before the constant
    ∷ wrong WrongCount (codes "c: INTEGER = F^[]; T: TYPE = [0..9]; F: PROCEDURE [n: T] RETURNS [INTEGER] = BEGIN RETURN[n] END;")
    ∷ wrong TypeMismatch (codes "c: INTEGER = F[^1]; T: TYPE = {red}; F: PROCEDURE [n: T] RETURNS [INTEGER] = BEGIN RETURN[1] END;")
    ∷ wrong UnknownName (codes "c: INTEGER = F[^red]; T: TYPE = {red}; F: PROCEDURE [n: T] RETURNS [INTEGER] = BEGIN RETURN[1] END;")
    ∷ wrong WrongCount (codes "c: INTEGER = F^[]; x: q; F: PROCEDURE [n: INTEGER] RETURNS [INTEGER] = BEGIN RETURN[n] END;")
    -- a head with a fault, as one that needs the constant itself
    ∷ wrong NotConstant (codes "c: INTEGER = ^F[q]; F: PROCEDURE [n: z] RETURNS [INTEGER] = BEGIN RETURN[1] END;")
    ∷ wrong NotConstant (codes "c: INTEGER = ^1 + F[q]; F: PROCEDURE [n: z] RETURNS [INTEGER] = BEGIN RETURN[1] END;")
    ∷ wrong NotConstant (codes "c: INTEGER = ^F[q]; T: TYPE = [0..c]; F: PROCEDURE [n: T] RETURNS [INTEGER] = BEGIN RETURN[1] END;")
    ∷ wrong NotConstant (codes "F: PROCEDURE [n: [0..^F[q]]] RETURNS [INTEGER] = BEGIN RETURN[1] END;")
    ∷ wrong NotConstant (codes "c: INTEGER = ^F[q]; G: INTEGER; F, G: PROCEDURE RETURNS [INTEGER] = BEGIN RETURN[1] END;")
    -- no type, whatever its head is
    ∷ wrong TypeMismatch (codes "x: ^F; F: PROCEDURE = BEGIN END;")
    ∷ wrong TypeMismatch (codes "x: ^F; F: PROCEDURE [n: z] = BEGIN END;")
    ∷ wrong TypeMismatch (codes "x: ARRAY ^F [0..3] OF INTEGER; F: ERROR [n: z] = CODE;")
    ∷ []

before_their_heads : mistakes [] 0 before_heads ≡ []
unfolding everything
before_their_heads = refl
