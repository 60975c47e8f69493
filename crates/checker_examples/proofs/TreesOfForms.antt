-- The typed tree of each form: where a text has several that mean the same, the one that is taken.
use Rattle.std.specs.Prelude.{◌≡◌, true, false, [], ◌∷◌, ◌++◌, codes}
use Rattle.std.proofs.Common.{refl}
use Rattle.check_rules.specs.Typed as t
use Rattle.check_rules.proofs.Everything.{everything}
use Rattle.checker_examples.proofs.Trees.{body, block, then, word, of}

abbrev x : t.Expr
x = word (t.Global 0)

abbrev k : t.Expr
k = word (t.Global 1)

abbrev declared : t.Stmts → t.Stmts
declared ss = then (t.Declare (t.Global 0 ∷ []) t.Ordinal) (then (t.Declare (t.Global 1 ∷ []) t.Ordinal) ss)

abbrev gives : t.Expr → t.Stmts → t.Stmts
gives e ss = then (t.Assign (t.Global 0) t.NoSuffix e) ss

abbrev common : t.Range
common = t.From t.Unsigned 0 32767

-- the check of what stands to the left is in the run, that of a right operand around it
runs : body (codes "x: INTEGER; k: CARDINAL; x _ k + x; x _ x + k * x;") ≡ of (block (declared (
    gives (t.Operate k (t.Then common t.Add x t.NoOperation))
    (gives (t.Operate x (t.Then t.Every t.Add (t.Operate k (t.Then common t.Multiply x t.NoOperation)) t.NoOperation)) t.NoStmts))))
unfolding everything
runs = refl

-- the base of an operation: a literal takes that of the other operand, a sign takes it away
bases : body (codes "x: INTEGER; k: CARDINAL; k _ k / 2 MOD 3; x _ +1 + k; x _ (1) + k;") ≡ of (block (declared (
    then (t.Assign (t.Global 1) t.NoSuffix (t.Operate k (t.Then t.Every (t.Divide t.Unsigned) (t.Number 2)
    (t.Then t.Every (t.Modulo t.Unsigned) (t.Number 3) t.NoOperation))))
    (gives (t.Operate (t.Number 1) (t.Then t.Every t.Add (t.Checked common k) t.NoOperation))
    (gives (t.Checked common (t.Operate (t.Number 1) (t.Then t.Every t.Add k t.NoOperation))) t.NoStmts)))))
unfolding everything
bases = refl

abbrev tells : t.Expr → t.Stmts → t.Stmts
tells e ss = then (t.If e t.Null t.Null) ss

-- relations: both operands may have a check; NOT before one turns it, before IN it stands around
relations : body (codes "x: INTEGER; k: CARDINAL; IF x < k THEN NULL; IF k ~> x THEN NULL; "
    ++ codes "IF NOT x = 1 THEN NULL; IF x NOT IN [1..k) THEN NULL;") ≡ of (block (declared (
    tells (t.Relate t.Signed t.Less x (t.Checked common k))
    (tells (t.Relate t.Signed t.AtMost (t.Checked common k) x)
    (tells (t.Not (t.Relate t.Signed t.Equal x (t.Number 1)))
    (tells (t.Not (t.Within (record { number = t.Signed; first = t.Signed; last = t.Unsigned }) x (t.Between (t.Number 1) false k true))) t.NoStmts))))))
unfolding everything
relations = refl

-- AND in parentheses is an operand of its own; a run of AND and of OR is one list
truths : body (codes "x, k: BOOLEAN; x _ x AND k AND (x AND k) OR k;") ≡ of (block (then (t.Declare (t.Global 0 ∷ t.Global 1 ∷ []) t.Ordinal)
    (gives (t.SomeOf (t.AndExpr (t.AllOf (t.AndExpr x (t.AndExpr k (t.AndExpr (t.AllOf (t.AndExpr x (t.AndExpr k t.NoExprs))) t.NoExprs))))
    (t.AndExpr k t.NoExprs))) t.NoStmts)))
unfolding everything
truths = refl

-- what goes to a subrange is checked always; from a CARDINAL by its own numbers, clipped
ranges : body (codes "x: INTEGER [-3..3]; k: CARDINAL; x _ 5; x _ x; x _ k;") ≡ of (block (declared (
    gives (t.Checked (t.From t.Signed 65533 3) (t.Number 5))
    (gives (t.Checked (t.From t.Signed 65533 3) x)
    (gives (t.Checked (t.From t.Unsigned 0 3) k) t.NoStmts)))))
unfolding everything
ranges = refl

-- an index by its own base where the bases differ
indexes : body (codes "x: INTEGER; k: CARDINAL; a: ARRAY [1..3] OF STRING; x _ a[x].length; x _ a[k].length;") ≡ of (block (
    declared (then (t.Declare (t.Global 2 ∷ []) (t.Array 3 t.Texts))
    (gives (t.Checked common (t.LengthOf (t.Variable (t.Global 2) (t.Index t.Every 1 3 2 x t.NoSuffix) 2)))
    (gives (t.Checked common (t.LengthOf (t.Variable (t.Global 2) (t.Index (t.From t.Unsigned 1 3) 1 3 2 k t.NoSuffix) 2))) t.NoStmts)))))
unfolding everything
indexes = refl

-- a field of a variable is a suffix, of what a call gives a part; fields in fields are one list
parts : body (codes "x, k: INTEGER; R: TYPE = RECORD [a: STRING, b: RECORD [c, d: INTEGER]]; "
    ++ codes "F: PROCEDURE RETURNS [R] = BEGIN END; r: R; x _ r.b.d; x _ F[].b.d;") ≡ of (block (
    then (t.Declare (t.Global 0 ∷ t.Global 1 ∷ []) t.Ordinal)
    (then (t.Declare (t.Global 2 ∷ []) (t.Record (t.AndKind t.Texts (t.AndKind (t.Record (t.AndKind t.Ordinal (t.AndKind t.Ordinal t.NoKinds))) t.NoKinds))))
    (gives (t.Variable (t.Global 2) (t.Field 1 2 (t.Field 1 1 t.NoSuffix)) 1)
    (gives (t.FieldOf (t.Call (t.OwnProcedure 1) [] t.NoExprs 4 t.NoPhrase)
    (record { field = 1; offset = 2; words = 2 } ∷ record { field = 1; offset = 1; words = 1 } ∷ [])) t.NoStmts)))))
unfolding everything
parts = refl

-- constants and types leave no statement
constants : body (codes "T: TYPE = INTEGER; c: T = 2; x: INTEGER _ c + 1; s: STRING = \"ab\";") ≡ of (block (
    then (t.DeclareAs (t.Global 0 ∷ []) t.Ordinal (t.Operate (t.Number 2) (t.Then t.Every t.Add (t.Number 1) t.NoOperation))) t.NoStmts))
unfolding everything
constants = refl
