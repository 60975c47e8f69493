-- The typed trees of small texts.
use Rattle.std.specs.Prelude.{◌≡◌, ℕ, List, [], ◌∷◌, Option, Some, None, Ok, Err, codes}
use Rattle.std.proofs.Common.{refl}
use Rattle.mesa_types.specs.declared.faces.Import.{Import}
use Rattle.syntax_trees.specs.Syntax as s
use Rattle.check_rules.specs.Typed as t
use Rattle.check_rules.specs.Steps.{Checked}
use Rattle.check_rules.specs.CheckedModule.{program_by}
use Rattle.check_rules.proofs.Lexing.{Token}
use Rattle.check_rules.proofs.Reading.{read}
use Rattle.check_rules.proofs.Texts.{in_program, with_io}
use Rattle.check_rules.proofs.Everything.{everything}
use Rattle.checker_examples.proofs.Worked.{io}

abbrev pub body_of : Checked t.Module → Option t.Body
body_of (Ok m) = Some m.body
body_of (Err f) = None

abbrev pub body_for : Option (s.Module × List Token) → Option t.Body
body_for (Some r) = body_of (program_by r.0 [] r.0.kind)
body_for None = None

abbrev pub body : List ℕ → Option t.Body
body text = body_for (read (in_program text))

abbrev pub then : t.Stmt → t.Stmts → t.Stmts
then s ss = t.AndStmt s ss

abbrev pub block : t.Stmts → t.Stmt
block ss = t.Block t.NoPhrase ss t.NoExits

abbrev pub word : t.Home → t.Expr
word h = t.Variable h t.NoSuffix 1

abbrev pub of : t.Stmt → Option t.Body
of does = Some (record { variables = t.NoKinds; does = does })

-- an INTEGER and a CARDINAL: the operation is INTEGER, and the CARDINAL is checked; so is a CARDINAL that is given
mixed : body (codes "x: INTEGER; k: CARDINAL; x _ x + k; x _ k;") ≡ of (block (
    then (t.Declare (t.Global 0 ∷ []) t.Ordinal) (then (t.Declare (t.Global 1 ∷ []) t.Ordinal)
    (then (t.Assign (t.Global 0) t.NoSuffix
    (t.Operate (word (t.Global 0)) (t.Then t.Every t.Add (t.Checked (t.From t.Unsigned 0 32767) (word (t.Global 1))) t.NoOperation)))
    (then (t.Assign (t.Global 0) t.NoSuffix (t.Checked (t.From t.Unsigned 0 32767) (word (t.Global 1)))) t.NoStmts)))))
unfolding everything
mixed = refl

-- a literal takes the type of the other operand
literals : body (codes "k: CARDINAL; k _ 1 + k;") ≡ of (block (
    then (t.Declare (t.Global 0 ∷ []) t.Ordinal)
    (then (t.Assign (t.Global 0) t.NoSuffix (t.Operate (t.Number 1) (t.Then t.Every t.Add (word (t.Global 0)) t.NoOperation))) t.NoStmts)))
unfolding everything
literals = refl

-- a loop and its body are numbered; EXIT leads past the one, LOOP past the other
loop : body (codes "DO EXIT; LOOP ENDLOOP;") ≡ of (block (then
    (t.Marked 0 (t.Repeat t.Endless (t.LoopOf t.Always
    (t.Marked 1 (block (then (t.Jump 0 (t.PastStatement 0)) (then (t.Jump 0 (t.PastStatement 1)) t.NoStmts)))) t.NoExits t.NoFinish))) t.NoStmts))
unfolding everything
loop = refl

-- a statement that holds a phrase is numbered
phrase : body (codes "P: PROCEDURE = BEGIN END; P[! ANY => CONTINUE];") ≡ of (block (then
    (t.Marked 0 (t.Perform (t.Call (t.OwnProcedure 1) [] t.NoExprs 0 (t.Catch 0 (t.AndArm (t.OnAny ∷ []) 0 0 (t.Continue 0) t.NoArms))))) t.NoStmts))
unfolding everything
phrase = refl

-- an arm's parameters are variables of the body that holds it
parameters : body (codes "S: SIGNAL [x: INTEGER] RETURNS [INTEGER] = CODE; BEGIN ENABLE S => RESUME[x]; SIGNAL S[1]; END;") ≡ Some (record {
  variables = t.AndKind t.Ordinal t.NoKinds;
  does = block (then (t.Marked 0 (t.Block
      (t.Catch 0 (t.AndArm (t.OnOwn 0 ∷ []) 0 1 (t.Resume [] (t.AndExpr (word (t.Local 0)) t.NoExprs)) t.NoArms))
      (then (t.Perform (t.Raise (t.OwnSignal 0) [] (t.AndExpr (t.Number 1) t.NoExprs) 1 t.NoPhrase)) t.NoStmts)
      t.NoExits)) t.NoStmts);
})
unfolding everything
parameters = refl

-- labels are numbered; NOT before a relation turns it
labels : body (codes "IF 1 ~< 2 THEN GOTO L; EXITS K => NULL; L => NULL") ≡ of (t.Block t.NoPhrase
    (then (t.If (t.Relate t.Signed t.AtLeast (t.Number 1) (t.Number 2)) (t.Jump 0 (t.ToLabel 1)) t.Null) t.NoStmts)
    (t.AndExit (0 ∷ []) t.Null (t.AndExit (1 ∷ []) t.Null t.NoExits)))
unfolding everything
labels = refl

-- a keyed list says which field each value is for
keyed : body (codes "R: TYPE = RECORD [x, y: INTEGER]; r: R _ [y: 2, x: 1]; r.y _ 3;") ≡ of (block (
    then (t.DeclareAs (t.Global 0 ∷ []) (t.Record (t.AndKind t.Ordinal (t.AndKind t.Ordinal t.NoKinds)))
    (t.Construct (1 ∷ 0 ∷ []) (t.AndExpr (t.Number 2) (t.AndExpr (t.Number 1) t.NoExprs))))
    (then (t.Assign (t.Global 0) (t.Field 1 1 t.NoSuffix) (t.Number 3)) t.NoStmts)))
unfolding everything
keyed = refl

abbrev used_in : List Import → List (List ℕ)
used_in [] = []
used_in (i ∷ is) = i.used ∷ used_in is

abbrev used_of : Checked t.Module → List (List ℕ)
used_of (Ok m) = used_in m.imports
used_of (Err f) = []

abbrev used_for : Option (s.Module × List Token) → List (List ℕ)
used_for (Some r) = used_of (program_by r.0 io r.0.kind)
used_for None = []

-- the items that a text names, in the order of their interface
used : used_for (read (with_io (codes "WriteDecimal[1]; BEGIN ENABLE IODefs.NoInput => NULL; WriteChar['a]; END;"))) ≡ (0 ∷ 2 ∷ 5 ∷ []) ∷ []
unfolding everything
used = refl

abbrev strings_of : Checked t.Module → List (List ℕ)
strings_of (Ok m) = m.strings
strings_of (Err f) = []

abbrev strings_for : Option (s.Module × List Token) → List (List ℕ)
strings_for (Some r) = strings_of (program_by r.0 [] r.0.kind)
strings_for None = []

-- each string once, by its first mention in the text
strings : strings_for (read (in_program (codes "s: STRING _ \"b\"; P: PROCEDURE = BEGIN s _ \"a\"; s _ \"b\" END; s _ \"c\";")))
    ≡ codes "b" ∷ codes "a" ∷ codes "c" ∷ []
unfolding everything
strings = refl
