-- The typed trees of statements: numbers of statements and labels, checks of what is given, arms.
use Rattle.std.specs.Prelude.{◌≡◌, ℕ, true, false, List, [], ◌∷◌, ◌++◌, Option, Some, None, Ok, Err, codes}
use Rattle.std.proofs.Common.{refl}
use Rattle.syntax_trees.specs.Syntax as s
use Rattle.check_rules.specs.Typed as t
use Rattle.check_rules.specs.Steps.{Checked}
use Rattle.check_rules.specs.CheckedModule.{program_by}
use Rattle.check_rules.proofs.Lexing.{Token}
use Rattle.check_rules.proofs.Reading.{read}
use Rattle.check_rules.proofs.Texts.{in_program}
use Rattle.check_rules.proofs.Everything.{everything}
use Rattle.checker_examples.proofs.Trees.{body, block, then, word, of}

abbrev statement : t.Stmt → t.Stmts
statement s = then s t.NoStmts

abbrev variables : List t.Home → t.Stmts → t.Stmts
variables hs ss = then (t.Declare hs t.Ordinal) ss

-- each loop and each loop's body has a number; the labels of a REPEAT follow those around; an absent FINISHED has no node
loops : body (codes "DO GOTO L; DO EXIT REPEAT K => LOOP ENDLOOP REPEAT L => NULL; FINISHED => NULL ENDLOOP; GOTO M; EXITS M => NULL") ≡ of (t.Block t.NoPhrase
    (then (t.Marked 0 (t.Repeat t.Endless (t.LoopOf t.Always (t.Marked 1 (block
    (then (t.Jump 0 (t.ToLabel 1))
    (statement (t.Marked 2 (t.Repeat t.Endless (t.LoopOf t.Always (t.Marked 3 (block (statement (t.Jump 0 (t.PastStatement 2)))))
    (t.AndExit (2 ∷ []) (t.Jump 0 (t.PastStatement 1)) t.NoExits) t.NoFinish)))))))
    (t.AndExit (1 ∷ []) t.Null t.NoExits) (t.Finished t.Null))))
    (statement (t.Jump 0 (t.ToLabel 0))))
    (t.AndExit (0 ∷ []) t.Null t.NoExits))
unfolding everything
loops = refl

abbrev once : t.Stmt → t.Loop
once s = t.LoopOf t.Always (t.Marked 1 s) t.NoExits t.NoFinish

-- a counted loop has one base, in which both bounds are checked, and gives its number to the variable with a check
counted : body (codes "i, n: INTEGER; k: CARDINAL; FOR k DECREASING IN [n..k) DO ENDLOOP; THROUGH ['a..'z] WHILE TRUE DO NULL ENDLOOP;") ≡ of (block (
    variables (t.Global 0 ∷ t.Global 1 ∷ []) (variables (t.Global 2 ∷ [])
    (then (t.Marked 0 (t.For (t.GivenTo (t.Global 2) (t.From t.Signed 0 32767)) true t.Signed
    (t.Between (word (t.Global 1)) false (t.Checked (t.From t.Unsigned 0 32767) (word (t.Global 2))) true) (once (block t.NoStmts))))
    (statement (t.Marked 0 (t.For t.NoVariable false t.Unsigned (t.Between (t.Number 97) false (t.Number 122) false)
    (t.LoopOf (t.While (t.Number 1)) (t.Marked 1 (block (statement t.Null))) t.NoExits t.NoFinish))))))))
unfolding everything
counted = refl

-- tests: the check of the selector is in the test, NOT before IN is the test's own mark
tests : body (codes "i: INTEGER; k: CARDINAL; SELECT k FROM i, < 3 => NULL; NOT IN [i..k] => RETURN; ~ = 4 => NULL ENDCASE => NULL;") ≡ of (block (
    variables (t.Global 0 ∷ []) (variables (t.Global 1 ∷ []) (statement (t.Select (word (t.Global 1))
    (t.AndCase (t.IfRelated (t.From t.Unsigned 0 32767) t.Signed t.Equal (word (t.Global 0))
    (t.IfRelated t.Every t.Unsigned t.Less (t.Number 3) t.NoTests)) t.Null
    (t.AndCase (t.IfWithin true (record { number = t.Unsigned; first = t.Signed; last = t.Unsigned })
    (t.Between (word (t.Global 0)) false (word (t.Global 1)) false) t.NoTests) (t.Jump 0 t.ToReturn)
    (t.AndCase (t.IfRelated t.Every t.Unsigned t.NotEqual (t.Number 4) t.NoTests) t.Null (t.Otherwise t.Null)))))))))
unfolding everything
tests = refl

-- an extractor takes the fields of a record, or the results of a call, each with the words before it
extractors : body (codes "i: INTEGER; k: CARDINAL; R: TYPE = RECORD [s: STRING, n: INTEGER]; F: PROCEDURE RETURNS [R] = BEGIN END; "
    ++ codes "G: PROCEDURE RETURNS [s: STRING, n: INTEGER] = BEGIN END; [n: k] _ F[]; [n: k] _ G[]; [] _ G[];") ≡ of (block (
    variables (t.Global 0 ∷ []) (variables (t.Global 1 ∷ [])
    (then (t.Extract true (t.AndTarget (record { field = 1; offset = 2; words = 1 }) (t.Global 1) t.NoSuffix (t.From t.Signed 0 32767) t.NoTargets)
    (t.Call (t.OwnProcedure 1) [] t.NoExprs 3 t.NoPhrase))
    (then (t.Extract false (t.AndTarget (record { field = 1; offset = 2; words = 1 }) (t.Global 1) t.NoSuffix (t.From t.Signed 0 32767) t.NoTargets)
    (t.Call (t.OwnProcedure 2) [] t.NoExprs 3 t.NoPhrase))
    (statement (t.Extract false t.NoTargets (t.Call (t.OwnProcedure 2) [] t.NoExprs 3 t.NoPhrase))))))))
unfolding everything
extractors = refl

-- an ENABLE gives its block a number; a jump out of arms says how many it leaves; a phrase in a phrase belongs to its own statement
arms : body (codes "ENABLE ANY => BEGIN DO Q[! ANY => EXIT; UNWIND => REJECT] ENDLOOP; RETRY END; Q: PROCEDURE = BEGIN END; Q[];") ≡ of (t.Marked 0 (t.Block
    (t.Catch 0 (t.AndArm (t.OnAny ∷ []) 0 0 (block (then
    (t.Marked 1 (t.Repeat t.Endless (t.LoopOf t.Always (t.Marked 2 (block (statement
    (t.Marked 3 (t.Perform (t.Call (t.OwnProcedure 1) [] t.NoExprs 0 (t.Catch 3
    (t.AndArm (t.OnAny ∷ []) 0 0 (t.Jump 1 (t.PastStatement 1)) (t.AndArm (t.OnUnwind ∷ []) 0 0 t.Reject t.NoArms)))))))))
    t.NoExits t.NoFinish)))
    (statement (t.Retry 0)))) t.NoArms))
    (statement (t.Perform (t.Call (t.OwnProcedure 1) [] t.NoExprs 0 t.NoPhrase)))
    t.NoExits))
unfolding everything
arms = refl

abbrev procedures_of : Checked t.Module → List t.Body
procedures_of (Ok m) = bodies m.procedures
  where
    bodies : List t.Procedure → List t.Body
    bodies [] = []
    bodies (p ∷ ps) = p.body ∷ bodies ps
procedures_of (Err f) = []

abbrev procedures_for : Option (s.Module × List Token) → List t.Body
procedures_for (Some r) = procedures_of (program_by r.0 [] r.0.kind)
procedures_for None = []

abbrev procedures : List ℕ → List t.Body
procedures text = procedures_for (read (in_program text))

-- Parameters, then results, then the variables of blocks are numbered. RETURN with values says what it leaves and where the
-- results begin.
returns : procedures (codes "P: PROCEDURE [n: INTEGER] RETURNS [a, b: INTEGER] = BEGIN v: STRING; a _ n; RETURN; RETURN[b: 1, a: 2] END;") ≡ record {
  variables = t.AndKind t.Texts t.NoKinds;
  does = block (then (t.Declare (t.Local 3 ∷ []) t.Texts) (then (t.Assign (t.Local 1) t.NoSuffix (word (t.Local 0)))
      (then (t.Jump 0 t.ToReturn) (statement (t.ReturnWith 0 1 (1 ∷ 0 ∷ []) (t.AndExpr (t.Number 1) (t.AndExpr (t.Number 2) t.NoExprs)))))));
} ∷ []
unfolding everything
returns = refl

-- out of an arm, whose parameters are variables of the procedure behind those of its blocks
out_of_arms : procedures (codes "S: SIGNAL [x: STRING, y: INTEGER] = CODE; "
    ++ codes "P: PROCEDURE RETURNS [INTEGER] = BEGIN ENABLE S => RETURN[y]; v: INTEGER; SIGNAL S[\"a\", 1] END;") ≡ record {
      variables = t.AndKind t.Ordinal (t.AndKind t.Texts (t.AndKind t.Ordinal t.NoKinds));
      does = t.Marked 0 (t.Block
          (t.Catch 0 (t.AndArm (t.OnOwn 0 ∷ []) 2 2 (t.ReturnWith 1 0 [] (t.AndExpr (word (t.Local 3)) t.NoExprs)) t.NoArms))
          (then (t.Declare (t.Local 1 ∷ []) t.Ordinal)
          (statement (t.Perform (t.Raise (t.OwnSignal 0) [] (t.AndExpr (t.Literal 0) (t.AndExpr (t.Number 1) t.NoExprs)) 0 t.NoPhrase))))
          t.NoExits);
    } ∷ []
unfolding everything
out_of_arms = refl
