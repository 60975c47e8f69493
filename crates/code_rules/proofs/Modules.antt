-- The code of a whole module, with its signals, strings, links and procedures; and the scopes of a body.
use Rattle.std.proofs.Common.{◌≡◌, refl, sym, ◌∙◌, ap, subst, ℕ, List, [], ◌∷◌, None, arith}
use Rattle.std.specs.Prelude.{codes}
use Rattle.mesa_types.specs.declared.faces.Import.{Import}
use Rattle.mesa_types.specs.declared.faces.Item.{Item}
use Rattle.mesa_types.specs.declared.faces.ItemKind.{ItemKind}
use Rattle.mesa_types.specs.declared.faces.ItemKind.TheVariants as item
use Rattle.mesa_types.specs.declared.types.FieldType.{FieldType, roll-FieldType}
use Rattle.mesa_types.specs.declared.types.TypeTree.TheOpen.{TypeTree-F}
use Rattle.mesa_types.specs.declared.types.TypeTree.TheVariants as v
use Rattle.mesa_types.specs.declared.types.TypeTree.TheFolds.{fold-roll-TypeTree, fold-roll-FieldType}
use Rattle.mesa_types.specs.Plain.{Shaped, shape_step, field_kind_step, kind_of, kinds_of}
use Rattle.mesa_types.specs.declared.typed_parts.Callee.TheVariants.{OwnProcedure, LinkedProcedure}
use Rattle.mesa_types.specs.declared.typed_parts.Goal.TheVariants.{PastStatement, ToLabel, ToReturn}
use Rattle.mesa_types.specs.declared.typed_parts.Home.TheVariants.{Global}
use Rattle.mesa_types.specs.declared.typed_parts.Label.TheVariants.{OnAny, OnUnwind, OnOwn, OnBounds, OnZero}
use Rattle.mesa_types.specs.declared.typed_parts.Operator.TheVariants as operator
use Rattle.mesa_types.specs.declared.typed_parts.Raised.TheVariants.{OwnSignal}
use Rattle.mesa_types.specs.declared.typed_parts.Range.TheVariants.{Every}
use Rattle.mesa_types.specs.Sound.{labels_in}
use Rattle.mesa_types.specs.Typed.{Start, After, At, Leave, point_of, Kind, Ordinal, Kinds, NoKinds, AndKind, Number, Operate, NoOperation, Then, Call, Raise, NoPhrase, Catch, NoArms, AndArm, NoSuffix, Stmt, Null, Marked, Assign, Perform, Block, Repeat, Endless, Jump, ReturnWith, Retry, NoExits, AndExit, LoopOf, NoFinish, Always, Module}
use Rattle.mesa_types.specs.Shapes.{words_in, words_in_all, words_before, join}
use Rattle.mesa_types.specs.Counts.{hidden, hidden_expr, hidden_exprs, hidden_suffixes, hidden_operations, hidden_phrase, hidden_stmts, hidden_exits, words_of, words_given}
use Rattle.mesa_types.specs.Links.{items_used, links_of}
use Rattle.code_forms.specs.declared.instruction.Instruction.TheVariants as i
use Rattle.code_forms.specs.declared.module_code.CodeKind.TheVariants as kind
use Rattle.code_forms.specs.declared.module_code.CodeLink.{CodeLink}
use Rattle.code_forms.specs.declared.module_code.CodeProcedure.{CodeProcedure}
use Rattle.code_forms.specs.declared.module_code.CodeSignal.{CodeSignal}
use Rattle.code_forms.specs.Routine.{routine_with}
use Rattle.code_rules.specs.CodeFor.{number, variable, operate, operation, no_operation, call, and_value, no_values, no_phrase, block, no_exits, falls, and_statement, no_statements, assign, perform, return_with}
use Rattle.code_rules.specs.Modules.{BodyCode, PartsFor}
use Rattle.code_rules.specs.Reading.{Coded, Caller, no_more}
use Rattle.code_rules.specs.Scopes.{in_expr, in_exprs, in_suffixes, in_operations, in_interval, in_phrase, in_arms, in_stmt, in_stmts, in_targets, in_cases, in_tests, in_exits, in_loop, in_finish, in_condition, scopes}
use Rattle.code_rules.proofs.Made.{at, kinds, local, global, exprs, stmts, plain_block, ◌&◌}

-- a parameter or result of the type INTEGER
abbrev integers : List FieldType
integers = roll-FieldType (record { name = None; kind = v.Integer }) ∷ []

abbrev a_word : Kinds
a_word = kinds (Ordinal ∷ [])

integer_kind : kind_of v.Integer ≡ Ordinal
integer_kind = ap kind_of (sym v.rolls-Integer) ∙ ap (λ (x : Shaped). x.shape) (fold-roll-TypeTree Shaped Kind shape_step field_kind_step TypeTree-F.Integer)

an_integer : kinds_of integers ≡ a_word
an_integer = ap (λ k. AndKind k NoKinds) (rw fold-roll-FieldType integer_kind)

abbrev head : ItemKind → List ℕ → (takes gives : List FieldType) → Item
head kind name takes gives = record { kind = kind; name = name; takes = takes; gives = gives }

abbrev host : Import
host = record {
  face = record {
    name = codes "IODefs";
    stamp = 1;
    items = head item.Procedure (codes "WriteChar") integers [] ∷ head item.Procedure (codes "WriteDecimal") integers [] ∷ [];
  };
  used = 1 ∷ [];
}

abbrev twice_does : Stmt
twice_does = plain_block (ReturnWith 0 1 [] (exprs (Operate (local 0) (Then Every operator.Add (local 0) NoOperation) ∷ [])) ∷ [])

-- M: PROGRAM IMPORTS IODefs = g: INTEGER; Odd: SIGNAL [INTEGER] RETURNS [INTEGER] = CODE;
-- Twice: PROCEDURE [x: INTEGER] RETURNS [INTEGER] = RETURN[x + x]; g ← Twice[3]; IODefs.WriteDecimal[g]; and a string ".."
abbrev twice : Module
twice = record {
  name = codes "M";
  imports = host ∷ [];
  exports = [];
  globals = kinds (Ordinal ∷ []);
  signals = head item.Signal (codes "Odd") integers integers ∷ [];
  strings = codes ".." ∷ [];
  procedures = record {
    head = head item.Procedure (codes "Twice") integers integers;
    body = record { variables = kinds []; does = twice_does };
  } ∷ [];
  body = record {
    variables = kinds [];
    does = plain_block (
        Assign (Global 0) NoSuffix (Call (OwnProcedure 1) [] (exprs (Number 3 ∷ [])) 1 NoPhrase)
        ∷ Perform (Call (LinkedProcedure 0 1) [] (exprs (global 0 ∷ [])) 0 NoPhrase) ∷ []);
  };
}

abbrev signals_code : List CodeSignal
signals_code = record { kind = kind.Signal; name = codes "Odd"; args = 1; results = 1 } ∷ []

abbrev links_code : List CodeLink
links_code = record { kind = kind.Procedure; args = 1; results = 0 } ∷ []

abbrev body_code : CodeProcedure
body_code = record {
  name = codes "M";
  args = 0;
  results = 0;
  frame = 0;
  depth = 1;
  code =
      at 0 0 (i.Lit 3)
      ∷ at 3 1 (i.Call 1)
      ∷ at 8 1 (i.StoreG 0 1)
      ∷ at 13 0 (i.LoadG 0 1)
      ∷ at 18 1 (i.CallLink 0)
      ∷ at 23 0 i.Return
      ∷ [];
  phrases = [];
}

abbrev twice_code : CodeProcedure
twice_code = record {
  name = codes "Twice";
  args = 1;
  results = 1;
  frame = 2;
  depth = 2;
  code =
      at 0 0 (i.LoadL 0 1)
      ∷ at 5 1 (i.LoadL 0 1)
      ∷ at 10 2 i.Add
      ∷ at 11 1 (i.StoreL 1 1)
      ∷ at 16 0 i.Return
      ∷ at 17 0 i.Return
      ∷ [];
  phrases = [];
}

-- the procedure Twice, by what it takes and gives
abbrev twice_with : Kinds → Coded
twice_with ks = record {
  imports = twice.imports;
  globals = twice.globals;
  locals = join ks (join ks NoKinds);
  routine = routine_with 1 1 signals_code links_code (body_code ∷ twice_code ∷ []) twice_code;
  entries = twice_code.code;
}

body_stands : BodyCode (twice_with a_word) twice_does
unfolding words_in words_in_all words_before join hidden hidden_expr hidden_exprs hidden_suffixes hidden_operations hidden_phrase hidden_stmts hidden_exits words_of words_given
body_stands = record {
  end = 17;
  does =
      block [] 17 17 no_phrase
      (and_statement 17
      (return_with 11 Caller (and_value 11 (operate 5 (variable tt (refl & no_more))
      (operation 5 10 11 no_more (variable tt (refl & no_more)) (refl & no_more) no_operation)) no_values) refl (refl & refl & no_more))
      no_statements)
      falls no_exits;
  returns = refl & no_more;
  room = omega arith;
}

twice_stands : PartsFor twice (codes "M") 1 signals_code (codes ".." ∷ []) links_code (body_code ∷ twice_code ∷ [])
unfolding words_in words_in_all words_before join hidden hidden_expr hidden_exprs hidden_suffixes hidden_operations hidden_phrase hidden_stmts hidden_exits words_of words_given items_used links_of
twice_stands = record {
  named = refl;
  global_words = refl;
  each_signal = ap (λ n. record { kind = kind.Signal; name = codes "Odd"; args = n; results = n } ∷ []) (sym (ap words_in_all an_integer));
  each_string = refl;
  each_link = ap (λ n. record { kind = kind.Procedure; args = n; results = 0 } ∷ []) (sym (ap words_in_all an_integer));
  each_procedure = (
    record {
      name = refl;
      args = refl;
      results = refl;
      body = record {
        end = 23;
        does =
            block [] 23 23 no_phrase
            (and_statement 13 (assign 8 tt (call 3 3 (and_value 3 (number (refl & no_more)) no_values) no_more no_phrase (refl & no_more)) (refl & no_more))
            (and_statement 23
            (perform 23 (call 18 18 (and_value 18 (variable tt (refl & no_more)) no_values) no_more no_phrase (refl & no_more)) no_more) no_statements))
            falls no_exits;
        returns = refl & no_more;
        room = omega arith;
      };
    },
    (
      record {
        name = refl;
        args = sym (ap words_in_all an_integer);
        results = sym (ap words_in_all an_integer);
        body = subst (λ ks. BodyCode (twice_with ks) twice_does) (sym an_integer) body_stands;
      },
      tt,
    ),
  );
}

-- DO SIGNAL Odd[x ! Odd => G[1 ! BoundsFault => EXIT; ZeroDivisor => RETRY; ANY => RETURN]; UNWIND => NULL] ENDLOOP, and a jump to a
-- label out of an arm
abbrev jumping : Stmt
jumping =
    Marked 0 (Repeat Endless (LoopOf Always (Marked 1 (plain_block (Marked 2 (Perform (Raise (OwnSignal 0) [] (exprs (local 0 ∷ [])) 1
    (Catch 2 (AndArm (OnOwn 0 ∷ []) 1 1 (Marked 3 (Perform (Call (OwnProcedure 1) [] (exprs (Number 1 ∷ [])) 1 (Catch 3
    (AndArm (OnBounds ∷ []) 0 0 (Jump 2 (PastStatement 0)) (AndArm (OnZero ∷ []) 0 0 (Retry 3) (AndArm (OnAny ∷ []) 0 0 (Jump 2 ToReturn) NoArms)))))))
    (AndArm (OnUnwind ∷ []) 0 0 Null NoArms)))))
    ∷ Marked 2 (Block (Catch 2 (AndArm (OnAny ∷ []) 0 0 (Jump 1 (ToLabel 7)) NoArms)) (stmts [])
    (AndExit (7 ∷ []) Null NoExits)) ∷ []))) NoExits NoFinish))

-- the outer phrase is that of statement 2, which none of the jumps leaves from its own arms; that of statement 3 has three jumps
scopes_of_jumping : scopes (record { variables = kinds []; does = jumping }) ≡
    record { statement = 2; arms = record { labels = OnOwn 0 ∷ []; jumps = [] } ∷ record { labels = OnUnwind ∷ []; jumps = [] } ∷ [] }
    ∷ record {
      statement = 3;
      arms =
          record { labels = OnBounds ∷ []; jumps = record { point = After 0; arms = 2 } ∷ [] }
          ∷ record { labels = OnZero ∷ []; jumps = record { point = Start 3; arms = 1 } ∷ [] }
          ∷ record { labels = OnAny ∷ []; jumps = record { point = Leave; arms = 2 } ∷ [] }
          ∷ [];
    }
    ∷ record { statement = 2; arms = record { labels = OnAny ∷ []; jumps = record { point = At 7; arms = 1 } ∷ [] } ∷ [] }
    ∷ []
unfolding point_of labels_in in_expr in_exprs in_suffixes in_operations in_interval in_phrase in_arms in_stmt in_stmts in_targets in_cases in_tests in_exits in_loop in_finish in_condition scopes
scopes_of_jumping = refl
