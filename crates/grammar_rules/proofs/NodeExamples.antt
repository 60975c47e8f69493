-- Small texts and the nodes of their trees.
use Rattle.std.proofs.Common.{◌≡◌, ◌∙◌, ℕ, List, [], ◌∷◌, refl}
use Rattle.mesa_lexer.specs.declared.token.Token.{Token}
use Rattle.mesa_lexer.specs.declared.token.Kind.TheVariants as k
use Rattle.mesa_lexer.specs.declared.word.Word.{Word}
use Rattle.mesa_lexer.specs.declared.mark.Mark.{Mark}
use Rattle.mesa_lexer.specs.declared.word.Word.TheVariants.{BeginWord, EnableWord, EndWord, EndcaseWord, ExitsWord, FromWord, GotoWord, InWord, IntegerWord, NullWord, ProcedureWord, ProgramWord, SelectWord}
use Rattle.mesa_lexer.specs.declared.mark.Mark.TheVariants.{Arrow, Colon, Comma, Dot, DotDot, DoubleArrow, Equal, LeftBracket, Minus, Plus, RightBracket, Semicolon, Sharp}
use Rattle.token_cursor.specs.Parsing.{token, word, mark, Got}
use Rattle.token_cursor.specs.Parsing as w
use Rattle.token_cursor.proofs.Branches.{somewhere}
use Rattle.syntax_trees.specs.declared.syntax.Module.{Module}
use Rattle.syntax_trees.specs.SyntaxNodes as plain
use Rattle.syntax_trees.proofs.LayerNodes.{head_nodes, declared_nodes, declaration_nodes, inner_nodes, defined_nodes, kind_nodes, directory_item_nodes, nodes}
use Rattle.syntax_trees.proofs.NodesAgree.{nodes_agree}
use Rattle.syntax_trees.proofs.SyntaxForms as of
use Rattle.grammar_rules.specs.ReadNested as nr
use Rattle.grammar_rules.specs.ReadExpressions as ex
use Rattle.grammar_rules.specs.ReadStatements as st
use Rattle.grammar_rules.specs.ReadModules as r

abbrev name : List ℕ → Token
name bytes = token (k.Name bytes) somewhere

abbrev number : ℕ → Token
number n = token (k.Number n) somewhere

abbrev reserved : Word → Token
reserved w = word w somewhere

abbrev sign : Mark → Token
sign m = mark m somewhere

-- the text's tree, and how many nodes it has
record HasNodes (ts : List Token) (n : ℕ) : Type 0 where
  pub tree : Module
  pub reads : r.text ts ≡ Got tree []
  pub counts : plain.nodes tree ≡ n

-- N: PROGRAM = BEGIN a: INTEGER ← 1; a ← -a + 2 END.
-- The module, its body; a declared name, its type and value; the assignment, its target, the operator, the sign, a and 2.
abbrev adding : List Token
adding = name (78 ∷ []) ∷ sign Colon ∷ reserved ProgramWord ∷ sign Equal ∷ reserved BeginWord ∷ name (97 ∷ []) ∷ sign Colon ∷ reserved IntegerWord ∷ sign Arrow ∷ number 1 ∷ sign Semicolon ∷ name (97 ∷ []) ∷ sign Arrow ∷ sign Minus ∷ name (97 ∷ []) ∷ sign Plus ∷ number 2 ∷ reserved EndWord ∷ sign Dot ∷ []

adding_nodes : HasNodes adding 11
unfolding ex.a_record ex.after_base ex.after_comma ex.after_name ex.args ex.arm ex.arm_list ex.array ex.bounds ex.brackets ex.brackets_option ex.by_key ex.called ex.catch ex.closed ex.conj ex.enumeration ex.error_raise ex.expr ex.factor ex.field_list ex.in_order ex.interval ex.list ex.list_option ex.literal ex.more_types ex.neg ex.negation ex.parens ex.primary ex.product ex.raise ex.reference ex.rel ex.related ex.relation ex.signal_raise ex.suffixes ex.suffixes_step ex.sum ex.type_exp ex.type_from ex.types_from ex.undecided_turn ex.unkeyed ex.unnamed ex.with_names nr.labels nr.named nr.names nr.names_from nr.qname nr.qname_from nr.qnames nr.repeat_labels r.access r.block r.constant r.declaration r.declared r.defined r.definitions r.definitions_step r.directory r.error r.file r.front_end r.front_from r.front_turn r.head r.in_params r.inner r.interface r.item r.items r.kind r.limit r.listed r.module_text r.opened r.params r.procedure r.program r.returns r.signal r.text r.type_item r.using r.using_names st.after_not st.an_end st.assigned st.block st.body st.case st.case_list st.cases st.condition st.conditional st.control st.count st.decreasing st.else_part st.enable_many st.enable_one st.enabling st.exit st.exit_part st.exits st.extract st.for st.go_to st.head_end st.head_from st.head_turn st.jump st.key_lefts st.lefts st.local st.loop st.nested st.otherwise st.plain st.repeat_part st.repeats st.select st.statement st.stmts st.targets st.targets_from st.test st.through st.type_is st.typed st.unnegated st.valued w.choose w.need w.when w.turns w.repeat w.many_turn w.ended_turn w.too_deep head_nodes declared_nodes declaration_nodes inner_nodes defined_nodes kind_nodes directory_item_nodes nodes
adding_nodes = record { tree = _; reads = refl; counts = nodes_agree _ ∙ simp (of.of_initial, of.of_integer, of.of_number, of.of_assign, of.of_left, of.of_run, of.of_operation, of.of_signed, of.of_reference) refl }

-- N: PROGRAM = BEGIN P: PROCEDURE [x, y: INTEGER] = BEGIN ENABLE S, T => NULL; f[x].n ← 3 END; END.
-- The module, its body; P, its head, x, y and their type; the block; the arm, two labels and NULL; the assignment, its target f, two
-- suffixes and the argument; 3.
abbrev enabling : List Token
enabling = name (78 ∷ []) ∷ sign Colon ∷ reserved ProgramWord ∷ sign Equal ∷ reserved BeginWord ∷ name (80 ∷ []) ∷ sign Colon ∷ reserved ProcedureWord ∷ sign LeftBracket ∷ name (120 ∷ []) ∷ sign Comma ∷ name (121 ∷ []) ∷ sign Colon ∷ reserved IntegerWord ∷ sign RightBracket ∷ sign Equal ∷ reserved BeginWord ∷ reserved EnableWord ∷ name (83 ∷ []) ∷ sign Comma ∷ name (84 ∷ []) ∷ sign DoubleArrow ∷ reserved NullWord ∷ sign Semicolon ∷ name (102 ∷ []) ∷ sign LeftBracket ∷ name (120 ∷ []) ∷ sign RightBracket ∷ sign Dot ∷ name (110 ∷ []) ∷ sign Arrow ∷ number 3 ∷ reserved EndWord ∷ sign Semicolon ∷ reserved EndWord ∷ sign Dot ∷ []

enabling_nodes : HasNodes enabling 18
unfolding ex.a_record ex.after_base ex.after_comma ex.after_name ex.args ex.arm ex.arm_list ex.array ex.bounds ex.brackets ex.brackets_option ex.by_key ex.called ex.catch ex.closed ex.conj ex.enumeration ex.error_raise ex.expr ex.factor ex.field_list ex.in_order ex.interval ex.list ex.list_option ex.literal ex.more_types ex.neg ex.negation ex.parens ex.primary ex.product ex.raise ex.reference ex.rel ex.related ex.relation ex.signal_raise ex.suffixes ex.suffixes_step ex.sum ex.type_exp ex.type_from ex.types_from ex.undecided_turn ex.unkeyed ex.unnamed ex.with_names nr.labels nr.named nr.names nr.names_from nr.qname nr.qname_from nr.qnames nr.repeat_labels r.access r.block r.constant r.declaration r.declared r.defined r.definitions r.definitions_step r.directory r.error r.file r.front_end r.front_from r.front_turn r.head r.in_params r.inner r.interface r.item r.items r.kind r.limit r.listed r.module_text r.opened r.params r.procedure r.program r.returns r.signal r.text r.type_item r.using r.using_names st.after_not st.an_end st.assigned st.block st.body st.case st.case_list st.cases st.condition st.conditional st.control st.count st.decreasing st.else_part st.enable_many st.enable_one st.enabling st.exit st.exit_part st.exits st.extract st.for st.go_to st.head_end st.head_from st.head_turn st.jump st.key_lefts st.lefts st.local st.loop st.nested st.otherwise st.plain st.repeat_part st.repeats st.select st.statement st.stmts st.targets st.targets_from st.test st.through st.type_is st.typed st.unnegated st.valued w.choose w.need w.when w.turns w.repeat w.many_turn w.ended_turn w.too_deep head_nodes declared_nodes declaration_nodes inner_nodes defined_nodes kind_nodes directory_item_nodes nodes
enabling_nodes = record { tree = _; reads = refl; counts = nodes_agree _ ∙ simp (of.of_with_names, of.of_integer, of.of_block, of.of_arm, of.of_null, of.of_assign, of.of_left, of.of_field, of.of_applied, of.of_brackets, of.of_reference, of.of_number) refl }

-- N: PROGRAM = BEGIN SELECT x FROM # 1, IN [2..3] => GOTO a ENDCASE EXITS a, b => NULL END.
-- The module, its body; SELECT and x; a test, its relation and 1; a test, its IN, the interval and two bounds; GOTO and its label; two
-- labels and NULL.
abbrev choosing : List Token
choosing = name (78 ∷ []) ∷ sign Colon ∷ reserved ProgramWord ∷ sign Equal ∷ reserved BeginWord ∷ reserved SelectWord ∷ name (120 ∷ []) ∷ reserved FromWord ∷ sign Sharp ∷ number 1 ∷ sign Comma ∷ reserved InWord ∷ sign LeftBracket ∷ number 2 ∷ sign DotDot ∷ number 3 ∷ sign RightBracket ∷ sign DoubleArrow ∷ reserved GotoWord ∷ name (97 ∷ []) ∷ reserved EndcaseWord ∷ reserved ExitsWord ∷ name (97 ∷ []) ∷ sign Comma ∷ name (98 ∷ []) ∷ sign DoubleArrow ∷ reserved NullWord ∷ reserved EndWord ∷ sign Dot ∷ []

choosing_nodes : HasNodes choosing 17
unfolding ex.a_record ex.after_base ex.after_comma ex.after_name ex.args ex.arm ex.arm_list ex.array ex.bounds ex.brackets ex.brackets_option ex.by_key ex.called ex.catch ex.closed ex.conj ex.enumeration ex.error_raise ex.expr ex.factor ex.field_list ex.in_order ex.interval ex.list ex.list_option ex.literal ex.more_types ex.neg ex.negation ex.parens ex.primary ex.product ex.raise ex.reference ex.rel ex.related ex.relation ex.signal_raise ex.suffixes ex.suffixes_step ex.sum ex.type_exp ex.type_from ex.types_from ex.undecided_turn ex.unkeyed ex.unnamed ex.with_names nr.labels nr.named nr.names nr.names_from nr.qname nr.qname_from nr.qnames nr.repeat_labels r.access r.block r.constant r.declaration r.declared r.defined r.definitions r.definitions_step r.directory r.error r.file r.front_end r.front_from r.front_turn r.head r.in_params r.inner r.interface r.item r.items r.kind r.limit r.listed r.module_text r.opened r.params r.procedure r.program r.returns r.signal r.text r.type_item r.using r.using_names st.after_not st.an_end st.assigned st.block st.body st.case st.case_list st.cases st.condition st.conditional st.control st.count st.decreasing st.else_part st.enable_many st.enable_one st.enabling st.exit st.exit_part st.exits st.extract st.for st.go_to st.head_end st.head_from st.head_turn st.jump st.key_lefts st.lefts st.local st.loop st.nested st.otherwise st.plain st.repeat_part st.repeats st.select st.statement st.stmts st.targets st.targets_from st.test st.through st.type_is st.typed st.unnegated st.valued w.choose w.need w.when w.turns w.repeat w.many_turn w.ended_turn w.too_deep head_nodes declared_nodes declaration_nodes inner_nodes defined_nodes kind_nodes directory_item_nodes nodes
choosing_nodes = record { tree = _; reads = refl; counts = nodes_agree _ ∙ simp (of.of_select, of.of_reference, of.of_left, of.of_case, of.of_compared, of.of_inside, of.of_interval, of.of_number, of.of_goto, of.of_null) refl }
