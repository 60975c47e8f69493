-- Real texts, as tokens: the parser functions give each a tree, hence it has that one and nothing in it is too deep.
use Rattle.std.proofs.Common.{◌≡◌, ℕ, List, [], ◌∷◌, refl}
use Rattle.mesa_lexer.specs.declared.token.Token.{Token}
use Rattle.mesa_lexer.specs.declared.token.Kind.TheVariants as k
use Rattle.mesa_lexer.specs.declared.word.Word.{Word}
use Rattle.mesa_lexer.specs.declared.mark.Mark.{Mark}
use Rattle.mesa_lexer.specs.declared.word.Word.TheVariants.{ArrayWord, BeginWord, CodeWord, ContinueWord, DecreasingWord, DefinitionsWord, DirectoryWord, DoWord, ElseWord, EnableWord, EndWord, EndloopWord, ErrorWord, ExitWord, ExportsWord, ForWord, FromWord, IfWord, ImportsWord, InWord, IntegerWord, ModWord, OfWord, OpenWord, ProcedureWord, ProgramWord, PublicWord, RecordWord, ResumeWord, RetryWord, ReturnWord, ReturnsWord, SignalWord, ThenWord, TypeWord, UntilWord, UnwindWord}
use Rattle.mesa_lexer.specs.declared.mark.Mark.TheVariants.{Arrow, Bang, Colon, Comma, Dot, DotDot, DoubleArrow, Equal, LeftBracket, LeftParenthesis, Less, Minus, Plus, RightBracket, RightParenthesis, Semicolon, Star}
use Rattle.token_cursor.specs.Parsing.{token, word, mark, Got}
use Rattle.token_cursor.specs.Parsing as w
use Rattle.token_cursor.proofs.Branches.{somewhere}
use Rattle.syntax_trees.specs.declared.syntax.Module.{Module}
use Rattle.grammar_rules.specs.ReadNested as nr
use Rattle.grammar_rules.specs.ReadExpressions as ex
use Rattle.grammar_rules.specs.ReadStatements as st
use Rattle.grammar_rules.specs.ReadModules as r
use Rattle.grammar_rules.specs.Answer.{Parses}
use Rattle.grammar_rules.proofs.Whole.{found}

abbrev name : List ℕ → Token
name bytes = token (k.Name bytes) somewhere

abbrev number : ℕ → Token
number n = token (k.Number n) somewhere

abbrev char : ℕ → Token
char n = token (k.Char n) somewhere

abbrev text : List ℕ → Token
text bytes = token (k.Text bytes) somewhere

abbrev reserved : Word → Token
reserved w = word w somewhere

abbrev sign : Mark → Token
sign m = mark m somewhere

-- a text that the parser functions read to its end
record IsRead (ts : List Token) : Type 0 where
  pub tree : Module
  pub reads : r.text ts ≡ Got tree []

parsed : (ts : List Token) → IsRead ts → (x : Module) × Parses ts x
parsed ts h = (h.tree, (found ts [] h.tree h.reads).1)

-- Nothing: PROGRAM = BEGIN END.
abbrev nothing : List Token
nothing = name (78 ∷ 111 ∷ 116 ∷ 104 ∷ 105 ∷ 110 ∷ 103 ∷ []) ∷ sign Colon ∷ reserved ProgramWord ∷ sign Equal ∷ reserved BeginWord ∷ reserved EndWord ∷ sign Dot ∷ []

nothing_is_read : IsRead nothing
unfolding ex.a_record ex.after_base ex.after_comma ex.after_name ex.args ex.arm ex.arm_list ex.array ex.bounds ex.brackets ex.brackets_option ex.by_key ex.called ex.catch ex.closed ex.conj ex.enumeration ex.error_raise ex.expr ex.factor ex.field_list ex.in_order ex.interval ex.list ex.list_option ex.literal ex.long_type ex.more_types ex.neg ex.negation ex.parens ex.primary ex.product ex.raise ex.reference ex.rel ex.related ex.relation ex.signal_raise ex.suffixes ex.suffixes_step ex.sum ex.type_exp ex.type_from ex.types_from ex.undecided_turn ex.unkeyed ex.unnamed ex.with_names nr.labels nr.named nr.names nr.names_from nr.qname nr.qname_from nr.qnames nr.repeat_labels r.access r.block r.constant r.declaration r.declared r.defined r.definitions r.definitions_step r.directory r.error r.file r.front_end r.front_from r.front_turn r.head r.in_params r.inner r.interface r.item r.items r.kind r.limit r.listed r.module_text r.opened r.params r.procedure r.program r.returns r.signal r.text r.type_item r.using r.using_names st.after_not st.an_end st.assigned st.block st.body st.case st.case_list st.cases st.condition st.conditional st.control st.count st.decreasing st.else_part st.enable_many st.enable_one st.enabling st.exit st.exit_part st.exits st.extract st.for st.go_to st.head_end st.head_from st.head_turn st.jump st.key_lefts st.lefts st.local st.loop st.nested st.otherwise st.plain st.repeat_part st.repeats st.select st.statement st.stmts st.targets st.targets_from st.test st.through st.type_is st.typed st.unnegated st.valued w.choose w.need w.when w.turns w.repeat w.many_turn w.ended_turn w.too_deep
nothing_is_read = record { tree = _; reads = refl }

pub nothing_parses : (x : Module) × Parses nothing x
nothing_parses = parsed nothing nothing_is_read

-- DIRECTORY IODefs: FROM "IODefs"; M: PROGRAM IMPORTS IODefs = BEGIN OPEN IODefs; n: INTEGER ← 0; UNTIL EndOfInput[] DO n ← n + (ReadChar[] - '0) ENDLOOP; WriteDecimal[n]; END.
abbrev summing : List Token
summing = reserved DirectoryWord ∷ name (73 ∷ 79 ∷ 68 ∷ 101 ∷ 102 ∷ 115 ∷ []) ∷ sign Colon ∷ reserved FromWord ∷ text (73 ∷ 79 ∷ 68 ∷ 101 ∷ 102 ∷ 115 ∷ []) ∷ sign Semicolon ∷ name (77 ∷ []) ∷ sign Colon ∷ reserved ProgramWord ∷ reserved ImportsWord ∷ name (73 ∷ 79 ∷ 68 ∷ 101 ∷ 102 ∷ 115 ∷ []) ∷ sign Equal ∷ reserved BeginWord ∷ reserved OpenWord ∷ name (73 ∷ 79 ∷ 68 ∷ 101 ∷ 102 ∷ 115 ∷ []) ∷ sign Semicolon ∷ name (110 ∷ []) ∷ sign Colon ∷ reserved IntegerWord ∷ sign Arrow ∷ number 0 ∷ sign Semicolon ∷ reserved UntilWord ∷ name (69 ∷ 110 ∷ 100 ∷ 79 ∷ 102 ∷ 73 ∷ 110 ∷ 112 ∷ 117 ∷ 116 ∷ []) ∷ sign LeftBracket ∷ sign RightBracket ∷ reserved DoWord ∷ name (110 ∷ []) ∷ sign Arrow ∷ name (110 ∷ []) ∷ sign Plus ∷ sign LeftParenthesis ∷ name (82 ∷ 101 ∷ 97 ∷ 100 ∷ 67 ∷ 104 ∷ 97 ∷ 114 ∷ []) ∷ sign LeftBracket ∷ sign RightBracket ∷ sign Minus ∷ char 48 ∷ sign RightParenthesis ∷ reserved EndloopWord ∷ sign Semicolon ∷ name (87 ∷ 114 ∷ 105 ∷ 116 ∷ 101 ∷ 68 ∷ 101 ∷ 99 ∷ 105 ∷ 109 ∷ 97 ∷ 108 ∷ []) ∷ sign LeftBracket ∷ name (110 ∷ []) ∷ sign RightBracket ∷ sign Semicolon ∷ reserved EndWord ∷ sign Dot ∷ []

summing_is_read : IsRead summing
unfolding ex.a_record ex.after_base ex.after_comma ex.after_name ex.args ex.arm ex.arm_list ex.array ex.bounds ex.brackets ex.brackets_option ex.by_key ex.called ex.catch ex.closed ex.conj ex.enumeration ex.error_raise ex.expr ex.factor ex.field_list ex.in_order ex.interval ex.list ex.list_option ex.literal ex.long_type ex.more_types ex.neg ex.negation ex.parens ex.primary ex.product ex.raise ex.reference ex.rel ex.related ex.relation ex.signal_raise ex.suffixes ex.suffixes_step ex.sum ex.type_exp ex.type_from ex.types_from ex.undecided_turn ex.unkeyed ex.unnamed ex.with_names nr.labels nr.named nr.names nr.names_from nr.qname nr.qname_from nr.qnames nr.repeat_labels r.access r.block r.constant r.declaration r.declared r.defined r.definitions r.definitions_step r.directory r.error r.file r.front_end r.front_from r.front_turn r.head r.in_params r.inner r.interface r.item r.items r.kind r.limit r.listed r.module_text r.opened r.params r.procedure r.program r.returns r.signal r.text r.type_item r.using r.using_names st.after_not st.an_end st.assigned st.block st.body st.case st.case_list st.cases st.condition st.conditional st.control st.count st.decreasing st.else_part st.enable_many st.enable_one st.enabling st.exit st.exit_part st.exits st.extract st.for st.go_to st.head_end st.head_from st.head_turn st.jump st.key_lefts st.lefts st.local st.loop st.nested st.otherwise st.plain st.repeat_part st.repeats st.select st.statement st.stmts st.targets st.targets_from st.test st.through st.type_is st.typed st.unnegated st.valued w.choose w.need w.when w.turns w.repeat w.many_turn w.ended_turn w.too_deep
summing_is_read = record { tree = _; reads = refl }

pub summing_parses : (x : Module) × Parses summing x
summing_parses = parsed summing summing_is_read

-- DIRECTORY IODefs: FROM "IODefs"; M: PROGRAM IMPORTS IODefs = BEGIN OPEN IODefs; i: INTEGER; FOR i IN [3..3) DO WriteDecimal[i] ENDLOOP; FOR i DECREASING IN [1..3] DO WriteDecimal[i] ENDLOOP; END.
abbrev counting : List Token
counting = reserved DirectoryWord ∷ name (73 ∷ 79 ∷ 68 ∷ 101 ∷ 102 ∷ 115 ∷ []) ∷ sign Colon ∷ reserved FromWord ∷ text (73 ∷ 79 ∷ 68 ∷ 101 ∷ 102 ∷ 115 ∷ []) ∷ sign Semicolon ∷ name (77 ∷ []) ∷ sign Colon ∷ reserved ProgramWord ∷ reserved ImportsWord ∷ name (73 ∷ 79 ∷ 68 ∷ 101 ∷ 102 ∷ 115 ∷ []) ∷ sign Equal ∷ reserved BeginWord ∷ reserved OpenWord ∷ name (73 ∷ 79 ∷ 68 ∷ 101 ∷ 102 ∷ 115 ∷ []) ∷ sign Semicolon ∷ name (105 ∷ []) ∷ sign Colon ∷ reserved IntegerWord ∷ sign Semicolon ∷ reserved ForWord ∷ name (105 ∷ []) ∷ reserved InWord ∷ sign LeftBracket ∷ number 3 ∷ sign DotDot ∷ number 3 ∷ sign RightParenthesis ∷ reserved DoWord ∷ name (87 ∷ 114 ∷ 105 ∷ 116 ∷ 101 ∷ 68 ∷ 101 ∷ 99 ∷ 105 ∷ 109 ∷ 97 ∷ 108 ∷ []) ∷ sign LeftBracket ∷ name (105 ∷ []) ∷ sign RightBracket ∷ reserved EndloopWord ∷ sign Semicolon ∷ reserved ForWord ∷ name (105 ∷ []) ∷ reserved DecreasingWord ∷ reserved InWord ∷ sign LeftBracket ∷ number 1 ∷ sign DotDot ∷ number 3 ∷ sign RightBracket ∷ reserved DoWord ∷ name (87 ∷ 114 ∷ 105 ∷ 116 ∷ 101 ∷ 68 ∷ 101 ∷ 99 ∷ 105 ∷ 109 ∷ 97 ∷ 108 ∷ []) ∷ sign LeftBracket ∷ name (105 ∷ []) ∷ sign RightBracket ∷ reserved EndloopWord ∷ sign Semicolon ∷ reserved EndWord ∷ sign Dot ∷ []

counting_is_read : IsRead counting
unfolding ex.a_record ex.after_base ex.after_comma ex.after_name ex.args ex.arm ex.arm_list ex.array ex.bounds ex.brackets ex.brackets_option ex.by_key ex.called ex.catch ex.closed ex.conj ex.enumeration ex.error_raise ex.expr ex.factor ex.field_list ex.in_order ex.interval ex.list ex.list_option ex.literal ex.long_type ex.more_types ex.neg ex.negation ex.parens ex.primary ex.product ex.raise ex.reference ex.rel ex.related ex.relation ex.signal_raise ex.suffixes ex.suffixes_step ex.sum ex.type_exp ex.type_from ex.types_from ex.undecided_turn ex.unkeyed ex.unnamed ex.with_names nr.labels nr.named nr.names nr.names_from nr.qname nr.qname_from nr.qnames nr.repeat_labels r.access r.block r.constant r.declaration r.declared r.defined r.definitions r.definitions_step r.directory r.error r.file r.front_end r.front_from r.front_turn r.head r.in_params r.inner r.interface r.item r.items r.kind r.limit r.listed r.module_text r.opened r.params r.procedure r.program r.returns r.signal r.text r.type_item r.using r.using_names st.after_not st.an_end st.assigned st.block st.body st.case st.case_list st.cases st.condition st.conditional st.control st.count st.decreasing st.else_part st.enable_many st.enable_one st.enabling st.exit st.exit_part st.exits st.extract st.for st.go_to st.head_end st.head_from st.head_turn st.jump st.key_lefts st.lefts st.local st.loop st.nested st.otherwise st.plain st.repeat_part st.repeats st.select st.statement st.stmts st.targets st.targets_from st.test st.through st.type_is st.typed st.unnegated st.valued w.choose w.need w.when w.turns w.repeat w.many_turn w.ended_turn w.too_deep
counting_is_read = record { tree = _; reads = refl }

pub counting_parses : (x : Module) × Parses counting x
counting_parses = parsed counting counting_is_read

-- DIRECTORY IODefs: FROM "IODefs"; M: PROGRAM IMPORTS IODefs = BEGIN OPEN IODefs; a: ARRAY [0..2] OF INTEGER; i: INTEGER ← 3; WriteDecimal[7]; a[i] ← 1; WriteDecimal[8]; END.
abbrev indexing : List Token
indexing = reserved DirectoryWord ∷ name (73 ∷ 79 ∷ 68 ∷ 101 ∷ 102 ∷ 115 ∷ []) ∷ sign Colon ∷ reserved FromWord ∷ text (73 ∷ 79 ∷ 68 ∷ 101 ∷ 102 ∷ 115 ∷ []) ∷ sign Semicolon ∷ name (77 ∷ []) ∷ sign Colon ∷ reserved ProgramWord ∷ reserved ImportsWord ∷ name (73 ∷ 79 ∷ 68 ∷ 101 ∷ 102 ∷ 115 ∷ []) ∷ sign Equal ∷ reserved BeginWord ∷ reserved OpenWord ∷ name (73 ∷ 79 ∷ 68 ∷ 101 ∷ 102 ∷ 115 ∷ []) ∷ sign Semicolon ∷ name (97 ∷ []) ∷ sign Colon ∷ reserved ArrayWord ∷ sign LeftBracket ∷ number 0 ∷ sign DotDot ∷ number 2 ∷ sign RightBracket ∷ reserved OfWord ∷ reserved IntegerWord ∷ sign Semicolon ∷ name (105 ∷ []) ∷ sign Colon ∷ reserved IntegerWord ∷ sign Arrow ∷ number 3 ∷ sign Semicolon ∷ name (87 ∷ 114 ∷ 105 ∷ 116 ∷ 101 ∷ 68 ∷ 101 ∷ 99 ∷ 105 ∷ 109 ∷ 97 ∷ 108 ∷ []) ∷ sign LeftBracket ∷ number 7 ∷ sign RightBracket ∷ sign Semicolon ∷ name (97 ∷ []) ∷ sign LeftBracket ∷ name (105 ∷ []) ∷ sign RightBracket ∷ sign Arrow ∷ number 1 ∷ sign Semicolon ∷ name (87 ∷ 114 ∷ 105 ∷ 116 ∷ 101 ∷ 68 ∷ 101 ∷ 99 ∷ 105 ∷ 109 ∷ 97 ∷ 108 ∷ []) ∷ sign LeftBracket ∷ number 8 ∷ sign RightBracket ∷ sign Semicolon ∷ reserved EndWord ∷ sign Dot ∷ []

indexing_is_read : IsRead indexing
unfolding ex.a_record ex.after_base ex.after_comma ex.after_name ex.args ex.arm ex.arm_list ex.array ex.bounds ex.brackets ex.brackets_option ex.by_key ex.called ex.catch ex.closed ex.conj ex.enumeration ex.error_raise ex.expr ex.factor ex.field_list ex.in_order ex.interval ex.list ex.list_option ex.literal ex.long_type ex.more_types ex.neg ex.negation ex.parens ex.primary ex.product ex.raise ex.reference ex.rel ex.related ex.relation ex.signal_raise ex.suffixes ex.suffixes_step ex.sum ex.type_exp ex.type_from ex.types_from ex.undecided_turn ex.unkeyed ex.unnamed ex.with_names nr.labels nr.named nr.names nr.names_from nr.qname nr.qname_from nr.qnames nr.repeat_labels r.access r.block r.constant r.declaration r.declared r.defined r.definitions r.definitions_step r.directory r.error r.file r.front_end r.front_from r.front_turn r.head r.in_params r.inner r.interface r.item r.items r.kind r.limit r.listed r.module_text r.opened r.params r.procedure r.program r.returns r.signal r.text r.type_item r.using r.using_names st.after_not st.an_end st.assigned st.block st.body st.case st.case_list st.cases st.condition st.conditional st.control st.count st.decreasing st.else_part st.enable_many st.enable_one st.enabling st.exit st.exit_part st.exits st.extract st.for st.go_to st.head_end st.head_from st.head_turn st.jump st.key_lefts st.lefts st.local st.loop st.nested st.otherwise st.plain st.repeat_part st.repeats st.select st.statement st.stmts st.targets st.targets_from st.test st.through st.type_is st.typed st.unnegated st.valued w.choose w.need w.when w.turns w.repeat w.many_turn w.ended_turn w.too_deep
indexing_is_read = record { tree = _; reads = refl }

pub indexing_parses : (x : Module) × Parses indexing x
indexing_parses = parsed indexing indexing_is_read

-- AskDefs: DEFINITIONS = BEGIN Ask: PROCEDURE [x: INTEGER] RETURNS [INTEGER]; S: SIGNAL [x: INTEGER] RETURNS [INTEGER]; END.
abbrev asking : List Token
asking = name (65 ∷ 115 ∷ 107 ∷ 68 ∷ 101 ∷ 102 ∷ 115 ∷ []) ∷ sign Colon ∷ reserved DefinitionsWord ∷ sign Equal ∷ reserved BeginWord ∷ name (65 ∷ 115 ∷ 107 ∷ []) ∷ sign Colon ∷ reserved ProcedureWord ∷ sign LeftBracket ∷ name (120 ∷ []) ∷ sign Colon ∷ reserved IntegerWord ∷ sign RightBracket ∷ reserved ReturnsWord ∷ sign LeftBracket ∷ reserved IntegerWord ∷ sign RightBracket ∷ sign Semicolon ∷ name (83 ∷ []) ∷ sign Colon ∷ reserved SignalWord ∷ sign LeftBracket ∷ name (120 ∷ []) ∷ sign Colon ∷ reserved IntegerWord ∷ sign RightBracket ∷ reserved ReturnsWord ∷ sign LeftBracket ∷ reserved IntegerWord ∷ sign RightBracket ∷ sign Semicolon ∷ reserved EndWord ∷ sign Dot ∷ []

asking_is_read : IsRead asking
unfolding ex.a_record ex.after_base ex.after_comma ex.after_name ex.args ex.arm ex.arm_list ex.array ex.bounds ex.brackets ex.brackets_option ex.by_key ex.called ex.catch ex.closed ex.conj ex.enumeration ex.error_raise ex.expr ex.factor ex.field_list ex.in_order ex.interval ex.list ex.list_option ex.literal ex.long_type ex.more_types ex.neg ex.negation ex.parens ex.primary ex.product ex.raise ex.reference ex.rel ex.related ex.relation ex.signal_raise ex.suffixes ex.suffixes_step ex.sum ex.type_exp ex.type_from ex.types_from ex.undecided_turn ex.unkeyed ex.unnamed ex.with_names nr.labels nr.named nr.names nr.names_from nr.qname nr.qname_from nr.qnames nr.repeat_labels r.access r.block r.constant r.declaration r.declared r.defined r.definitions r.definitions_step r.directory r.error r.file r.front_end r.front_from r.front_turn r.head r.in_params r.inner r.interface r.item r.items r.kind r.limit r.listed r.module_text r.opened r.params r.procedure r.program r.returns r.signal r.text r.type_item r.using r.using_names st.after_not st.an_end st.assigned st.block st.body st.case st.case_list st.cases st.condition st.conditional st.control st.count st.decreasing st.else_part st.enable_many st.enable_one st.enabling st.exit st.exit_part st.exits st.extract st.for st.go_to st.head_end st.head_from st.head_turn st.jump st.key_lefts st.lefts st.local st.loop st.nested st.otherwise st.plain st.repeat_part st.repeats st.select st.statement st.stmts st.targets st.targets_from st.test st.through st.type_is st.typed st.unnegated st.valued w.choose w.need w.when w.turns w.repeat w.many_turn w.ended_turn w.too_deep
asking_is_read = record { tree = _; reads = refl }

pub asking_parses : (x : Module) × Parses asking x
asking_parses = parsed asking asking_is_read

-- DIRECTORY AskDefs: FROM "AskDefs"; Server: PROGRAM EXPORTS AskDefs = BEGIN S: PUBLIC SIGNAL [x: INTEGER] RETURNS [INTEGER] = CODE; Ask: PUBLIC PROCEDURE [x: INTEGER] RETURNS [INTEGER] = BEGIN k: INTEGER ← 9; r: INTEGER; r ← SIGNAL S[x]; RETURN[r * 10 + k]; END; END.
abbrev serving : List Token
serving = reserved DirectoryWord ∷ name (65 ∷ 115 ∷ 107 ∷ 68 ∷ 101 ∷ 102 ∷ 115 ∷ []) ∷ sign Colon ∷ reserved FromWord ∷ text (65 ∷ 115 ∷ 107 ∷ 68 ∷ 101 ∷ 102 ∷ 115 ∷ []) ∷ sign Semicolon ∷ name (83 ∷ 101 ∷ 114 ∷ 118 ∷ 101 ∷ 114 ∷ []) ∷ sign Colon ∷ reserved ProgramWord ∷ reserved ExportsWord ∷ name (65 ∷ 115 ∷ 107 ∷ 68 ∷ 101 ∷ 102 ∷ 115 ∷ []) ∷ sign Equal ∷ reserved BeginWord ∷ name (83 ∷ []) ∷ sign Colon ∷ reserved PublicWord ∷ reserved SignalWord ∷ sign LeftBracket ∷ name (120 ∷ []) ∷ sign Colon ∷ reserved IntegerWord ∷ sign RightBracket ∷ reserved ReturnsWord ∷ sign LeftBracket ∷ reserved IntegerWord ∷ sign RightBracket ∷ sign Equal ∷ reserved CodeWord ∷ sign Semicolon ∷ name (65 ∷ 115 ∷ 107 ∷ []) ∷ sign Colon ∷ reserved PublicWord ∷ reserved ProcedureWord ∷ sign LeftBracket ∷ name (120 ∷ []) ∷ sign Colon ∷ reserved IntegerWord ∷ sign RightBracket ∷ reserved ReturnsWord ∷ sign LeftBracket ∷ reserved IntegerWord ∷ sign RightBracket ∷ sign Equal ∷ reserved BeginWord ∷ name (107 ∷ []) ∷ sign Colon ∷ reserved IntegerWord ∷ sign Arrow ∷ number 9 ∷ sign Semicolon ∷ name (114 ∷ []) ∷ sign Colon ∷ reserved IntegerWord ∷ sign Semicolon ∷ name (114 ∷ []) ∷ sign Arrow ∷ reserved SignalWord ∷ name (83 ∷ []) ∷ sign LeftBracket ∷ name (120 ∷ []) ∷ sign RightBracket ∷ sign Semicolon ∷ reserved ReturnWord ∷ sign LeftBracket ∷ name (114 ∷ []) ∷ sign Star ∷ number 10 ∷ sign Plus ∷ name (107 ∷ []) ∷ sign RightBracket ∷ sign Semicolon ∷ reserved EndWord ∷ sign Semicolon ∷ reserved EndWord ∷ sign Dot ∷ []

serving_is_read : IsRead serving
unfolding ex.a_record ex.after_base ex.after_comma ex.after_name ex.args ex.arm ex.arm_list ex.array ex.bounds ex.brackets ex.brackets_option ex.by_key ex.called ex.catch ex.closed ex.conj ex.enumeration ex.error_raise ex.expr ex.factor ex.field_list ex.in_order ex.interval ex.list ex.list_option ex.literal ex.long_type ex.more_types ex.neg ex.negation ex.parens ex.primary ex.product ex.raise ex.reference ex.rel ex.related ex.relation ex.signal_raise ex.suffixes ex.suffixes_step ex.sum ex.type_exp ex.type_from ex.types_from ex.undecided_turn ex.unkeyed ex.unnamed ex.with_names nr.labels nr.named nr.names nr.names_from nr.qname nr.qname_from nr.qnames nr.repeat_labels r.access r.block r.constant r.declaration r.declared r.defined r.definitions r.definitions_step r.directory r.error r.file r.front_end r.front_from r.front_turn r.head r.in_params r.inner r.interface r.item r.items r.kind r.limit r.listed r.module_text r.opened r.params r.procedure r.program r.returns r.signal r.text r.type_item r.using r.using_names st.after_not st.an_end st.assigned st.block st.body st.case st.case_list st.cases st.condition st.conditional st.control st.count st.decreasing st.else_part st.enable_many st.enable_one st.enabling st.exit st.exit_part st.exits st.extract st.for st.go_to st.head_end st.head_from st.head_turn st.jump st.key_lefts st.lefts st.local st.loop st.nested st.otherwise st.plain st.repeat_part st.repeats st.select st.statement st.stmts st.targets st.targets_from st.test st.through st.type_is st.typed st.unnegated st.valued w.choose w.need w.when w.turns w.repeat w.many_turn w.ended_turn w.too_deep
serving_is_read = record { tree = _; reads = refl }

pub serving_parses : (x : Module) × Parses serving x
serving_parses = parsed serving serving_is_read

-- DIRECTORY IODefs: FROM "IODefs"; M: PROGRAM IMPORTS IODefs = BEGIN OPEN IODefs; E: ERROR = CODE; C: PROCEDURE = BEGIN ENABLE UNWIND => WriteChar['c]; ERROR E; END; B: PROCEDURE = BEGIN ENABLE UNWIND => WriteChar['b]; C[]; END; A: PROCEDURE = BEGIN B[! E => BEGIN WriteChar['a]; CONTINUE END]; WriteChar['d]; END; A[]; END.
abbrev unwinding : List Token
unwinding = reserved DirectoryWord ∷ name (73 ∷ 79 ∷ 68 ∷ 101 ∷ 102 ∷ 115 ∷ []) ∷ sign Colon ∷ reserved FromWord ∷ text (73 ∷ 79 ∷ 68 ∷ 101 ∷ 102 ∷ 115 ∷ []) ∷ sign Semicolon ∷ name (77 ∷ []) ∷ sign Colon ∷ reserved ProgramWord ∷ reserved ImportsWord ∷ name (73 ∷ 79 ∷ 68 ∷ 101 ∷ 102 ∷ 115 ∷ []) ∷ sign Equal ∷ reserved BeginWord ∷ reserved OpenWord ∷ name (73 ∷ 79 ∷ 68 ∷ 101 ∷ 102 ∷ 115 ∷ []) ∷ sign Semicolon ∷ name (69 ∷ []) ∷ sign Colon ∷ reserved ErrorWord ∷ sign Equal ∷ reserved CodeWord ∷ sign Semicolon ∷ name (67 ∷ []) ∷ sign Colon ∷ reserved ProcedureWord ∷ sign Equal ∷ reserved BeginWord ∷ reserved EnableWord ∷ reserved UnwindWord ∷ sign DoubleArrow ∷ name (87 ∷ 114 ∷ 105 ∷ 116 ∷ 101 ∷ 67 ∷ 104 ∷ 97 ∷ 114 ∷ []) ∷ sign LeftBracket ∷ char 99 ∷ sign RightBracket ∷ sign Semicolon ∷ reserved ErrorWord ∷ name (69 ∷ []) ∷ sign Semicolon ∷ reserved EndWord ∷ sign Semicolon ∷ name (66 ∷ []) ∷ sign Colon ∷ reserved ProcedureWord ∷ sign Equal ∷ reserved BeginWord ∷ reserved EnableWord ∷ reserved UnwindWord ∷ sign DoubleArrow ∷ name (87 ∷ 114 ∷ 105 ∷ 116 ∷ 101 ∷ 67 ∷ 104 ∷ 97 ∷ 114 ∷ []) ∷ sign LeftBracket ∷ char 98 ∷ sign RightBracket ∷ sign Semicolon ∷ name (67 ∷ []) ∷ sign LeftBracket ∷ sign RightBracket ∷ sign Semicolon ∷ reserved EndWord ∷ sign Semicolon ∷ name (65 ∷ []) ∷ sign Colon ∷ reserved ProcedureWord ∷ sign Equal ∷ reserved BeginWord ∷ name (66 ∷ []) ∷ sign LeftBracket ∷ sign Bang ∷ name (69 ∷ []) ∷ sign DoubleArrow ∷ reserved BeginWord ∷ name (87 ∷ 114 ∷ 105 ∷ 116 ∷ 101 ∷ 67 ∷ 104 ∷ 97 ∷ 114 ∷ []) ∷ sign LeftBracket ∷ char 97 ∷ sign RightBracket ∷ sign Semicolon ∷ reserved ContinueWord ∷ reserved EndWord ∷ sign RightBracket ∷ sign Semicolon ∷ name (87 ∷ 114 ∷ 105 ∷ 116 ∷ 101 ∷ 67 ∷ 104 ∷ 97 ∷ 114 ∷ []) ∷ sign LeftBracket ∷ char 100 ∷ sign RightBracket ∷ sign Semicolon ∷ reserved EndWord ∷ sign Semicolon ∷ name (65 ∷ []) ∷ sign LeftBracket ∷ sign RightBracket ∷ sign Semicolon ∷ reserved EndWord ∷ sign Dot ∷ []

unwinding_is_read : IsRead unwinding
unfolding ex.a_record ex.after_base ex.after_comma ex.after_name ex.args ex.arm ex.arm_list ex.array ex.bounds ex.brackets ex.brackets_option ex.by_key ex.called ex.catch ex.closed ex.conj ex.enumeration ex.error_raise ex.expr ex.factor ex.field_list ex.in_order ex.interval ex.list ex.list_option ex.literal ex.long_type ex.more_types ex.neg ex.negation ex.parens ex.primary ex.product ex.raise ex.reference ex.rel ex.related ex.relation ex.signal_raise ex.suffixes ex.suffixes_step ex.sum ex.type_exp ex.type_from ex.types_from ex.undecided_turn ex.unkeyed ex.unnamed ex.with_names nr.labels nr.named nr.names nr.names_from nr.qname nr.qname_from nr.qnames nr.repeat_labels r.access r.block r.constant r.declaration r.declared r.defined r.definitions r.definitions_step r.directory r.error r.file r.front_end r.front_from r.front_turn r.head r.in_params r.inner r.interface r.item r.items r.kind r.limit r.listed r.module_text r.opened r.params r.procedure r.program r.returns r.signal r.text r.type_item r.using r.using_names st.after_not st.an_end st.assigned st.block st.body st.case st.case_list st.cases st.condition st.conditional st.control st.count st.decreasing st.else_part st.enable_many st.enable_one st.enabling st.exit st.exit_part st.exits st.extract st.for st.go_to st.head_end st.head_from st.head_turn st.jump st.key_lefts st.lefts st.local st.loop st.nested st.otherwise st.plain st.repeat_part st.repeats st.select st.statement st.stmts st.targets st.targets_from st.test st.through st.type_is st.typed st.unnegated st.valued w.choose w.need w.when w.turns w.repeat w.many_turn w.ended_turn w.too_deep
unwinding_is_read = record { tree = _; reads = refl }

pub unwinding_parses : (x : Module) × Parses unwinding x
unwinding_parses = parsed unwinding unwinding_is_read

-- DIRECTORY IODefs: FROM "IODefs"; M: PROGRAM IMPORTS IODefs = BEGIN OPEN IODefs; k: INTEGER ← 0; E: ERROR = CODE; P: PROCEDURE = BEGIN WriteChar['p]; ERROR E; END; P[! E => BEGIN k ← k + 1; IF k < 4 THEN RETRY ELSE CONTINUE END]; WriteDecimal[k]; END.
abbrev retrying : List Token
retrying = reserved DirectoryWord ∷ name (73 ∷ 79 ∷ 68 ∷ 101 ∷ 102 ∷ 115 ∷ []) ∷ sign Colon ∷ reserved FromWord ∷ text (73 ∷ 79 ∷ 68 ∷ 101 ∷ 102 ∷ 115 ∷ []) ∷ sign Semicolon ∷ name (77 ∷ []) ∷ sign Colon ∷ reserved ProgramWord ∷ reserved ImportsWord ∷ name (73 ∷ 79 ∷ 68 ∷ 101 ∷ 102 ∷ 115 ∷ []) ∷ sign Equal ∷ reserved BeginWord ∷ reserved OpenWord ∷ name (73 ∷ 79 ∷ 68 ∷ 101 ∷ 102 ∷ 115 ∷ []) ∷ sign Semicolon ∷ name (107 ∷ []) ∷ sign Colon ∷ reserved IntegerWord ∷ sign Arrow ∷ number 0 ∷ sign Semicolon ∷ name (69 ∷ []) ∷ sign Colon ∷ reserved ErrorWord ∷ sign Equal ∷ reserved CodeWord ∷ sign Semicolon ∷ name (80 ∷ []) ∷ sign Colon ∷ reserved ProcedureWord ∷ sign Equal ∷ reserved BeginWord ∷ name (87 ∷ 114 ∷ 105 ∷ 116 ∷ 101 ∷ 67 ∷ 104 ∷ 97 ∷ 114 ∷ []) ∷ sign LeftBracket ∷ char 112 ∷ sign RightBracket ∷ sign Semicolon ∷ reserved ErrorWord ∷ name (69 ∷ []) ∷ sign Semicolon ∷ reserved EndWord ∷ sign Semicolon ∷ name (80 ∷ []) ∷ sign LeftBracket ∷ sign Bang ∷ name (69 ∷ []) ∷ sign DoubleArrow ∷ reserved BeginWord ∷ name (107 ∷ []) ∷ sign Arrow ∷ name (107 ∷ []) ∷ sign Plus ∷ number 1 ∷ sign Semicolon ∷ reserved IfWord ∷ name (107 ∷ []) ∷ sign Less ∷ number 4 ∷ reserved ThenWord ∷ reserved RetryWord ∷ reserved ElseWord ∷ reserved ContinueWord ∷ reserved EndWord ∷ sign RightBracket ∷ sign Semicolon ∷ name (87 ∷ 114 ∷ 105 ∷ 116 ∷ 101 ∷ 68 ∷ 101 ∷ 99 ∷ 105 ∷ 109 ∷ 97 ∷ 108 ∷ []) ∷ sign LeftBracket ∷ name (107 ∷ []) ∷ sign RightBracket ∷ sign Semicolon ∷ reserved EndWord ∷ sign Dot ∷ []

retrying_is_read : IsRead retrying
unfolding ex.a_record ex.after_base ex.after_comma ex.after_name ex.args ex.arm ex.arm_list ex.array ex.bounds ex.brackets ex.brackets_option ex.by_key ex.called ex.catch ex.closed ex.conj ex.enumeration ex.error_raise ex.expr ex.factor ex.field_list ex.in_order ex.interval ex.list ex.list_option ex.literal ex.long_type ex.more_types ex.neg ex.negation ex.parens ex.primary ex.product ex.raise ex.reference ex.rel ex.related ex.relation ex.signal_raise ex.suffixes ex.suffixes_step ex.sum ex.type_exp ex.type_from ex.types_from ex.undecided_turn ex.unkeyed ex.unnamed ex.with_names nr.labels nr.named nr.names nr.names_from nr.qname nr.qname_from nr.qnames nr.repeat_labels r.access r.block r.constant r.declaration r.declared r.defined r.definitions r.definitions_step r.directory r.error r.file r.front_end r.front_from r.front_turn r.head r.in_params r.inner r.interface r.item r.items r.kind r.limit r.listed r.module_text r.opened r.params r.procedure r.program r.returns r.signal r.text r.type_item r.using r.using_names st.after_not st.an_end st.assigned st.block st.body st.case st.case_list st.cases st.condition st.conditional st.control st.count st.decreasing st.else_part st.enable_many st.enable_one st.enabling st.exit st.exit_part st.exits st.extract st.for st.go_to st.head_end st.head_from st.head_turn st.jump st.key_lefts st.lefts st.local st.loop st.nested st.otherwise st.plain st.repeat_part st.repeats st.select st.statement st.stmts st.targets st.targets_from st.test st.through st.type_is st.typed st.unnegated st.valued w.choose w.need w.when w.turns w.repeat w.many_turn w.ended_turn w.too_deep
retrying_is_read = record { tree = _; reads = refl }

pub retrying_parses : (x : Module) × Parses retrying x
retrying_parses = parsed retrying retrying_is_read

-- DIRECTORY IODefs: FROM "IODefs"; M: PROGRAM IMPORTS IODefs = BEGIN OPEN IODefs; Pair: TYPE = RECORD [x, y: INTEGER]; p: Pair ← [y: 2, x: 1]; a, b, n: INTEGER; [a, b] ← p; WriteDecimal[a]; WriteDecimal[b]; n _ 17B -- octal -- ; WriteDecimal[n]; WriteChar[101C]; WriteDecimal[17D]; END.
abbrev extracting : List Token
extracting = reserved DirectoryWord ∷ name (73 ∷ 79 ∷ 68 ∷ 101 ∷ 102 ∷ 115 ∷ []) ∷ sign Colon ∷ reserved FromWord ∷ text (73 ∷ 79 ∷ 68 ∷ 101 ∷ 102 ∷ 115 ∷ []) ∷ sign Semicolon ∷ name (77 ∷ []) ∷ sign Colon ∷ reserved ProgramWord ∷ reserved ImportsWord ∷ name (73 ∷ 79 ∷ 68 ∷ 101 ∷ 102 ∷ 115 ∷ []) ∷ sign Equal ∷ reserved BeginWord ∷ reserved OpenWord ∷ name (73 ∷ 79 ∷ 68 ∷ 101 ∷ 102 ∷ 115 ∷ []) ∷ sign Semicolon ∷ name (80 ∷ 97 ∷ 105 ∷ 114 ∷ []) ∷ sign Colon ∷ reserved TypeWord ∷ sign Equal ∷ reserved RecordWord ∷ sign LeftBracket ∷ name (120 ∷ []) ∷ sign Comma ∷ name (121 ∷ []) ∷ sign Colon ∷ reserved IntegerWord ∷ sign RightBracket ∷ sign Semicolon ∷ name (112 ∷ []) ∷ sign Colon ∷ name (80 ∷ 97 ∷ 105 ∷ 114 ∷ []) ∷ sign Arrow ∷ sign LeftBracket ∷ name (121 ∷ []) ∷ sign Colon ∷ number 2 ∷ sign Comma ∷ name (120 ∷ []) ∷ sign Colon ∷ number 1 ∷ sign RightBracket ∷ sign Semicolon ∷ name (97 ∷ []) ∷ sign Comma ∷ name (98 ∷ []) ∷ sign Comma ∷ name (110 ∷ []) ∷ sign Colon ∷ reserved IntegerWord ∷ sign Semicolon ∷ sign LeftBracket ∷ name (97 ∷ []) ∷ sign Comma ∷ name (98 ∷ []) ∷ sign RightBracket ∷ sign Arrow ∷ name (112 ∷ []) ∷ sign Semicolon ∷ name (87 ∷ 114 ∷ 105 ∷ 116 ∷ 101 ∷ 68 ∷ 101 ∷ 99 ∷ 105 ∷ 109 ∷ 97 ∷ 108 ∷ []) ∷ sign LeftBracket ∷ name (97 ∷ []) ∷ sign RightBracket ∷ sign Semicolon ∷ name (87 ∷ 114 ∷ 105 ∷ 116 ∷ 101 ∷ 68 ∷ 101 ∷ 99 ∷ 105 ∷ 109 ∷ 97 ∷ 108 ∷ []) ∷ sign LeftBracket ∷ name (98 ∷ []) ∷ sign RightBracket ∷ sign Semicolon ∷ name (110 ∷ []) ∷ sign Arrow ∷ number 15 ∷ sign Semicolon ∷ name (87 ∷ 114 ∷ 105 ∷ 116 ∷ 101 ∷ 68 ∷ 101 ∷ 99 ∷ 105 ∷ 109 ∷ 97 ∷ 108 ∷ []) ∷ sign LeftBracket ∷ name (110 ∷ []) ∷ sign RightBracket ∷ sign Semicolon ∷ name (87 ∷ 114 ∷ 105 ∷ 116 ∷ 101 ∷ 67 ∷ 104 ∷ 97 ∷ 114 ∷ []) ∷ sign LeftBracket ∷ char 65 ∷ sign RightBracket ∷ sign Semicolon ∷ name (87 ∷ 114 ∷ 105 ∷ 116 ∷ 101 ∷ 68 ∷ 101 ∷ 99 ∷ 105 ∷ 109 ∷ 97 ∷ 108 ∷ []) ∷ sign LeftBracket ∷ number 17 ∷ sign RightBracket ∷ sign Semicolon ∷ reserved EndWord ∷ sign Dot ∷ []

extracting_is_read : IsRead extracting
unfolding ex.a_record ex.after_base ex.after_comma ex.after_name ex.args ex.arm ex.arm_list ex.array ex.bounds ex.brackets ex.brackets_option ex.by_key ex.called ex.catch ex.closed ex.conj ex.enumeration ex.error_raise ex.expr ex.factor ex.field_list ex.in_order ex.interval ex.list ex.list_option ex.literal ex.long_type ex.more_types ex.neg ex.negation ex.parens ex.primary ex.product ex.raise ex.reference ex.rel ex.related ex.relation ex.signal_raise ex.suffixes ex.suffixes_step ex.sum ex.type_exp ex.type_from ex.types_from ex.undecided_turn ex.unkeyed ex.unnamed ex.with_names nr.labels nr.named nr.names nr.names_from nr.qname nr.qname_from nr.qnames nr.repeat_labels r.access r.block r.constant r.declaration r.declared r.defined r.definitions r.definitions_step r.directory r.error r.file r.front_end r.front_from r.front_turn r.head r.in_params r.inner r.interface r.item r.items r.kind r.limit r.listed r.module_text r.opened r.params r.procedure r.program r.returns r.signal r.text r.type_item r.using r.using_names st.after_not st.an_end st.assigned st.block st.body st.case st.case_list st.cases st.condition st.conditional st.control st.count st.decreasing st.else_part st.enable_many st.enable_one st.enabling st.exit st.exit_part st.exits st.extract st.for st.go_to st.head_end st.head_from st.head_turn st.jump st.key_lefts st.lefts st.local st.loop st.nested st.otherwise st.plain st.repeat_part st.repeats st.select st.statement st.stmts st.targets st.targets_from st.test st.through st.type_is st.typed st.unnegated st.valued w.choose w.need w.when w.turns w.repeat w.many_turn w.ended_turn w.too_deep
extracting_is_read = record { tree = _; reads = refl }

pub extracting_parses : (x : Module) × Parses extracting x
extracting_parses = parsed extracting extracting_is_read

-- DIRECTORY IODefs: FROM "IODefs"; M: PROGRAM IMPORTS IODefs = BEGIN OPEN IODefs; E: ERROR = CODE; Q: PROCEDURE = BEGIN ERROR E END; P: PROCEDURE RETURNS [r: INTEGER] = BEGIN Q[! E => RETURN[3]]; r ← 9 END; WriteDecimal[P[]]; DO Q[! E => EXIT]; WriteChar['n] ENDLOOP; WriteChar['x]; END.
abbrev leaving : List Token
leaving = reserved DirectoryWord ∷ name (73 ∷ 79 ∷ 68 ∷ 101 ∷ 102 ∷ 115 ∷ []) ∷ sign Colon ∷ reserved FromWord ∷ text (73 ∷ 79 ∷ 68 ∷ 101 ∷ 102 ∷ 115 ∷ []) ∷ sign Semicolon ∷ name (77 ∷ []) ∷ sign Colon ∷ reserved ProgramWord ∷ reserved ImportsWord ∷ name (73 ∷ 79 ∷ 68 ∷ 101 ∷ 102 ∷ 115 ∷ []) ∷ sign Equal ∷ reserved BeginWord ∷ reserved OpenWord ∷ name (73 ∷ 79 ∷ 68 ∷ 101 ∷ 102 ∷ 115 ∷ []) ∷ sign Semicolon ∷ name (69 ∷ []) ∷ sign Colon ∷ reserved ErrorWord ∷ sign Equal ∷ reserved CodeWord ∷ sign Semicolon ∷ name (81 ∷ []) ∷ sign Colon ∷ reserved ProcedureWord ∷ sign Equal ∷ reserved BeginWord ∷ reserved ErrorWord ∷ name (69 ∷ []) ∷ reserved EndWord ∷ sign Semicolon ∷ name (80 ∷ []) ∷ sign Colon ∷ reserved ProcedureWord ∷ reserved ReturnsWord ∷ sign LeftBracket ∷ name (114 ∷ []) ∷ sign Colon ∷ reserved IntegerWord ∷ sign RightBracket ∷ sign Equal ∷ reserved BeginWord ∷ name (81 ∷ []) ∷ sign LeftBracket ∷ sign Bang ∷ name (69 ∷ []) ∷ sign DoubleArrow ∷ reserved ReturnWord ∷ sign LeftBracket ∷ number 3 ∷ sign RightBracket ∷ sign RightBracket ∷ sign Semicolon ∷ name (114 ∷ []) ∷ sign Arrow ∷ number 9 ∷ reserved EndWord ∷ sign Semicolon ∷ name (87 ∷ 114 ∷ 105 ∷ 116 ∷ 101 ∷ 68 ∷ 101 ∷ 99 ∷ 105 ∷ 109 ∷ 97 ∷ 108 ∷ []) ∷ sign LeftBracket ∷ name (80 ∷ []) ∷ sign LeftBracket ∷ sign RightBracket ∷ sign RightBracket ∷ sign Semicolon ∷ reserved DoWord ∷ name (81 ∷ []) ∷ sign LeftBracket ∷ sign Bang ∷ name (69 ∷ []) ∷ sign DoubleArrow ∷ reserved ExitWord ∷ sign RightBracket ∷ sign Semicolon ∷ name (87 ∷ 114 ∷ 105 ∷ 116 ∷ 101 ∷ 67 ∷ 104 ∷ 97 ∷ 114 ∷ []) ∷ sign LeftBracket ∷ char 110 ∷ sign RightBracket ∷ reserved EndloopWord ∷ sign Semicolon ∷ name (87 ∷ 114 ∷ 105 ∷ 116 ∷ 101 ∷ 67 ∷ 104 ∷ 97 ∷ 114 ∷ []) ∷ sign LeftBracket ∷ char 120 ∷ sign RightBracket ∷ sign Semicolon ∷ reserved EndWord ∷ sign Dot ∷ []

leaving_is_read : IsRead leaving
unfolding ex.a_record ex.after_base ex.after_comma ex.after_name ex.args ex.arm ex.arm_list ex.array ex.bounds ex.brackets ex.brackets_option ex.by_key ex.called ex.catch ex.closed ex.conj ex.enumeration ex.error_raise ex.expr ex.factor ex.field_list ex.in_order ex.interval ex.list ex.list_option ex.literal ex.long_type ex.more_types ex.neg ex.negation ex.parens ex.primary ex.product ex.raise ex.reference ex.rel ex.related ex.relation ex.signal_raise ex.suffixes ex.suffixes_step ex.sum ex.type_exp ex.type_from ex.types_from ex.undecided_turn ex.unkeyed ex.unnamed ex.with_names nr.labels nr.named nr.names nr.names_from nr.qname nr.qname_from nr.qnames nr.repeat_labels r.access r.block r.constant r.declaration r.declared r.defined r.definitions r.definitions_step r.directory r.error r.file r.front_end r.front_from r.front_turn r.head r.in_params r.inner r.interface r.item r.items r.kind r.limit r.listed r.module_text r.opened r.params r.procedure r.program r.returns r.signal r.text r.type_item r.using r.using_names st.after_not st.an_end st.assigned st.block st.body st.case st.case_list st.cases st.condition st.conditional st.control st.count st.decreasing st.else_part st.enable_many st.enable_one st.enabling st.exit st.exit_part st.exits st.extract st.for st.go_to st.head_end st.head_from st.head_turn st.jump st.key_lefts st.lefts st.local st.loop st.nested st.otherwise st.plain st.repeat_part st.repeats st.select st.statement st.stmts st.targets st.targets_from st.test st.through st.type_is st.typed st.unnegated st.valued w.choose w.need w.when w.turns w.repeat w.many_turn w.ended_turn w.too_deep
leaving_is_read = record { tree = _; reads = refl }

pub leaving_parses : (x : Module) × Parses leaving x
leaving_parses = parsed leaving leaving_is_read

-- DIRECTORY StepDefs: FROM "StepDefs"; Link: PROGRAM IMPORTS StepDefs EXPORTS StepDefs = BEGIN Step: PUBLIC PROCEDURE [n: INTEGER] RETURNS [INTEGER] = BEGIN RETURN[StepDefs.Step[n + 1]]; END; END.
abbrev linking : List Token
linking = reserved DirectoryWord ∷ name (83 ∷ 116 ∷ 101 ∷ 112 ∷ 68 ∷ 101 ∷ 102 ∷ 115 ∷ []) ∷ sign Colon ∷ reserved FromWord ∷ text (83 ∷ 116 ∷ 101 ∷ 112 ∷ 68 ∷ 101 ∷ 102 ∷ 115 ∷ []) ∷ sign Semicolon ∷ name (76 ∷ 105 ∷ 110 ∷ 107 ∷ []) ∷ sign Colon ∷ reserved ProgramWord ∷ reserved ImportsWord ∷ name (83 ∷ 116 ∷ 101 ∷ 112 ∷ 68 ∷ 101 ∷ 102 ∷ 115 ∷ []) ∷ reserved ExportsWord ∷ name (83 ∷ 116 ∷ 101 ∷ 112 ∷ 68 ∷ 101 ∷ 102 ∷ 115 ∷ []) ∷ sign Equal ∷ reserved BeginWord ∷ name (83 ∷ 116 ∷ 101 ∷ 112 ∷ []) ∷ sign Colon ∷ reserved PublicWord ∷ reserved ProcedureWord ∷ sign LeftBracket ∷ name (110 ∷ []) ∷ sign Colon ∷ reserved IntegerWord ∷ sign RightBracket ∷ reserved ReturnsWord ∷ sign LeftBracket ∷ reserved IntegerWord ∷ sign RightBracket ∷ sign Equal ∷ reserved BeginWord ∷ reserved ReturnWord ∷ sign LeftBracket ∷ name (83 ∷ 116 ∷ 101 ∷ 112 ∷ 68 ∷ 101 ∷ 102 ∷ 115 ∷ []) ∷ sign Dot ∷ name (83 ∷ 116 ∷ 101 ∷ 112 ∷ []) ∷ sign LeftBracket ∷ name (110 ∷ []) ∷ sign Plus ∷ number 1 ∷ sign RightBracket ∷ sign RightBracket ∷ sign Semicolon ∷ reserved EndWord ∷ sign Semicolon ∷ reserved EndWord ∷ sign Dot ∷ []

linking_is_read : IsRead linking
unfolding ex.a_record ex.after_base ex.after_comma ex.after_name ex.args ex.arm ex.arm_list ex.array ex.bounds ex.brackets ex.brackets_option ex.by_key ex.called ex.catch ex.closed ex.conj ex.enumeration ex.error_raise ex.expr ex.factor ex.field_list ex.in_order ex.interval ex.list ex.list_option ex.literal ex.long_type ex.more_types ex.neg ex.negation ex.parens ex.primary ex.product ex.raise ex.reference ex.rel ex.related ex.relation ex.signal_raise ex.suffixes ex.suffixes_step ex.sum ex.type_exp ex.type_from ex.types_from ex.undecided_turn ex.unkeyed ex.unnamed ex.with_names nr.labels nr.named nr.names nr.names_from nr.qname nr.qname_from nr.qnames nr.repeat_labels r.access r.block r.constant r.declaration r.declared r.defined r.definitions r.definitions_step r.directory r.error r.file r.front_end r.front_from r.front_turn r.head r.in_params r.inner r.interface r.item r.items r.kind r.limit r.listed r.module_text r.opened r.params r.procedure r.program r.returns r.signal r.text r.type_item r.using r.using_names st.after_not st.an_end st.assigned st.block st.body st.case st.case_list st.cases st.condition st.conditional st.control st.count st.decreasing st.else_part st.enable_many st.enable_one st.enabling st.exit st.exit_part st.exits st.extract st.for st.go_to st.head_end st.head_from st.head_turn st.jump st.key_lefts st.lefts st.local st.loop st.nested st.otherwise st.plain st.repeat_part st.repeats st.select st.statement st.stmts st.targets st.targets_from st.test st.through st.type_is st.typed st.unnegated st.valued w.choose w.need w.when w.turns w.repeat w.many_turn w.ended_turn w.too_deep
linking_is_read = record { tree = _; reads = refl }

pub linking_parses : (x : Module) × Parses linking x
linking_parses = parsed linking linking_is_read

-- DIRECTORY StepDefs: FROM "StepDefs", SigDefs: FROM "SigDefs"; Last: PROGRAM EXPORTS StepDefs, SigDefs = BEGIN Odd: PUBLIC SIGNAL [n: INTEGER] RETURNS [INTEGER] = CODE; Step: PUBLIC PROCEDURE [n: INTEGER] RETURNS [INTEGER] = BEGIN IF n MOD 2 = 1 THEN RETURN[SIGNAL Odd[n]]; RETURN[n]; END; END.
abbrev ending : List Token
ending = reserved DirectoryWord ∷ name (83 ∷ 116 ∷ 101 ∷ 112 ∷ 68 ∷ 101 ∷ 102 ∷ 115 ∷ []) ∷ sign Colon ∷ reserved FromWord ∷ text (83 ∷ 116 ∷ 101 ∷ 112 ∷ 68 ∷ 101 ∷ 102 ∷ 115 ∷ []) ∷ sign Comma ∷ name (83 ∷ 105 ∷ 103 ∷ 68 ∷ 101 ∷ 102 ∷ 115 ∷ []) ∷ sign Colon ∷ reserved FromWord ∷ text (83 ∷ 105 ∷ 103 ∷ 68 ∷ 101 ∷ 102 ∷ 115 ∷ []) ∷ sign Semicolon ∷ name (76 ∷ 97 ∷ 115 ∷ 116 ∷ []) ∷ sign Colon ∷ reserved ProgramWord ∷ reserved ExportsWord ∷ name (83 ∷ 116 ∷ 101 ∷ 112 ∷ 68 ∷ 101 ∷ 102 ∷ 115 ∷ []) ∷ sign Comma ∷ name (83 ∷ 105 ∷ 103 ∷ 68 ∷ 101 ∷ 102 ∷ 115 ∷ []) ∷ sign Equal ∷ reserved BeginWord ∷ name (79 ∷ 100 ∷ 100 ∷ []) ∷ sign Colon ∷ reserved PublicWord ∷ reserved SignalWord ∷ sign LeftBracket ∷ name (110 ∷ []) ∷ sign Colon ∷ reserved IntegerWord ∷ sign RightBracket ∷ reserved ReturnsWord ∷ sign LeftBracket ∷ reserved IntegerWord ∷ sign RightBracket ∷ sign Equal ∷ reserved CodeWord ∷ sign Semicolon ∷ name (83 ∷ 116 ∷ 101 ∷ 112 ∷ []) ∷ sign Colon ∷ reserved PublicWord ∷ reserved ProcedureWord ∷ sign LeftBracket ∷ name (110 ∷ []) ∷ sign Colon ∷ reserved IntegerWord ∷ sign RightBracket ∷ reserved ReturnsWord ∷ sign LeftBracket ∷ reserved IntegerWord ∷ sign RightBracket ∷ sign Equal ∷ reserved BeginWord ∷ reserved IfWord ∷ name (110 ∷ []) ∷ reserved ModWord ∷ number 2 ∷ sign Equal ∷ number 1 ∷ reserved ThenWord ∷ reserved ReturnWord ∷ sign LeftBracket ∷ reserved SignalWord ∷ name (79 ∷ 100 ∷ 100 ∷ []) ∷ sign LeftBracket ∷ name (110 ∷ []) ∷ sign RightBracket ∷ sign RightBracket ∷ sign Semicolon ∷ reserved ReturnWord ∷ sign LeftBracket ∷ name (110 ∷ []) ∷ sign RightBracket ∷ sign Semicolon ∷ reserved EndWord ∷ sign Semicolon ∷ reserved EndWord ∷ sign Dot ∷ []

ending_is_read : IsRead ending
unfolding ex.a_record ex.after_base ex.after_comma ex.after_name ex.args ex.arm ex.arm_list ex.array ex.bounds ex.brackets ex.brackets_option ex.by_key ex.called ex.catch ex.closed ex.conj ex.enumeration ex.error_raise ex.expr ex.factor ex.field_list ex.in_order ex.interval ex.list ex.list_option ex.literal ex.long_type ex.more_types ex.neg ex.negation ex.parens ex.primary ex.product ex.raise ex.reference ex.rel ex.related ex.relation ex.signal_raise ex.suffixes ex.suffixes_step ex.sum ex.type_exp ex.type_from ex.types_from ex.undecided_turn ex.unkeyed ex.unnamed ex.with_names nr.labels nr.named nr.names nr.names_from nr.qname nr.qname_from nr.qnames nr.repeat_labels r.access r.block r.constant r.declaration r.declared r.defined r.definitions r.definitions_step r.directory r.error r.file r.front_end r.front_from r.front_turn r.head r.in_params r.inner r.interface r.item r.items r.kind r.limit r.listed r.module_text r.opened r.params r.procedure r.program r.returns r.signal r.text r.type_item r.using r.using_names st.after_not st.an_end st.assigned st.block st.body st.case st.case_list st.cases st.condition st.conditional st.control st.count st.decreasing st.else_part st.enable_many st.enable_one st.enabling st.exit st.exit_part st.exits st.extract st.for st.go_to st.head_end st.head_from st.head_turn st.jump st.key_lefts st.lefts st.local st.loop st.nested st.otherwise st.plain st.repeat_part st.repeats st.select st.statement st.stmts st.targets st.targets_from st.test st.through st.type_is st.typed st.unnegated st.valued w.choose w.need w.when w.turns w.repeat w.many_turn w.ended_turn w.too_deep
ending_is_read = record { tree = _; reads = refl }

pub ending_parses : (x : Module) × Parses ending x
ending_parses = parsed ending ending_is_read

-- DIRECTORY StepDefs: FROM "StepDefs", SigDefs: FROM "SigDefs", IODefs: FROM "IODefs"; Main: PROGRAM IMPORTS StepDefs, SigDefs, IODefs = BEGIN IODefs.WriteDecimal[StepDefs.Step[0 ! SigDefs.Odd => RESUME[n + n]]]; IODefs.WriteChar[12C]; END.
abbrev starting : List Token
starting = reserved DirectoryWord ∷ name (83 ∷ 116 ∷ 101 ∷ 112 ∷ 68 ∷ 101 ∷ 102 ∷ 115 ∷ []) ∷ sign Colon ∷ reserved FromWord ∷ text (83 ∷ 116 ∷ 101 ∷ 112 ∷ 68 ∷ 101 ∷ 102 ∷ 115 ∷ []) ∷ sign Comma ∷ name (83 ∷ 105 ∷ 103 ∷ 68 ∷ 101 ∷ 102 ∷ 115 ∷ []) ∷ sign Colon ∷ reserved FromWord ∷ text (83 ∷ 105 ∷ 103 ∷ 68 ∷ 101 ∷ 102 ∷ 115 ∷ []) ∷ sign Comma ∷ name (73 ∷ 79 ∷ 68 ∷ 101 ∷ 102 ∷ 115 ∷ []) ∷ sign Colon ∷ reserved FromWord ∷ text (73 ∷ 79 ∷ 68 ∷ 101 ∷ 102 ∷ 115 ∷ []) ∷ sign Semicolon ∷ name (77 ∷ 97 ∷ 105 ∷ 110 ∷ []) ∷ sign Colon ∷ reserved ProgramWord ∷ reserved ImportsWord ∷ name (83 ∷ 116 ∷ 101 ∷ 112 ∷ 68 ∷ 101 ∷ 102 ∷ 115 ∷ []) ∷ sign Comma ∷ name (83 ∷ 105 ∷ 103 ∷ 68 ∷ 101 ∷ 102 ∷ 115 ∷ []) ∷ sign Comma ∷ name (73 ∷ 79 ∷ 68 ∷ 101 ∷ 102 ∷ 115 ∷ []) ∷ sign Equal ∷ reserved BeginWord ∷ name (73 ∷ 79 ∷ 68 ∷ 101 ∷ 102 ∷ 115 ∷ []) ∷ sign Dot ∷ name (87 ∷ 114 ∷ 105 ∷ 116 ∷ 101 ∷ 68 ∷ 101 ∷ 99 ∷ 105 ∷ 109 ∷ 97 ∷ 108 ∷ []) ∷ sign LeftBracket ∷ name (83 ∷ 116 ∷ 101 ∷ 112 ∷ 68 ∷ 101 ∷ 102 ∷ 115 ∷ []) ∷ sign Dot ∷ name (83 ∷ 116 ∷ 101 ∷ 112 ∷ []) ∷ sign LeftBracket ∷ number 0 ∷ sign Bang ∷ name (83 ∷ 105 ∷ 103 ∷ 68 ∷ 101 ∷ 102 ∷ 115 ∷ []) ∷ sign Dot ∷ name (79 ∷ 100 ∷ 100 ∷ []) ∷ sign DoubleArrow ∷ reserved ResumeWord ∷ sign LeftBracket ∷ name (110 ∷ []) ∷ sign Plus ∷ name (110 ∷ []) ∷ sign RightBracket ∷ sign RightBracket ∷ sign RightBracket ∷ sign Semicolon ∷ name (73 ∷ 79 ∷ 68 ∷ 101 ∷ 102 ∷ 115 ∷ []) ∷ sign Dot ∷ name (87 ∷ 114 ∷ 105 ∷ 116 ∷ 101 ∷ 67 ∷ 104 ∷ 97 ∷ 114 ∷ []) ∷ sign LeftBracket ∷ char 10 ∷ sign RightBracket ∷ sign Semicolon ∷ reserved EndWord ∷ sign Dot ∷ []

starting_is_read : IsRead starting
unfolding ex.a_record ex.after_base ex.after_comma ex.after_name ex.args ex.arm ex.arm_list ex.array ex.bounds ex.brackets ex.brackets_option ex.by_key ex.called ex.catch ex.closed ex.conj ex.enumeration ex.error_raise ex.expr ex.factor ex.field_list ex.in_order ex.interval ex.list ex.list_option ex.literal ex.long_type ex.more_types ex.neg ex.negation ex.parens ex.primary ex.product ex.raise ex.reference ex.rel ex.related ex.relation ex.signal_raise ex.suffixes ex.suffixes_step ex.sum ex.type_exp ex.type_from ex.types_from ex.undecided_turn ex.unkeyed ex.unnamed ex.with_names nr.labels nr.named nr.names nr.names_from nr.qname nr.qname_from nr.qnames nr.repeat_labels r.access r.block r.constant r.declaration r.declared r.defined r.definitions r.definitions_step r.directory r.error r.file r.front_end r.front_from r.front_turn r.head r.in_params r.inner r.interface r.item r.items r.kind r.limit r.listed r.module_text r.opened r.params r.procedure r.program r.returns r.signal r.text r.type_item r.using r.using_names st.after_not st.an_end st.assigned st.block st.body st.case st.case_list st.cases st.condition st.conditional st.control st.count st.decreasing st.else_part st.enable_many st.enable_one st.enabling st.exit st.exit_part st.exits st.extract st.for st.go_to st.head_end st.head_from st.head_turn st.jump st.key_lefts st.lefts st.local st.loop st.nested st.otherwise st.plain st.repeat_part st.repeats st.select st.statement st.stmts st.targets st.targets_from st.test st.through st.type_is st.typed st.unnegated st.valued w.choose w.need w.when w.turns w.repeat w.many_turn w.ended_turn w.too_deep
starting_is_read = record { tree = _; reads = refl }

pub starting_parses : (x : Module) × Parses starting x
starting_parses = parsed starting starting_is_read
