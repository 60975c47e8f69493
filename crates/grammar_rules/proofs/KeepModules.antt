-- The parsers of modules keep to the grammar.
use Rattle.std.proofs.Common.{◌≡◌, ℕ, true, List, [], ◌∷◌, ◌++◌, Option, Some, None, refl, sym, ap, subst, ◌∙◌}
use Rattle.mesa_base.specs.declared.place.Place.{Place}
use Rattle.mesa_lexer.specs.declared.token.Token.{Token}
use Rattle.mesa_lexer.specs.declared.token.Kind.{Kind}
use Rattle.mesa_lexer.specs.declared.token.Kind.TheVariants as k
use Rattle.mesa_lexer.specs.declared.word.Word.{Word}
use Rattle.mesa_lexer.specs.declared.word.Word.TheVariants.{BeginWord, CodeWord, DefinitionsWord, DirectoryWord, EndWord, ErrorWord, ExportsWord, FromWord, ImportsWord, OpenWord, ProgramWord, ReturnsWord, SignalWord, TypeWord, UsingWord}
use Rattle.mesa_lexer.specs.declared.mark.Mark.TheVariants.{Semicolon, Colon, Comma, Dot, LeftBracket, RightBracket, LeftBrace, Equal}
use Rattle.token_cursor.specs.Parsing.{token, mark, first, a_name, Again, Done, repeat, many_turn}
use Rattle.token_cursor.specs.Parsing as w
use Rattle.token_cursor.proofs.Exact.{Rel, first_none, first_assoc, Sample, Keeps, Took, Then, bind, done, imply, Plainly, bind_plain, alone, both, four, either}
use Rattle.token_cursor.proofs.Branches.{name_is, choose_or, choose_must, option_or, option_must, word, when_keeps, of_kind}
use Rattle.token_cursor.proofs.Loops.{Steps, Eats, growing, many_eats, many_keeps, eats_by, less_done, less_choose, less_either, no_more_done, no_more_goes, no_more_when}
use Rattle.mesa_base.specs.declared.identifier.Identifier.{Identifier}
use Rattle.syntax_trees.specs.declared.syntax.Labeled.{Labeled}
use Rattle.syntax_trees.specs.declared.syntax.FieldList.{FieldList}
use Rattle.syntax_trees.specs.declared.syntax.Head.{Head}
use Rattle.syntax_trees.specs.declared.syntax.Declared.{Declared}
use Rattle.syntax_trees.specs.declared.syntax.Declared.TheVariants.{Procedure, Signal, Error, Data}
use Rattle.syntax_trees.specs.declared.syntax.Declaration.{Declaration}
use Rattle.syntax_trees.specs.declared.syntax.Inner.{Inner}
use Rattle.syntax_trees.specs.declared.syntax.Defined.{Defined}
use Rattle.syntax_trees.specs.declared.syntax.Defined.TheVariants.{ProcedureItem, SignalItem, ErrorItem, TypeItem, ConstantItem}
use Rattle.syntax_trees.specs.declared.syntax.ModuleKind.{ModuleKind}
use Rattle.syntax_trees.specs.declared.syntax.ModuleKind.TheVariants.{Program, Interface}
use Rattle.syntax_trees.specs.declared.syntax.DirectoryItem.{DirectoryItem}
use Rattle.syntax_trees.specs.declared.syntax.Module.{Module}
use Rattle.grammar_rules.specs.WordsAndMarks.{spelled, procedure_word}
use Rattle.grammar_rules.specs.Grammar as g
use Rattle.grammar_rules.specs.Grammar.{labeled}
use Rattle.grammar_rules.specs.Modules as m
use Rattle.grammar_rules.specs.ReadNested.{Nested, a_text, identifier, comma}
use Rattle.grammar_rules.specs.ReadStatements.{semicolon}
use Rattle.grammar_rules.specs.ReadStatements as st
use Rattle.grammar_rules.specs.ReadModules as r
use Rattle.grammar_rules.specs.ReadModules.{Front}
use Rattle.grammar_rules.proofs.Readings.{cut, Inner as Below, Fields_at, Block_at, Body_at}
use Rattle.grammar_rules.proofs.Names as nm
use Rattle.grammar_rules.proofs.KeepTypes as kt
use Rattle.grammar_rules.proofs.KeepStatements as ks

-- ---- lists of names

opened : Keeps cut cut (Plainly m.IsOpen) r.opened
unfolding r.opened
opened = option_or (k.Word OpenWord) (λ p. bind_plain nm.names (λ ns. word semicolon refl refl (λ s. done ns (λ ws us d. (m.opened d, refl))))) (done [] (λ ws. (m.no_open, refl)))

listed : (w : Word) → Keeps cut cut (Plainly (m.IsListed w)) (r.listed w)
unfolding r.listed
listed w = option_or (k.Word w) (λ p. imply (λ ts x rest o d. (m.listed d.0, d.1)) nm.names) (done [] (λ ws. (m.unlisted, refl)))

using_names : (p s : Place) → Keeps cut cut (Took (mark LeftBracket s) (Took (w.word UsingWord p) (Plainly m.IsUsing))) r.using_names
unfolding r.using_names
using_names p s = option_or {l = cut} (k.Mark RightBracket) (λ v. done (Some []) (λ ws. (m.using_none, refl))) (bind_plain nm.names (λ ns. word (k.Mark RightBracket) refl refl (λ v. done (Some ns) (λ ws us d. (m.using d, refl)))))

using : Keeps cut cut (Plainly m.IsUsing) r.using
unfolding r.using
using = option_or (k.Word UsingWord) (λ p. word (k.Mark LeftBracket) refl refl (λ s. using_names p s)) (done None (λ ws. (m.no_using, refl)))

text_is : (kind : Kind) (m : List ℕ) → a_text kind ≡ Some m → kind ≡ k.Text m
text_is (k.Text j) m h = let same : j ≡ m = cc in ap k.Text same
text_is _ m h = absurd (cc)

item : Keeps cut cut (Plainly m.IsItem) r.item
unfolding r.item r.file
item = nm.by_name (λ i. word (k.Mark Colon) refl refl (λ a. word (k.Word FromWord) refl refl (λ b. choose_must {l = cut} (k.Text []) [] refl refl (λ bytes p kind h.
    subst (λ z. Keeps cut cut (Took (token z p) (Took (w.word FromWord b) (Took (mark Colon a) (Took (spelled i) (Plainly m.IsItem))))) (r.file i bytes p)) (sym (text_is kind bytes h)) (bind_plain using (λ used. done (m.directory_item i p bytes used) (λ ws us d. (m.item d, refl))))))))

abbrev pub Items : Rel (List DirectoryItem)
Items = Plainly m.IsItems

items_step : (all : List DirectoryItem) (o : Unit {0}) (p : Place) (kind : Kind) → comma kind ≡ Some o → Keeps cut cut (Took (token kind p) (Then Items Items all)) (r.items_step all o p)
items_step all = of_kind cut cut (Then Items Items all) (r.items_step all tt) (k.Mark Comma) (λ p. bind_plain item (λ x. done (all ++ x ∷ []) (λ ws us h us0 o d. (m.items d.0 h, first_none o ∙ d.1))))

pub items_eats : Eats (many_turn comma r.items_step)
items_eats = many_eats (λ all t. Took t (Then Items Items all)) comma r.items_step items_step

items : (p : Place) → Keeps cut cut (Took (w.word DirectoryWord p) (Plainly m.IsDirectory)) r.items
unfolding r.items
items p = bind_plain item (λ x. bind (many_keeps Items comma r.items_step items_step (x ∷ [])) (λ all. word semicolon refl refl (λ s. done all (λ ws us o d us0 h. let f = d us0 None (m.an_item h, refl) in (m.directory f.0, first_none o ∙ f.1)))))

directory : Keeps cut cut (Plainly m.IsDirectory) r.directory
unfolding r.directory
directory = option_or (k.Word DirectoryWord) items (done [] (λ ws. (m.no_directory, refl)))

access : Keeps cut cut (Plainly m.IsAccess) r.access
unfolding r.access
access = choose_or {l = cut} (λ a p kind h. done (Some a) (λ ws. (m.access h, refl))) (done None (λ ws. (m.no_access, refl)))

-- ---- readings

abbrev pub Params_at : ℕ → Rel (Option FieldList)
Params_at n ts x rest o = (e : m.IsParams ts x rest) × (m.deep_params n e ≡ o)

abbrev pub Returns_at : ℕ → Rel (Option FieldList)
Returns_at n ts x rest o = (e : m.IsReturns ts x rest) × (m.deep_returns n e ≡ o)

abbrev pub Head_at : ℕ → Rel Head
Head_at n ts x rest o = (e : m.IsHead ts x rest) × (m.deep_head n e ≡ o)

abbrev pub Declared_at : ℕ → Rel Declared
Declared_at n ts x rest o = (e : m.IsDeclared ts x rest) × (m.deep_declared n e ≡ o)

abbrev pub Declaration_at : ℕ → Rel Declaration
Declaration_at n ts x rest o = (e : m.IsDeclaration ts x rest) × (m.deep_declaration n e ≡ o)

abbrev pub Declarations_at : ℕ → Rel (List Declaration)
Declarations_at n ts x rest o = (e : m.IsDeclarations ts x rest) × (m.deep_declarations n e ≡ o)

abbrev pub Inner_at : ℕ → Rel Inner
Inner_at n ts x rest o = (e : m.IsInner ts x rest) × (m.deep_inner n e ≡ o)

abbrev pub Defined_at : ℕ → Rel Defined
Defined_at n ts x rest o = (e : m.IsDefined ts x rest) × (m.deep_defined n e ≡ o)

abbrev pub Definitions_at : ℕ → Rel (List (Labeled (List Identifier) Defined))
Definitions_at n ts x rest o = (e : m.IsDefinitions ts x rest) × (m.deep_definitions n e ≡ o)

abbrev pub Kind_at : ℕ → Rel ModuleKind
Kind_at n ts x rest o = (e : m.IsKind ts x rest) × (m.deep_kind n e ≡ o)

abbrev pub Module_at : ℕ → Rel Module
Module_at n ts x rest o = (e : m.IsModule ts x rest) × (m.deep_module n e ≡ o)

module _ (n : ℕ) (q : Nested) (below : Below n q) where
  -- ---- heads

  in_params : (R : Rel (Option FieldList)) → ((p : Place) (ws : List Token) → R (mark RightBracket p ∷ ws) None ws None) → ((us : List Token) (x : FieldList) (p : Place) (ws : List Token) (o : Option (List Token)) → Fields_at n us x (mark RightBracket p ∷ ws) o → R us (Some x) ws (first o None)) → Keeps cut cut R (r.in_params q)
  unfolding r.in_params
  in_params R none some = option_or {l = cut} (k.Mark RightBracket) (λ p. done None (λ ws. none p ws)) (bind (kt.field_list n q below) (λ x. word (k.Mark RightBracket) refl refl (λ p. done (Some x) (λ ws us o d. some us x p ws o d))))

  params : Keeps cut cut (Params_at n) (r.params q)
  unfolding r.params
  params = option_or (k.Mark LeftBracket) (λ p. in_params (Took (mark LeftBracket p) (Params_at n)) (λ s ws. (m.empty_params, refl)) (λ us x s ws o d. (m.params d.0, alone d.1))) (done None (λ ws. (m.no_params, refl)))

  returns : Keeps cut cut (Returns_at n) (r.returns q)
  unfolding r.returns
  returns = option_or (k.Word ReturnsWord) (λ p. word (k.Mark LeftBracket) refl refl (λ s. in_params (Took (mark LeftBracket s) (Took (w.word ReturnsWord p) (Returns_at n))) (λ v ws. (m.empty_returns, refl)) (λ us x v ws o d. (m.returns d.0, alone d.1)))) (done None (λ ws. (m.no_returns, refl)))

  head : Keeps cut cut (Head_at n) (r.head q)
  unfolding r.head
  head = bind params (λ a. bind returns (λ b. done (m.head a b) (λ ws us o d us1 o1 d1. (m.head_of d1.0 d.0, both d1.1 d.1))))

  block : Keeps cut cut (Block_at n) (r.block q)
  unfolding r.block
  block = option_or (k.Word BeginWord) (ks.begin_block n q below) (option_must {l = cut} (k.Mark LeftBrace) refl refl (ks.brace_block n q below))

  procedure : (p : Place) (kind : Kind) → procedure_word kind ≡ Some tt → Keeps cut cut (Took (token kind p) (Declared_at n)) (r.procedure q)
  unfolding r.procedure
  procedure p kind h = bind head (λ x. word (k.Mark Equal) refl refl (λ s. bind block (λ b. done (Procedure x b) (λ ws us o d us1 o1 d1. (m.procedure h d1.0 d.0, both d1.1 d.1)))))

  signal : (p : Place) → Keeps cut cut (Took (w.word SignalWord p) (Declared_at n)) (r.signal q)
  unfolding r.signal
  signal p = bind head (λ x. word (k.Mark Equal) refl refl (λ s. word (k.Word CodeWord) refl refl (λ v. done (Signal x) (λ ws us o d. (m.signal d.0, alone d.1)))))

  error : (p : Place) → Keeps cut cut (Took (w.word ErrorWord p) (Declared_at n)) (r.error q)
  unfolding r.error
  error p = bind params (λ x. word (k.Mark Equal) refl refl (λ s. word (k.Word CodeWord) refl refl (λ v. done (Error x) (λ ws us o d. (m.error d.0, alone d.1)))))

  declared : Keeps cut cut (Declared_at n) (r.declared q)
  unfolding r.declared
  declared = choose_or (λ o p kind h. procedure p kind h) (option_or (k.Word SignalWord) signal (option_or (k.Word ErrorWord) error (bind (ks.plain n q below) (λ x. done (Data x) (λ ws us o d. (m.plainly d.0, alone d.1))))))

  -- with the semicolon behind it
  abbrev pub Closed : {X : Type 0} → Rel X → Rel X
  Closed I ts x rest o = (p : Place) × I ts x (mark Semicolon p ∷ rest) o

  declaration : (i : Identifier) → Keeps cut cut (Took (spelled i) (Closed (Declaration_at n))) (r.declaration q i)
  unfolding r.declaration
  declaration i = bind_plain {P = λ ts ns rest. g.IsNames (spelled i ∷ ts) ns rest} (nm.names_from i) (λ ns. word (k.Mark Colon) refl refl (λ p. bind_plain access (λ a. bind declared (λ x. word semicolon refl refl (λ s. done (m.declaration ns a x)
      (λ ws us o d us2 d2 us1 d1. (s, (m.declared d1 d2 d.0, alone d.1))))))))

  pub record FrontIs (ts : List Token) (h : Front) (rest : List Token) (o : Option (List Token)) : Type 0 where
    pub mid : List Token
    pub o1 : Option (List Token)
    pub o2 : Option (List Token)
    pub declarations : Declarations_at n ts h.0 mid o1
    pub body : Body_at n mid h.1 rest o2
    pub is : o ≡ first o1 o2

  front_end : (ds : List Declaration) → Keeps cut cut (Steps (Declarations_at n) FrontIs ds) (r.front_end q ds)
  unfolding r.front_end
  front_end ds = bind (ks.body n q below) (λ ss. done (Done (ds, ss)) (λ ws us o d us0 o0 d0. record { mid = us; o1 = o0; o2 = o; declarations = d0; body = d; is = ap (λ z. first o0 z) (first_none o) }))

  front_from : q.can ≡ true → (ds : List Declaration) (i : Identifier) → Keeps cut cut (Took (spelled i) (Steps (Declarations_at n) FrontIs ds)) (r.front_from q ds i)
  unfolding r.front_from
  front_from may ds i = when_keeps (st.declares q) (bind (declaration i) (λ x. done (Again (ds ++ x ∷ [])) (λ ws us o d us0 o0 d0. (m.declarations d0.0 d.1.0, both d0.1 d.1.1))))
      (bind (ks.stmts n q below (λ z. spelled i ∷ z) (Some i) (below.stmt_from may i)) (λ ss. done (Done (ds, ss)) (λ ws us o d us0 o0 d0. record { mid = spelled i ∷ us; o1 = o0; o2 = o; declarations = d0; body = d; is = ap (λ z. first o0 z) (first_none o) })))

  front_turn : (ds : List Declaration) → Keeps cut cut (Steps (Declarations_at n) FrontIs ds) (r.front_turn q ds)
  unfolding r.front_turn
  front_turn ds = either q.can (λ may. nm.name_or (front_from may ds) (front_end ds)) (front_end ds)

  front_stops : (ds : List Declaration) → Sample cut cut (Then (Declarations_at n) FrontIs ds)
  front_stops ds = record { text = []; made = (ds, []); viable = λ ws e. (None, (λ us o d. record { mid = ws; o1 = o; o2 = None; declarations = d; body = (g.no_stmts, refl); is = refl }), e) }

  pub front_eats : Eats (r.front_turn q)
  unfolding r.front_turn r.front_from r.front_end
  front_eats = eats_by (λ ds. less_either q.can (less_choose _ _ _ (λ name p. no_more_when _ _ _ (no_more_goes (λ x. ds ++ x ∷ []) (declaration (identifier name p))) (no_more_done (st.stmts q (Some (identifier name p))) (λ ss. (ds, ss)))) (less_done (st.body q) (λ ss. (ds, ss)))) (less_done (st.body q) (λ ss. (ds, ss))))

  front : Keeps cut cut FrontIs (repeat (r.front_turn q) [])
  front = imply (λ ts h rest o d. d ts None (m.no_declarations, refl)) (growing (Declarations_at n) FrontIs (r.front_turn q) front_eats front_turn front_stops [])

  inner : Keeps cut cut (Inner_at n) (r.inner q)
  unfolding r.inner
  inner = bind (ks.enabling n q below) (λ e. bind front (λ h. bind (ks.exit_part n q below) (λ xs. done (m.inner e h.0 h.1 xs) (λ ws us o d us1 o1 d1 us0 o0 d0.
      (m.inside d0.0 d1.declarations.0 d1.body.0 d.0, four d0.1 d1.declarations.1 d1.body.1 d.1 ∙ ap (λ z. first o0 z) (sym (first_assoc d1.o1 d1.o2 (first o None)) ∙ sym (ap (λ z. first z (first o None)) d1.is)))))))

  -- ---- interfaces

  constant : Keeps cut cut (Defined_at n) (r.constant q)
  unfolding r.constant
  constant = bind below.a_type (λ x. word (k.Mark Equal) refl refl (λ s. bind below.an_expr (λ y. done (ConstantItem x y) (λ ws us o d us1 o1 d1. (m.constant_item d1.0 d.0, both d1.1 d.1)))))

  type_item : (p : Place) → Keeps cut cut (Took (w.word TypeWord p) (Defined_at n)) (r.type_item q)
  unfolding r.type_item
  type_item p = word (k.Mark Equal) refl refl (λ s. bind below.a_type (λ x. done (TypeItem x) (λ ws us o d. (m.type_item d.0, alone d.1))))

  defined : Keeps cut cut (Defined_at n) (r.defined q)
  unfolding r.defined
  defined = choose_or (λ u p kind h. bind head (λ x. done (ProcedureItem x) (λ ws us o d. (m.procedure_item h d.0, alone d.1))))
      (option_or (k.Word SignalWord) (λ p. bind head (λ x. done (SignalItem x) (λ ws us o d. (m.signal_item d.0, alone d.1)))) (option_or (k.Word ErrorWord) (λ p. bind params (λ x. done (ErrorItem x) (λ ws us o d. (m.error_item d.0, alone d.1)))) (option_or (k.Word TypeWord) type_item constant)))

  definition : (all : List (Labeled (List Identifier) Defined)) (i : Identifier) → Keeps cut cut (Took (spelled i) (Then (Definitions_at n) (Definitions_at n) all)) (r.definitions_step q all i.name i.place)
  unfolding r.definitions_step
  definition all i = bind_plain {P = λ ts ns rest. g.IsNames (spelled i ∷ ts) ns rest} (nm.names_from i) (λ ns. word (k.Mark Colon) refl refl (λ p. bind defined (λ x. word semicolon refl refl (λ s. done (all ++ labeled ns x ∷ [])
      (λ ws us o d us1 d1 us0 o0 d0. (m.definitions d0.0 d1 d.0, both d0.1 d.1))))))

  definitions_step : (all : List (Labeled (List Identifier) Defined)) (name : List ℕ) (p : Place) (kind : Kind) → a_name kind ≡ Some name → Keeps cut cut (Took (token kind p) (Then (Definitions_at n) (Definitions_at n) all)) (r.definitions_step q all name p)
  definitions_step all name p kind h = subst (λ z. Keeps cut cut (Took (token z p) (Then (Definitions_at n) (Definitions_at n) all)) (r.definitions_step q all name p)) (sym (name_is kind name h)) (definition all (identifier name p))

  pub definitions_eats : Eats (many_turn a_name (r.definitions_step q))
  definitions_eats = many_eats (λ all t. Took t (Then (Definitions_at n) (Definitions_at n) all)) a_name (r.definitions_step q) definitions_step

  definitions : Keeps cut cut (Definitions_at n) (r.definitions q)
  unfolding r.definitions
  definitions = imply (λ ts x rest o d. d ts None (m.no_definitions, refl)) (many_keeps (Definitions_at n) a_name (r.definitions_step q) definitions_step [])

  -- ---- modules

  program : (p : Place) → Keeps cut cut (Took (w.word ProgramWord p) (Kind_at n)) (r.program q p)
  unfolding r.program
  program p = bind_plain (listed ImportsWord) (λ imports. bind_plain (listed ExportsWord) (λ exports. word (k.Mark Equal) refl refl (λ a. word (k.Word BeginWord) refl refl (λ b. bind_plain opened (λ opens. bind inner (λ x. word (k.Word EndWord) refl refl (λ s.
      done (Program p imports exports opens x) (λ ws us o d us3 d3 us2 d2 us1 d1. (m.program d1 d2 d3 d.0, alone d.1)))))))))

  interface : (p : Place) → Keeps cut cut (Took (w.word DefinitionsWord p) (Kind_at n)) (r.interface q p)
  unfolding r.interface
  interface p = word (k.Mark Equal) refl refl (λ a. word (k.Word BeginWord) refl refl (λ b. bind_plain opened (λ opens. bind definitions (λ all. word (k.Word EndWord) refl refl (λ s. done (Interface p opens all) (λ ws us o d us1 d1. (m.interface d1 d.0, alone d.1)))))))

  kind : Keeps cut cut (Kind_at n) (r.kind q)
  unfolding r.kind
  kind = option_or (k.Word ProgramWord) program (option_must {l = cut} (k.Word DefinitionsWord) refl refl interface)

  pub module_text : Keeps cut cut (Module_at n) (r.module_text q)
  unfolding r.module_text
  module_text = bind_plain directory (λ all. nm.by_name (λ i. word (k.Mark Colon) refl refl (λ a. bind kind (λ x. word (k.Mark Dot) refl refl (λ s. done (m.module_of all i x) (λ ws us o d us1 d1. (m.a_module d1 d.0, alone d.1)))))))
