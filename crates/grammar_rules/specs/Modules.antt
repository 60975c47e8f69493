-- The grammar of modules around their statements, with the nesting of readings (Language Manual, appendix on syntax; docs/LANGUAGE.md).
use Rattle.std.specs.Prelude.{◌≡◌, ℕ, List, [], ◌∷◌, ◌++◌, Option, Some, None}
use Rattle.mesa_base.specs.declared.place.Place.{Place}
use Rattle.mesa_lexer.specs.declared.token.Token.{Token}
use Rattle.mesa_lexer.specs.declared.token.Kind.{Kind}
use Rattle.mesa_lexer.specs.declared.token.Kind.TheVariants as k
use Rattle.mesa_lexer.specs.declared.word.Word.{Word}
use Rattle.mesa_lexer.specs.declared.word.Word.TheVariants.{BeginWord, CodeWord, DefinitionsWord, DirectoryWord, EndWord, ErrorWord, ExportsWord, FromWord}
use Rattle.mesa_lexer.specs.declared.word.Word.TheVariants.{ImportsWord, OpenWord, ProgramWord, ReturnsWord, SignalWord, TypeWord, UsingWord}
use Rattle.mesa_lexer.specs.declared.mark.Mark.TheVariants.{Semicolon, Colon, Comma, Dot, LeftBracket, RightBracket, Equal}
use Rattle.token_cursor.specs.Grammars.{token, word, mark, first}
use Rattle.mesa_base.specs.declared.identifier.Identifier.{Identifier}
use Rattle.syntax_trees.specs.declared.syntax.Labeled.{Labeled}
use Rattle.syntax_trees.specs.declared.syntax.FieldList.{FieldList}
use Rattle.syntax_trees.specs.declared.syntax.TypeExp.{TypeExp}
use Rattle.syntax_trees.specs.declared.syntax.Expr.{Expr}
use Rattle.syntax_trees.specs.declared.syntax.Arm.{Arm}
use Rattle.mesa_base.specs.declared.placed.Placed.{Placed}
use Rattle.syntax_trees.specs.declared.syntax.Statement.{Statement}
use Rattle.syntax_trees.specs.declared.syntax.Block.{Block}
use Rattle.syntax_trees.specs.declared.syntax.PlainItem.{PlainItem}
use Rattle.syntax_trees.specs.declared.syntax.Access.{Access}
use Rattle.syntax_trees.specs.declared.syntax.Head.{Head}
use Rattle.syntax_trees.specs.declared.syntax.Declared.{Declared}
use Rattle.syntax_trees.specs.declared.syntax.Declared.TheVariants.{Procedure, Signal, Error, Data}
use Rattle.syntax_trees.specs.declared.syntax.Declaration.{Declaration}
use Rattle.syntax_trees.specs.declared.syntax.Inner.{Inner}
use Rattle.syntax_trees.specs.declared.syntax.Defined.{Defined}
use Rattle.syntax_trees.specs.declared.syntax.Defined.TheVariants.{ProcedureItem, SignalItem, ErrorItem, TypeItem, ConstantItem}
use Rattle.syntax_trees.specs.declared.syntax.ModuleKind.{ModuleKind}
use Rattle.syntax_trees.specs.declared.syntax.ModuleKind.TheVariants.{Program, Interface}
use Rattle.syntax_trees.specs.declared.syntax.DirectoryItem.{DirectoryItem}
use Rattle.syntax_trees.specs.declared.syntax.Module.{Module}
use Rattle.grammar_rules.specs.WordsAndMarks.{spelled, procedure_word, accessing}
use Rattle.grammar_rules.specs.Grammar.{labeled, IsNames, IsType, IsFields, IsExpr, IsPlain, IsBlock, IsEnabling, IsBody, IsExitPart}
use Rattle.grammar_rules.specs.Depth.{deep_type, deep_fields, deep_expr, deep_plain, deep_block, deep_enabling, deep_body, deep_exit_part}

-- ---- trees by their parts

abbrev pub head : Option FieldList → Option FieldList → Head
head a b = record { takes = a; gives = b }

abbrev pub declaration : List Identifier → Option Access → Declared → Declaration
declaration ns a x = record { names = ns; access = a; declared = x }

abbrev pub inner : Option (Placed (List Arm)) → List Declaration → List Statement → List (Labeled (List Identifier) Statement) → Inner
inner e ds ss xs = record { enable = e; declarations = ds; statements = ss; exits = xs }

abbrev pub directory_item : Identifier → Place → List ℕ → Option (List Identifier) → DirectoryItem
directory_item i p file used = record { name = i; file_place = p; file = file; used = used }

abbrev pub module_of : List DirectoryItem → Identifier → ModuleKind → Module
module_of items i x = record { directory = items; name = i; kind = x }

-- ---- heads

-- [Params], where Params = "[" [FieldList] "]"
pub data IsParams : List Token → Option FieldList → List Token → Type 0 where
  no_params : {rest : List Token} → IsParams rest None rest
  empty_params : {rest : List Token} {p q : Place} → IsParams (mark LeftBracket p ∷ mark RightBracket q ∷ rest) None rest
  params : {ts rest : List Token} {x : FieldList} {p q : Place} → IsFields ts x (mark RightBracket q ∷ rest) → IsParams (mark LeftBracket p ∷ ts) (Some x) rest

-- [RETURNS Params]
pub data IsReturns : List Token → Option FieldList → List Token → Type 0 where
  no_returns : {rest : List Token} → IsReturns rest None rest
  empty_returns : {rest : List Token} {p q r : Place} → IsReturns (word ReturnsWord p ∷ mark LeftBracket q ∷ mark RightBracket r ∷ rest) None rest
  returns : {ts rest : List Token} {x : FieldList} {p q r : Place} → IsFields ts x (mark RightBracket r ∷ rest)
      → IsReturns (word ReturnsWord p ∷ mark LeftBracket q ∷ ts) (Some x) rest

-- [Params] [RETURNS Params]
pub data IsHead : List Token → Head → List Token → Type 0 where
  head_of : {ts us rest : List Token} {a b : Option FieldList} → IsParams ts a us → IsReturns us b rest → IsHead ts (head a b) rest

-- [Access]
pub data IsAccess : List Token → Option Access → List Token → Type 0 where
  no_access : {rest : List Token} → IsAccess rest None rest
  access : {rest : List Token} {kind : Kind} {a : Access} {p : Place} → accessing kind ≡ Some a → IsAccess (token kind p ∷ rest) (Some a) rest

-- ProcHead "=" Block | SIGNAL [Params] [RETURNS Params] "=" CODE | ERROR [Params] "=" CODE | Plain
pub data IsDeclared : List Token → Declared → List Token → Type 0 where
  procedure : {ts us rest : List Token} {h : Head} {b : Block} {kind : Kind} {p q : Place} → procedure_word kind ≡ Some tt → IsHead ts h (mark Equal q ∷ us)
      → IsBlock us b rest → IsDeclared (token kind p ∷ ts) (Procedure h b) rest
  signal : {ts rest : List Token} {h : Head} {p q r : Place} → IsHead ts h (mark Equal q ∷ word CodeWord r ∷ rest)
      → IsDeclared (word SignalWord p ∷ ts) (Signal h) rest
  error : {ts rest : List Token} {a : Option FieldList} {p q r : Place} → IsParams ts a (mark Equal q ∷ word CodeWord r ∷ rest)
      → IsDeclared (word ErrorWord p ∷ ts) (Error a) rest
  plainly : {ts rest : List Token} {x : PlainItem} → IsPlain ts x rest → IsDeclared ts (Data x) rest

-- Decl = Names ":" [Access] (..)
pub data IsDeclaration : List Token → Declaration → List Token → Type 0 where
  declared : {ts us vs rest : List Token} {ns : List Identifier} {a : Option Access} {x : Declared} {p : Place} → IsNames ts ns (mark Colon p ∷ us)
      → IsAccess us a vs → IsDeclared vs x rest → IsDeclaration ts (declaration ns a x) rest

-- {Decl ";"}
pub data IsDeclarations : List Token → List Declaration → List Token → Type 0 where
  no_declarations : {rest : List Token} → IsDeclarations rest [] rest
  declarations : {ts us rest : List Token} {all : List Declaration} {x : Declaration} {p : Place} → IsDeclarations ts all us
      → IsDeclaration us x (mark Semicolon p ∷ rest) → IsDeclarations ts (all ++ x ∷ []) rest

-- Inner = [Enable] {Decl ";"} [Stmts] [EXITS Exits]
pub data IsInner : List Token → Inner → List Token → Type 0 where
  inside : {ts us vs ws rest : List Token} {e : Option (Placed (List Arm))} {ds : List Declaration} {ss : List Statement}
      {xs : List (Labeled (List Identifier) Statement)} → IsEnabling ts e us → IsDeclarations us ds vs → IsBody vs ss ws → IsExitPart ws xs rest
      → IsInner ts (inner e ds ss xs) rest

-- ---- interfaces

-- ProcHead | SIGNAL [Params] [RETURNS Params] | ERROR [Params] | TYPE "=" TypeExp | TypeExp "=" Expr
pub data IsDefined : List Token → Defined → List Token → Type 0 where
  procedure_item : {ts rest : List Token} {h : Head} {kind : Kind} {p : Place} → procedure_word kind ≡ Some tt → IsHead ts h rest
      → IsDefined (token kind p ∷ ts) (ProcedureItem h) rest
  signal_item : {ts rest : List Token} {h : Head} {p : Place} → IsHead ts h rest → IsDefined (word SignalWord p ∷ ts) (SignalItem h) rest
  error_item : {ts rest : List Token} {a : Option FieldList} {p : Place} → IsParams ts a rest → IsDefined (word ErrorWord p ∷ ts) (ErrorItem a) rest
  type_item : {ts rest : List Token} {x : TypeExp} {p q : Place} → IsType ts x rest → IsDefined (word TypeWord p ∷ mark Equal q ∷ ts) (TypeItem x) rest
  constant_item : {ts us rest : List Token} {x : TypeExp} {y : Expr} {p : Place} → IsType ts x (mark Equal p ∷ us) → IsExpr us y rest
      → IsDefined ts (ConstantItem x y) rest

-- {DefItem ";"}, where DefItem = Names ":" (..)
pub data IsDefinitions : List Token → List (Labeled (List Identifier) Defined) → List Token → Type 0 where
  no_definitions : {rest : List Token} → IsDefinitions rest [] rest
  definitions : {ts us vs rest : List Token} {all : List (Labeled (List Identifier) Defined)} {ns : List Identifier} {x : Defined} {p q : Place}
      → IsDefinitions ts all us → IsNames us ns (mark Colon p ∷ vs) → IsDefined vs x (mark Semicolon q ∷ rest)
      → IsDefinitions ts (all ++ labeled ns x ∷ []) rest

-- ---- lists of names

-- [Open], where Open = OPEN Names ";"
pub data IsOpen : List Token → List Identifier → List Token → Type 0 where
  no_open : {rest : List Token} → IsOpen rest [] rest
  opened : {ts rest : List Token} {ns : List Identifier} {p q : Place} → IsNames ts ns (mark Semicolon q ∷ rest) → IsOpen (word OpenWord p ∷ ts) ns rest

-- [IMPORTS Names], [EXPORTS Names]
pub data IsListed (w : Word) : List Token → List Identifier → List Token → Type 0 where
  unlisted : {rest : List Token} → IsListed w rest [] rest
  listed : {ts rest : List Token} {ns : List Identifier} {p : Place} → IsNames ts ns rest → IsListed w (word w p ∷ ts) ns rest

-- [USING "[" [Names] "]"]
pub data IsUsing : List Token → Option (List Identifier) → List Token → Type 0 where
  no_using : {rest : List Token} → IsUsing rest None rest
  using_none : {rest : List Token} {p q r : Place} → IsUsing (word UsingWord p ∷ mark LeftBracket q ∷ mark RightBracket r ∷ rest) (Some []) rest
  using : {ts rest : List Token} {ns : List Identifier} {p q r : Place} → IsNames ts ns (mark RightBracket r ∷ rest)
      → IsUsing (word UsingWord p ∷ mark LeftBracket q ∷ ts) (Some ns) rest

-- DirItem = Name ":" FROM String [USING "[" [Names] "]"]
pub data IsItem : List Token → DirectoryItem → List Token → Type 0 where
  item : {ts rest : List Token} {i : Identifier} {file : List ℕ} {used : Option (List Identifier)} {p q r : Place} → IsUsing ts used rest
      → IsItem (spelled i ∷ mark Colon p ∷ word FromWord q ∷ token (k.Text file) r ∷ ts) (directory_item i r file used) rest

pub data IsItems : List Token → List DirectoryItem → List Token → Type 0 where
  an_item : {ts rest : List Token} {x : DirectoryItem} → IsItem ts x rest → IsItems ts (x ∷ []) rest
  items : {ts us rest : List Token} {all : List DirectoryItem} {x : DirectoryItem} {p : Place} → IsItems ts all (mark Comma p ∷ us) → IsItem us x rest
      → IsItems ts (all ++ x ∷ []) rest

-- [Directory], where Directory = DIRECTORY DirItem {"," DirItem} ";"
pub data IsDirectory : List Token → List DirectoryItem → List Token → Type 0 where
  no_directory : {rest : List Token} → IsDirectory rest [] rest
  directory : {ts rest : List Token} {all : List DirectoryItem} {p q : Place} → IsItems ts all (mark Semicolon q ∷ rest)
      → IsDirectory (word DirectoryWord p ∷ ts) all rest

-- ---- modules

-- Program = PROGRAM [IMPORTS Names] [EXPORTS Names] "=" BEGIN [Open] Inner END
-- Defs = DEFINITIONS "=" BEGIN [Open] {DefItem ";"} END
pub data IsKind : List Token → ModuleKind → List Token → Type 0 where
  program : {ts us vs ws rest : List Token} {imports exports opens : List Identifier} {x : Inner} {p q r s : Place} → IsListed ImportsWord ts imports us
      → IsListed ExportsWord us exports (mark Equal q ∷ word BeginWord r ∷ vs) → IsOpen vs opens ws → IsInner ws x (word EndWord s ∷ rest)
      → IsKind (word ProgramWord p ∷ ts) (Program p imports exports opens x) rest
  interface : {ts us rest : List Token} {opens : List Identifier} {all : List (Labeled (List Identifier) Defined)} {p q r s : Place} → IsOpen ts opens us
      → IsDefinitions us all (word EndWord s ∷ rest) → IsKind (word DefinitionsWord p ∷ mark Equal q ∷ word BeginWord r ∷ ts) (Interface p opens all) rest

-- Module = [Directory] Name ":" (Program | Defs) "."
pub data IsModule : List Token → Module → List Token → Type 0 where
  a_module : {ts us rest : List Token} {all : List DirectoryItem} {i : Identifier} {x : ModuleKind} {p q : Place}
      → IsDirectory ts all (spelled i ∷ mark Colon p ∷ us) → IsKind us x (mark Dot q ∷ rest) → IsModule ts (module_of all i x) rest

-- ---- nesting

abbrev pub deep_params : ℕ → {ts : List Token} {x : Option FieldList} {rest : List Token} → IsParams ts x rest → Option (List Token)
deep_params n no_params = None
deep_params n empty_params = None
deep_params n (params d) = first (deep_fields n d) None

abbrev pub deep_returns : ℕ → {ts : List Token} {x : Option FieldList} {rest : List Token} → IsReturns ts x rest → Option (List Token)
deep_returns n no_returns = None
deep_returns n empty_returns = None
deep_returns n (returns d) = first (deep_fields n d) None

abbrev pub deep_head : ℕ → {ts : List Token} {x : Head} {rest : List Token} → IsHead ts x rest → Option (List Token)
deep_head n (head_of d f) = first (deep_params n d) (first (deep_returns n f) None)

abbrev pub deep_declared : ℕ → {ts : List Token} {x : Declared} {rest : List Token} → IsDeclared ts x rest → Option (List Token)
deep_declared n (procedure _ d f) = first (deep_head n d) (first (deep_block n f) None)
deep_declared n (signal d) = first (deep_head n d) None
deep_declared n (error d) = first (deep_params n d) None
deep_declared n (plainly d) = first (deep_plain n d) None

abbrev pub deep_declaration : ℕ → {ts : List Token} {x : Declaration} {rest : List Token} → IsDeclaration ts x rest → Option (List Token)
deep_declaration n (declared _ _ d) = first (deep_declared n d) None

abbrev pub deep_declarations : ℕ → {ts : List Token} {x : List Declaration} {rest : List Token} → IsDeclarations ts x rest → Option (List Token)
deep_declarations n no_declarations = None
deep_declarations n (declarations d f) = first (deep_declarations n d) (first (deep_declaration n f) None)

abbrev pub deep_inner : ℕ → {ts : List Token} {x : Inner} {rest : List Token} → IsInner ts x rest → Option (List Token)
deep_inner n (inside d f h i) = first (deep_enabling n d) (first (deep_declarations n f) (first (deep_body n h) (first (deep_exit_part n i) None)))

abbrev pub deep_defined : ℕ → {ts : List Token} {x : Defined} {rest : List Token} → IsDefined ts x rest → Option (List Token)
deep_defined n (procedure_item _ d) = first (deep_head n d) None
deep_defined n (signal_item d) = first (deep_head n d) None
deep_defined n (error_item d) = first (deep_params n d) None
deep_defined n (type_item d) = first (deep_type n d) None
deep_defined n (constant_item d f) = first (deep_type n d) (first (deep_expr n f) None)

abbrev pub deep_definitions : ℕ → {ts : List Token} {x : List (Labeled (List Identifier) Defined)} {rest : List Token} → IsDefinitions ts x rest
    → Option (List Token)
deep_definitions n no_definitions = None
deep_definitions n (definitions d _ f) = first (deep_definitions n d) (first (deep_defined n f) None)

abbrev pub deep_kind : ℕ → {ts : List Token} {x : ModuleKind} {rest : List Token} → IsKind ts x rest → Option (List Token)
deep_kind n (program _ _ _ d) = first (deep_inner n d) None
deep_kind n (interface _ d) = first (deep_definitions n d) None

abbrev pub deep_module : ℕ → {ts : List Token} {x : Module} {rest : List Token} → IsModule ts x rest → Option (List Token)
deep_module n (a_module _ d) = first (deep_kind n d) None
