-- What a text comes to that is compiled as a program, or as an interface under a stamp (rule of this project). First come its tokens,
-- then its tree, then its stamp, then the FROM texts of its DIRECTORY; then the interfaces that it asks for are read, and it is checked.
use Rattle.std.specs.Prelude.{◌≡◌, ℕ, List, length, Ok, Err}
use Rattle.mesa_lexer.specs.Tokens.{HasTokens, HasLexFault}
use Rattle.mesa_lexer.specs.declared.token.Tokens.{Tokens}
use Rattle.mesa_lexer.specs.declared.fault.LexFault.{LexFault}
use Rattle.mesa_lexer.specs.declared.fault.SyntaxFault.{SyntaxFault}
use Rattle.syntax_trees.specs.declared.syntax.Module.{Module}
use Rattle.syntax_trees.specs.PlainSyntax.{syntax}
use Rattle.syntax_trees.specs.Syntax as s
use Rattle.mesa_types.specs.Typed as t
use Rattle.grammar_rules.specs.Answer as grammar
use Rattle.interface_records.specs.declared.interface.Interface as records
use Rattle.check_rules.specs.Steps.{Fault}
use Rattle.check_rules.specs.CheckedModule.{checked, checked_definitions}
use Rattle.written_trees.specs.Laws.{IsTreeOf}
use Rattle.checked_texts.specs.Asked.{Purpose, Program, Interface, asks, before_files}
use Rattle.checked_texts.specs.TextFaults.{TextFault, Lexical, Syntactic, Wrong}

-- the text has tokens, and they have this syntax fault
pub record HasSyntaxFault (text : List ℕ) (fault : SyntaxFault) : Type 0 where
  pub tokens : Tokens
  pub has_tokens : HasTokens text tokens
  pub has_fault : grammar.HasSyntaxFault tokens.items tokens.end fault

-- the text has no tree, and this is why: its lexical fault, or else its syntax fault
pub data HasNoTree (text : List ℕ) : TextFault → Type 0 where
  lexical : (fault : LexFault) → HasLexFault text fault → HasNoTree text (Lexical fault)
  syntactic : (fault : SyntaxFault) → HasSyntaxFault text fault → HasNoTree text (Syntactic fault)

-- this is the text's first fault of those that come before any interface is read
pub data HasEarlyFault (text : List ℕ) (purpose : Purpose) : TextFault → Type 0 where
  no_tree : (why : TextFault) → HasNoTree text why → HasEarlyFault text purpose why
  wrong : (tree : Module) (fault : Fault) → IsTreeOf text tree → before_files purpose (syntax tree) ≡ Err fault
      → HasEarlyFault text purpose (Wrong fault.cause fault.place)

-- the text has this tree and none of these faults
pub record Begins (text : List ℕ) (purpose : Purpose) (tree : Module) : Type 0 where
  pub is_tree : IsTreeOf text tree
  pub is_well : before_files purpose (syntax tree) ≡ Ok tt

-- one interface for each that the text asks for
abbrev pub OneForEach : List records.Interface → Module → Type 0
OneForEach interfaces tree = length interfaces ≡ length (asks (syntax tree))

-- with these interfaces for the items of its DIRECTORY the text is a program, and this is its module
pub record Reads (text : List ℕ) (interfaces : List records.Interface) (m : t.Module) : Type 0 where
  pub tree : Module
  pub begins : Begins text Program tree
  pub given : OneForEach interfaces tree
  pub is_checked : checked (syntax tree) interfaces ≡ Ok m

-- with these interfaces it is an interface under this stamp, and this is it
pub record Defines (text : List ℕ) (stamp : ℕ) (interfaces : List records.Interface) (i : records.Interface) : Type 0 where
  pub tree : Module
  pub begins : Begins text (Interface stamp) tree
  pub given : OneForEach interfaces tree
  pub is_checked : checked_definitions (syntax tree) stamp interfaces ≡ Ok i

-- checking refuses a tree that is compiled for this purpose
abbrev pub IsRefused : Purpose → s.Module → List records.Interface → Fault → Type 0
IsRefused Program m interfaces fault = checked m interfaces ≡ Err fault
IsRefused (Interface stamp) m interfaces fault = checked_definitions m stamp interfaces ≡ Err fault

-- with these interfaces the text has this first fault of checking
pub record HasCheckFault (text : List ℕ) (purpose : Purpose) (interfaces : List records.Interface) (why : TextFault) : Type 0 where
  pub tree : Module
  pub fault : Fault
  pub begins : Begins text purpose tree
  pub given : OneForEach interfaces tree
  pub is_refused : IsRefused purpose (syntax tree) interfaces fault
  pub is_it : why ≡ Wrong fault.cause fault.place
