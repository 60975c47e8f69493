-- From the files of a configuration, or of one module alone, to the tree that is run and its modules (Language Manual, chapter 7; the order of
-- refusals is a rule of this project).
use Rattle.std.specs.Prelude.{◌≡◌, ℕ, List, [], ◌∷◌, map, None, Some, Ok, Err}
use Rattle.mesa_base.specs.declared.place.Place.{Place}
use Rattle.mesa_lexer.specs.Tokens.{HasTokens, HasLexFault}
use Rattle.mesa_lexer.specs.declared.token.Tokens.{Tokens}
use Rattle.mesa_lexer.specs.declared.fault.LexFault.{LexFault}
use Rattle.mesa_lexer.specs.declared.fault.SyntaxFault.{SyntaxFault}
use Rattle.mesa_types.specs.Typed.{Module}
use Rattle.interface_records.specs.declared.wanted.Wanted.{Wanted}
use Rattle.cmesa_grammar.specs.Answer as grammar
use Rattle.cmesa_grammar.specs.Plain.{plain}
use Rattle.cmesa_grammar.specs.Syntax.{Config}
use Rattle.cmesa_grammar.specs.declared.syntax.Config as written
use Rattle.config_rules.specs.Components.{components, no_file_base}
use Rattle.config_rules.specs.Resolves.{Want, wants, first_bad}
use Rattle.config_rules.specs.Through.{Answer}
use Rattle.config_rules.specs.Tree.{IsTree, IsSingle}
use Rattle.config_rules.specs.declared.fault.TreeCause.{TreeCause}
use Rattle.config_rules.specs.declared.fault.TreeCause.TheVariants.{UnknownComponent}
use Rattle.config_rules.specs.declared.fault.TreeFault.TheVariants.{At}
use Rattle.config_rules.specs.declared.tree.Component.{Component}
use Rattle.config_rules.specs.declared.tree.Tree.{Tree}
use Rattle.linked_programs.specs.import_binder.specs.Bindings.{fault_of}
use Rattle.linked_programs.specs.link_tables.specs.Linked.{wanted_of}
use Rattle.source_meaning.specs.Program.{Program}
use Rattle.linked_programs.specs.bound_images.specs.Programs.{shape_of, program_of}
use Rattle.checked_texts.specs.declared.text_fault.TextFault.TheVariants.{Lexical, Syntactic}
use Rattle.command_rules.specs.Case.{Case, Refused, Absent, Text, Tree as OfTree, Item}
use Rattle.command_rules.specs.Forms.{Source, OfModule, OfConfig, module_file, config_file}
use Rattle.command_rules.specs.Modules.{module_in}
use Rattle.command_rules.specs.Passes.{Outcome, Has, Stops, Pass, decided, given, from_file, and_then, each}

-- the text of a configuration, whose FROM texts are bases of files
pub data Configures (file bytes : List ℕ) : Outcome Case Config → Type 0 where
  configured : (tokens : Tokens) (c : written.Config) → HasTokens bytes tokens → grammar.ParsesConfiguration tokens.items c
      → no_file_base (plain c).directory ≡ None → Configures file bytes (Has (plain c))
  lexical : (fault : LexFault) → HasLexFault bytes fault → Configures file bytes (Stops (Refused file (Text (Lexical fault))))
  syntactic : (tokens : Tokens) (fault : SyntaxFault) → HasTokens bytes tokens → grammar.HasSyntaxFault tokens.items tokens.end fault
      → Configures file bytes (Stops (Refused file (Text (Syntactic fault))))
  no_base : (tokens : Tokens) (c : written.Config) (place : Place) → HasTokens bytes tokens → grammar.ParsesConfiguration tokens.items c
      → no_file_base (plain c).directory ≡ Some place → Configures file bytes (Stops (Refused file (OfTree UnknownComponent place)))

unfoldable pub config_in : (file : List ℕ) → Pass Case Config
config_in file = from_file file (Absent file) (Configures file)

-- the tree, by this relation of its answers
pub data Grows (file : List ℕ) (is_tree : Answer Tree → Type 0) : Outcome Case Tree → Type 0 where
  grown : (t : Tree) → is_tree (Ok t) → Grows file is_tree (Has t)
  fault : (cause : TreeCause) (place : Place) → is_tree (Err (At cause place)) → Grows file is_tree (Stops (Refused file (OfTree cause place)))

-- each item that is used stands for something, or the first does not that is bad
pub data Binds (file : List ℕ) (t : Tree) : Outcome Case (Unit {0}) → Type 0 where
  bound : first_bad (wants t) ≡ None → Binds file t (Has tt)
  bad : (w : Want) → first_bad (wants t) ≡ Some w → Binds file t (Stops (Refused file (Item (fault_of t w))))

-- a tree in which every item binds
unfoldable pub tree_in : (file : List ℕ) → (Answer Tree → Type 0) → Pass Case Tree
tree_in file is_tree =
    and_then (decided (Grows file is_tree)) (λ t.
    and_then (decided (Binds file t)) (λ _.
    given t))

-- what is run: such a tree, and the modules of its components with the bases of their files
pub record Configured : Type 0 where
  pub tree : Tree
  pub bases : List (List ℕ)
  pub modules : List Module

abbrev pub component_in : Component → Pass Case Module
component_in x = module_in (module_file x.file)

-- the modules of the components, in the order in which they are mentioned first
abbrev pub modules_of : Config → Pass Case (List Module)
modules_of c = each component_in (components c)

abbrev pub bases_of : Config → List (List ℕ)
bases_of c = map (λ (x : Component). x.file) (components c)

unfoldable pub configuration_of : (file : List ℕ) → Config → Pass Case Configured
configuration_of file c =
    and_then (modules_of c) (λ modules.
    and_then (tree_in file (IsTree c (map shape_of modules))) (λ t.
    given (record { tree = t; bases = bases_of c; modules = modules })))

-- one module alone, with the built-in interface
unfoldable pub single_of : (base : List ℕ) → Module → Pass Case Configured
single_of base m = and_then (tree_in (module_file base) (IsSingle (shape_of m))) (λ t. given (record { tree = t; bases = base ∷ []; modules = m ∷ [] }))

unfoldable pub source_in : Source → (base : List ℕ) → Pass Case Configured
source_in OfModule base = and_then (module_in (module_file base)) (single_of base)
source_in OfConfig base = and_then (config_in (config_file base)) (configuration_of (config_file base))

-- what is left to the loader
abbrev pub left_to_loader : Configured → List Wanted
left_to_loader c = wanted_of (wants c.tree)

-- the program of the tree and its modules
abbrev pub program : Configured → Program
program c = program_of c.tree c.modules
