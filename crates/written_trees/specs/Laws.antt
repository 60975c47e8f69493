-- The laws of trees of texts.
use Rattle.std.specs.Prelude.{ℕ, List, [], ◌∷◌, map, replicate, IfOk, IfErr}
use Rattle.std.specs.List.{All, Contains}
use Rattle.mesa_base.specs.declared.place.Place.{Place}
use Rattle.mesa_lexer.specs.Tokens.{HasTokens}
use Rattle.mesa_lexer.specs.declared.token.Token.{Token}
use Rattle.mesa_lexer.specs.declared.token.Tokens.{Tokens}
use Rattle.grammar_rules.specs.Answer.{Parses}
use Rattle.syntax_trees.specs.declared.syntax.Module.{Module}
use Rattle.syntax_trees.specs.PlainSyntax.{syntax}
use Rattle.mesa_types.specs.Sound.{Sound}
use Rattle.interface_records.specs.declared.interface.Interface.{Interface}
use Rattle.interface_records.specs.Faces.{iodefs}
use Rattle.check_rules.specs.Written.{ModuleWritten}
use Rattle.check_rules.specs.Interfaces.{InterfaceInOrder, InterfacesInOrder}
use Rattle.check_rules.specs.Laws.{NamedThroughout, shape_of}
use Rattle.interface_records.specs.Spelled.{InSixBytes, InterfaceCanBeSpelled, InterfacesCanBeSpelled, ShapeCanBeSpelled}
use Rattle.check_rules.specs.Typed as t
use Rattle.interface_records.specs.PlainTypes.{plain_interface}
use Rattle.check_rules.specs.CheckedModule.{checked, checked_definitions}
use Rattle.written_trees.specs.Limits.{AreWithin}
use Rattle.check_rules.specs.TreeNames.{HasNames}
use Rattle.check_rules.specs.Places.{places_in}
use Rattle.check_rules.specs.Steps.{Fault}

-- the tokens of a text are within their limits
abbrev pub TokensAreWithin : Type 0
TokensAreWithin = (text : List ℕ) (tokens : Tokens) → HasTokens text tokens → AreWithin tokens.items

-- a tree of a text: that of its tokens
pub record IsTreeOf (text : List ℕ) (x : Module) : Type 0 where
  pub tokens : Tokens
  pub are_its_own : HasTokens text tokens
  pub parsed : Parses tokens.items x

-- each tree of a text has what the grammar leaves no choice about, and its strings are within their limit
abbrev pub TreesAreWritten : Type 0
TreesAreWritten = (text : List ℕ) (x : Module) → IsTreeOf text x → ModuleWritten (syntax x).kind

-- each identifier in a tree of a text is a name
abbrev pub NamesOfTreesAreNames : Type 0
NamesOfTreesAreNames = (text : List ℕ) (x : Module) → IsTreeOf text x → HasNames (syntax x)

-- the place of one of the tokens
abbrev pub IsOfToken : Tokens → Place → Type 0
IsOfToken tokens p = Contains (map (λ (t : Token). t.place) tokens.items) p

-- each place in a tree of a text is that of a token of the text
abbrev pub PlacesAreOfTokens : Type 0
PlacesAreOfTokens = (text : List ℕ) (x : Module) (h : IsTreeOf text x) → All (IsOfToken h.tokens) (places_in (syntax x))

-- a fault of checking is named at a token of the text
pub record FaultsStandAtTokens : Type 0 where
  pub programs : (text : List ℕ) (x : Module) (is : List Interface) (h : IsTreeOf text x)
      → IfErr (checked (syntax x) is) (λ (f : Fault). IsOfToken h.tokens f.place)
  pub definitions : (text : List ℕ) (x : Module) (stamp : ℕ) (is : List Interface) (h : IsTreeOf text x)
      → IfErr (checked_definitions (syntax x) stamp is) (λ (f : Fault). IsOfToken h.tokens f.place)

-- what checking gives of a text is sound: with interfaces that are in order, without any, and with the built-in one alone
pub record CheckedTextsAreSound : Type 0 where
  pub with_interfaces : (text : List ℕ) (x : Module) (is : List Interface) → IsTreeOf text x → InterfacesInOrder (map plain_interface is)
      → IfOk (checked (syntax x) is) Sound
  pub with_none : (text : List ℕ) (x : Module) → IsTreeOf text x → IfOk (checked (syntax x) []) Sound
  pub with_built_in : (text : List ℕ) (x : Module) → IsTreeOf text x → IfOk (checked (syntax x) (iodefs ∷ [])) Sound

-- an interface that checking gives of a text is in order, where those given to it are
abbrev pub CheckedDefinitionsAreInOrder : Type 0
CheckedDefinitionsAreInOrder = (text : List ℕ) (x : Module) (stamp : ℕ) (is : List Interface) → IsTreeOf text x → InterfacesInOrder (map plain_interface is)
    → IfOk (checked_definitions (syntax x) stamp is) (λ (i : Interface). InterfaceInOrder (plain_interface i))

-- the signals and procedures of what checking gives of a text have names
abbrev pub CheckedTextsHaveNames : Type 0
CheckedTextsHaveNames = (text : List ℕ) (x : Module) (is : List Interface) → IsTreeOf text x → IfOk (checked (syntax x) is) NamedThroughout

-- files can spell what checking gives of a text, where they can spell the interfaces given to it; the built-in one is such
pub record CheckedTextsCanBeSpelled : Type 0 where
  pub modules : (text : List ℕ) (x : Module) (is : List Interface) → IsTreeOf text x → InterfacesCanBeSpelled (map plain_interface is)
      → IfOk (checked (syntax x) is) (λ (m : t.Module). ShapeCanBeSpelled (shape_of m))
  pub interfaces : (text : List ℕ) (x : Module) (stamp : ℕ) (is : List Interface) → IsTreeOf text x → InSixBytes stamp
      → InterfacesCanBeSpelled (map plain_interface is) → IfOk (checked_definitions (syntax x) stamp is) (λ (i : Interface). InterfaceCanBeSpelled (plain_interface i))
  pub with_built_in : (text : List ℕ) (x : Module) (count : ℕ) → IsTreeOf text x
      → IfOk (checked (syntax x) (replicate count iodefs)) (λ (m : t.Module). ShapeCanBeSpelled (shape_of m))
