-- What is made from a text is bounded by the text's size (rule of this project).
use Rattle.std.specs.Prelude.{◌≡◌, ℕ, ◌+◌, ◌*◌, ◌≤◌, List, Ok}
use Rattle.mesa_lexer.specs.Tokens.{HasTokens}
use Rattle.mesa_lexer.specs.declared.token.Tokens.{Tokens}
use Rattle.grammar_rules.specs.Answer.{Parses}
use Rattle.syntax_trees.specs.declared.syntax.Module.{Module}
use Rattle.syntax_trees.specs.PlainSyntax.{syntax}
use Rattle.mesa_types.specs.Nodes.{nodes}
use Rattle.mesa_types.specs.Sound.{Sound}
use Rattle.interface_records.specs.Spelled.{ShapeCanBeSpelled}
use Rattle.interface_records.specs.declared.interface.Interface.{Interface}
use Rattle.check_rules.specs.CheckedModule.{checked}
use Rattle.check_rules.specs.Laws.{NamedThroughout, shape_of}
use Rattle.check_rules.specs.Typed as t
use Rattle.code_blocks.specs.Weights.{procedures_bytes}
use Rattle.code_rules.specs.Modules.{CodeFor}
use Rattle.object_files.specs.declared.object.Object.{Object}
use Rattle.file_sizes.specs.Sizes.{object_size}
use Rattle.object_sizes.specs.TextSizes.{AreGiven, text_size, shape_cost}

-- a text with its tree, the interfaces that are given for its DIRECTORY, and the module that checking gives
pub record IsChecked (text : List ℕ) (x : Module) (is : List Interface) (m : t.Module) : Type 0 where
  pub tokens : Tokens
  pub has_tokens : HasTokens text tokens
  pub parsed : Parses tokens.items x
  pub given : AreGiven x.directory is
  pub its : checked (syntax x) is ≡ Ok m

-- what is so of each module whose interfaces files can spell
pub record CanBeHeld (m : t.Module) : Type 0 where
  pub sound : Sound m
  pub shape : ShapeCanBeSpelled (shape_of m)
  pub named : NamedThroughout m

-- an object of the module, with at most 32 bytes of code and phrases for each node
pub record IsShortObjectOf (m : t.Module) (o : Object) : Type 0 where
  pub shape : o.shape ≡ shape_of m
  pub code : CodeFor m o.code
  pub short : procedures_bytes o.code.procedures ≤ 32 * nodes m

-- its file is no longer than the text's size and 1,000 bytes
abbrev pub ObjectsAreShort : Type 0
ObjectsAreShort = (text : List ℕ) (x : Module) (is : List Interface) (m : t.Module) (o : Object) → IsChecked text x is m → CanBeHeld m → IsShortObjectOf m o
    → object_size o ≤ text_size text x.directory is + 1000

-- and no more is what an instance adds to an image
abbrev pub InstancesAreShort : Type 0
InstancesAreShort = (text : List ℕ) (x : Module) (is : List Interface) (m : t.Module) → IsChecked text x is m
    → shape_cost (shape_of m) ≤ text_size text x.directory is + 1000
