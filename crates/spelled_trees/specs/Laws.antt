-- The trees of configurations whose identifiers are names, as those of a text are, have paths and records that files can spell (rule of this project).
use Rattle.std.specs.Prelude.{ℕ, List, Ok}
use Rattle.mesa_base.specs.Name.{IsName}
use Rattle.mesa_lexer.specs.Tokens.{HasTokens}
use Rattle.mesa_lexer.specs.declared.token.Tokens.{Tokens}
use Rattle.mesa_types.specs.declared.faces.Shape.{Shape}
use Rattle.cmesa_grammar.specs.Answer.{ParsesConfiguration}
use Rattle.cmesa_grammar.specs.Plain.{plain}
use Rattle.cmesa_grammar.specs.Syntax as s
use Rattle.cmesa_grammar.specs.declared.syntax.Config.{Config}
use Rattle.config_rules.specs.Tree.{IsTree, IsSingle}
use Rattle.config_rules.specs.declared.tree.Tree.{Tree}
use Rattle.spelled_trees.specs.Names.{HasNames}
use Rattle.spelled_trees.specs.Paths.{PathsAndRecords}

-- of a configuration, whatever the shapes of its components are
abbrev pub TreesCanBeSpelled : Type 0
TreesCanBeSpelled = (c : s.Config) (shapes : List Shape) (t : Tree) → HasNames c → IsTree c shapes (Ok t) → PathsAndRecords t

-- of one module by itself
abbrev pub SinglesCanBeSpelled : Type 0
SinglesCanBeSpelled = (x : Shape) (t : Tree) → IsName x.name → IsSingle x (Ok t) → PathsAndRecords t

-- each identifier of a configuration that the grammar gives of a text is a name
abbrev pub ParsedNamesAreNames : Type 0
ParsedNamesAreNames = (text : List ℕ) (tokens : Tokens) (x : Config) → HasTokens text tokens → ParsesConfiguration tokens.items x → HasNames (plain x)
