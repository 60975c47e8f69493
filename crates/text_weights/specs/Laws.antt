-- What the names and the string literals of a text weigh, in its bytes, among its tokens and in its tree (rule of this project).
use Rattle.std.specs.Prelude.{ℕ, ◌+◌, ◌*◌, ◌≤◌, List, length}
use Rattle.mesa_lexer.specs.Tokens.{HasTokens}
use Rattle.mesa_lexer.specs.declared.token.Token.{Token}
use Rattle.mesa_lexer.specs.declared.token.Tokens.{Tokens}
use Rattle.grammar_rules.specs.Answer.{Parses}
use Rattle.syntax_trees.specs.declared.syntax.Module.{Module}
use Rattle.syntax_trees.specs.PlainSyntax.{syntax}
use Rattle.syntax_trees.specs.SyntaxNodes.{module_nodes}
use Rattle.checking_laws.specs.Weights.{Weights, one_each, in_bytes, module_weight}
use Rattle.text_weights.specs.Tokens.{tokens_weight}

-- a token takes a byte at least, names and literals take no more bytes than the text has, and between two names stands a byte
pub record IsInItsText (text : List ℕ) (tokens : Tokens) : Type 0 where
  pub tokens_in_bytes : length tokens.items ≤ length text
  pub bytes : tokens_weight in_bytes tokens.items ≤ length text
  pub names : 2 * tokens_weight one_each tokens.items ≤ length text + 1

abbrev pub TokensAreInTheirText : Type 0
TokensAreInTheirText = (text : List ℕ) (tokens : Tokens) → HasTokens text tokens → IsInItsText text tokens

-- what weighs in a tree stands among its tokens, whatever a name and a literal weigh
abbrev pub TreesAreOfTheirTokens : Type 0
TreesAreOfTheirTokens = (w : Weights) (tokens : List Token) (x : Module) → Parses tokens x → module_weight w (syntax x) ≤ tokens_weight w tokens

-- how much of a text its tree has: nodes, names, and the bytes of names and literals
pub record IsSizedBy (text : List ℕ) (x : Module) : Type 0 where
  pub nodes : module_nodes (syntax x) ≤ 2 * length text
  pub names : 2 * module_weight one_each (syntax x) ≤ length text + 1
  pub bytes : module_weight in_bytes (syntax x) ≤ length text

abbrev pub TreesAreSizedByTheirText : Type 0
TreesAreSizedByTheirText = (text : List ℕ) (tokens : Tokens) (x : Module) → HasTokens text tokens → Parses tokens.items x → IsSizedBy text x
