-- Each text has one lexical answer.
use Rattle.std.specs.Prelude.{◌≡◌, ◌⊎◌, ℕ, List}
use Rattle.mesa_lexer.specs.Tokens.{HasTokens, HasLexFault}
use Rattle.mesa_lexer.specs.declared.token.Tokens.{Tokens}
use Rattle.mesa_lexer.specs.declared.fault.LexFault.{LexFault}

-- exactly one of a list of tokens and a lexical fault
pub record HasOneAnswer (text : List ℕ) : Type 0 where
  pub an_answer : ((tokens : Tokens) × HasTokens text tokens) ⊎ ((fault : LexFault) × HasLexFault text fault)
  pub one_list : (first second : Tokens) → HasTokens text first → HasTokens text second → first ≡ second
  pub one_fault : (first second : LexFault) → HasLexFault text first → HasLexFault text second → first ≡ second
  pub never_both : (tokens : Tokens) (fault : LexFault) → HasTokens text tokens → ¬ HasLexFault text fault
