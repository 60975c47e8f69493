-- Turns of the loops over the declarations of a module and the items of an interface.
use Rattle.std.proofs.Common.{◌≡◌, ℕ, true, List, [], ◌∷◌, ◌++◌, Some, ◌∙◌, refl}
use Rattle.mesa_base.specs.declared.place.Place.{Place}
use Rattle.mesa_base.specs.declared.identifier.Identifier.{Identifier}
use Rattle.mesa_lexer.specs.declared.token.Token.{Token}
use Rattle.mesa_lexer.specs.declared.token.Kind.TheVariants as k
use Rattle.mesa_lexer.specs.declared.mark.Mark.TheVariants.{Colon}
use Rattle.syntax_trees.specs.declared.syntax.Declaration.{Declaration}
use Rattle.syntax_trees.specs.declared.syntax.Defined.{Defined}
use Rattle.syntax_trees.specs.declared.syntax.Labeled.{Labeled}
use Rattle.token_cursor.specs.Parsing.{Out, Got, Stop, Parser, ◌>>=◌, ◌>>◌, and_then, pure, a_name, need, choose, many_turn}
use Rattle.token_cursor.specs.ReadNames.{names_from}
use Rattle.grammar_rules.specs.Grammar.{labeled}
use Rattle.mesa_grammar.specs.ReadItems.{definition}
use Rattle.token_cursor.proofs.Loops.{Eats}
use Rattle.token_cursor.specs.Running.{taken, behind}
use Rattle.token_cursor.proofs.Choosing.{choose_some, if_true}
use Rattle.grammar_rules.specs.ReadNested.{identifier}
use Rattle.grammar_rules.specs.ReadStatements.{nested, semicolon}
use Rattle.grammar_rules.specs.ReadModules as tx
use Rattle.grammar_rules.proofs.Levels.{all_of}
use Rattle.grammar_rules.proofs.KeepModules as km

pub front_eats : (n : ℕ) → Eats (tx.front_turn (nested n))
front_eats n = km.front_eats n (nested n) (all_of n)

pub definitions_eats : (n : ℕ) → Eats (many_turn a_name (tx.definitions_step (nested n)))
definitions_eats n = km.definitions_eats n (nested n) (all_of n)

pub front_named : (n : ℕ) (ds : List Declaration) (ts us : List Token) (i : Identifier) → (nested n).can ≡ true → taken a_name ts ≡ Some (i.name, i.place) → us ≡ behind a_name ts
    → tx.front_turn (nested n) ds ts ≡ tx.front_from (nested n) ds i us
unfolding tx.front_turn
front_named n ds ts us i can e rest = if_true ((nested n).can) (choose a_name (λ n' p. tx.front_from (nested n) ds (identifier n' p)) (tx.front_end (nested n) ds)) (tx.front_end (nested n) ds) ts can
    ∙ choose_some a_name (λ n' p. tx.front_from (nested n) ds (identifier n' p)) (tx.front_end (nested n) ds) ts us i.name i.place e rest

-- ---- one more item

module _ (all : List (Labeled (List Identifier) Defined)) where
  abbrev longer : Labeled (List Identifier) Defined → Parser (List (Labeled (List Identifier) Defined))
  longer x = pure (all ++ x ∷ [])

  ended : (ns : List Identifier) (x : Defined) (out : Out Place) → and_then out (λ _. longer (labeled ns x)) ≡ and_then (and_then out (λ _. pure (labeled ns x))) longer
  ended ns x (Got p us) = refl
  ended ns x (Stop why us) = refl

  said : (ns : List Identifier) (out : Out Defined) → and_then out (λ x. need semicolon >> longer (labeled ns x)) ≡ and_then (and_then out (λ x. need semicolon >> pure (labeled ns x))) longer
  said ns (Got x us) = ended ns x (need semicolon us)
  said ns (Stop why us) = refl

  module _ (d : Parser Defined) where
    behind_names : (ns : List Identifier) (out : Out Place) → and_then out (λ _. d >>= (λ x. need semicolon >> longer (labeled ns x))) ≡ and_then (and_then out (λ _. d >>= (λ x. need semicolon >> pure (labeled ns x)))) longer
    behind_names ns (Got p us) = said ns (d us)
    behind_names ns (Stop why us) = refl

    named_so : (out : Out (List Identifier)) → and_then out (λ ns. need (k.Mark Colon) >> (d >>= (λ x. need semicolon >> longer (labeled ns x)))) ≡ and_then (and_then out (λ ns. need (k.Mark Colon) >> (d >>= (λ x. need semicolon >> pure (labeled ns x))))) longer
    named_so (Got ns us) = behind_names ns (need (k.Mark Colon) us)
    named_so (Stop why us) = refl

pub step_by : (n : ℕ) (all : List (Labeled (List Identifier) Defined)) (i : Identifier) (ts : List Token) → tx.definitions_step (nested n) all i.name i.place ts ≡ and_then (definition (nested n) i ts) (λ x. pure (all ++ x ∷ []))
unfolding tx.definitions_step definition
step_by n all i ts = named_so all (tx.defined (nested n)) (names_from i ts)
