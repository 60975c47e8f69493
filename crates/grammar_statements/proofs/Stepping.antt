-- Parsers whose names are words of the code, and a turn over declarations where a name comes next.
use Rattle.std.proofs.Common.{◌≡◌, ℕ, true, cond, List, Some, ◌∙◌, refl}
use Rattle.mesa_base.specs.declared.place.Place.{Place}
use Rattle.mesa_lexer.specs.declared.token.Token.{Token}
use Rattle.mesa_lexer.specs.declared.token.Kind.TheVariants as k
use Rattle.mesa_lexer.specs.declared.word.Word.TheVariants.{InWord, DoWord, EndloopWord}
use Rattle.token_cursor.specs.Parsing.{◌>>=◌, ◌>>◌, pure, a_name, need, choose}
use Rattle.mesa_base.specs.declared.identifier.Identifier.{Identifier}
use Rattle.syntax_trees.specs.declared.syntax.Statement.TheVariants as s
use Rattle.syntax_trees.specs.declared.syntax.Count.TheVariants.{For}
use Rattle.grammar_rules.specs.WordsAndMarks.{negating}
use Rattle.grammar_rules.specs.ReadNested.{identifier, named}
use Rattle.grammar_rules.specs.ReadExpressions as x
use Rattle.grammar_rules.specs.ReadStatements as st
use Rattle.grammar_rules.specs.ReadStatements.{nested, Local}
use Rattle.token_cursor.specs.Running.{taken, behind}
use Rattle.token_cursor.proofs.Choosing.{choose_some, if_true}

pub for_by : (n : ℕ) (p : Place) (ts : List Token) → st.for (nested n) p ts ≡ (named >>= (λ i. st.decreasing >>= (λ b. need (k.Word InWord) >> (x.interval (nested n) >>= (λ x. pure (Some (For p i b x))))))) ts
unfolding st.for
for_by n p ts = refl

pub loop_by : (n : ℕ) (ts : List Token) → st.loop (nested n) ts ≡ (st.control (nested n) >>= (λ c. need (k.Word DoWord) >>= (λ p. st.enabling (nested n) >>= (λ e. st.body (nested n) >>= (λ ss. st.repeat_part (nested n) >>= (λ rs. need (k.Word EndloopWord) >> pure (s.Loop c p e ss rs))))))) ts
unfolding st.loop
loop_by n ts = refl

pub test_by : (n : ℕ) (ts : List Token) → st.test (nested n) ts ≡ cond ((nested n).can) (choose negating (λ _ p. st.after_not (nested n) p) (st.unnegated (nested n))) (st.unnegated (nested n)) ts
unfolding st.test
test_by n ts = refl

pub head_named : (n : ℕ) (ls : List Local) (ts us : List Token) (i : Identifier) → (nested n).can ≡ true → taken a_name ts ≡ Some (i.name, i.place) → us ≡ behind a_name ts
    → st.head_turn (nested n) ls ts ≡ st.head_from (nested n) ls i us
unfolding st.head_turn
head_named n ls ts us i can e rest = if_true ((nested n).can) (choose a_name (λ n' p. st.head_from (nested n) ls (identifier n' p)) (st.head_end (nested n) ls)) (st.head_end (nested n) ls) ts can
    ∙ choose_some a_name (λ n' p. st.head_from (nested n) ls (identifier n' p)) (st.head_end (nested n) ls) ts us i.name i.place e rest
