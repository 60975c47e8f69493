-- One turn of the loops of a list of fields, in the words of the cursor.
use Rattle.std.proofs.Common.{◌≡◌, ℕ, ◌<◌, ◌≤◌, length, cond, List, [], ◌∷◌, Option, Some, None, refl, ◌∙◌, arith}
use Rattle.mesa_base.specs.declared.place.Place.{Place}
use Rattle.mesa_lexer.specs.declared.token.Token.{Token}
use Rattle.mesa_lexer.specs.declared.token.Kind.{Kind}
use Rattle.mesa_lexer.specs.declared.token.Kind.TheVariants as k
use Rattle.mesa_lexer.specs.declared.mark.Mark.TheVariants.{Colon, Comma}
use Rattle.token_cursor.specs.Parsing.{Out, Got, Stop, Parser, ◌>>=◌, and_then, pure, exactly, found, a_name, picked, choose, option, Turned, Again, Done, go_on, repeat, many_turn}
use Rattle.token_cursor.proofs.Loops.{Eats, unroll}
use Rattle.mesa_base.specs.declared.identifier.Identifier.{Identifier}
use Rattle.syntax_trees.specs.declared.syntax.FieldList.{FieldList}
use Rattle.grammar_rules.specs.ReadNested.{Nested, identifier, comma}
use Rattle.grammar_rules.specs.ReadExpressions as x
use Rattle.grammar_rules.specs.ReadExpressions.{Undecided, all_names}
use Rattle.grammar_rules.specs.ReadStatements.{nested}
use Rattle.grammar_expressions.specs.Tails.{decided}
use Rattle.token_cursor.specs.Running.{next, skip, taken, behind, with_place}
use Rattle.grammar_rules.proofs.KeepTypes as kt
use Rattle.grammar_rules.proofs.Levels.{all_of}

pub types_eats : (n : ℕ) → Eats (many_turn comma (x.types_step (nested n)))
types_eats n = kt.types_eats n (nested n) (all_of n)

undecided_eats : (n : ℕ) → Eats (x.undecided_turn (nested n))
undecided_eats n = kt.undecided_eats n (nested n) (all_of n)

choose_through : {O A B : Type 0} (f : Kind → Option O) (p : O → Place → Parser A) (q : Parser A) (p' : O → Place → Parser B) (q' : Parser B) (g : A → Parser B) (ts : List Token)
    → ((o : O) (place : Place) (us : List Token) → and_then (p o place us) g ≡ p' o place us) → ((us : List Token) → and_then (q us) g ≡ q' us) → and_then (choose f p q ts) g ≡ choose f p' q' ts
unfolding choose
choose_through f p q p' q' g [] h i = i []
choose_through {O = O} f p q p' q' g (t ∷ ts) h i = go (f t.kind)
  where
    go : (r : Option O) → and_then (picked r p q t ts) g ≡ picked r p' q' t ts
    go (Some o) = h o t.place ts
    go None = i (t ∷ ts)

done_then : {A B : Type 0} (out : Out B) (f : A → Parser B) → and_then (and_then out (λ b. pure {A = Turned A B} (Done b))) (go_on f) ≡ out
done_then (Got b rest) f = refl
done_then (Stop why rest) f = refl

module _ (q : Nested) where
  abbrev loop : Undecided → Parser FieldList
  loop = repeat (x.undecided_turn q)

  -- how the names go on behind a comma
  abbrev pub behind_comma : List Identifier → Parser FieldList
  behind_comma all = choose a_name (λ n p. repeat (x.undecided_turn q) (record { before = all; last = identifier n p })) (x.unnamed q (x.called all))

  comma_then : (all : List Identifier) (us : List Token) → and_then (x.after_comma q all us) (go_on loop) ≡ behind_comma all us
  unfolding x.after_comma
  comma_then all us = choose_through a_name (λ n p. pure (Again (record { before = all; last = identifier n p }))) (x.unnamed q (x.called all) >>= (λ y. pure (Done y)))
      (λ n p. loop (record { before = all; last = identifier n p })) (x.unnamed q (x.called all)) (go_on loop) us (λ n p vs. refl) (λ vs. done_then (x.unnamed q (x.called all) vs) loop)

  decided_then : (u : Undecided) (us : List Token) → and_then (option (k.Mark Colon) (λ _. x.with_names q (all_names u) >>= (λ y. pure (Done y))) (x.types_from q u >>= (λ y. pure (Done y))) us) (go_on loop) ≡ decided q u us
  unfolding decided
  decided_then u us = choose_through (exactly (k.Mark Colon)) (λ _ _. x.with_names q (all_names u) >>= (λ y. pure (Done y))) (x.types_from q u >>= (λ y. pure (Done y)))
      (λ _ _. x.with_names q (all_names u)) (x.types_from q u) (go_on loop) us (λ o p vs. done_then (x.with_names q (all_names u) vs) loop) (λ vs. done_then (x.types_from q u vs) loop)

  one_turn : (u : Undecided) (ts : List Token) → and_then (x.undecided_turn q u ts) (go_on loop) ≡ option (k.Mark Comma) (λ _. behind_comma (all_names u)) (decided q u) ts
  unfolding x.undecided_turn
  one_turn u ts = choose_through (exactly (k.Mark Comma)) (λ _ _. x.after_comma q (all_names u)) (option (k.Mark Colon) (λ _. x.with_names q (all_names u) >>= (λ y. pure (Done y))) (x.types_from q u >>= (λ y. pure (Done y))))
      (λ _ _. behind_comma (all_names u)) (decided q u) (go_on loop) ts (λ o p vs. comma_then (all_names u) vs) (λ vs. decided_then u vs)

pub undecided_by : (n : ℕ) (u : Undecided) (ts : List Token) → repeat (x.undecided_turn (nested n)) u ts ≡ option (k.Mark Comma) (λ _. behind_comma (nested n) (all_names u)) (decided (nested n) u) ts
undecided_by n u ts = unroll (x.undecided_turn (nested n)) (undecided_eats n) u ts ∙ one_turn (nested n) u ts

-- ---- what is taken makes the tokens fewer

pub behind_less : {O : Type 0} (f : Kind → Option O) (ts : List Token) (v : O × Place) → taken f ts ≡ Some v → length (behind f ts) < length ts
unfolding taken behind next skip
behind_less f [] v e = absurd (cc)
behind_less {O = O} f (t ∷ ts) v e = go (f t.kind) e
  where
    go : (r : Option O) → with_place t.place r ≡ Some v → length (cond (found r) ts (t ∷ ts)) < length (t ∷ ts)
    go (Some o) e = omega arith
    go None e = absurd (cc)

pub behind_no_more : {O : Type 0} (f : Kind → Option O) (ts : List Token) → length (behind f ts) ≤ length ts
unfolding behind next skip
behind_no_more f [] = omega arith
behind_no_more {O = O} f (t ∷ ts) = go (f t.kind)
  where
    go : (r : Option O) → length (cond (found r) ts (t ∷ ts)) ≤ length (t ∷ ts)
    go (Some o) = omega arith
    go None = omega arith
