-- A statement by its production: a row for each.
use Rattle.std.proofs.Common.{◌≡◌, List, [], ◌∷◌, Some, None, refl, sym, ap, ◌∙◌}
use Rattle.mesa_base.specs.declared.place.Place.{Place}
use Rattle.mesa_lexer.specs.declared.token.Token.{Token}
use Rattle.mesa_lexer.specs.declared.token.Kind.{Kind}
use Rattle.mesa_lexer.specs.declared.token.Kind.TheVariants as k
use Rattle.mesa_lexer.specs.declared.word.Word.{Word}
use Rattle.mesa_lexer.specs.declared.word.Word.TheVariants.{AndWord, EndWord}
use Rattle.mesa_lexer.specs.declared.mark.Mark.{Mark}
use Rattle.mesa_lexer.specs.declared.mark.Mark.TheVariants.{Arrow, RightBrace}
use Rattle.token_cursor.specs.Parsing.{Stop, Unexpected, Parser, ◌>>=◌, pure, refuse, choose, need, when}
use Rattle.token_cursor.specs.Running.{next, skip}
use Rattle.syntax_trees.specs.declared.syntax.Statement.{Statement}
use Rattle.syntax_trees.specs.declared.syntax.Statement.TheVariants as s
use Rattle.grammar_rules.specs.ReadNested.{Nested, named}
use Rattle.grammar_rules.specs.ReadExpressions as x
use Rattle.grammar_rules.specs.ReadStatements as st
use Rattle.grammar_statements.specs.FirstTokens.{production_of}
use Rattle.grammar_statements.specs.declared.productions.Production.{Production}
use Rattle.grammar_statements.specs.declared.productions.Production.TheVariants as f

-- behind the token
abbrev pub behind : {A : Type 0} → Parser A → Parser A
behind parser = λ ts. parser (skip ts)

module _ (q : Nested) where
  abbrev pub row : Production → Place → Parser Statement
  row f.AssignOrCall p = named >>= st.assigned q
  row f.Extract p = behind (st.extract q p)
  row f.BlockByBrace p = behind (st.block q (k.Mark RightBrace) p >>= (λ b. pure (s.Nested b)))
  row f.BlockByWord p = behind (st.block q (k.Word EndWord) p >>= (λ b. pure (s.Nested b)))
  row f.If p = behind (st.conditional q p)
  row f.Select p = behind (st.select q p)
  row f.GotoInOneWord p = behind (named >>= (λ i. pure (s.Goto p i)))
  row f.GotoInTwoWords p = behind (st.go_to q p)
  row f.Return p = behind (x.list_option q >>= (λ l. pure (s.Return p l)))
  row f.Resume p = behind (x.list_option q >>= (λ l. pure (s.Resume p l)))
  row f.Raise p = x.raise q >>= (λ r. pure (s.RaiseStatement r))
  row f.Null p = behind (pure (s.Null p))
  row f.ExitLoop p = behind (pure (s.ExitLoop p))
  row f.NextTurn p = behind (pure (s.NextTurn p))
  row f.Reject p = behind (pure (s.Reject p))
  row f.Retry p = behind (pure (s.Retry p))
  row f.Continue p = behind (pure (s.Continue p))
  row f.Loop p = st.loop q
  row f.Nothing p = refuse

  of_mark : (mark : Mark) (p : Place) (ts : List Token) → st.statement q None (record { kind = k.Mark mark; place = p } ∷ ts) ≡ row (production_of (k.Mark mark)) p (record { kind = k.Mark mark; place = p } ∷ ts)
  unfolding st.statement st.jump st.loop st.control st.count st.condition choose need when named skip
  of_mark Arrow p ts = refl
  of_mark _ p ts = refl

  of_word : (word : Word) (p : Place) (ts : List Token) → st.statement q None (record { kind = k.Word word; place = p } ∷ ts) ≡ row (production_of (k.Word word)) p (record { kind = k.Word word; place = p } ∷ ts)
  unfolding st.statement st.jump st.loop st.control st.count st.condition choose need when named skip
  of_word AndWord p ts = refl
  of_word _ p ts = refl

  of_kind : (kind : Kind) (p : Place) (ts : List Token) → st.statement q None (record { kind = kind; place = p } ∷ ts) ≡ row (production_of kind) p (record { kind = kind; place = p } ∷ ts)
  unfolding st.statement st.jump st.loop st.control st.count st.condition choose need when named skip
  of_kind (k.Name n) p ts = refl
  of_kind (k.Number n) p ts = refl
  of_kind (k.Char n) p ts = refl
  of_kind (k.Text n) p ts = refl
  of_kind (k.Mark mark) p ts = of_mark mark p ts
  of_kind (k.Word word) p ts = of_word word p ts

  pub at_end : (ts : List Token) → next ts ≡ None → st.statement q None ts ≡ Stop Unexpected ts
  unfolding st.statement st.jump st.loop st.control st.count st.condition choose need when next
  at_end [] e = refl
  at_end (t ∷ ts) e = absurd (cc e)

  at_token : (ts : List Token) (t : Token) → next ts ≡ Some t → st.statement q None ts ≡ row (production_of t.kind) t.place ts
  unfolding next
  at_token [] t e = absurd (cc e)
  at_token (u ∷ ts) t e = let same : u ≡ t = cc e in ap (λ t. st.statement q None (t ∷ ts)) same ∙ (of_kind t.kind t.place ts ∙ ap (λ t'. row (production_of t.kind) t.place (t' ∷ ts)) (sym same))

  pub by_row : (ts : List Token) (t : Token) (form : Production) → next ts ≡ Some t → form ≡ production_of t.kind → st.statement q None ts ≡ row form t.place ts
  by_row ts t form e is = at_token ts t e ∙ ap (λ form. row form t.place ts) (sym is)
