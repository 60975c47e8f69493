-- Which production a statement is of, by its first token (Language Manual, appendix on syntax).
use Rattle.mesa_lexer.specs.declared.token.Kind.{Kind}
use Rattle.mesa_lexer.specs.declared.token.Kind.TheVariants as k
use Rattle.mesa_lexer.specs.declared.word.Word.TheVariants as w
use Rattle.mesa_lexer.specs.declared.mark.Mark.TheVariants as m
use Rattle.grammar_statements.specs.declared.productions.Production.{Production}
use Rattle.grammar_statements.specs.declared.productions.Production.TheVariants as p

abbrev pub production_of : Kind → Production
production_of (k.Name n) = p.AssignOrCall
production_of (k.Mark m.LeftBracket) = p.Extract
production_of (k.Mark m.LeftBrace) = p.BlockByBrace
production_of (k.Word w.BeginWord) = p.BlockByWord
production_of (k.Word w.IfWord) = p.If
production_of (k.Word w.SelectWord) = p.Select
production_of (k.Word w.GotoWord) = p.GotoInOneWord
production_of (k.Word w.GoWord) = p.GotoInTwoWords
production_of (k.Word w.ReturnWord) = p.Return
production_of (k.Word w.ResumeWord) = p.Resume
production_of (k.Word w.SignalWord) = p.Raise
production_of (k.Word w.ErrorWord) = p.Raise
production_of (k.Word w.NullWord) = p.Null
production_of (k.Word w.ExitWord) = p.ExitLoop
production_of (k.Word w.LoopWord) = p.NextTurn
production_of (k.Word w.RejectWord) = p.Reject
production_of (k.Word w.RetryWord) = p.Retry
production_of (k.Word w.ContinueWord) = p.Continue
production_of (k.Word w.ForWord) = p.Loop
production_of (k.Word w.ThroughWord) = p.Loop
production_of (k.Word w.WhileWord) = p.Loop
production_of (k.Word w.UntilWord) = p.Loop
production_of (k.Word w.DoWord) = p.Loop
production_of _ = p.Nothing
