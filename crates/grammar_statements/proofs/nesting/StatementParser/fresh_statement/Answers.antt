use Rattle.std.proofs.Common.{ap, sym, ◌∙◌}
use Rattle.std.specs.Option.{option_copied}
use Rattle.grammar_statements.specs.declared.productions.Production.TheVariants as f
use Rattle.grammar_rules.specs.ReadStatements.{nested}
use Rattle.grammar_statements.proofs.Rows.{by_row}
use Rattle.grammar_statements.proofs.nesting.StatementParser.fresh_statement.Goals as goal

pub returns-in-AssignOrCall : goal.returns-in-AssignOrCall
returns-in-AssignOrCall g c = rw (by_row (nested c.args.self.now.level.depth) c.args.tokens.now.rest.now c.in-Some.token.now f.AssignOrCall (sym c.peek.ensures ∙ ap option_copied c.in-Some.is) c.in-AssignOrCall.ensures) c.assigning.ensures

pub returns-in-Extract : goal.returns-in-Extract
returns-in-Extract g c = rw (by_row (nested c.args.self.now.level.depth) c.args.tokens.now.rest.now c.in-Some.token.now f.Extract (sym c.peek.ensures ∙ ap option_copied c.in-Some.is) c.in-Extract.ensures) c.extracting.ensures

pub returns-in-BlockByBrace : goal.returns-in-BlockByBrace
returns-in-BlockByBrace g c = rw (by_row (nested c.args.self.now.level.depth) c.args.tokens.now.rest.now c.in-Some.token.now f.BlockByBrace (sym c.peek.ensures ∙ ap option_copied c.in-Some.is) c.in-BlockByBrace.ensures) c.nested_block.ensures

pub returns-in-BlockByWord : goal.returns-in-BlockByWord
returns-in-BlockByWord g c = rw (by_row (nested c.args.self.now.level.depth) c.args.tokens.now.rest.now c.in-Some.token.now f.BlockByWord (sym c.peek.ensures ∙ ap option_copied c.in-Some.is) c.in-BlockByWord.ensures) c.nested_block-in-BlockByWord.ensures

pub returns-in-If : goal.returns-in-If
returns-in-If g c = rw (by_row (nested c.args.self.now.level.depth) c.args.tokens.now.rest.now c.in-Some.token.now f.If (sym c.peek.ensures ∙ ap option_copied c.in-Some.is) c.in-If.ensures) c.conditional.ensures

pub returns-in-Select : goal.returns-in-Select
returns-in-Select g c = rw (by_row (nested c.args.self.now.level.depth) c.args.tokens.now.rest.now c.in-Some.token.now f.Select (sym c.peek.ensures ∙ ap option_copied c.in-Some.is) c.in-Select.ensures) c.select.ensures

pub returns-in-GotoInOneWord : goal.returns-in-GotoInOneWord
returns-in-GotoInOneWord g c = rw (by_row (nested c.args.self.now.level.depth) c.args.tokens.now.rest.now c.in-Some.token.now f.GotoInOneWord (sym c.peek.ensures ∙ ap option_copied c.in-Some.is) c.in-GotoInOneWord.ensures) c.goto.ensures

pub returns-in-GotoInTwoWords : goal.returns-in-GotoInTwoWords
returns-in-GotoInTwoWords g c = rw (by_row (nested c.args.self.now.level.depth) c.args.tokens.now.rest.now c.in-Some.token.now f.GotoInTwoWords (sym c.peek.ensures ∙ ap option_copied c.in-Some.is) c.in-GotoInTwoWords.ensures) c.go_to.ensures

pub returns-in-Return : goal.returns-in-Return
returns-in-Return g c = rw (by_row (nested c.args.self.now.level.depth) c.args.tokens.now.rest.now c.in-Some.token.now f.Return (sym c.peek.ensures ∙ ap option_copied c.in-Some.is) c.in-Return.ensures) c.returning.ensures

pub returns-in-Resume : goal.returns-in-Resume
returns-in-Resume g c = rw (by_row (nested c.args.self.now.level.depth) c.args.tokens.now.rest.now c.in-Some.token.now f.Resume (sym c.peek.ensures ∙ ap option_copied c.in-Some.is) c.in-Resume.ensures) c.resuming.ensures

pub returns-in-Raise : goal.returns-in-Raise
returns-in-Raise g c = rw (by_row (nested c.args.self.now.level.depth) c.args.tokens.now.rest.now c.in-Some.token.now f.Raise (sym c.peek.ensures ∙ ap option_copied c.in-Some.is) c.in-Raise.ensures) c.raising.ensures

pub returns-in-Null : goal.returns-in-Null
returns-in-Null g c = rw (by_row (nested c.args.self.now.level.depth) c.args.tokens.now.rest.now c.in-Some.token.now f.Null (sym c.peek.ensures ∙ ap option_copied c.in-Some.is) c.in-Null.ensures) (cc)

pub returns-in-ExitLoop : goal.returns-in-ExitLoop
returns-in-ExitLoop g c = rw (by_row (nested c.args.self.now.level.depth) c.args.tokens.now.rest.now c.in-Some.token.now f.ExitLoop (sym c.peek.ensures ∙ ap option_copied c.in-Some.is) c.in-ExitLoop.ensures) (cc)

pub returns-in-NextTurn : goal.returns-in-NextTurn
returns-in-NextTurn g c = rw (by_row (nested c.args.self.now.level.depth) c.args.tokens.now.rest.now c.in-Some.token.now f.NextTurn (sym c.peek.ensures ∙ ap option_copied c.in-Some.is) c.in-NextTurn.ensures) (cc)

pub returns-in-Reject : goal.returns-in-Reject
returns-in-Reject g c = rw (by_row (nested c.args.self.now.level.depth) c.args.tokens.now.rest.now c.in-Some.token.now f.Reject (sym c.peek.ensures ∙ ap option_copied c.in-Some.is) c.in-Reject.ensures) (cc)

pub returns-in-Retry : goal.returns-in-Retry
returns-in-Retry g c = rw (by_row (nested c.args.self.now.level.depth) c.args.tokens.now.rest.now c.in-Some.token.now f.Retry (sym c.peek.ensures ∙ ap option_copied c.in-Some.is) c.in-Retry.ensures) (cc)

pub returns-in-Continue : goal.returns-in-Continue
returns-in-Continue g c = rw (by_row (nested c.args.self.now.level.depth) c.args.tokens.now.rest.now c.in-Some.token.now f.Continue (sym c.peek.ensures ∙ ap option_copied c.in-Some.is) c.in-Continue.ensures) (cc)

pub returns-in-Loop : goal.returns-in-Loop
returns-in-Loop g c = rw (by_row (nested c.args.self.now.level.depth) c.args.tokens.now.rest.now c.in-Some.token.now f.Loop (sym c.peek.ensures ∙ ap option_copied c.in-Some.is) c.in-Loop.ensures) c.loop_statement.ensures

pub returns-in-Nothing : goal.returns-in-Nothing
returns-in-Nothing g c = λ other. by_row (nested c.args.self.now.level.depth) c.args.tokens.now.rest.now c.in-Some.token.now f.Nothing (sym c.peek.ensures ∙ ap option_copied c.in-Some.is) c.in-Nothing.ensures
