-- What a turn of a loop over declarations has to do with a step of the parser function: one result, and the same tokens left.
use Rattle.std.specs.Prelude.{◌≡◌, ◌≢◌, List, Result, Ok, Err}
use Rattle.mesa_lexer.specs.declared.token.Token.{Token}
use Rattle.token_cursor.specs.Parsing.{Out, Got, Stop, Turned, Again, Done}
use Rattle.token_cursor.specs.declared.fault.Stopped.{Stopped}
use Rattle.token_cursor.specs.declared.fault.Stopped.TheVariants.{Memory}
use Rattle.token_cursor.specs.Running.{why_of}
use Rattle.grammar_rules.specs.ReadStatements.{Head}
use Rattle.grammar_statements.specs.declared.turns.Turn.{Turn}
use Rattle.grammar_statements.specs.declared.turns.Turn.TheVariants.{More, All}

-- The turn gives what the step gives, and leaves the tokens that it leaves, unless memory runs out.
abbrev pub ReadsTurn : {D : Type 0} → Out (Turned (List D) (Head D)) → Result (Turn D) Stopped → List Token → Type 0
ReadsTurn out (Ok (More ds)) new = out ≡ Got (Again ds) new
ReadsTurn out (Ok (All ds ss)) new = out ≡ Got (Done (ds, ss)) new
ReadsTurn out (Err e) new = e ≢ Memory → out ≡ Stop (why_of e) new
