use Rattle.std.proofs.lemmas.Result.{err_from_is_err_and}
use Rattle.command_sources.proofs.Parsing.{lexical_none, syntax_none}
use Rattle.command_sources.proofs.configurations.parsed.Goals as goal

pub returns-in_err-tokens-clause-fault : goal.returns-in_err-tokens-clause-fault
returns-in_err-tokens-clause-fault c =
    let p = err_from_is_err_and c.from_residual.result c.from_residual.ensures.1 in
    rw p.1 (λ other. lexical_none c.args.text.now _ p.0 p.2 c.in_err-tokens.ensures.fault other)

pub returns-in_err-configuration-clause-fault : goal.returns-in_err-configuration-clause-fault
returns-in_err-configuration-clause-fault c =
    let p = err_from_is_err_and c.from_residual-in_err-configuration.result c.from_residual-in_err-configuration.ensures.1 in
    rw p.1 (λ other. syntax_none c.args.text.now c.in_ok-tokens.tokens _ p.0 c.in_ok-tokens.ensures.ok p.2 c.in_err-configuration.ensures.fault other)

pub returns-clause-config : goal.returns-clause-config
returns-clause-config c =
    record { tokens = c.in_ok-tokens.tokens; has_tokens = c.in_ok-tokens.ensures.ok; parses = c.in_ok-configuration.ensures.ok }
