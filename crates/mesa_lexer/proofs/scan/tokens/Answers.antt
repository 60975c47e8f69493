use Rattle.mesa_lexer.specs.Tokens.{text_too_long}
use Rattle.mesa_lexer.proofs.Walks.{only_tokens, only_fault}
use Rattle.mesa_lexer.proofs.scan.tokens.Goals as goal

pub returns-then-text-gt-TEXT_BYTES-clause-fault : goal.returns-then-text-gt-TEXT_BYTES-clause-fault
returns-then-text-gt-TEXT_BYTES-clause-fault c other = text_too_long c.if-text-gt-TEXT_BYTES.true

pub returns-clause-only_tokens : goal.returns-clause-only_tokens
returns-clause-only_tokens c = only_tokens c.args.text.now c.scan.result c.scan.ensures.ok c.scan.ensures.fault

pub returns-clause-only_fault : goal.returns-clause-only_fault
returns-clause-only_fault c = only_fault c.args.text.now c.scan.result c.scan.ensures.ok c.scan.ensures.fault
