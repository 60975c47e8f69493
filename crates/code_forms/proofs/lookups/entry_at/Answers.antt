use Rattle.std.proofs.Common.{arith}
use Rattle.code_forms.proofs.Ordered.{blank, no_start, found_start}
use Rattle.code_forms.proofs.lookups.entry_at.Goals as goal

pub returns-then-count-code : goal.returns-then-count-code
returns-then-count-code c =
    let i = c.instructions_before-count.ensures in
    no_start c.args.code.now _ c.args.offset blank c.requires i.before i.rest (λ l e. absurd (omega arith))

pub returns-then-code-count : goal.returns-then-code-count
returns-then-code-count c =
    let i = c.instructions_before-count.ensures in
    no_start c.args.code.now _ c.args.offset _ c.requires i.before i.rest (λ l e. c.if-code-count.true e)

pub returns : goal.returns
returns c = let i = c.instructions_before-count.ensures in let f = c.if-count-code.false in found_start c.args.code.now _ c.args.offset _ (omega arith) c.if-code-count.false
