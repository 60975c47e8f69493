use Rattle.std.proofs.Common.{arith, sym, ap, ◌∙◌}
use Rattle.std.proofs.lemmas.List.{take_rest}
use Rattle.mesa_lexer.specs.Lexed.{item_at}
use Rattle.mesa_lexer.specs.Forms.{empty}
use Rattle.mesa_lexer.proofs.Strings.{inside_more}
use Rattle.mesa_lexer.proofs.string.inside.Goals as goal

pub loop-count-init : goal.loop-count-init
loop-count-init c = record { is_there = omega arith; inside = rw c.new-value.ensures empty }

pub loop-count-preserved : goal.loop-count-preserved
loop-count-preserved c =
    let step = inside_more c.args.rest.now c.loop-count.at c.loop-count.value (c.in-Some.count, c.in-Some.byte) c.loop-count.invariant.is_there c.loop-count.invariant.inside (ap item_at (sym (take_rest c.args.rest.now c.loop-count.at)) ∙ sym c.in-Some.ensures) in
    record { is_there = step.0; inside = rw c.in_ok-push.ensures.ok step.1 }
