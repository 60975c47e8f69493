use Rattle.std.proofs.Common.{rules, ◌<◌, ◌≤◌, [], ◌∷◌, ◌++◌, length, sym, ◌∙◌, ap}
use Rattle.mesa_command.proofs.Behind.{all_between, next_between}
use Rattle.mesa_command.proofs.words.words_between.Goals as goal

pub loop-next-preserved : goal.loop-next-preserved
loop-next-preserved c =
    let some : 2 ≤ c.loop-next.next = search rules in
    let less : c.loop-next.next < length c.args.words.now = search rules in
    c.in_ok-push.ensures.ok ∙ ap (λ z. z ++ c.in_ok-word_at.field-0 ∷ []) c.loop-next.invariant
    ∙ sym (next_between c.args.words.now c.loop-next.next c.in_ok-word_at.field-0 some less c.in_ok-word_at.ensures)

pub returns : goal.returns
returns c =
    let some : 2 ≤ c.loop-next.next = search rules in
    let all : length c.args.words.now ≤ c.loop-next.next = search rules in
    c.loop-next.invariant ∙ all_between c.args.words.now c.loop-next.next some all
