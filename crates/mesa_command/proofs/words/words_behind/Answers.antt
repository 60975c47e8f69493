use Rattle.std.proofs.Common.{rules, ◌≤◌, [], ◌∷◌, ◌++◌, sym, ◌∙◌, ap}
use Rattle.mesa_command.proofs.Behind.{next_base}
use Rattle.mesa_command.proofs.words.words_behind.Goals as goal

pub loop-at-preserved : goal.loop-at-preserved
loop-at-preserved c =
    let some : 1 ≤ c.loop-at.at = search rules in
    c.in_ok-push.ensures.ok ∙ ap (λ z. z ++ c.in_ok-word_at.field-0 ∷ []) c.loop-at.invariant
    ∙ sym (next_base c.args.words.now c.loop-at.at c.in_ok-word_at.field-0 some c.in_ok-word_at.ensures)
