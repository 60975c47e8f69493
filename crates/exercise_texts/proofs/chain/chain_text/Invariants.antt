use Rattle.std.proofs.Common.{◌≡◌, ◌++◌}
use Rattle.exercise_texts.specs.Texts.{chain_head, link_lines}
use Rattle.exercise_texts.proofs.chain.chain_text.Given as goal

abbrev pub invariant-loop-link : goal.invariant-loop-link
invariant-loop-link l = l.written ≡ chain_head ++ link_lines l.link
