-- The lines of the links, one more at a time.
use Rattle.std.proofs.Common.{◌≡◌, ℕ, ◌+◌, [], ◌++◌, refl, add-one}
use Rattle.exercise_texts.specs.Texts.{link_line, link_lines}

pub no_links : link_lines 0 ≡ []
unfolding link_lines
no_links = refl

pub one_more_link : (n : ℕ) → link_lines (n + 1) ≡ link_lines n ++ link_line (n + 1)
unfolding link_lines
one_more_link n = rw add-one refl
