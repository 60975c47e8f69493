use Rattle.std.proofs.Common.{ℕ, List, ◌++◌, take}
use Rattle.std.specs.Prelude.{reverse}
use Rattle.config_templates.specs.Known.{Knows}
use Rattle.config_templates.proofs.headings.note_all.Given as goal

abbrev pub invariant-loop-name : goal.invariant-loop-name
invariant-loop-name l = (before : List (List ℕ)) → Knows l.initial.known before → Knows l.known (reverse (take l.name-index l.names) ++ before)
