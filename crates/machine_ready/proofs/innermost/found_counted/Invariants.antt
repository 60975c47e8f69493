use Rattle.std.proofs.Common.{List, take}
use Rattle.std.specs.List.{AllZip}
use Rattle.code_forms.specs.declared.module_code.Phrase.{Phrase}
use Rattle.signaller.specs.Index.{Indexes}
use Rattle.machine_ready.specs.Openings.{IsInnermostAt}
use Rattle.machine_ready.proofs.innermost.found_counted.Given as goal

abbrev pub invariant-loop-entry : goal.invariant-loop-entry
invariant-loop-entry g l = (table : List Phrase) → Indexes table l.index → AllZip (IsInnermostAt table) (take l.entry-index l.code) l.found
