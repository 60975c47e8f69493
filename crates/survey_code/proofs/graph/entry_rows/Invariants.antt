use Rattle.std.proofs.Common.{◌≡◌, length}
use Rattle.survey_code.specs.Leads.{EntryLeads, Lists}
use Rattle.survey_code.specs.Passings.{EachWith}
use Rattle.survey_code.proofs.graph.entry_rows.Given as goal

abbrev pub invariant-loop-number : goal.invariant-loop-number
invariant-loop-number l = (length l.rows ≡ l.number) × EachWith (λ k e row. Lists (EntryLeads l.code l.procedure k e.at e.instruction) row) l.procedure.code l.rows
