use Rattle.std.proofs.Common.{◌≡◌, length}
use Rattle.survey_code.specs.Leads.{PhraseLeads, Lists}
use Rattle.survey_code.specs.Passings.{EachWith}
use Rattle.survey_code.proofs.graph.phrase_rows.Given as goal

abbrev pub invariant-loop-number : goal.invariant-loop-number
invariant-loop-number l = (length l.rows ≡ l.number) × EachWith (λ n phrase row. Lists (PhraseLeads l.procedure n phrase.arms) row) l.procedure.phrases l.rows
