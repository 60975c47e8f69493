use Rattle.std.proofs.Common.{drop}
use Rattle.check_scopes.specs.Shows.{shows}
use Rattle.cmesa_grammar.specs.Plain.{statements}
use Rattle.config_templates.specs.Mentioned.{Passed}
use Rattle.config_templates.proofs.mentioned.+mentions.Given as goal

abbrev pub invariant-within-loop-one : goal.invariant-within-loop-one
invariant-within-loop-one l = Passed (shows l.initial.nested) (statements l.one-items) l.initial.mentioned (shows l.nested) (statements (drop l.one-index l.one-items)) l.mentioned
