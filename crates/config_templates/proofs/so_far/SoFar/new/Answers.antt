use Rattle.std.proofs.Common.{sym, ap, subst}
use Rattle.config_templates.specs.Going.{names_so_far}
use Rattle.config_templates.specs.Known.{Knows}
use Rattle.config_templates.proofs.MentionLaws.{no_names}
use Rattle.config_templates.proofs.so_far.SoFar.new.Goals as goal

pub returns-clause-named : goal.returns-clause-named
returns-clause-named c = subst (Knows c.new.result) (ap names_so_far (sym c.new-2.ensures)) (no_names c.new.result c.new.ensures)
