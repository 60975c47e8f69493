use Rattle.std.proofs.Common.{take}
use Rattle.config_rules.specs.Template.{exported}
use Rattle.config_templates.specs.Known.{Knows}
use Rattle.config_templates.specs.Shown.{chained}
use Rattle.config_templates.proofs.headings.records_of.Given as goal

abbrev pub invariant-loop-part : goal.invariant-loop-part
invariant-loop-part l = Knows l.records (exported (chained (take l.part-index l.parts)))
