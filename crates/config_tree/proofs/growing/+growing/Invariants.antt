use Rattle.std.proofs.Common.{◌+◌, ◌*◌, length}
use Rattle.check_scopes.specs.Shows.{listed}
use Rattle.config_rules.specs.Template.{NoParts}
use Rattle.config_templates.specs.Shown.{before, chained}
use Rattle.config_templates.specs.Size.{nodes, nodes_in}
use Rattle.config_tree.proofs.Halfway.{Halfway}
use Rattle.config_tree.proofs.growing.+growing.Given as goal

abbrev pub invariant-grow-parts : goal.invariant-grow-parts
invariant-grow-parts l = Halfway l.shapes l.path l.scope l.template l.initial.growth l.growth (listed l.starts) (chained l.rest)

abbrev pub decreases-grow-parts : goal.decreases-grow-parts
decreases-grow-parts l = length l.rest

abbrev pub decreases-grow : goal.decreases-grow
decreases-grow l = 2 * nodes l.template.now

abbrev pub decreases-grow_part : goal.decreases-grow_part
decreases-grow_part l = 2 * nodes_in (before l.part.now NoParts) + 1
