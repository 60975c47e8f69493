use Rattle.std.proofs.Common.{◌≡◌, ◌++◌, drop, map}
use Rattle.code_rules.specs.Links.{label_code}
use Rattle.code_trees.proofs.link_code.labels.Given as goal

abbrev pub invariant-loop-label : goal.invariant-loop-label
invariant-loop-label l = l.made ++ map (label_code l.links.imports.now) (drop l.label-index l.labels) ≡ map (label_code l.links.imports.now) l.labels
