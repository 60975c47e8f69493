use Rattle.std.proofs.Common.{◌≡◌, map, take}
use Rattle.config_templates.specs.Mentioned.{component_of, now}
use Rattle.config_templates.proofs.files.with_files.Given as goal

abbrev pub invariant-loop-name : goal.invariant-loop-name
invariant-loop-name l = l.all ≡ map (component_of l.directory) (now (take l.name-index l.names))
