use Rattle.std.proofs.Common.{◌≡◌, drop}
use Rattle.config_rules.specs.Components.{no_file_base}
use Rattle.config_templates.proofs.files.no_file_base.Given as goal

abbrev pub invariant-loop-item : goal.invariant-loop-item
invariant-loop-item l = no_file_base l.directory ≡ no_file_base (drop l.item-index l.directory)
