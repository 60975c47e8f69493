use Rattle.std.proofs.Common.{◌≡◌, ◌++◌, flat_map, take}
use Rattle.command_passes.specs.command_rules.specs.Shown.{image_names}
use Rattle.command_passes.specs.command_rules.specs.Surveying.{escape_line}
use Rattle.command_surveys.proofs.lines.put_lines.Given as goal

abbrev pub invariant-signals : goal.invariant-signals
invariant-signals l = l.out ≡ l.fn.out ++ flat_map (escape_line (image_names l.image)) (take l.signal-index l.signals)
