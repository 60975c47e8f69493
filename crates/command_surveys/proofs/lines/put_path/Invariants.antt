use Rattle.std.proofs.Common.{◌≡◌, ◌++◌, flat_map, take}
use Rattle.line_pieces.specs.Texts.{with_dot}
use Rattle.command_surveys.proofs.lines.put_path.Given as goal

abbrev pub invariant-names : goal.invariant-names
invariant-names l = l.out ≡ l.fn.out ++ flat_map with_dot (take l.name-index l.path)
