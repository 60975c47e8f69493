use Rattle.std.proofs.Common.{◌≡◌, ◌+◌, ◌<◌, ◌^◌, ◌++◌, length, map}
use Rattle.std.specs.Prelude.{All, reverse}
use Rattle.image_readers.specs.Rows.{AreInRange}
use Rattle.object_readers.specs.Rows.{module_part, RowsFit}
use Rattle.object_rules.specs.Parts.{parts_of, IsWhole}
use Rattle.image_readers.proofs.building.objects.Given as goal

abbrev pub invariant-each : goal.invariant-each
invariant-each l = record {
  parts : map parts_of l.all ++ map module_part (reverse l.modules) ≡ map module_part l.fn.modules;
  whole : All IsWhole l.all;
  rows : All RowsFit l.modules;
  ranges : All AreInRange l.modules;
  few : length l.all + length l.modules < 2 ^ 32;
}

abbrev pub decreases-each : goal.decreases-each
decreases-each l = length l.modules
