use Rattle.std.proofs.Common.{map}
use Rattle.include_rules.specs.Stale.{faced, is_old}
use Rattle.include_checker.proofs.Staling.{by_import, by_export}
use Rattle.include_checker.proofs.stale.has_old_face.Goals as goal

pub returns-then-has_old_import : goal.returns-then-has_old_import
returns-then-has_old_import c =
    by_import (is_old (map faced c.args.files.now)) c.args.shape.now c.as_slice.result.now c.has_old_import.result c.as_slice.ensures c.has_old_import.ensures c.if-has_old_import.true

pub returns-else-has_old_import : goal.returns-else-has_old_import
returns-else-has_old_import c =
    by_export (is_old (map faced c.args.files.now)) c.args.shape.now c.as_slice.result.now c.as_slice-else-has_old_import.result.now c.has_old_import.result c.has_old_export.result c.as_slice.ensures
    c.as_slice-else-has_old_import.ensures c.has_old_import.ensures c.has_old_export.ensures c.if-has_old_import.false
