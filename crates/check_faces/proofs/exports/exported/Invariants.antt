use Rattle.std.proofs.Common.{◌≡◌, drop, map}
use Rattle.check_rules.specs.Programs.{exported}
use Rattle.check_directory.specs.Interfaces.{found}
use Rattle.check_faces.specs.Offers.{offer}
use Rattle.check_faces.proofs.ExportLaws.{export_on}
use Rattle.check_faces.proofs.exports.exported.Given as goal

abbrev pub invariant-loop-interface : goal.invariant-loop-interface
invariant-loop-interface l = exported (map offer l.offers) (found l.those) ≡ export_on (map offer l.offers) (drop l.interface-index l.those) l.exports
