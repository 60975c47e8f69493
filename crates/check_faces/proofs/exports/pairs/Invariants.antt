use Rattle.std.proofs.Common.{◌≡◌, drop, map}
use Rattle.check_scopes.specs.Shows.{means}
use Rattle.check_rules.specs.Directory.{place_in}
use Rattle.interface_records.specs.PlainTypes.{plain_item}
use Rattle.check_rules.specs.Programs.{pairs}
use Rattle.check_faces.specs.Offers.{names, offer}
use Rattle.check_faces.proofs.ExportLaws.{go_on}
use Rattle.check_faces.proofs.exports.pairs.Given as goal

abbrev pub invariant-loop-item : goal.invariant-loop-item
invariant-loop-item l = means l.index ≡ place_in 0 (names l.offers)
    → pairs (map offer l.offers) 0 (map plain_item l.items) ≡ go_on (map offer l.offers) l.number (drop l.item-index l.items) l.given
