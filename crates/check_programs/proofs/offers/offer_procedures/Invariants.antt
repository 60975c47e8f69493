use Rattle.std.proofs.Common.{◌≡◌, ◌++◌, map, take}
use Rattle.interface_records.specs.PlainTypes.{plain_item}
use Rattle.check_rules.specs.Programs.{procedure_offer}
use Rattle.check_heads.specs.check_faces.specs.Offers.{offer}
use Rattle.check_programs.proofs.offers.offer_procedures.Given as goal

abbrev pub invariant-loop-name : goal.invariant-loop-name
invariant-loop-name l = map offer l.offers.items ≡ map offer l.fn.offers.items ++ map (procedure_offer l.number (plain_item l.item)) (take l.name-index l.names)
