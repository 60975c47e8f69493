-- What is offered, as the definition sees it.
use Rattle.std.specs.Prelude.{List, map}
use Rattle.mesa_base.specs.declared.identifier.Identifier.{Identifier}
use Rattle.interface_records.specs.PlainTypes.{plain_item}
use Rattle.check_rules.specs.Programs as program
use Rattle.check_faces.specs.declared.exports.Offer.{Offer}

abbrev pub offer : Offer → program.Offer
offer o = record { name = o.name; number = o.number; item = plain_item o.item }

abbrev pub names : List Offer → List Identifier
names = map (λ (o : Offer). o.name)
