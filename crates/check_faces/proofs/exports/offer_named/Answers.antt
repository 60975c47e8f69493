use Rattle.std.proofs.Common.{rules, None, Some, option_map, ap, ◌∙◌}
use Rattle.check_faces.specs.Offers.{offer}
use Rattle.check_faces.proofs.ExportLaws.{first_offer}
use Rattle.check_faces.proofs.exports.offer_named.Goals as goal

pub returns-in-None : goal.returns-in-None
returns-in-None c = λ h. first_offer c.args.index.now c.args.offers.now c.args.name.now None h (search rules)

pub returns-in-Some : goal.returns-in-Some
returns-in-Some c = λ h.
    ap (option_map offer) c.offer_at.ensures ∙ first_offer c.args.index.now c.args.offers.now c.args.name.now (Some c.in-Some.place.now) h (search rules)
