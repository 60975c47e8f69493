use Rattle.command_passes.specs.command_rules.specs.Listing.{is_object}
use Rattle.command_passes.specs.command_rules.specs.Writing.{OfObject}
use Rattle.command_listings.proofs.held.is_object.Goals as goal

pub returns-in-Ok-clause-held : goal.returns-in-Ok-clause-held
returns-in-Ok-clause-held c = (OfObject c.in-Ok.object, λ file. is_object c.in-Ok.ensures.found.0 c.in-Ok.object c.in-Ok.ensures.found.1)
