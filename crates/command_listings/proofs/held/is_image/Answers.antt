use Rattle.command_passes.specs.command_rules.specs.Listing.{is_image}
use Rattle.command_passes.specs.command_rules.specs.Writing.{OfImage}
use Rattle.command_listings.proofs.held.is_image.Goals as goal

pub returns-in-Ok-clause-held : goal.returns-in-Ok-clause-held
returns-in-Ok-clause-held c = (OfImage c.in-Ok.image, λ file. is_image c.in-Ok.ensures.found.0 c.in-Ok.image c.in-Ok.ensures.found.1)
