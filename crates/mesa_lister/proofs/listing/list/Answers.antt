use Rattle.mesa_lister.proofs.Wholes.{only_text, first_reason}
use Rattle.mesa_lister.proofs.listing.list.Goals as goal

pub returns-clause-only : goal.returns-clause-only
returns-clause-only c = only_text c.args.kind c.args.bytes.now c.listed.result c.listed.ensures.found c.listed.ensures.fault

pub returns-clause-first : goal.returns-clause-first
returns-clause-first c = first_reason c.args.kind c.args.bytes.now c.listed.result c.listed.ensures.found c.listed.ensures.fault
