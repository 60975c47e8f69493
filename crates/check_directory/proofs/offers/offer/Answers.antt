use Rattle.check_scopes.proofs.Innermost.{ok_also}
use Rattle.check_directory.proofs.EntryLaws.{offered_by}
use Rattle.check_directory.proofs.offers.offer.Goals as goal

pub returns : goal.returns
returns c = ok_also c.declare_first.result (offered_by c.args.names.now c.declare_first.new.self c.args.name.now c.bytes.result.now c.args.meaning c.bytes.ensures) c.declare_first.ensures.ok
