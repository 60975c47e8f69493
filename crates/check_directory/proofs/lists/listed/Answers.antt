use Rattle.check_rules.specs.Directory.{names_in}
use Rattle.check_directory.proofs.PlaceLaws.{places_have}
use Rattle.check_directory.proofs.lists.listed.Goals as goal

pub returns : goal.returns
returns c = c.named_in.ensures _ (places_have c.in_ok-known.known (names_in c.args.directory.now) c.in_ok-known.ensures)
