use Rattle.listing_rules.proofs.PathLaws.{path_is}
use Rattle.listing_writers.proofs.Chains.{same_text}
use Rattle.listing_writers.proofs.names.put_path.Goals as goal

pub returns : goal.returns
returns c = same_text c.put_names.result c.args.out.now c.put_names.new.out _ _ (path_is c.args.path.now) c.put_names.ensures
