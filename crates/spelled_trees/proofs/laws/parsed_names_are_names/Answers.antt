use Rattle.spelled_trees.proofs.Parsed.{parsed_names_are_names}
use Rattle.spelled_trees.proofs.laws.parsed_names_are_names.Goals as goal

pub returns : goal.returns
returns c = parsed_names_are_names c.tokens_are_within.ensures
