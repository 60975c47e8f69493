use Rattle.command_laws.proofs.Exact.{passes_are_exact}
use Rattle.command_laws.proofs.laws.passes_are_exact.Goals as goal

pub returns : goal.returns
returns c =
    passes_are_exact c.texts_begin_once.ensures c.programs_come_to_one.ensures c.definitions_come_to_one.ensures c.trees_are_one.ensures c.singles_are_one.ensures
    c.texts_have_one_tree.ensures c.plans_come_once.ensures c.depths_do_not_matter.ensures c.surveys_are_one.ensures
    c.loads_come_once.ensures c.loads_are_alike.ensures
