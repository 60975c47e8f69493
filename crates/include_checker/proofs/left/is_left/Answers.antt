use Rattle.std.proofs.Common.{not, nat_eq, rules, tests, ◌∙◌}
use Rattle.std.proofs.lemmas.Iterator.{YieldsList-from_slice}
use Rattle.std.proofs.lemmas.Iterator.Search.{all_from_yields_List}
use Rattle.include_checker.proofs.Taking.{all_others}
use Rattle.include_checker.proofs.left.is_left.Goals as goal

pub returns : goal.returns
returns c =
    all_from_yields_List (λ t. not (nat_eq t c.args.text)) _ _ c.all.result c.all.ensures.ran (YieldsList-from_slice c.args.taken.now cc) (λ x b q k. search (rules, tests))
    ∙ all_others c.args.taken.now c.args.text
