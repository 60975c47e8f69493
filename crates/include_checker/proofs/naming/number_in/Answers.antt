use Rattle.std.proofs.Common.{List, ℕ, bytes_eq, rules, tests, sym, ◌∙◌}
use Rattle.std.proofs.lemmas.Iterator.{YieldsList-from_slice}
use Rattle.std.proofs.lemmas.Iterator.Search.{position_from_yields_List}
use Rattle.include_checker.proofs.naming.number_in.Goals as goal

pub returns-in-Some : goal.returns-in-Some
returns-in-Some c =
    sym c.in-Some.is
    ∙ position_from_yields_List (λ (b : List ℕ). bytes_eq b c.args.base.now) _ _ c.position.result c.position.ensures.ran (YieldsList-from_slice c.args.bases.now cc) (λ x b q k. search (rules, tests))

pub returns-in-None : goal.returns-in-None
returns-in-None c =
    sym c.in-None.is
    ∙ position_from_yields_List (λ (b : List ℕ). bytes_eq b c.args.base.now) _ _ c.position.result c.position.ensures.ran (YieldsList-from_slice c.args.bases.now cc) (λ x b q k. search (rules, tests))
