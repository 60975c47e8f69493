use Rattle.std.proofs.Common.{sym, subst}
use Rattle.survey_code.specs.Around.{IsHolder}
use Rattle.survey_code.proofs.Holding.{holder_before}
use Rattle.survey_code.proofs.around.holder_of.Goals as goal

pub returns : goal.returns
returns c =
    let b = c.phrases_begun-count.ensures in
    subst (λ o. IsHolder c.args.table.now c.args.at o) (sym c.phrase_before.ensures) (holder_before c.args.table.now c.args.at c.phrases_begun-count.result b.bound b.begun b.rest)
