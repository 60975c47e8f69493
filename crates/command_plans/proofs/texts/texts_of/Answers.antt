use Rattle.std.proofs.lemmas.List.Elements.{All-nil}
use Rattle.std.proofs.lemmas.Result.{err_from_is_err_and}
use Rattle.command_passes.specs.command_rules.specs.Planning.{text_in}
use Rattle.command_passes.proofs.Passed.{memory_ends}
use Rattle.command_passes.proofs.Steps.{no_turns}
use Rattle.command_plans.specs.Made.{IsPlainText}
use Rattle.command_plans.proofs.TextsRead.{no_text_more, one_text_more, plain_more}
use Rattle.command_plans.proofs.texts.texts_of.Goals as goal

pub loop-base-init : goal.loop-base-init
loop-base-init g c = (rw c.new-texts.ensures (no_turns text_in _), rw c.new-texts.ensures (All-nil IsPlainText))

pub loop-base-preserved : goal.loop-base-preserved
loop-base-preserved g c = (
  one_text_more c.args.bases.now c.loop-base.base-index c.base-item.result c.loop-base-test.true c.base-item.is _ _ _ c.loop-base.texts c.in_ok-texts.texts c.in-Ok.text
      c.in_ok-texts.ensures c.loop-base.invariant.0 c.in-Ok.ensures.passes,
  plain_more c.args.bases.now c.loop-base.base-index c.base-item.result c.loop-base.texts c.in_ok-texts.texts c.in-Ok.text c.loop-base-test.true c.base-item.is
      c.requires c.in-Ok.ensures.base c.in_ok-texts.ensures c.loop-base.invariant.1,
)

pub returns-in-Err-clause-passes : goal.returns-in-Err-clause-passes
returns-in-Err-clause-passes g c =
    no_text_more c.args.bases.now c.loop-base.base-index c.base-item.result c.loop-base-test.true c.base-item.is _ _ _ c.loop-base.texts _ c.loop-base.invariant.0
    c.in-Err.ensures.passes

pub returns-in_err-texts-clause-passes : goal.returns-in_err-texts-clause-passes
returns-in_err-texts-clause-passes g c =
    let p = err_from_is_err_and c.from_residual.result c.from_residual.ensures.1 in
    rw p.1 (memory_ends _ _ _ p.0 p.2)
