use Rattle.std.proofs.Common.{◌∙◌}
use Rattle.std.proofs.lemmas.Result.{err_from_is_err_and}
use Rattle.command_passes.specs.Stops.{stop_case}
use Rattle.command_passes.proofs.Passed.{memory_ends}
use Rattle.command_plans.proofs.TextsRead.{text_had, text_not_had}
use Rattle.command_plans.proofs.texts.text_entry.Goals as goal

pub returns-in_err-file-clause-passes : goal.returns-in_err-file-clause-passes
returns-in_err-file-clause-passes g c =
    let p = err_from_is_err_and c.from_residual.result c.from_residual.ensures.1 in
    rw p.1 (memory_ends _ _ _ p.0 p.2)

pub returns-in_err-base-clause-passes : goal.returns-in_err-base-clause-passes
returns-in_err-base-clause-passes g c =
    let p = err_from_is_err_and c.from_residual-in_err-base.result c.from_residual-in_err-base.ensures.1 in
    rw p.1 (memory_ends _ _ _ p.0 p.2)

pub returns-in-Ok-clause-passes : goal.returns-in-Ok-clause-passes
returns-in-Ok-clause-passes g c =
    text_had c.args.base.now c.in_ok-file.file (rw c.as_slice.ensures at c.in_ok-file.ensures) _ _ c.in-Ok.«module» c.in_ok-base.base
    (c.in_ok-base.ensures ∙ c.as_slice-2.ensures) c.in-Ok.ensures.passes

pub returns-in-Err-clause-passes : goal.returns-in-Err-clause-passes
returns-in-Err-clause-passes g c =
    text_not_had c.args.base.now c.in_ok-file.file (rw c.as_slice.ensures at c.in_ok-file.ensures) _ _ (stop_case c.in-Err.why) c.in-Err.ensures.passes
