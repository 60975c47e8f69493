use Rattle.std.proofs.lemmas.Result.{err_from_is_err_and}
use Rattle.command_passes.specs.Stops.{stop_case}
use Rattle.command_plans.proofs.Finding.{none_found, not_found, one_found}
use Rattle.command_plans.proofs.found.find_all.Goals as goal

pub loop-number-init : goal.loop-number-init
loop-number-init g c = none_found _ c.args.found.now c.requires.empty

pub loop-number-preserved : goal.loop-number-preserved
loop-number-preserved g c =
    one_found c.args.texts.now c.loop-number.number c.index-texts-number.result c.loop-number-test.true c.index-texts-number.is _ _ _ c.loop-number.found
    c.find_one.new.found c.in_ok-find_one.ensures.onward c.loop-number.invariant c.in_ok-find_one.ensures.finds

pub returns-in_err-find_one-clause-finds : goal.returns-in_err-find_one-clause-finds
returns-in_err-find_one-clause-finds g c =
    let p = err_from_is_err_and c.from_residual.result c.from_residual.ensures.1 in
    rw (p.1, p.2)
    (not_found c.args.texts.now c.loop-number.number c.index-texts-number.result c.loop-number-test.true c.index-texts-number.is _ _ _ c.loop-number.found
    (stop_case c.in_err-find_one.field-0.0) c.loop-number.invariant c.in_err-find_one.ensures.finds)
