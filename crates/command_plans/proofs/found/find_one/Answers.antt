use Rattle.std.proofs.lemmas.Result.{err_from_is_err_and}
use Rattle.command_passes.proofs.Passed.{memory_ends}
use Rattle.command_plans.proofs.found.find_one.Goals as goal

pub returns-in_err-put_made-in-Ok-clause-finds : goal.returns-in_err-put_made-in-Ok-clause-finds
returns-in_err-put_made-in-Ok-clause-finds g c =
    let p = err_from_is_err_and c.from_residual.result c.from_residual.ensures.1 in
    rw p.1 (memory_ends _ _ _ p.0 p.2)
