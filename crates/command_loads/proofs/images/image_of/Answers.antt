use Rattle.std.proofs.lemmas.Result.{err_from_is_err_and}
use Rattle.command_passes.proofs.Passed.{memory_ends}
use Rattle.command_loads.proofs.Reading.{image_passes}
use Rattle.command_loads.proofs.images.image_of.Goals as goal

pub returns-in_err-file-clause-passes : goal.returns-in_err-file-clause-passes
returns-in_err-file-clause-passes g c =
    let p = err_from_is_err_and c.from_residual.result c.from_residual.ensures.1 in
    rw p.1 (memory_ends _ _ _ p.0 p.2)

pub returns-clause-passes : goal.returns-clause-passes
returns-clause-passes g c =
    image_passes c.args.base.now c.in_ok-file.file c.in_ok-file.ensures _ _ c.image_of_file.result c.image_of_file.ensures.passes
