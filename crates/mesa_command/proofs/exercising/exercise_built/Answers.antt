use Rattle.std.proofs.Common.{refl}
use Rattle.std.proofs.lemmas.Result.{err_from_is_err_and}
use Rattle.mesa_command.proofs.Exercised.{no_room_built}
use Rattle.mesa_command.proofs.exercising.exercise_built.Goals as goal

pub returns-in_err-folder : goal.returns-in_err-folder
returns-in_err-folder c =
    let p = err_from_is_err_and c.from_residual.result c.from_residual.ensures.1 in
    rw p.1 (no_room_built c.args.links p.0 p.2)

pub built-requires : goal.built-requires
built-requires c = refl

pub returns : goal.returns
returns c = record { folder = _; faultless = refl; goes = rw c.in_ok-folder.ensures at c.built.ensures }
