use Rattle.std.proofs.Common.{Err, [], ◌∷◌, ◌++◌}
use Rattle.std.proofs.lemmas.Result.{err_from_is_err_and}
use Rattle.command_passes.specs.Stops.{stop_case}
use Rattle.command_passes.specs.command_rules.specs.Comes.{each_holding}
use Rattle.command_passes.specs.command_rules.specs.Forms.{image_file}
use Rattle.command_passes.specs.command_rules.specs.Writing.{OfImage, holding}
use Rattle.command_writes.proofs.Behind.{ends_asked, ends_behind, not_stored_before}
use Rattle.command_writes.proofs.programs.program_written.Goals as goal

pub returns-in_err-objects_written : goal.returns-in_err-objects_written
returns-in_err-objects_written g c = λ os i trail before zipped is asked.
    let p = err_from_is_err_and c.from_residual.result c.from_residual.ensures.1 in
    let objects = each_holding c.args.bases.now os in
    let image = holding (image_file c.args.base.now) (OfImage i) ∷ [] in
    rw (p.1, p.2)
    (ends_asked (objects ++ image) trail before _ _ (Err c.in_err-objects_written.field-0.0) asked
    (not_stored_before objects image [] _ _ (stop_case c.in_err-objects_written.field-0.0) (c.in_err-objects_written.ensures.stored os zipped)))

pub returns : goal.returns
returns g c = λ os i trail before zipped is asked.
    let objects = each_holding c.args.bases.now os in
    let image = holding (image_file c.args.base.now) (OfImage i) ∷ [] in
    ends_asked (objects ++ image) trail before _ _ c.named_written.result asked
    (ends_behind objects image [] _ _ _ c.named_written.result c.in_ok-objects_written.ensures.faults_stay (c.in_ok-objects_written.ensures.stored os zipped)
    (c.named_written.ensures.stored (OfImage i) is))
