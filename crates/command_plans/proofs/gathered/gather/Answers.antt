use Rattle.std.proofs.lemmas.Result.{err_from_is_err_and}
use Rattle.command_passes.specs.Stops.{stop_case}
use Rattle.command_plans.proofs.Gathering.{few_texts, gathered_both, not_gathered, texts_fail}
use Rattle.command_plans.proofs.gathered.gather.Goals as goal

pub returns-in_err-texts-clause-gathers : goal.returns-in_err-texts-clause-gathers
returns-in_err-texts-clause-gathers g c =
    let p = err_from_is_err_and c.from_residual.result c.from_residual.ensures.1 in
    rw (p.1, p.2) (texts_fail c.args.bases.now _ _ (stop_case c.in_err-texts.field-0.0) c.in_err-texts.ensures.passes)

pub found_of-found-requires-clause-few : goal.found_of-found-requires-clause-few
found_of-found-requires-clause-few g c =
    rw c.as_slice.ensures (few_texts c.args.bases.now _ _ c.in_ok-texts.texts c.in_ok-texts.ensures.passes c.requires.few)

pub returns-in_err-texts-2-clause-gathers : goal.returns-in_err-texts-2-clause-gathers
returns-in_err-texts-2-clause-gathers g c =
    let p = err_from_is_err_and c.from_residual-in_err-texts-2.result c.from_residual-in_err-texts-2.ensures.1 in
    rw (p.1, p.2)
    (not_gathered c.args.bases.now _ _ _ c.in_ok-texts.texts c.in_ok-texts.ensures.passes c.found_of-found.result c.in_err-texts-2.field-0.0 c.in_err-texts-2.ensures
    (rw c.as_slice.ensures at c.found_of-found.ensures.finds))

pub returns-clause-gathers : goal.returns-clause-gathers
returns-clause-gathers g c =
    gathered_both c.args.bases.now _ _ _ c.in_ok-texts.texts c.in_ok-texts.ensures.passes c.found_of-found.result c.in_ok-texts-2.texts c.in_ok-texts-2.found
    c.requires.few c.in_ok-texts.ensures.plain c.in_ok-texts-2.ensures.0 c.in_ok-texts-2.ensures.1 (rw c.as_slice.ensures at c.found_of-found.ensures.finds)
