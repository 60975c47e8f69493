use Rattle.std.proofs.lemmas.Result.{err_from_is_err_and}
use Rattle.checked_texts.specs.Asked.{Interface}
use Rattle.checked_texts.proofs.Passing.{refused_is}
use Rattle.checked_texts.proofs.checking.checked_interface.Goals as goal

pub returns-in_err-check_definitions-clause-fault : goal.returns-in_err-check_definitions-clause-fault
returns-in_err-check_definitions-clause-fault c = λ text h.
    let p = err_from_is_err_and c.from_residual.result c.from_residual.ensures.1 in
    rw p.1
    (λ other. refused_is text (Interface c.args.stamp) c.args.interfaces.now c.args.tree.now _ p.0 h c.requires c.in_err-check_definitions.ensures p.2 other)
