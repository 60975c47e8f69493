use Rattle.std.proofs.Common.{rules}
use Rattle.code_trees.specs.Plain.{plain}
use Rattle.code_writer.proofs.Same.{same_procedure}
use Rattle.code_writer.proofs.procedure.write_procedure.Goals as goal

pub returns-clause-code : goal.returns-clause-code
returns-clause-code c = λ m p body named sized.
    same_procedure _ c.args.name.now c.args.words (plain c.args.body.now) (search rules) m p body named sized
