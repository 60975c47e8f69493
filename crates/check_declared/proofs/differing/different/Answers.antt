use Rattle.std.proofs.Common.{rules, ◌∙◌, sym}
use Rattle.check_declared.proofs.NameLaws.{name_is_new, name_is_there, no_name_left, has_one_more}
use Rattle.check_declared.proofs.differing.different.Goals as goal

pub returns-then-has-clause-outcome : goal.returns-then-has-clause-outcome
returns-then-has-clause-outcome c = λ before knows _.
    let now = c.loop-name.invariant before knows in
    now.0 ∙ name_is_there before c.args.names.now c.loop-name.name-index c.name-item.result (search rules) (search rules) (rw (sym (now.1 c.name-item.result.name)) (search rules))

pub loop-name-preserved : goal.loop-name-preserved
loop-name-preserved c = λ before knows.
    let now = c.loop-name.invariant before knows in (
      now.0 ∙ name_is_new before c.args.names.now c.loop-name.name-index c.name-item.result (search rules) (search rules) (rw (sym (now.1 c.name-item.result.name)) (search rules)),
      has_one_more c.loop-name.taken c.declare.new.self before c.args.names.now c.loop-name.name-index c.name-item.result (search rules) (search rules) (search rules) now.1,
    )

pub returns-clause-outcome : goal.returns-clause-outcome
returns-clause-outcome c = λ before knows. (c.loop-name.invariant before knows).0 ∙ no_name_left _ c.args.names.now c.loop-name.name-index (search rules)
