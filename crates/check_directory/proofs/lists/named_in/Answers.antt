use Rattle.std.proofs.Common.{rules, ◌∙◌, sym, refl, true, [], ◌∷◌}
use Rattle.check_directory.proofs.ListLaws.{listed_unknown, listed_twice, listed_once, listed_end, none_before, one_before}
use Rattle.check_directory.proofs.lists.named_in.Goals as goal

pub loop-name-init : goal.loop-name-init
loop-name-init c = ([], none_before c.new-before.result (search rules), λ all knows. refl)

pub loop-name-preserved : goal.loop-name-preserved
loop-name-preserved c =
    let now = c.loop-name.invariant in (
      c.name-item.result.name ∷ now.0,
      one_before c.loop-name.before c.declare.new.self c.name-item.result.name true now.0 now.1 (search rules),
      λ all knows. now.2 all knows ∙ listed_once all now.0 c.args.names.now c.loop-name.name-index c.name-item.result (search rules) (search rules)
          (rw (sym (knows c.name-item.result.name)) (search rules)) (rw (sym (now.1 c.name-item.result.name)) (search rules)),
    )

pub returns : goal.returns
returns c = λ all knows. c.loop-name.invariant.2 all knows ∙ listed_end all c.loop-name.invariant.0 c.args.names.now c.loop-name.name-index (search rules)

pub returns-then-not-has : goal.returns-then-not-has
returns-then-not-has c = λ all knows _.
    c.loop-name.invariant.2 all knows ∙ listed_unknown all c.loop-name.invariant.0 c.args.names.now c.loop-name.name-index c.name-item.result (search rules) (search rules)
    (rw (sym (knows c.name-item.result.name)) (search rules))

pub returns-then-has : goal.returns-then-has
returns-then-has c = λ all knows _.
    let now = c.loop-name.invariant in
    now.2 all knows ∙ listed_twice all now.0 c.args.names.now c.loop-name.name-index c.name-item.result (search rules) (search rules)
    (rw (sym (knows c.name-item.result.name)) (search rules)) (rw (sym (now.1 c.name-item.result.name)) (search rules))
