use Rattle.std.proofs.Common.{rules, ◌∙◌, sym, refl, true, [], ◌∷◌}
use Rattle.check_state.specs.Views.{names}
use Rattle.check_directory.proofs.ItemLaws.{used_unknown, used_twice, used_once, used_end, scope_has}
use Rattle.check_directory.proofs.ListLaws.{none_before, one_before}
use Rattle.check_directory.proofs.directories.used_names.Goals as goal

pub loop-name-init : goal.loop-name-init
loop-name-init c = ([], none_before c.new-before.result (search rules), refl)

pub loop-name-preserved : goal.loop-name-preserved
loop-name-preserved c =
    let now = c.loop-name.invariant in (
      c.name-item.result.name ∷ now.0,
      one_before c.loop-name.before c.declare.new.self c.name-item.result.name true now.0 now.1 (search rules),
      now.2 ∙ used_once (names c.args.scope.now) now.0 c.args.names.now c.loop-name.name-index c.name-item.result (search rules) (search rules)
          (rw (scope_has c.args.scope.now c.name-item.result.name) (search rules)) (rw (sym (now.1 c.name-item.result.name)) (search rules)),
    )

pub returns : goal.returns
returns c = c.loop-name.invariant.2 ∙ used_end (names c.args.scope.now) c.loop-name.invariant.0 c.args.names.now c.loop-name.name-index (search rules)

pub returns-then-not-has : goal.returns-then-not-has
returns-then-not-has c = λ _.
    c.loop-name.invariant.2 ∙ used_unknown (names c.args.scope.now) c.loop-name.invariant.0 c.args.names.now c.loop-name.name-index c.name-item.result (search rules) (search rules)
    (rw (scope_has c.args.scope.now c.name-item.result.name) (search rules))

pub returns-then-has : goal.returns-then-has
returns-then-has c = λ _.
    let now = c.loop-name.invariant in
    now.2 ∙ used_twice (names c.args.scope.now) now.0 c.args.names.now c.loop-name.name-index c.name-item.result (search rules) (search rules)
    (rw (scope_has c.args.scope.now c.name-item.result.name) (search rules)) (rw (sym (now.1 c.name-item.result.name)) (search rules))
