use Rattle.std.proofs.Common.{◌≡◌, [], sym, ap, ◌∙◌, Err}
use Rattle.std.proofs.lemmas.Result.{err_from_is_err_and}
use Rattle.config_rules.specs.cmesa_grammar.specs.Plain.{plain}
use Rattle.config_rules.specs.Through.{Answer, through}
use Rattle.config_rules.specs.Tree.{modules_with}
use Rattle.config_rules.specs.declared.fault.TreeFault.{TreeFault}
use Rattle.config_rules.specs.declared.tree.Tree.{Tree}
use Rattle.config_tree.proofs.Ending.{expanded, refused, stays_within, tree_in}
use Rattle.config_tree.proofs.expanding.expand.Goals as goal

pub returns-in_err-template-clause-tree : goal.returns-in_err-template-clause-tree
returns-in_err-template-clause-tree c =
    let p = err_from_is_err_and c.from_residual-in_err-template.result c.from_residual-in_err-template.ensures.1 in
    let answer : Answer Tree = c.from_residual-in_err-template.result in
    let is : answer ≡ Err c.in_err-template.field-0.0 = p.1 ∙ ap (λ (f : TreeFault). Err f) p.2 in
    refused (plain c.args.config.now) c.as_slice.result.now c.args.shapes.now c.as_slice-shapes.result.now (c.as_slice.ensures ∙ c.in_ok-components.ensures) c.as_slice-shapes.ensures
    c.in_err-template.field-0.0 answer is c.in_err-template.ensures

pub finished-tree-requires-clause-within : goal.finished-tree-requires-clause-within
finished-tree-requires-clause-within c =
    stays_within (plain c.args.config.now) c.as_slice.result.now c.args.shapes.now c.as_slice-shapes.result.now (c.as_slice.ensures ∙ c.in_ok-components.ensures) c.as_slice-shapes.ensures
    c.in_ok-template.template c.requires.one_each c.in_ok-template.ensures

pub returns-clause-tree : goal.returns-clause-tree
returns-clause-tree c =
    let config = plain c.args.config.now in
    let shapes = c.as_slice-shapes.result.now in
    let again = c.as_slice-2.ensures ∙ sym c.as_slice.ensures in
    expanded config c.as_slice-2.result.now c.args.shapes.now shapes (c.as_slice-2.ensures ∙ c.in_ok-components.ensures) c.as_slice-shapes.ensures c.in_ok-template.template c.finished-tree.result
    ((λ j. through (modules_with (again j) shapes) 1 [] config.outermost) ∙ c.in_ok-template.ensures) c.finished-tree.ensures

pub returns-clause-in_order : goal.returns-clause-in_order
returns-clause-in_order c =
    let config = plain c.args.config.now in
    let shapes = c.as_slice-shapes.result.now in
    let again = c.as_slice-2.ensures ∙ sym c.as_slice.ensures in
    tree_in config c.args.shapes.now c.finished-tree.result c.requires.one_each
    (expanded config c.as_slice-2.result.now c.args.shapes.now shapes (c.as_slice-2.ensures ∙ c.in_ok-components.ensures) c.as_slice-shapes.ensures c.in_ok-template.template c.finished-tree.result
    ((λ j. through (modules_with (again j) shapes) 1 [] config.outermost) ∙ c.in_ok-template.ensures) c.finished-tree.ensures)
