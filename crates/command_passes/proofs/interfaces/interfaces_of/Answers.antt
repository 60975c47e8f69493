use Rattle.std.proofs.Common.{◌≡◌, None, Some, get_or, slice_get, add-one, arith}
use Rattle.std.proofs.lemmas.Option.{slice_get-get_or}
use Rattle.std.proofs.lemmas.Result.{err_from_is_err_and}
use Rattle.syntax_trees.specs.PlainSyntax.{syntax}
use Rattle.command_rules.specs.checked_texts.specs.Asked.{asks}
use Rattle.command_rules.specs.Modules.{interface_for}
use Rattle.command_passes.proofs.Passed.{memory_ends}
use Rattle.command_passes.proofs.Steps.{fails_turn, gives_turn, no_turns}
use Rattle.command_passes.proofs.interfaces.interfaces_of.Goals as goal

pub items-init : goal.items-init
items-init g c = rw c.new-all.ensures.items (no_turns interface_for _)

pub returns-in-Err-clause-passes : goal.returns-in-Err-clause-passes
returns-in-Err-clause-passes g c =
    let all = asks (syntax c.args.tree.now) in
    let asked = get_or all c.items.number None in
    let is : slice_get all c.items.number ≡ Some asked = slice_get-get_or all c.items.number None (omega arith) in
    fails_turn interface_for all c.items.number asked _ _ _ _ _ is c.items.invariant (c.in-Err.ensures.passes asked is)

pub returns-in_err-push-clause-passes : goal.returns-in_err-push-clause-passes
returns-in_err-push-clause-passes g c =
    let p = err_from_is_err_and c.from_residual.result c.from_residual.ensures.1 in
    rw p.1 (memory_ends _ _ _ p.0 p.2)

pub items-preserved : goal.items-preserved
items-preserved g c =
    let all = asks (syntax c.args.tree.now) in
    let asked = get_or all c.items.number None in
    let is : slice_get all c.items.number ≡ Some asked = slice_get-get_or all c.items.number None (omega arith) in
    rw (c.in_ok-push.ensures.items, add-one)
    (gives_turn interface_for all c.items.number asked _ _ _ _ _ is c.items.invariant (c.in-Ok.ensures.passes asked is))
