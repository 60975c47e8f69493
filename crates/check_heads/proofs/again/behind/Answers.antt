-- Where it has no fault the one of the two states goes on, and where it has one the other.
use Rattle.std.proofs.Common.{ap, sym, ◌∙◌}
use Rattle.check_state.specs.Views as words
use Rattle.check_heads.specs.Again.{is_fault, next}
use Rattle.check_heads.proofs.AgainLaws.{at_fault, declared_on, no_fault, passed_on}
use Rattle.check_heads.proofs.again.behind.Goals as goal

pub returns-in-Ok : goal.returns-in-Ok
returns-in-Ok g c =
    let named = g.T.Tries.named in
    let rule = g.T.Tries.rule c.args.tries.now (words.around c.args.around.now) in
    let d = c.args.one.now in
    let s = words.state c.in_ok-before.state in
    let t = words.state c.declare.new.state in
    declared_on named rule d s t _ (no_fault (rule d s) c.declare.result c.in-Ok.field-0 t c.in-Ok.is c.declare.ensures)
    ∙ ap (next named rule d) c.in_ok-before.ensures.1

pub returns-in_ok-pass_over-in-Err-At : goal.returns-in_ok-pass_over-in-Err-At
returns-in_ok-pass_over-in-Err-At g c =
    let named = g.T.Tries.named in
    let rule = g.T.Tries.rule c.args.tries.now (words.around c.args.around.now) in
    let d = c.args.one.now in
    let before = words.state c.in_ok-before.before in
    let s = words.state c.in_ok-before.state in
    let same = c.in_ok-before.ensures in
    passed_on named rule d c.names.result.now before (words.state c.pass_over.new.state)
    (at_fault (rule d s) c.declare.result c.in-Err-At.field-0 c.in-Err-At.field-0-0 c.in-Err-At.field-0-1 (words.state c.declare.new.state)
    c.in-Err-At.is c.in-Err-At.field-0-is c.declare.ensures ∙ ap (λ s. is_fault (rule d s)) (same.1 ∙ sym same.0))
    c.names.ensures c.in_ok-pass_over-in-Err-At.ensures
    ∙ ap (next named rule d) same.0
