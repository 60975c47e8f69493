use Rattle.std.proofs.Common.{rules, sym, ◌∙◌}
use Rattle.check_state.specs.Views.{names}
use Rattle.check_heads.proofs.TakenHeads.{all_taken, none_taken, one_more}
use Rattle.check_heads.proofs.scopes.heads_alone.Goals as goal

pub loop-name-init : goal.loop-name-init
loop-name-init c = none_taken c.in_ok-rest.rest c.args.names c.new-heads.result c.in_ok-rest.ensures c.new-heads.ensures

pub loop-name-preserved : goal.loop-name-preserved
loop-name-preserved c =
    one_more c.loop-name.rest c.pop_first.new.self c.in-Some.name.items c.as_slice.result.now c.in-Some.meaning c.deref.result.now (names c.loop-name.heads)
    (names c.and_head.new.heads) _ c.in-Some.ensures.meaning c.in-Some.ensures.left c.as_slice.ensures.value c.deref.ensures c.in_ok-and_head.ensures c.loop-name.invariant

pub returns : goal.returns
returns c = sym (all_taken c.loop-name.rest (names c.loop-name.heads) (search rules)) ∙ c.loop-name.invariant
