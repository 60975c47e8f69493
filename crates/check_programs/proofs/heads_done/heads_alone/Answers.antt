use Rattle.std.proofs.Common.{Some, sym, ap, ◌∙◌}
use Rattle.check_scopes.specs.Scopes.{with_name}
use Rattle.check_scopes.specs.Shows.{means, valued}
use Rattle.check_rules.specs.Programs.{heads_alone, hidden_unless_head}
use Rattle.check_state.specs.Views.{meaning, names, seen_as}
use Rattle.check_programs.proofs.HeadScopes.{still, still_begin, still_end, still_next}
use Rattle.check_programs.proofs.heads_done.heads_alone.Goals as goal

pub loop-name-init : goal.loop-name-init
unfolding names
loop-name-init c =
    ap (λ s. still (valued c.in_ok-rest.rest) (seen_as meaning s)) c.new-alone.ensures
    ∙ still_begin (valued c.in_ok-rest.rest) ∙ ap (λ s. heads_alone (seen_as meaning s)) c.in_ok-rest.ensures

pub loop-name-preserved : goal.loop-name-preserved
unfolding names
loop-name-preserved c =
    still_next c.loop-name.rest c.pop_first.new.self (means c.loop-name.alone) (means c.declare.new.self) c.in-Some.name.items c.in-Some.meaning c.in_ok-meaning.meaning
    c.in-Some.ensures.meaning c.in-Some.ensures.left
    (c.in_ok-meaning.ensures ∙ ap (λ m. hidden_unless_head (Some (meaning m))) c.deref.ensures)
    (c.in_ok-declare.ensures.ok ∙ ap (λ y. with_name y c.in_ok-meaning.meaning (means c.loop-name.alone)) c.as_slice.ensures.value)
    ∙ c.loop-name.invariant

pub returns : goal.returns
returns c = sym (still_end c.loop-name.rest (names c.loop-name.alone) c.in_default.ensures.none) ∙ c.loop-name.invariant
