use Rattle.std.proofs.Common.{List, ℕ, ◌≡◌, ◌-◌, length, take, drop, refl, ◌∙◌}
use Rattle.std.proofs.lemmas.List.{take_rest}
use Rattle.std.proofs.lemmas.Result.{IfOk-weaker}
use Rattle.include_rules.specs.Naming.{is_left}
use Rattle.include_checker.specs.Ways.{Ends}
use Rattle.include_checker.proofs.Walking.{ends_at, not_yet, never}
use Rattle.include_checker.proofs.cycle.way_from.Goals as goal

pub loop-at-init : goal.loop-at-init
unfolding is_left
loop-at-init c = refl

pub loop-at-preserved : goal.loop-at-preserved
loop-at-preserved c = not_yet c.args.way.now c.args.text c.loop-at.at c.loop-at-test.true c.if-other-text.false c.loop-at.invariant

pub returns-then-other-text : goal.returns-then-other-text
returns-then-other-text c =
    let way = c.args.way.now in
    let at = c.loop-at.at in
    IfOk-weaker c.from_slice.result (λ (l : List ℕ). l ≡ take (length way - at) (drop at way)) (Ends way c.args.text)
    (λ l e. ends_at way c.args.text at l c.loop-at-test.true c.if-other-text.true (e ∙ take_rest way at)) c.from_slice.ensures

pub unreachable-requires : goal.unreachable-requires
unreachable-requires c = never c.args.way.now c.args.text c.loop-at.at c.loop-at-test.false c.loop-at.invariant c.requires
