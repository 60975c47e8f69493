use Rattle.std.proofs.Common.{rules, ◌≡◌, suc, ◌-◌, ◌<◌, ◌≤◌, ◌^◌, length, arith}
use Rattle.command_lines.specs.Words.{IsBaseAt}
use Rattle.command_lines.proofs.Running.{has_run, no_run}
use Rattle.command_lines.proofs.run_words.run_of.Goals as goal

pub returns-then-not-is_base_at-clause-formless : goal.returns-then-not-is_base_at-clause-formless
returns-then-not-is_base_at-clause-formless c =
    let unfit : IsBaseAt c.args.words.now c.loop-at.at → ⊥ = search rules in
    let behind : 1 ≤ c.loop-at.at = search rules in
    let inside : suc c.loop-at.at < length c.args.words.now = omega (arith, c.loop-at-test.true, c.len-count.ensures) in
    no_run c.args.words.now c.requires (λ so. unfit (so.all c.loop-at.at behind inside))

pub returns-in_err-turns-clause-formless : goal.returns-in_err-turns-clause-formless
returns-in_err-turns-clause-formless c =
    let last : suc (c.len-count.result - 1) ≡ length c.args.words.now = omega (arith, c.len-count.ensures, c.if-count-lt3.false) in
    rw c.from_residual.ensures
    (no_run c.args.words.now c.requires (λ so. c.in_err-turns.ensures.none so.turns so.bounded (so.is (c.len-count.result - 1) last)))

pub returns-clause-form : goal.returns-clause-form
returns-clause-form c =
    let some : 3 ≤ length c.args.words.now = search rules in
    let few : length c.args.words.now ≤ 18 = search rules in
    let last : suc (c.len-count.result - 1) ≡ length c.args.words.now = omega (arith, c.len-count.ensures, some) in
    let bounded : c.in_ok-turns.turns < 2 ^ 64 = search rules in
    has_run c.args.words.now c.in_ok-turns.turns (c.len-count.result - 1) c.requires some few
    (λ k one less. c.loop-at.invariant k one (omega (arith, less, last, c.loop-at-test.false))) last c.in_ok-turns.ensures.some bounded
