use Rattle.std.proofs.Common.{rules, ◌<◌, ◌≤◌, length}
use Rattle.command_lines.specs.Words.{IsFit}
use Rattle.command_lines.proofs.Planning.{has_plan, no_plan}
use Rattle.command_lines.proofs.plan_words.plan_of.Goals as goal

pub returns-then-not-is_fit-clause-formless : goal.returns-then-not-is_fit-clause-formless
returns-then-not-is_fit-clause-formless c =
    let unfit : IsFit c.args.words.now c.loop-at.at → ⊥ = search rules in
    let behind : 1 ≤ c.loop-at.at = search rules in
    let inside : c.loop-at.at < length c.args.words.now = search rules in
    no_plan c.args.words.now c.requires (λ so. unfit (so.all c.loop-at.at behind inside))

pub returns-clause-form : goal.returns-clause-form
returns-clause-form c =
    let some : 2 ≤ length c.args.words.now = search rules in
    let few : length c.args.words.now ≤ 65 = search rules in
    has_plan c.args.words.now c.requires some few
    (λ k one less. let before : k < c.loop-at.at = search rules in c.loop-at.invariant k one before)
