use Rattle.std.proofs.Common.{rules, sym, ap, ◌∙◌}
use Rattle.check_state.specs.Views.{around, state}
use Rattle.check_rules.specs.Steps.{State}
use Rattle.check_programs.specs.Found.{Found}
use Rattle.check_programs.specs.Views as view
use Rattle.check_programs.proofs.AgainLoops.{so_far_at, so_far_out}
use Rattle.check_programs.proofs.trying.AgainTriesDeclaration.begin.Goals as goal

pub loop-one-preserved : goal.loop-one-preserved
loop-one-preserved g c =
    c.loop-one.invariant
    ∙ so_far_at (around c.args.self.now.around.now) c.args.self.now.before.now c.loop-one.one-index c.one-item.result (search rules) (search rules)
    (view.found c.loop-one.found) (state c.loop-one.state) (view.found c.declaration.new.found, state c.declaration.new.state)
    (rw (← c.in_ok-numbers.ensures.procedure, ← c.in_ok-numbers.ensures.signal) (search rules))

pub returns : goal.returns
returns g c =
    sym (ap (λ (x : Found × State). x.1) (c.loop-one.invariant
    ∙ so_far_out (around c.args.self.now.around.now) c.args.self.now.before.now c.loop-one.one-index (view.found c.loop-one.found, state c.loop-one.state) (search rules)))
