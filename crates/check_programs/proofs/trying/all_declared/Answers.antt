use Rattle.std.proofs.Common.{◌+◌, ◌-◌, rules, drop, length, take, refl, ◌∙◌}
use Rattle.std.proofs.lemmas.List.{take_rest}
use Rattle.check_state.specs.Gives.{fault}
use Rattle.check_state.specs.Views.{around, state}
use Rattle.check_programs.specs.Again.{so_far}
use Rattle.check_programs.specs.Found.{nothing_found}
use Rattle.check_programs.specs.Views as view
use Rattle.check_programs.proofs.AgainLoops.{so_far_next}
use Rattle.check_programs.proofs.CodeLoops.{found_at, found_out}
use Rattle.check_programs.proofs.FaultAgain.{fault_again}
use Rattle.check_programs.proofs.FoundLoops.{rest_begin}
use Rattle.check_programs.proofs.trying.all_declared.Goals as goal

pub loop-count-init : goal.loop-count-init
unfolding so_far
loop-count-init g c = record {
  rest = rw (c.new-found.ensures, c.in_ok-state.ensures) (rest_begin _ _ _);
  so_far = rw (c.new-found.ensures, c.in_ok-state.ensures) refl;
}

pub loop-count-preserved : goal.loop-count-preserved
loop-count-preserved g c = record {
  rest = c.loop-count.invariant.rest
      ∙ found_at c.args.declarations.now c.loop-count.count c.index-declarations-count.result (search rules) c.index-declarations-count.is (view.found c.loop-count.found)
      (around c.args.around.now) (state c.loop-count.state) (view.found c.declaration.new.found, state c.declaration.new.state)
      (rw (← c.in_ok-numbers.ensures.procedure, ← c.in_ok-numbers.ensures.signal) (search rules));
  so_far = so_far_next (around c.args.around.now) c.args.declarations.now c.loop-count.count c.index-declarations-count.result (search rules) c.index-declarations-count.is
      (nothing_found, g.S.Starts.begins c.args.start.now) (view.found c.declaration.new.found, state c.declaration.new.state) (view.found c.loop-count.found) (state c.loop-count.state)
      c.loop-count.invariant.so_far (rw (← c.in_ok-numbers.ensures.procedure, ← c.in_ok-numbers.ensures.signal) (search rules));
}

pub returns : goal.returns
returns g c =
    c.loop-count.invariant.rest
    ∙ found_out (view.found c.loop-count.found) (around c.args.around.now) c.args.declarations.now c.loop-count.count (state c.loop-count.state) (search rules)

pub returns-in-Err : goal.returns-in-Err
returns-in-Err g c = λ told.
    c.loop-count.invariant.rest
    ∙ fault_again (around c.args.around.now) (g.S.Starts.begins c.args.start.now) c.args.declarations.now (take c.loop-count.count c.args.declarations.now)
    (take (length c.args.declarations.now - (c.loop-count.count + 1)) (drop (c.loop-count.count + 1) c.args.declarations.now)) c.loop-count.count c.index-declarations-count.result c.in_ok-numbers.numbers.procedure
    c.in_ok-numbers.numbers.signal (view.found c.loop-count.found) (state c.loop-count.state) (fault c.second_fault.result) (search rules)
    c.index-declarations-count.is refl (take_rest c.args.declarations.now (c.loop-count.count + 1)) c.in_ok-numbers.ensures.procedure c.in_ok-numbers.ensures.signal c.loop-count.invariant.so_far
    (c.second_fault.ensures told)
