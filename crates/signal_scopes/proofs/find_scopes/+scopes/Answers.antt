use Rattle.std.proofs.Common.{◌∙◌}
use Rattle.signal_scopes.specs.Views.{jumps_of, phrase_of, phrases_of}
use Rattle.signal_scopes.proofs.Steps.{filled, found_in_three, found_in_two, of_block, of_block_jumps, of_for, of_return, of_select, placed, same_jumps, same_phrases}
use Rattle.signal_scopes.proofs.find_scopes.+scopes.Goals as goal

pub find_in_phrase-returns : goal.find_in_phrase-returns
find_in_phrase-returns t c =
    filled phrase_of c.args.phrases.now c.push.new.self c.find_in_arms.new.phrases c.set.new.self _ _ _ c.len-at.result
    c.len-at.ensures c.in_ok-push.ensures.ok c.in_ok-arms.ensures.phrases c.set.ensures
    ∙ placed c.args.catching.now c.in-Catch.statement _ c.as_slice.result.now c.in_ok-arms.arms _ c.in-Catch.is c.as_slice.ensures c.in_ok-arms.ensures.arms

pub find_in_stmt-returns-in_ok-find_in_cases-in-Select-clause-jumps : goal.find_in_stmt-returns-in_ok-find_in_cases-in-Select-clause-jumps
find_in_stmt-returns-in_ok-find_in_cases-in-Select-clause-jumps t c =
    found_in_three c.find_in_stmt-in-Select.result (jumps_of c.find_in_stmt-in-Select.new.jumps) _ _ _ _ _ _ _
    c.in_ok-find_in_expr-in-Select.ensures.jumps c.in_ok-find_in_cases-in-Select.ensures.jumps c.find_in_stmt-in-Select.ensures.jumps
    (same_jumps _ _ (of_select c.args.s.now c.in-Select.e _ _ c.as_slice-in-Select.result.now c.get-in-Select.result.now
    c.in-Select.is c.as_slice-in-Select.ensures c.get-in-Select.ensures))

pub find_in_stmt-returns-in_ok-find_in_cases-in-Select-clause-phrases : goal.find_in_stmt-returns-in_ok-find_in_cases-in-Select-clause-phrases
find_in_stmt-returns-in_ok-find_in_cases-in-Select-clause-phrases t c =
    found_in_three c.find_in_stmt-in-Select.result (phrases_of c.find_in_stmt-in-Select.new.phrases) _ _ _ _ _ _ _
    c.in_ok-find_in_expr-in-Select.ensures.phrases c.in_ok-find_in_cases-in-Select.ensures.phrases c.find_in_stmt-in-Select.ensures.phrases
    (same_phrases _ _ (of_select c.args.s.now c.in-Select.e _ _ c.as_slice-in-Select.result.now c.get-in-Select.result.now
    c.in-Select.is c.as_slice-in-Select.ensures c.get-in-Select.ensures))

pub find_in_stmt-returns-in_ok-find_in_stmts-in-Block-clause-jumps : goal.find_in_stmt-returns-in_ok-find_in_stmts-in-Block-clause-jumps
find_in_stmt-returns-in_ok-find_in_stmts-in-Block-clause-jumps t c =
    found_in_two c.find_in_exits.result (jumps_of c.find_in_exits.new.jumps) _ _ _ _ _
    c.in_ok-find_in_stmts-in-Block.ensures.jumps c.find_in_exits.ensures.jumps
    (of_block_jumps c.args.s.now _ _ _ c.as_slice-in-Block.result.now c.as_slice-in-Block-2.result.now
    c.in-Block.is c.as_slice-in-Block.ensures c.as_slice-in-Block-2.ensures)

pub find_in_stmt-returns-in_ok-find_in_stmts-in-Block-clause-phrases : goal.find_in_stmt-returns-in_ok-find_in_stmts-in-Block-clause-phrases
find_in_stmt-returns-in_ok-find_in_stmts-in-Block-clause-phrases t c =
    found_in_three c.find_in_exits.result (phrases_of c.find_in_exits.new.phrases) _ _ _ _ _ _ _
    c.in_ok-find_in_phrase-in-Block.ensures c.in_ok-find_in_stmts-in-Block.ensures.phrases c.find_in_exits.ensures.phrases
    (same_phrases _ _ (of_block c.args.s.now _ _ _ c.get-in-Block.result.now c.as_slice-in-Block.result.now c.as_slice-in-Block-2.result.now
    c.in-Block.is c.get-in-Block.ensures c.as_slice-in-Block.ensures c.as_slice-in-Block-2.ensures))

pub find_in_stmt-returns-in_ok-find_in_interval-in-For-clause-jumps : goal.find_in_stmt-returns-in_ok-find_in_interval-in-For-clause-jumps
find_in_stmt-returns-in_ok-find_in_interval-in-For-clause-jumps t c =
    found_in_two c.find_in_loop-in-For.result (jumps_of c.find_in_loop-in-For.new.jumps) _ _ _ _ _
    c.in_ok-find_in_interval-in-For.ensures.jumps c.find_in_loop-in-For.ensures.jumps
    (same_jumps _ _ (of_for c.args.s.now _ _ _ _ _ c.get-in-For.result.now c.get-in-For-2.result.now c.in-For.is c.get-in-For.ensures c.get-in-For-2.ensures))

pub find_in_stmt-returns-in_ok-find_in_interval-in-For-clause-phrases : goal.find_in_stmt-returns-in_ok-find_in_interval-in-For-clause-phrases
find_in_stmt-returns-in_ok-find_in_interval-in-For-clause-phrases t c =
    found_in_two c.find_in_loop-in-For.result (phrases_of c.find_in_loop-in-For.new.phrases) _ _ _ _ _
    c.in_ok-find_in_interval-in-For.ensures.phrases c.find_in_loop-in-For.ensures.phrases
    (same_phrases _ _ (of_for c.args.s.now _ _ _ _ _ c.get-in-For.result.now c.get-in-For-2.result.now c.in-For.is c.get-in-For.ensures c.get-in-For-2.ensures))

pub find_in_stmt-returns-in_ok-find_in_exprs-in-ReturnWith-clause-jumps : goal.find_in_stmt-returns-in_ok-find_in_exprs-in-ReturnWith-clause-jumps
find_in_stmt-returns-in_ok-find_in_exprs-in-ReturnWith-clause-jumps t c =
    found_in_two c.put_jump-in-ReturnWith.result (jumps_of c.put_jump-in-ReturnWith.new.jumps) _ _ _ _ _
    c.in_ok-find_in_exprs-in-ReturnWith.ensures.jumps c.put_jump-in-ReturnWith.ensures
    (same_jumps _ _ (of_return c.args.s.now _ _ _ _ c.as_slice-in-ReturnWith.result.now c.in-ReturnWith.is c.as_slice-in-ReturnWith.ensures))
