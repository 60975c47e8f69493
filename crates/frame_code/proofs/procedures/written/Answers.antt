-- The words and the block of a procedure have the room that its code asks.
use Rattle.std.proofs.Common.{◌+◌, ap}
use Rattle.std.proofs.lemmas.Result.{IfOk-weaker}
use Rattle.mesa_types.specs.Plain.{stmt}
use Rattle.code_bodies.specs.code_trees.specs.Plain.{plain}
use Rattle.code_bodies.specs.code_trees.specs.Routines.{coded}
use Rattle.frame_code.specs.Heads.{procedure_in}
use Rattle.frame_code.proofs.Written.{slots_fit, numbers_fit, can_be_written, is_its_code}
use Rattle.frame_code.proofs.procedures.written.Goals as goal

pub block-requires-clause-room : goal.block-requires-clause-room
block-requires-clause-room c =
    slots_fit (coded c.args.routine.now) (procedure_in c.args.placed) c.requires _ _ (ap (λ n. n + 16) c.args.routine.now.locals.words_are)
    (ap stmt c.get.ensures)

pub block-requires-clause-fits : goal.block-requires-clause-fits
block-requires-clause-fits c =
    numbers_fit (coded c.args.routine.now) (procedure_in c.args.placed) c.requires _ _ (ap (λ n. n + 16) c.args.routine.now.locals.words_are)
    (ap stmt c.get.ensures)

pub write_procedure-code-requires-clause-bounds : goal.write_procedure-code-requires-clause-bounds
write_procedure-code-requires-clause-bounds c =
    can_be_written (coded c.args.routine.now) (procedure_in c.args.placed) c.requires _ _ (ap (λ n. n + 16) c.args.routine.now.locals.words_are)
    (ap stmt c.get.ensures) (plain c.in_ok-part.part.block) c.in_ok-part.ensures.block

pub returns : goal.returns
returns c =
    IfOk-weaker c.write_procedure-code.result _ _ (λ made own.
    is_its_code (coded c.args.routine.now) (procedure_in c.args.placed) c.requires _ _ (ap (λ n. n + 16) c.args.routine.now.locals.words_are)
    (ap stmt c.get.ensures) (plain c.in_ok-part.part.block)
    (record { args = c.few_words.result; results = c.few_words-2.result; frame = c.block.new.next }) made c.in_ok-part.ensures.block
    c.few_words.ensures c.few_words-2.ensures c.in_ok-part.ensures.next own) c.write_procedure-code.ensures.code
