-- The answers of a loop.
use Rattle.std.proofs.Common.{ap, arith, refl, sym, ◌∙◌}
use Rattle.std.specs.Prelude.{not}
use Rattle.code_blocks.specs.Blocks.{Ends, Here}
use Rattle.code_trees.proofs.ExitLaws.{none_left, past_left, some_left}
use Rattle.code_trees.proofs.LoopLaws.{loop_form, loop_hidden, looped_fits, rounds_fit}
use Rattle.code_trees.specs.Excess.{excess}
use Rattle.code_trees.specs.Forms.{blocks_of, counter_of}
use Rattle.code_trees.specs.Plain.{plain}
use Rattle.code_trees.specs.Routines.{coded}
use Rattle.code_trees.specs.declared.held_parts.Held.{Held}
use Rattle.code_trees.specs.declared.part.Part.{Part}
use Rattle.code_bodies.proofs.LoopWalks.{finish_hidden, finished_form, loop_body_fits, loop_exits_fit, loop_finish_fits, no_finish_hidden, rounds_same, unfinished_form, unless_same}
use Rattle.code_bodies.proofs.RowWalks.{made_as, next_held, next_made, part_made}
use Rattle.code_bodies.proofs.StatementWalks.{ended_part, held_made, looped_same}
use Rattle.code_bodies.proofs.+blocks.Goals as goal

pub loops::a_loop-room_for_condition-requires-clause-room : goal.loops::a_loop-room_for_condition-requires-clause-room
loops::a_loop-room_for_condition-requires-clause-room m c =
    omega (arith, loop_hidden (coded c.args.routine.now) c.args.next.now (counter_of c.args.counter) c.args.l.now _ refl, c.requires.room)

pub loops::a_loop-room_for_condition-requires-clause-fits : goal.loops::a_loop-room_for_condition-requires-clause-fits
loops::a_loop-room_for_condition-requires-clause-fits m c =
    (rounds_fit (coded c.args.routine.now) (counter_of c.args.counter) _ _
    (looped_fits _ _ _ _ (ap excess (sym (loop_form (coded c.args.routine.now) c.args.next.now (counter_of c.args.counter) c.args.l.now _ refl _ _ _
    refl refl refl)) ∙ c.requires.fits)).0).0

pub loops::a_loop-repeating-requires : goal.loops::a_loop-repeating-requires
loops::a_loop-repeating-requires m c =
    ap excess (rounds_same (coded c.args.routine.now) (counter_of c.args.counter) _ _ _ _ (ap (λ (p : Part). plain p.block) c.in_ok-kept.ensures.0
    ∙ c.in_ok-test.ensures.block) (part_made c.block.result c.in_ok-kept.made _ c.in_ok-kept.ensures.1 c.block.ensures.block))
    ∙ (looped_fits _ _ _ _ (ap excess (sym (loop_form (coded c.args.routine.now) c.args.next.now (counter_of c.args.counter) c.args.l.now _ refl
    c.control.new.next _ _ c.in_ok-test.ensures.next refl refl)) ∙ c.requires.fits)).0

pub loops::a_loop-looped-requires-clause-fits : goal.loops::a_loop-looped-requires-clause-fits
loops::a_loop-looped-requires-clause-fits m c =
    ap excess (looped_same _ _ _ _ _ _ _ (ap (λ (p : Part × Held). blocks_of p.1.parts.items) c.in_ok-parts-in-Some.ensures.0 ∙ held_made
    c.exits.result c.in_ok-turns.held _ c.in_ok-turns.ensures.1 c.exits.ensures.blocks) (ap (λ (p : Part × Held). plain p.0.block)
    c.in_ok-parts-in-Some.ensures.0 ∙ ap (λ (p : Part). plain p.block) c.in_ok-turns.ensures.0 ∙ c.in_ok-rounds.ensures ∙ rounds_same
    (coded c.args.routine.now) (counter_of c.args.counter) _ _ _ _ (ap (λ (p : Part). plain p.block) c.in_ok-kept.ensures.0
    ∙ c.in_ok-test.ensures.block) (part_made c.block.result c.in_ok-kept.made _ c.in_ok-kept.ensures.1 c.block.ensures.block))
    (part_made c.finished.result c.in_ok-parts-in-Some.last _ c.in_ok-parts-in-Some.ensures.1 c.finished.ensures.block ∙ unless_same _ _ _ _
    c.is_endless-endless.ensures (sym (finished_form (coded c.args.routine.now) c.exits.new.next _ _ _ _ c.in-Some.is
    (past_left c.as_slice-es.result.now _ _ refl (λ h. some_left _ (sym (ap not c.is_empty-jumps.ensures) ∙ h))
    (λ h. none_left _ (sym (ap not c.is_empty-jumps.ensures) ∙ h))))))) ∙ ended_part _ _
    (ap excess (sym (loop_form (coded c.args.routine.now) c.args.next.now (counter_of c.args.counter) c.args.l.now _ c.as_slice-es.ensures
    c.control.new.next c.block.new.next c.exits.new.next c.in_ok-test.ensures.next (next_made c.block.result c.in_ok-kept.made _ _
    c.in_ok-kept.ensures.1 c.block.ensures.next) (next_made c.exits.result c.in_ok-turns.held _ _ c.in_ok-turns.ensures.1 c.exits.ensures.next)))
    ∙ c.requires.fits)

pub loops::a_loop-returns-in_ok-parts-in-Some-clause-block : goal.loops::a_loop-returns-in_ok-parts-in-Some-clause-block
loops::a_loop-returns-in_ok-parts-in-Some-clause-block m c =
    made_as c.looped.result _ _ c.looped.ensures
    (ap (Ends (Here 0)) (looped_same _ _ _ _ _ _ _ (ap (λ (p : Part × Held). blocks_of p.1.parts.items) c.in_ok-parts-in-Some.ensures.0 ∙ held_made
    c.exits.result c.in_ok-turns.held _ c.in_ok-turns.ensures.1 c.exits.ensures.blocks) (ap (λ (p : Part × Held). plain p.0.block)
    c.in_ok-parts-in-Some.ensures.0 ∙ ap (λ (p : Part). plain p.block) c.in_ok-turns.ensures.0 ∙ c.in_ok-rounds.ensures ∙ rounds_same
    (coded c.args.routine.now) (counter_of c.args.counter) _ _ _ _ (ap (λ (p : Part). plain p.block) c.in_ok-kept.ensures.0
    ∙ c.in_ok-test.ensures.block) (part_made c.block.result c.in_ok-kept.made _ c.in_ok-kept.ensures.1 c.block.ensures.block))
    (part_made c.finished.result c.in_ok-parts-in-Some.last _ c.in_ok-parts-in-Some.ensures.1 c.finished.ensures.block ∙ unless_same _ _ _ _
    c.is_endless-endless.ensures (sym (finished_form (coded c.args.routine.now) c.exits.new.next _ _ _ _ c.in-Some.is
    (past_left c.as_slice-es.result.now _ _ refl (λ h. some_left _ (sym (ap not c.is_empty-jumps.ensures) ∙ h))
    (λ h. none_left _ (sym (ap not c.is_empty-jumps.ensures) ∙ h))))))) ∙ sym (loop_form (coded c.args.routine.now) c.args.next.now
    (counter_of c.args.counter) c.args.l.now _ c.as_slice-es.ensures c.control.new.next c.block.new.next c.exits.new.next c.in_ok-test.ensures.next
    (next_made c.block.result c.in_ok-kept.made _ _ c.in_ok-kept.ensures.1 c.block.ensures.next) (next_made c.exits.result c.in_ok-turns.held _ _
    c.in_ok-turns.ensures.1 c.exits.ensures.next)))

pub loops::a_loop-returns-in_ok-parts-in-Some-clause-next : goal.loops::a_loop-returns-in_ok-parts-in-Some-clause-next
loops::a_loop-returns-in_ok-parts-in-Some-clause-next m c =
    next_held c.looped.result _ _ (omega (
      arith,
      loop_hidden (coded c.args.routine.now) c.args.next.now (counter_of c.args.counter) c.args.l.now _
          c.as_slice-es.ensures,
      c.in_ok-test.ensures.next,
      (next_made c.block.result c.in_ok-kept.made _ _ c.in_ok-kept.ensures.1 c.block.ensures.next),
      (next_made c.exits.result c.in_ok-turns.held _ _ c.in_ok-turns.ensures.1 c.exits.ensures.next),
      finish_hidden _ _ c.in-Some.is,
      next_made
          c.finished.result c.in_ok-parts-in-Some.last _ _ c.in_ok-parts-in-Some.ensures.1 c.finished.ensures.next,
    ))

pub loops::a_loop-looped-requires-in-None-clause-fits : goal.loops::a_loop-looped-requires-in-None-clause-fits
loops::a_loop-looped-requires-in-None-clause-fits m c =
    ap excess (looped_same _ _ _ _ _ _ _ (held_made c.exits.result c.in_ok-turns.held _ c.in_ok-turns.ensures.1 c.exits.ensures.blocks)
    (ap (λ (p : Part). plain p.block) c.in_ok-turns.ensures.0 ∙ c.in_ok-rounds.ensures ∙ rounds_same (coded c.args.routine.now)
    (counter_of c.args.counter) _ _ _ _ (ap (λ (p : Part). plain p.block) c.in_ok-kept.ensures.0 ∙ c.in_ok-test.ensures.block)
    (part_made c.block.result c.in_ok-kept.made _ c.in_ok-kept.ensures.1 c.block.ensures.block)) (c.unfinished-last.ensures ∙ unless_same _ _ _ _
    c.is_endless-endless.ensures (sym (unfinished_form (coded c.args.routine.now) c.exits.new.next _ _ c.in-None.is)))) ∙ ended_part _ _
    (ap excess (sym (loop_form (coded c.args.routine.now) c.args.next.now (counter_of c.args.counter) c.args.l.now _ c.as_slice-es.ensures
    c.control.new.next c.block.new.next c.exits.new.next c.in_ok-test.ensures.next (next_made c.block.result c.in_ok-kept.made _ _
    c.in_ok-kept.ensures.1 c.block.ensures.next) (next_made c.exits.result c.in_ok-turns.held _ _ c.in_ok-turns.ensures.1 c.exits.ensures.next)))
    ∙ c.requires.fits)

pub loops::a_loop-returns-in-None-clause-block : goal.loops::a_loop-returns-in-None-clause-block
loops::a_loop-returns-in-None-clause-block m c =
    made_as c.looped-in-None.result _ _ c.looped-in-None.ensures
    (ap (Ends (Here 0)) (looped_same _ _ _ _ _ _ _ (held_made c.exits.result c.in_ok-turns.held _ c.in_ok-turns.ensures.1 c.exits.ensures.blocks)
    (ap (λ (p : Part). plain p.block) c.in_ok-turns.ensures.0 ∙ c.in_ok-rounds.ensures ∙ rounds_same (coded c.args.routine.now)
    (counter_of c.args.counter) _ _ _ _ (ap (λ (p : Part). plain p.block) c.in_ok-kept.ensures.0 ∙ c.in_ok-test.ensures.block)
    (part_made c.block.result c.in_ok-kept.made _ c.in_ok-kept.ensures.1 c.block.ensures.block)) (c.unfinished-last.ensures ∙ unless_same _ _ _ _
    c.is_endless-endless.ensures (sym (unfinished_form (coded c.args.routine.now) c.exits.new.next _ _ c.in-None.is))))
    ∙ sym (loop_form (coded c.args.routine.now) c.args.next.now (counter_of c.args.counter) c.args.l.now _ c.as_slice-es.ensures c.control.new.next
    c.block.new.next c.exits.new.next c.in_ok-test.ensures.next (next_made c.block.result c.in_ok-kept.made _ _ c.in_ok-kept.ensures.1
    c.block.ensures.next) (next_made c.exits.result c.in_ok-turns.held _ _ c.in_ok-turns.ensures.1 c.exits.ensures.next)))

pub loops::a_loop-returns-in-None-clause-next : goal.loops::a_loop-returns-in-None-clause-next
loops::a_loop-returns-in-None-clause-next m c =
    next_held c.looped-in-None.result _ _ (omega (
      arith,
      loop_hidden (coded c.args.routine.now) c.args.next.now (counter_of c.args.counter)
          c.args.l.now _ c.as_slice-es.ensures,
      c.in_ok-test.ensures.next,
      (next_made c.block.result c.in_ok-kept.made _ _ c.in_ok-kept.ensures.1
          c.block.ensures.next),
      (next_made c.exits.result c.in_ok-turns.held _ _ c.in_ok-turns.ensures.1 c.exits.ensures.next),
      no_finish_hidden _
          c.in-None.is,
    ))

pub loops::a_loop-room_for_statement-requires-clause-room : goal.loops::a_loop-room_for_statement-requires-clause-room
loops::a_loop-room_for_statement-requires-clause-room m c =
    omega (
      arith,
      loop_hidden (coded c.args.routine.now) c.args.next.now (counter_of c.args.counter) c.args.l.now _ refl,
      c.in_ok-test.ensures.next,
      c.requires.room,
    )

pub loops::a_loop-room_for_statement-requires-clause-fits : goal.loops::a_loop-room_for_statement-requires-clause-fits
loops::a_loop-room_for_statement-requires-clause-fits m c =
    loop_body_fits (coded c.args.routine.now) c.args.next.now (counter_of c.args.counter) c.args.l.now c.requires.fits c.control.new.next
    c.in_ok-test.ensures.next

pub loops::a_loop-room_for_exits-requires-clause-room : goal.loops::a_loop-room_for_exits-requires-clause-room
loops::a_loop-room_for_exits-requires-clause-room m c =
    omega (
      arith,
      loop_hidden (coded c.args.routine.now) c.args.next.now (counter_of c.args.counter) c.args.l.now _ c.as_slice-es.ensures,
      c.in_ok-test.ensures.next,
      (next_made c.block.result c.in_ok-kept.made _ _ c.in_ok-kept.ensures.1 c.block.ensures.next),
      c.requires.room,
    )

pub loops::a_loop-room_for_exits-requires-clause-fits : goal.loops::a_loop-room_for_exits-requires-clause-fits
loops::a_loop-room_for_exits-requires-clause-fits m c =
    loop_exits_fit (coded c.args.routine.now) c.args.next.now (counter_of c.args.counter) c.args.l.now c.requires.fits c.control.new.next
    c.block.new.next _ c.as_slice-es.ensures c.in_ok-test.ensures.next (next_made c.block.result c.in_ok-kept.made _ _ c.in_ok-kept.ensures.1
    c.block.ensures.next)

pub loops::a_loop-room_for_finish-requires-clause-room : goal.loops::a_loop-room_for_finish-requires-clause-room
loops::a_loop-room_for_finish-requires-clause-room m c =
    omega (
      arith,
      loop_hidden (coded c.args.routine.now) c.args.next.now (counter_of c.args.counter) c.args.l.now _ c.as_slice-es.ensures,
      c.in_ok-test.ensures.next,
      (next_made c.block.result c.in_ok-kept.made _ _ c.in_ok-kept.ensures.1 c.block.ensures.next),
      (next_made c.exits.result c.in_ok-turns.held _ _ c.in_ok-turns.ensures.1 c.exits.ensures.next),
      finish_hidden _ _ c.in-Some.is,
      c.requires.room,
    )

pub loops::a_loop-room_for_finish-requires-clause-fits : goal.loops::a_loop-room_for_finish-requires-clause-fits
loops::a_loop-room_for_finish-requires-clause-fits m c =
    loop_finish_fits (coded c.args.routine.now) c.args.next.now (counter_of c.args.counter) c.args.l.now c.requires.fits c.control.new.next
    c.block.new.next c.exits.new.next _ _ _ c.is_empty-jumps.result c.as_slice-es.ensures c.in_ok-test.ensures.next
    (next_made c.block.result c.in_ok-kept.made _ _ c.in_ok-kept.ensures.1 c.block.ensures.next) (next_made c.exits.result c.in_ok-turns.held _ _
    c.in_ok-turns.ensures.1 c.exits.ensures.next) c.in-Some.is c.is_endless-endless.ensures c.is_empty-jumps.ensures
