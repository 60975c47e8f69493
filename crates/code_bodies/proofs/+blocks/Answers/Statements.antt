-- The answers of a statement, by its forms.
use Rattle.std.proofs.Common.{List, ap, arith, map, refl, subst, sym, ◌+◌, ◌∙◌, ◌≡◌}
use Rattle.std.specs.Prelude.{OnOk, not}
use Rattle.std.proofs.lemmas.Bool.{false≢true}
use Rattle.mesa_base.specs.Chain.{chain}
use Rattle.mesa_types.specs.Plain.{case, suffix}
use Rattle.mesa_types.specs.Typed as t
use Rattle.code_rules.specs.OwnCode.{pop_code}
use Rattle.code_blocks.specs.Blocks.{Does, Ends, Here}
use Rattle.code_blocks.specs.Translation as spec
use Rattle.code_trees.proofs.LoopLaws.{block_form, block_hidden, enclosed_fits, for_form, for_hidden, resume_form, resume_hidden, return_form, return_hidden}
use Rattle.code_trees.proofs.StatementLaws.{assign_form, assign_hidden, declare_form, declare_hidden, extract_form, extract_hidden, if_form, if_hidden, path_fits_by, select_form, select_hidden, value_fits_by}
use Rattle.code_trees.specs.Excess.{excess}
use Rattle.code_trees.specs.Forms.{case_blocks, past_if}
use Rattle.code_trees.specs.Plain.{plain, plain_arms, plain_blocks}
use Rattle.code_trees.specs.Routines.{coded}
use Rattle.code_trees.specs.Rows.{excess_among, sizes_in}
use Rattle.code_trees.specs.declared.block.ArmBlock.{ArmBlock}
use Rattle.code_trees.specs.declared.part.Part.{Part}
use Rattle.code_trees.specs.declared.part.Row.{Row}
use Rattle.code_bodies.proofs.LoopWalks.{body_fits, labels_fit}
use Rattle.code_bodies.proofs.RowWalks.{made_as, next_held, next_made, part_made, row_made}
use Rattle.code_bodies.proofs.StatementWalks.{assign_same, both_same, cases_fit, cases_small, code_made, code_part, code_same, enclosed_same, ended_part, first_part, held_made, if_all_same, last_part, last_statement, middle_part, perform_form, perform_hidden, repeat_form, repeat_hidden, select_same, selector_value, words_made}
use Rattle.code_bodies.proofs.+blocks.Goals as goal

pub statements::block-returns-in_ok-set-in-DeclareAs-clause-block : goal.statements::block-returns-in_ok-set-in-DeclareAs-clause-block
statements::block-returns-in_ok-set-in-DeclareAs-clause-block m c =
    made_as c.declared_as.result _ _ c.declared_as.ensures (both_same _ _ _ _ refl (both_same _ _ _ _ c.in_ok-set-in-DeclareAs.ensures.block refl)
    ∙ sym (declare_form (coded c.args.routine.now) c.args.next.now c.args.s.now _ _ _ _ c.in-DeclareAs.is c.as_slice-in-DeclareAs.ensures))

pub statements::block-returns-in_ok-set-in-DeclareAs-clause-next : goal.statements::block-returns-in_ok-set-in-DeclareAs-clause-next
statements::block-returns-in_ok-set-in-DeclareAs-clause-next m c =
    next_held c.declared_as.result _ _ (omega (
      arith,
      declare_hidden (coded c.args.routine.now) c.args.next.now c.args.s.now _ _ _ _ c.in-DeclareAs.is
          refl,
      c.in_ok-set-in-DeclareAs.ensures.next,
    ))

pub statements::block-room_for_path-requires-clause-fits : goal.statements::block-room_for_path-requires-clause-fits
statements::block-room_for_path-requires-clause-fits m c =
    path_fits_by (coded c.args.routine.now) c.args.next.now c.in-Assign.home (chain (map suffix c.as_slice-suffixes.result.now) t.NoSuffix) _ _
    (spec.has_index (chain (map suffix c.as_slice-suffixes.result.now) t.NoSuffix)) refl
    (ap excess (sym (assign_form (coded c.args.routine.now) c.args.next.now c.args.s.now _ _ _ _ c.in-Assign.is c.as_slice-suffixes.ensures _ refl))
    ∙ c.requires.fits)

pub statements::block-room_for_value-requires-in-Assign-clause-room : goal.statements::block-room_for_value-requires-in-Assign-clause-room
statements::block-room_for_value-requires-in-Assign-clause-room m c =
    omega (
      arith,
      assign_hidden (coded c.args.routine.now) c.args.next.now c.args.s.now _ _ _ _ c.in-Assign.is c.as_slice-suffixes.ensures,
      c.in_ok-way-in-Assign.ensures.next,
      c.requires.room,
    )

pub statements::block-room_for_value-requires-in-Assign-clause-fits : goal.statements::block-room_for_value-requires-in-Assign-clause-fits
statements::block-room_for_value-requires-in-Assign-clause-fits m c =
    value_fits_by (coded c.args.routine.now) c.in-Assign.home (chain (map suffix c.as_slice-suffixes.result.now) t.NoSuffix) _ _ _
    (spec.has_index (chain (map suffix c.as_slice-suffixes.result.now) t.NoSuffix)) refl
    (ap excess (sym (assign_form (coded c.args.routine.now) c.args.next.now c.args.s.now _ _ _ _ c.in-Assign.is c.as_slice-suffixes.ensures
    c.path.new.next c.in_ok-way-in-Assign.ensures.next)) ∙ c.requires.fits)

pub statements::block-assigned-requires : goal.statements::block-assigned-requires
statements::block-assigned-requires m c =
    ap excess (assign_same (coded c.args.routine.now) c.in-Assign.home (chain (map suffix c.as_slice-suffixes.result.now) t.NoSuffix) _ _ _ _ _ _
    c.in_ok-words-in-Assign.ensures (ap (λ (p : Part). plain p.block) c.in_ok-kept-in-Assign.ensures.0 ∙ c.in_ok-way-in-Assign.ensures.block)
    (part_made c.value-in-Assign.result c.in_ok-kept-in-Assign.set _ c.in_ok-kept-in-Assign.ensures.1 c.value-in-Assign.ensures.block)
    ∙ sym (assign_form (coded c.args.routine.now) c.args.next.now c.args.s.now _ _ _ _ c.in-Assign.is c.as_slice-suffixes.ensures c.path.new.next
    c.in_ok-way-in-Assign.ensures.next)) ∙ c.requires.fits

pub statements::block-returns-in_ok-kept-in-Assign-clause-block : goal.statements::block-returns-in_ok-kept-in-Assign-clause-block
statements::block-returns-in_ok-kept-in-Assign-clause-block m c =
    made_as c.assigned.result _ _ c.assigned.ensures (assign_same (coded c.args.routine.now) c.in-Assign.home
    (chain (map suffix c.as_slice-suffixes.result.now) t.NoSuffix) _ _ _ _ _ _ c.in_ok-words-in-Assign.ensures
    (ap (λ (p : Part). plain p.block) c.in_ok-kept-in-Assign.ensures.0 ∙ c.in_ok-way-in-Assign.ensures.block) (part_made c.value-in-Assign.result
    c.in_ok-kept-in-Assign.set _ c.in_ok-kept-in-Assign.ensures.1 c.value-in-Assign.ensures.block) ∙ sym (assign_form (coded c.args.routine.now)
    c.args.next.now c.args.s.now _ _ _ _ c.in-Assign.is c.as_slice-suffixes.ensures c.path.new.next c.in_ok-way-in-Assign.ensures.next))

pub statements::block-returns-in_ok-kept-in-Assign-clause-next : goal.statements::block-returns-in_ok-kept-in-Assign-clause-next
statements::block-returns-in_ok-kept-in-Assign-clause-next m c =
    next_held c.assigned.result _ _ (omega (
      arith,
      assign_hidden (coded c.args.routine.now) c.args.next.now c.args.s.now _ _ _ _ c.in-Assign.is
          c.as_slice-suffixes.ensures,
      c.in_ok-way-in-Assign.ensures.next,
      next_made c.value-in-Assign.result c.in_ok-kept-in-Assign.set _ _
          c.in_ok-kept-in-Assign.ensures.1 c.value-in-Assign.ensures.next,
    ))

pub statements::block-room_for_value-requires-in-Extract-clause-room : goal.statements::block-room_for_value-requires-in-Extract-clause-room
statements::block-room_for_value-requires-in-Extract-clause-room m c =
    omega (
      arith,
      extract_hidden (coded c.args.routine.now) c.args.next.now c.args.s.now _ _ _ _ c.in-Extract.is c.as_slice-ts.ensures,
      c.in_ok-taken-in-Extract.ensures.next,
      c.requires.room,
    )

pub statements::block-room_for_value-requires-in-Extract-clause-fits : goal.statements::block-room_for_value-requires-in-Extract-clause-fits
statements::block-room_for_value-requires-in-Extract-clause-fits m c =
    first_part _ _ (ap excess (sym (extract_form (coded c.args.routine.now) c.args.next.now c.args.s.now _ _ _ _ c.in-Extract.is c.as_slice-ts.ensures
    c.targets.new.next _ c.in_ok-taken-in-Extract.ensures.next c.in_ok-words-in-Extract.ensures)) ∙ c.requires.fits)

pub statements::block-returns-in_ok-kept-in-Extract-clause-block : goal.statements::block-returns-in_ok-kept-in-Extract-clause-block
statements::block-returns-in_ok-kept-in-Extract-clause-block m c =
    made_as c.followed.result _ _ c.followed.ensures (both_same _ _ _ _ (part_made c.value-in-Extract.result c.in_ok-kept-in-Extract.from _
    c.in_ok-kept-in-Extract.ensures.1 c.value-in-Extract.ensures.block) (ap (λ (p : Part). plain p.block) c.in_ok-kept-in-Extract.ensures.0
    ∙ c.in_ok-taken-in-Extract.ensures.block) ∙ sym (extract_form (coded c.args.routine.now) c.args.next.now c.args.s.now _ _ _ _ c.in-Extract.is
    c.as_slice-ts.ensures c.targets.new.next _ c.in_ok-taken-in-Extract.ensures.next c.in_ok-words-in-Extract.ensures))

pub statements::block-returns-in_ok-kept-in-Extract-clause-next : goal.statements::block-returns-in_ok-kept-in-Extract-clause-next
statements::block-returns-in_ok-kept-in-Extract-clause-next m c =
    next_held c.followed.result _ _ (omega (
      arith,
      extract_hidden (coded c.args.routine.now) c.args.next.now c.args.s.now _ _ _ _ c.in-Extract.is
          c.as_slice-ts.ensures,
      c.in_ok-taken-in-Extract.ensures.next,
      next_made c.value-in-Extract.result c.in_ok-kept-in-Extract.from _ _
          c.in_ok-kept-in-Extract.ensures.1 c.value-in-Extract.ensures.next,
    ))

pub statements::block-room_for_value-requires-in-Perform-clause-room : goal.statements::block-room_for_value-requires-in-Perform-clause-room
statements::block-room_for_value-requires-in-Perform-clause-room m c =
    omega (arith, perform_hidden (coded c.args.routine.now) c.args.next.now c.args.s.now _ c.in-Perform.is, c.requires.room)

pub statements::block-room_for_value-requires-in-Perform-clause-fits : goal.statements::block-room_for_value-requires-in-Perform-clause-fits
statements::block-room_for_value-requires-in-Perform-clause-fits m c =
    first_part _ _ (ap excess (sym (perform_form (coded c.args.routine.now) c.args.next.now c.args.s.now _ c.in-Perform.is)) ∙ c.requires.fits)

pub statements::block-returns-in_ok-made-in-Perform-clause-block : goal.statements::block-returns-in_ok-made-in-Perform-clause-block
statements::block-returns-in_ok-made-in-Perform-clause-block m c =
    made_as c.dropped.result _ _ c.dropped.ensures (both_same _ _ _ _ c.in_ok-made-in-Perform.ensures.block
    (ap (λ n. Does (pop_code n)) c.in_ok-words-in-Perform.ensures) ∙ sym (perform_form (coded c.args.routine.now) c.args.next.now c.args.s.now _
    c.in-Perform.is))

pub statements::block-returns-in_ok-made-in-Perform-clause-next : goal.statements::block-returns-in_ok-made-in-Perform-clause-next
statements::block-returns-in_ok-made-in-Perform-clause-next m c =
    next_held c.dropped.result _ _ (omega (
      arith,
      perform_hidden (coded c.args.routine.now) c.args.next.now c.args.s.now _ c.in-Perform.is,
      c.in_ok-made-in-Perform.ensures.next,
    ))

pub statements::block-returns-in_ok-parts-in-If-clause-block : goal.statements::block-returns-in_ok-parts-in-If-clause-block
statements::block-returns-in_ok-parts-in-If-clause-block m c =
    made_as c.branches.result _ _ c.branches.ensures (if_all_same _ _ _ _ _ _ _ _ (ap (λ (p : Part × Part). plain p.0.block)
    c.in_ok-parts-in-If.ensures.0 ∙ ap (λ (p : Part). plain p.block) c.in_ok-held-in-If.ensures.0 ∙ c.in_ok-test-in-If.ensures.block)
    (ap (λ (p : Part × Part). plain p.1.block) c.in_ok-parts-in-If.ensures.0 ∙ part_made c.block-in-If.result c.in_ok-held-in-If.first _
    c.in_ok-held-in-If.ensures.1 c.block-in-If.ensures.block) (ap (λ b. past_if (not b) 1) c.is_null.ensures)
    (part_made c.block-in-If-2.result c.in_ok-parts-in-If.second _ c.in_ok-parts-in-If.ensures.1 c.block-in-If-2.ensures.block)
    ∙ sym (if_form (coded c.args.routine.now) c.args.next.now c.args.s.now _ _ _ _ _ c.in-If.is c.get-in-If.ensures c.get-otherwise.ensures
    c.jump.new.next c.block-in-If.new.next c.in_ok-test-in-If.ensures.next (next_made c.block-in-If.result c.in_ok-held-in-If.first _ _
    c.in_ok-held-in-If.ensures.1 c.block-in-If.ensures.next)))

pub statements::block-returns-in_ok-parts-in-If-clause-next : goal.statements::block-returns-in_ok-parts-in-If-clause-next
statements::block-returns-in_ok-parts-in-If-clause-next m c =
    next_held c.branches.result _ _ (omega (
      arith,
      if_hidden (coded c.args.routine.now) c.args.next.now c.args.s.now _ _ _ _ _ c.in-If.is
          c.get-in-If.ensures c.get-otherwise.ensures,
      c.in_ok-test-in-If.ensures.next,
      (next_made c.block-in-If.result c.in_ok-held-in-If.first _ _
          c.in_ok-held-in-If.ensures.1 c.block-in-If.ensures.next),
      next_made c.block-in-If-2.result c.in_ok-parts-in-If.second _ _
          c.in_ok-parts-in-If.ensures.1 c.block-in-If-2.ensures.next,
    ))

pub statements::block-returns-in-Repeat-clause-block : goal.statements::block-returns-in-Repeat-clause-block
statements::block-returns-in-Repeat-clause-block m c =
    made_as c.a_loop.result _ _ c.a_loop.ensures.block (sym (repeat_form (coded c.args.routine.now) c.args.next.now c.args.s.now _ _ c.in-Repeat.is
    c.get-in-Repeat.ensures))

pub statements::block-returns-in-Repeat-clause-next : goal.statements::block-returns-in-Repeat-clause-next
statements::block-returns-in-Repeat-clause-next m c =
    subst (λ n. OnOk c.a_loop.result (c.a_loop.new.next ≡ c.args.next.now + n))
    (sym (repeat_hidden (coded c.args.routine.now) c.args.next.now c.args.s.now _ _ c.in-Repeat.is c.get-in-Repeat.ensures)) c.a_loop.ensures.next

pub statements::block-room_for_value-requires-in-Select-clause-room : goal.statements::block-room_for_value-requires-in-Select-clause-room
statements::block-room_for_value-requires-in-Select-clause-room m c =
    omega (
      arith,
      select_hidden (coded c.args.routine.now) c.args.next.now c.args.s.now _ _ _ _ _ refl refl c.in-Select.is _ c.held_words-words_held.ensures,
      c.requires.room,
    )

pub statements::block-room_for_value-requires-in-Select-clause-fits : goal.statements::block-room_for_value-requires-in-Select-clause-fits
statements::block-room_for_value-requires-in-Select-clause-fits m c =
    selector_value (coded c.args.routine.now) c.args.next.now _ (c.args.next.now + c.held_words-words_held.result) c.args.s.now _ _
    c.held_words-words_held.ensures refl c.requires.fits _ c.in-Select.is

pub statements::block-selected-requires : goal.statements::block-selected-requires
statements::block-selected-requires m c =
    ap excess (select_same c.is_empty.result c.args.next.now c.held_words-words_held.result _ _ _ _ _ _ _ _ c.in_ok-words-in-Select.ensures (ap (λ (p : Part × Row). plain p.0.block)
    c.in_ok-parts-in-Select.ensures.0 ∙ ap (λ (p : Part). plain p.block) c.in_ok-kept-in-Select.ensures.0 ∙ c.in_ok-selector-in-Select.ensures.block)
    (ap (λ (p : Part × Row). plain_blocks p.1.blocks) c.in_ok-parts-in-Select.ensures.0 ∙ row_made c.cases.result c.in_ok-kept-in-Select.row _
    c.in_ok-kept-in-Select.ensures.1 c.cases.ensures.blocks ∙ ap (λ b. case_blocks (coded c.args.routine.now) c.value-in-Select.new.next
    c.args.next.now (not b) (chain (map case c.as_slice-rest.result.now) (t.Otherwise t.Null))) c.is_null-passes.ensures)
    (part_made c.block-in-Select.result c.in_ok-parts-in-Select.last _ c.in_ok-parts-in-Select.ensures.1 c.block-in-Select.ensures.block)
    ∙ sym (select_form (coded c.args.routine.now) c.args.next.now c.args.s.now _ _ _ _ _ c.as_slice-rest.ensures
    c.get-otherwise-in-Select.ensures c.in-Select.is c.held_words-words_held.result c.held_words-words_held.ensures
    (c.args.next.now + c.held_words-words_held.result) c.value-in-Select.new.next c.cases.new.next c.is_empty.result refl
    c.in_ok-selector-in-Select.ensures.next (next_made c.cases.result c.in_ok-kept-in-Select.row _ _ c.in_ok-kept-in-Select.ensures.1
    c.cases.ensures.next) (λ h. c.as_slice-rest.ensures ∙ c.is_empty.ensures.0 h)
    (λ h e. false≢true (sym h ∙ c.is_empty.ensures.1 (sym c.as_slice-rest.ensures ∙ e))))) ∙ c.requires.fits

pub statements::block-returns-in_ok-parts-in-Select-clause-block : goal.statements::block-returns-in_ok-parts-in-Select-clause-block
statements::block-returns-in_ok-parts-in-Select-clause-block m c =
    made_as c.selected.result _ _ c.selected.ensures (select_same c.is_empty.result c.args.next.now c.held_words-words_held.result _ _ _ _ _ _ _ _ c.in_ok-words-in-Select.ensures
    (ap (λ (p : Part × Row). plain p.0.block) c.in_ok-parts-in-Select.ensures.0 ∙ ap (λ (p : Part). plain p.block) c.in_ok-kept-in-Select.ensures.0
    ∙ c.in_ok-selector-in-Select.ensures.block) (ap (λ (p : Part × Row). plain_blocks p.1.blocks) c.in_ok-parts-in-Select.ensures.0
    ∙ row_made c.cases.result c.in_ok-kept-in-Select.row _ c.in_ok-kept-in-Select.ensures.1 c.cases.ensures.blocks
    ∙ ap (λ b. case_blocks (coded c.args.routine.now) c.value-in-Select.new.next c.args.next.now (not b) (chain (map case c.as_slice-rest.result.now)
    (t.Otherwise t.Null))) c.is_null-passes.ensures) (part_made c.block-in-Select.result c.in_ok-parts-in-Select.last _
    c.in_ok-parts-in-Select.ensures.1 c.block-in-Select.ensures.block) ∙ sym (select_form (coded c.args.routine.now) c.args.next.now c.args.s.now _ _ _ _ _ c.as_slice-rest.ensures
    c.get-otherwise-in-Select.ensures c.in-Select.is c.held_words-words_held.result c.held_words-words_held.ensures
    (c.args.next.now + c.held_words-words_held.result) c.value-in-Select.new.next c.cases.new.next
    c.is_empty.result refl c.in_ok-selector-in-Select.ensures.next (next_made c.cases.result c.in_ok-kept-in-Select.row _ _
    c.in_ok-kept-in-Select.ensures.1 c.cases.ensures.next) (λ h. c.as_slice-rest.ensures ∙ c.is_empty.ensures.0 h)
    (λ h e. false≢true (sym h ∙ c.is_empty.ensures.1 (sym c.as_slice-rest.ensures ∙ e)))))

pub statements::block-returns-in_ok-parts-in-Select-clause-next : goal.statements::block-returns-in_ok-parts-in-Select-clause-next
statements::block-returns-in_ok-parts-in-Select-clause-next m c =
    next_held c.selected.result _ _ (omega (
      arith,
      select_hidden (coded c.args.routine.now) c.args.next.now c.args.s.now _ _ _ _ _ c.as_slice-rest.ensures
          c.get-otherwise-in-Select.ensures c.in-Select.is _ c.held_words-words_held.ensures,
      c.in_ok-selector-in-Select.ensures.next,
      (next_made c.cases.result c.in_ok-kept-in-Select.row _ _ c.in_ok-kept-in-Select.ensures.1 c.cases.ensures.next),
      next_made
          c.block-in-Select.result c.in_ok-parts-in-Select.last _ _ c.in_ok-parts-in-Select.ensures.1 c.block-in-Select.ensures.next,
    ))

pub statements::block-room_for_phrase-requires-clause-fits : goal.statements::block-room_for_phrase-requires-clause-fits
statements::block-room_for_phrase-requires-clause-fits m c =
    (enclosed_fits _ _ _ _ _ (ap excess (sym (block_form (coded c.args.routine.now) c.args.next.now c.args.s.now _ _ _ _ _ _ c.in-Block.is
    c.get-catching.ensures refl refl _ _ refl refl)) ∙ c.requires.fits)).0

pub statements::block-enclosed-requires-clause-fits : goal.statements::block-enclosed-requires-clause-fits
statements::block-enclosed-requires-clause-fits m c =
    ap excess (enclosed_same _ _ _ _ _ _ _ _ (held_made c.exits.result c.in_ok-parts-in-Block.held _ c.in_ok-parts-in-Block.ensures.1
    c.exits.ensures.blocks) (ap (λ (p : List ArmBlock × Part). plain_arms p.0) c.in_ok-parts-in-Block.ensures.0 ∙ ap plain_arms
    c.in_ok-kept-in-Block.ensures.0 ∙ c.in_ok-arms-in-Block.ensures.blocks) (ap (λ (p : List ArmBlock × Part). plain p.1.block)
    c.in_ok-parts-in-Block.ensures.0 ∙ part_made c.blocks-in-Block.result c.in_ok-kept-in-Block.made _ c.in_ok-kept-in-Block.ensures.1
    c.blocks-in-Block.ensures.block)) ∙ ended_part _ _
    (ap excess (sym (block_form (coded c.args.routine.now) c.args.next.now c.args.s.now _ _ _ _ _ _ c.in-Block.is c.get-catching.ensures
    c.as_slice-ss.ensures c.as_slice-es.ensures c.caught_by.new.next c.blocks-in-Block.new.next c.in_ok-arms-in-Block.ensures.next
    (next_made c.blocks-in-Block.result c.in_ok-kept-in-Block.made _ _ c.in_ok-kept-in-Block.ensures.1 c.blocks-in-Block.ensures.next)))
    ∙ c.requires.fits)

pub statements::block-returns-in_ok-parts-in-Block-clause-block : goal.statements::block-returns-in_ok-parts-in-Block-clause-block
statements::block-returns-in_ok-parts-in-Block-clause-block m c =
    made_as c.enclosed.result _ _ c.enclosed.ensures
    (ap (Ends (Here 0)) (enclosed_same _ _ _ _ _ _ _ _ (held_made c.exits.result c.in_ok-parts-in-Block.held _ c.in_ok-parts-in-Block.ensures.1
    c.exits.ensures.blocks) (ap (λ (p : List ArmBlock × Part). plain_arms p.0) c.in_ok-parts-in-Block.ensures.0 ∙ ap plain_arms
    c.in_ok-kept-in-Block.ensures.0 ∙ c.in_ok-arms-in-Block.ensures.blocks) (ap (λ (p : List ArmBlock × Part). plain p.1.block)
    c.in_ok-parts-in-Block.ensures.0 ∙ part_made c.blocks-in-Block.result c.in_ok-kept-in-Block.made _ c.in_ok-kept-in-Block.ensures.1
    c.blocks-in-Block.ensures.block)) ∙ sym (block_form (coded c.args.routine.now) c.args.next.now c.args.s.now _ _ _ _ _ _ c.in-Block.is
    c.get-catching.ensures c.as_slice-ss.ensures c.as_slice-es.ensures c.caught_by.new.next c.blocks-in-Block.new.next
    c.in_ok-arms-in-Block.ensures.next (next_made c.blocks-in-Block.result c.in_ok-kept-in-Block.made _ _ c.in_ok-kept-in-Block.ensures.1
    c.blocks-in-Block.ensures.next)))

pub statements::block-returns-in_ok-parts-in-Block-clause-next : goal.statements::block-returns-in_ok-parts-in-Block-clause-next
statements::block-returns-in_ok-parts-in-Block-clause-next m c =
    next_held c.enclosed.result _ _ (omega (
      arith,
      block_hidden (coded c.args.routine.now) c.args.next.now c.args.s.now _ _ _ _ _ _ c.in-Block.is
          c.get-catching.ensures c.as_slice-ss.ensures c.as_slice-es.ensures,
      c.in_ok-arms-in-Block.ensures.next,
      (next_made c.blocks-in-Block.result
          c.in_ok-kept-in-Block.made _ _ c.in_ok-kept-in-Block.ensures.1 c.blocks-in-Block.ensures.next),
      next_made c.exits.result
          c.in_ok-parts-in-Block.held _ _ c.in_ok-parts-in-Block.ensures.1 c.exits.ensures.next,
    ))

pub statements::block-returns-in_ok-kept-in-For-clause-block : goal.statements::block-returns-in_ok-kept-in-For-clause-block
statements::block-returns-in_ok-kept-in-For-clause-block m c =
    made_as c.started.result _ _ c.started.ensures (both_same _ _ _ _ (ap (λ (p : Part). plain p.block) c.in_ok-kept-in-For.ensures.0
    ∙ c.in_ok-limits-in-For.ensures.block) (both_same _ _ _ _ refl (part_made c.a_loop-in-For.result c.in_ok-kept-in-For.made _
    c.in_ok-kept-in-For.ensures.1 c.a_loop-in-For.ensures.block)) ∙ sym (for_form (coded c.args.routine.now) c.args.next.now c.args.s.now _ _ _ _ _ _
    _ c.in-For.is c.get-range.ensures c.get-in-For.ensures (c.args.next.now + 3) c.bounds.new.next refl c.in_ok-limits-in-For.ensures.next))

pub statements::block-returns-in_ok-kept-in-For-clause-next : goal.statements::block-returns-in_ok-kept-in-For-clause-next
statements::block-returns-in_ok-kept-in-For-clause-next m c =
    next_held c.started.result _ _ (omega (
      arith,
      for_hidden (coded c.args.routine.now) c.args.next.now c.args.s.now _ _ _ _ _ _ _ c.in-For.is
          c.get-range.ensures c.get-in-For.ensures,
      c.in_ok-limits-in-For.ensures.next,
      next_made c.a_loop-in-For.result c.in_ok-kept-in-For.made _ _
          c.in_ok-kept-in-For.ensures.1 c.a_loop-in-For.ensures.next,
    ))

pub statements::block-given-requires : goal.statements::block-given-requires
statements::block-given-requires m c =
    code_part _ _ (middle_part _ _ _ (ap excess (sym (return_form (coded c.args.routine.now) c.args.next.now c.args.s.now _ _ _ _ _ _
    c.in-ReturnWith.is c.as_slice-in-ReturnWith.ensures c.as_slice-values_of.ensures _ _ (c.as_slice-in-ReturnWith-2.ensures
    ∙ c.in_ok-made-in-ReturnWith.ensures.sizes) refl)) ∙ c.requires.fits))

pub statements::block-returned-requires : goal.statements::block-returned-requires
statements::block-returned-requires m c =
    ap excess (both_same _ _ _ _ (ap (λ (p : Part). plain p.block) c.in_ok-kept-in-ReturnWith.ensures.0 ∙ c.in_ok-made-in-ReturnWith.ensures.block)
    (both_same _ _ _ _ (code_same _ _ _ (code_made c.given.result c.in_ok-kept-in-ReturnWith.order _ c.in_ok-kept-in-ReturnWith.ensures.1
    c.given.ensures.code)) refl) ∙ sym (return_form (coded c.args.routine.now) c.args.next.now c.args.s.now _ _ _ _ _ _ c.in-ReturnWith.is
    c.as_slice-in-ReturnWith.ensures c.as_slice-values_of.ensures _ _ (c.as_slice-in-ReturnWith-2.ensures ∙ c.in_ok-made-in-ReturnWith.ensures.sizes)
    (words_made c.given.result c.in_ok-kept-in-ReturnWith.order _ c.in_ok-kept-in-ReturnWith.ensures.1 c.given.ensures.words))) ∙ c.requires.fits

pub statements::block-returns-in_ok-kept-in-ReturnWith-clause-block : goal.statements::block-returns-in_ok-kept-in-ReturnWith-clause-block
statements::block-returns-in_ok-kept-in-ReturnWith-clause-block m c =
    made_as c.returned.result _ _ c.returned.ensures (both_same _ _ _ _ (ap (λ (p : Part). plain p.block) c.in_ok-kept-in-ReturnWith.ensures.0
    ∙ c.in_ok-made-in-ReturnWith.ensures.block)
    (both_same _ _ _ _ (code_same _ _ _ (code_made c.given.result c.in_ok-kept-in-ReturnWith.order _ c.in_ok-kept-in-ReturnWith.ensures.1
    c.given.ensures.code)) refl) ∙ sym (return_form (coded c.args.routine.now) c.args.next.now c.args.s.now _ _ _ _ _ _ c.in-ReturnWith.is
    c.as_slice-in-ReturnWith.ensures c.as_slice-values_of.ensures _ _ (c.as_slice-in-ReturnWith-2.ensures ∙ c.in_ok-made-in-ReturnWith.ensures.sizes)
    (words_made c.given.result c.in_ok-kept-in-ReturnWith.order _ c.in_ok-kept-in-ReturnWith.ensures.1 c.given.ensures.words)))

pub statements::block-returns-in_ok-kept-in-ReturnWith-clause-next : goal.statements::block-returns-in_ok-kept-in-ReturnWith-clause-next
statements::block-returns-in_ok-kept-in-ReturnWith-clause-next m c =
    next_held c.returned.result _ _ (omega (
      arith,
      return_hidden (coded c.args.routine.now) c.args.next.now c.args.s.now _ _ _ _ _ _
          c.in-ReturnWith.is refl c.as_slice-values_of.ensures,
      c.in_ok-made-in-ReturnWith.ensures.next,
    ))

pub statements::block-given-requires-in-Resume : goal.statements::block-given-requires-in-Resume
statements::block-given-requires-in-Resume m c =
    code_part _ _ (last_part _ _ (ap excess (sym (resume_form (coded c.args.routine.now) c.args.next.now c.args.s.now _ _ _ _ c.in-Resume.is
    c.as_slice-in-Resume.ensures c.as_slice-told.ensures _ _ (c.as_slice-in-Resume-2.ensures ∙ c.in_ok-made-in-Resume.ensures.sizes) refl))
    ∙ c.requires.fits))

pub statements::block-resumed-requires : goal.statements::block-resumed-requires
statements::block-resumed-requires m c =
    ap excess (both_same _ _ _ _ (ap (λ (p : Part). plain p.block) c.in_ok-kept-in-Resume.ensures.0 ∙ c.in_ok-made-in-Resume.ensures.block)
    (code_same _ _ _ (code_made c.given-in-Resume.result c.in_ok-kept-in-Resume.order _ c.in_ok-kept-in-Resume.ensures.1
    c.given-in-Resume.ensures.code)) ∙ sym (resume_form (coded c.args.routine.now) c.args.next.now c.args.s.now _ _ _ _ c.in-Resume.is
    c.as_slice-in-Resume.ensures c.as_slice-told.ensures _ _ (c.as_slice-in-Resume-2.ensures ∙ c.in_ok-made-in-Resume.ensures.sizes)
    (words_made c.given-in-Resume.result c.in_ok-kept-in-Resume.order _ c.in_ok-kept-in-Resume.ensures.1 c.given-in-Resume.ensures.words)))
    ∙ c.requires.fits

pub statements::block-returns-in_ok-kept-in-Resume-clause-block : goal.statements::block-returns-in_ok-kept-in-Resume-clause-block
statements::block-returns-in_ok-kept-in-Resume-clause-block m c =
    made_as c.resumed.result _ _ c.resumed.ensures (both_same _ _ _ _ (ap (λ (p : Part). plain p.block) c.in_ok-kept-in-Resume.ensures.0
    ∙ c.in_ok-made-in-Resume.ensures.block) (code_same _ _ _ (code_made c.given-in-Resume.result c.in_ok-kept-in-Resume.order _
    c.in_ok-kept-in-Resume.ensures.1 c.given-in-Resume.ensures.code)) ∙ sym (resume_form (coded c.args.routine.now) c.args.next.now c.args.s.now _ _ _
    _ c.in-Resume.is c.as_slice-in-Resume.ensures c.as_slice-told.ensures _ _ (c.as_slice-in-Resume-2.ensures ∙ c.in_ok-made-in-Resume.ensures.sizes)
    (words_made c.given-in-Resume.result c.in_ok-kept-in-Resume.order _ c.in_ok-kept-in-Resume.ensures.1 c.given-in-Resume.ensures.words)))

pub statements::block-returns-in_ok-kept-in-Resume-clause-next : goal.statements::block-returns-in_ok-kept-in-Resume-clause-next
statements::block-returns-in_ok-kept-in-Resume-clause-next m c =
    next_held c.resumed.result _ _ (omega (
      arith,
      resume_hidden (coded c.args.routine.now) c.args.next.now c.args.s.now _ _ _ _ c.in-Resume.is refl
          c.as_slice-told.ensures,
      c.in_ok-made-in-Resume.ensures.next,
    ))

pub statements::block-room_for_cases-requires-clause-room : goal.statements::block-room_for_cases-requires-clause-room
statements::block-room_for_cases-requires-clause-room m c =
    omega (
      arith,
      select_hidden (coded c.args.routine.now) c.args.next.now c.args.s.now _ _ _ _ _ c.as_slice-rest.ensures
          c.get-otherwise-in-Select.ensures c.in-Select.is _ c.held_words-words_held.ensures,
      c.in_ok-selector-in-Select.ensures.next,
      c.requires.room,
    )

pub statements::block-room_for_cases-requires-clause-fits : goal.statements::block-room_for_cases-requires-clause-fits
statements::block-room_for_cases-requires-clause-fits m c =
    ap (λ b. excess_among (case_blocks (coded c.args.routine.now) c.value-in-Select.new.next c.args.next.now (not b)
    (chain (map case c.as_slice-rest.result.now) (t.Otherwise t.Null)))) c.is_null-passes.ensures ∙ cases_fit (coded c.args.routine.now)
    c.args.next.now c.args.s.now _ _ _ _ (c.args.next.now + c.held_words-words_held.result) c.value-in-Select.new.next
    c.get-otherwise-in-Select.ensures c.held_words-words_held.ensures refl
    c.in_ok-selector-in-Select.ensures.next c.requires.fits _ _ c.in-Select.is c.as_slice-rest.ensures

pub statements::block-room_for_cases-requires-clause-small : goal.statements::block-room_for_cases-requires-clause-small
statements::block-room_for_cases-requires-clause-small m c =
    omega (
      arith,
      ap (λ b. sizes_in (case_blocks (coded c.args.routine.now) c.value-in-Select.new.next c.args.next.now (not b)
          (chain (map case c.as_slice-rest.result.now) (t.Otherwise t.Null)))) c.is_null-passes.ensures,
      cases_small (coded c.args.routine.now)
          c.args.next.now c.args.s.now _ _ _ _ (c.args.next.now + c.held_words-words_held.result) c.value-in-Select.new.next
          c.get-otherwise-in-Select.ensures c.held_words-words_held.ensures refl
          c.in_ok-selector-in-Select.ensures.next c.requires.fits _ _ c.in-Select.is c.as_slice-rest.ensures,
    )

pub statements::block-room_for_statement-requires-clause-room : goal.statements::block-room_for_statement-requires-clause-room
statements::block-room_for_statement-requires-clause-room m c =
    omega (
      arith,
      select_hidden (coded c.args.routine.now) c.args.next.now c.args.s.now _ _ _ _ _ c.as_slice-rest.ensures
          c.get-otherwise-in-Select.ensures c.in-Select.is _ c.held_words-words_held.ensures,
      c.in_ok-selector-in-Select.ensures.next,
      (next_made c.cases.result c.in_ok-kept-in-Select.row _ _
          c.in_ok-kept-in-Select.ensures.1 c.cases.ensures.next),
      c.requires.room,
    )

pub statements::block-room_for_statement-requires-clause-fits : goal.statements::block-room_for_statement-requires-clause-fits
statements::block-room_for_statement-requires-clause-fits m c =
    last_statement (coded c.args.routine.now) c.args.next.now _ (c.args.next.now + c.held_words-words_held.result) c.value-in-Select.new.next
    c.cases.new.next c.args.s.now _ _ _ c.get-otherwise-in-Select.ensures c.held_words-words_held.ensures refl c.in_ok-selector-in-Select.ensures.next c.requires.fits _ _ c.in-Select.is c.as_slice-rest.ensures
    (next_made c.cases.result c.in_ok-kept-in-Select.row _ _ c.in_ok-kept-in-Select.ensures.1 c.cases.ensures.next)

pub statements::block-room_for_statements-requires-clause-room : goal.statements::block-room_for_statements-requires-clause-room
statements::block-room_for_statements-requires-clause-room m c =
    omega (
      arith,
      block_hidden (coded c.args.routine.now) c.args.next.now c.args.s.now _ _ _ _ _ _ c.in-Block.is c.get-catching.ensures
          c.as_slice-ss.ensures refl,
      c.in_ok-arms-in-Block.ensures.next,
      c.requires.room,
    )

pub statements::block-room_for_statements-requires-clause-fits : goal.statements::block-room_for_statements-requires-clause-fits
statements::block-room_for_statements-requires-clause-fits m c =
    body_fits (coded c.args.routine.now) c.args.next.now c.args.s.now _ _ _ c.in-Block.is c.requires.fits c.caught_by.new.next _ _
    c.get-catching.ensures c.as_slice-ss.ensures c.in_ok-arms-in-Block.ensures.next

pub statements::block-room_for_exits-requires-clause-room : goal.statements::block-room_for_exits-requires-clause-room
statements::block-room_for_exits-requires-clause-room m c =
    omega (
      arith,
      block_hidden (coded c.args.routine.now) c.args.next.now c.args.s.now _ _ _ _ _ _ c.in-Block.is c.get-catching.ensures
          c.as_slice-ss.ensures c.as_slice-es.ensures,
      c.in_ok-arms-in-Block.ensures.next,
      (next_made c.blocks-in-Block.result c.in_ok-kept-in-Block.made _
          _ c.in_ok-kept-in-Block.ensures.1 c.blocks-in-Block.ensures.next),
      c.requires.room,
    )

pub statements::block-room_for_exits-requires-clause-fits : goal.statements::block-room_for_exits-requires-clause-fits
statements::block-room_for_exits-requires-clause-fits m c =
    labels_fit (coded c.args.routine.now) c.args.next.now c.args.s.now _ _ _ c.in-Block.is c.requires.fits c.caught_by.new.next
    c.blocks-in-Block.new.next _ _ _ c.get-catching.ensures c.as_slice-ss.ensures c.as_slice-es.ensures c.in_ok-arms-in-Block.ensures.next
    (next_made c.blocks-in-Block.result c.in_ok-kept-in-Block.made _ _ c.in_ok-kept-in-Block.ensures.1 c.blocks-in-Block.ensures.next)
