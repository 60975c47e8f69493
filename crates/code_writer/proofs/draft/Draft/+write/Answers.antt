use Rattle.std.proofs.Common.{◌≡◌, ◌+◌, ◌<◌, inl, sym, subst, ap, ◌∙◌, refl, ◌++◌, ◌∷◌, drop, arith, rules}
use Rattle.code_trees.specs.declared.block.Block.TheVariants as v
use Rattle.code_trees.specs.Plain.{plain, plain_blocks, plain_arms, off, all_off, in_order, mark_of, leap_of, point_of}
use Rattle.code_writer.specs.declared.cursor.Cursor.{Cursor}
use Rattle.code_writer.specs.Parts.{parts}
use Rattle.code_writer.specs.Drafts.{found, Fits}
use Rattle.code_writer.specs.Scopes.{env_at}
use Rattle.code_writer.proofs.Forms.{plain_does, plain_calls, off_calls, plain_sequence, off_sequence, plain_ends, off_ends, plain_out, plain_goes, plain_rounds, off_rounds, plain_enables, off_enables}
use Rattle.code_writer.proofs.Jumping.{calls_depth, out_depth, goes_shallow, out_room, goes_room, writes_out, writes_goes}
use Rattle.code_writer.proofs.Shapes.{fits_as, writes_as, writes_in, leaves_as, both_zero, right_size, order_next, order_none, off_next, next_item, all_gone}
use Rattle.code_writer.proofs.Smaller.{item_smaller, last_smaller, ends_smaller, rounds_smaller, enables_smaller}
use Rattle.code_writer.proofs.Steps.{writes_plainly, leaves_all, leaves_next, leaves_none, fits_next, fits_last, fits_ends, writes_ends, fits_rounds, back_depth, writes_rounds, writes_calls, fits_enables, writes_enables}
use Rattle.code_blocks.specs.Blocks as tree
use Rattle.code_blocks.specs.Sizes.{size}
use Rattle.code_blocks.specs.Writing.{in_part, end_at, own_phrase, unless_empty}
use Rattle.code_blocks.specs.Writing.{offset_of as offset_at}
use Rattle.code_writer.proofs.draft.Draft.+write.Goals as goal

pub put_all-requires-clause-room : goal.put_all-requires-clause-room
put_all-requires-clause-room t c =
    (fits_as c.args.block.now _ _ _ _ (plain_does c.args.block.now c.as_slice.result.now (c.in-Does.is ∙ ap v.Does (sym c.as_slice.ensures))) c.requires.fits).room

pub put_all-requires-clause-shallow : goal.put_all-requires-clause-shallow
put_all-requires-clause-shallow t c =
    (fits_as c.args.block.now _ _ _ _ (plain_does c.args.block.now c.as_slice.result.now (c.in-Does.is ∙ ap v.Does (sym c.as_slice.ensures))) c.requires.fits).shallow

pub overflow_add-from : goal.overflow_add-from
overflow_add-from t c =
    let f = fits_as c.args.block.now _ _ _ _ (plain_calls c.args.block.now _ _ _ _ c.in-Calls.is) c.requires.fits in
    omega (arith, f.room, c.bytes.ensures)

pub add_phrase-requires-clause-sizes : goal.add_phrase-requires-clause-sizes
add_phrase-requires-clause-sizes t c = sym (off_calls c.args.block.now _ _ _ _ c.in-Calls.is) ∙ c.requires.sizes

pub put-requires-clause-room : goal.put-requires-clause-room
put-requires-clause-room t c = (fits_as c.args.block.now _ _ _ _ (plain_calls c.args.block.now _ _ _ _ c.in-Calls.is) c.requires.fits).room

pub put-requires-clause-shallow : goal.put-requires-clause-shallow
put-requires-clause-shallow t c =
    calls_depth _ _ _ _ _ _ _ (fits_as c.args.block.now _ _ _ _ (plain_calls c.args.block.now _ _ _ _ c.in-Calls.is) c.requires.fits)

pub behind_call-requires-clause-shallow : goal.behind_call-requires-clause-shallow
behind_call-requires-clause-shallow t c =
    calls_depth _ _ _ _ _ _ _ (fits_as c.args.block.now _ _ _ _ (plain_calls c.args.block.now _ _ _ _ c.in-Calls.is) c.requires.fits)

pub returns-in_ok-to-in-Does : goal.returns-in_ok-to-in-Does
returns-in_ok-to-in-Does t c =
    writes_as c.args.block.now (tree.Does c.as_slice.result.now) _ _ _ _ _
    (plain_does c.args.block.now c.as_slice.result.now (c.in-Does.is ∙ ap v.Does (sym c.as_slice.ensures)))
    (writes_plainly (tree.Does c.as_slice.result.now) _ c.args.from c.args.self.now c.in_ok-to-in-Does.to c.put_all.new.written
    (ap (λ x. x.at) c.in_ok-to-in-Does.ensures.behind) (inl (ap (λ x. x.depth) c.in_ok-to-in-Does.ensures.behind))
    c.in_ok-to-in-Does.ensures.code refl c.requires.fits.held)

pub returns-in_ok-put-in-Calls : goal.returns-in_ok-put-in-Calls
returns-in_ok-put-in-Calls t c =
    let added = c.in_ok-add_phrase-in-Calls.ensures in
    writes_as c.args.block.now _ _ _ _ _ _ (plain_calls c.args.block.now _ _ _ _ c.in-Calls.is)
    (writes_calls c.in-Calls.call c.in-Calls.takes c.in-Calls.puts (plain_arms c.in-Calls.arms) _ c.args.from c.args.self.now c.add_phrase.new.self
    c.behind_call.result c.put.new.written
    (added.found ∙ ap (λ n. found c.args.self.now ++ own_phrase (plain_arms c.in-Calls.arms) (env_at c.args.self.now.scopes.items c.args.around) c.args.from.at (c.args.from.at + n)) c.bytes.ensures)
    added.entries added.scopes added.held c.in_ok-put-in-Calls.ensures.code c.behind_call.ensures.at c.behind_call.ensures.depth)

pub loop-part-init : goal.loop-part-init
loop-part-init t c =
    let items = c.as_slice-part-items.result.now in
    let is : c.args.block.now ≡ v.Sequence items c.in-Sequence.last =
    c.in-Sequence.is ∙ ap (λ l. v.Sequence l c.in-Sequence.last) (sym c.as_slice-part-items.ensures) in
    record {
      sizes = (both_zero (all_off items) (off c.in-Sequence.last) (sym (off_sequence c.args.block.now items c.in-Sequence.last is) ∙ c.requires.sizes)).0;
      leaves =
          leaves_as (plain c.args.block.now) (plain c.args.block.now) (in_order (plain_blocks items) (plain c.in-Sequence.last)) _ _ _ _ _
          (plain_sequence c.args.block.now items c.in-Sequence.last is)
          (leaves_all (plain c.args.block.now) (env_at c.args.self.now.scopes.items c.args.around) c.args.from c.args.self.now
          c.requires.fits.shallow c.requires.fits.held);
    }

pub write-requires : goal.write-requires
write-requires t c =
    let items = c.as_slice-part-items.result.now in
    let i = c.loop-part.part-index in
    let next : drop i items ≡ c.part-item.result ∷ drop (i + 1) items = next_item items i c.part-item.result (omega arith) c.part-item.is in
    let order = order_next c.part-item.result (drop (i + 1) items) (drop i items) (plain c.in-Sequence.last) next in
    let right : off c.part-item.result ≡ 0 = (off_next c.part-item.result _ (drop i items) next c.loop-part.invariant.sizes).0 in
    let fits : Fits (plain c.part-item.result) c.loop-part.self c.args.around c.loop-part.cursor =
    fits_next (plain c.args.block.now) (plain c.part-item.result) (in_order (plain_blocks (drop (i + 1) items)) (plain c.in-Sequence.last))
    c.args.around c.args.from c.args.self.now c.loop-part.cursor c.loop-part.self c.requires.fits
    (leaves_as _ _ _ _ _ _ _ _ order c.loop-part.invariant.leaves) in
    let smaller : parts c.part-item.result < parts c.args.block.now =
    item_smaller c.args.block.now items c.in-Sequence.last i c.part-item.result
    (c.in-Sequence.is ∙ ap (λ l. v.Sequence l c.in-Sequence.last) (sym c.as_slice-part-items.ensures)) (omega arith) c.part-item.is in
    search rules

pub loop-part-preserved : goal.loop-part-preserved
loop-part-preserved t c =
    let items = c.as_slice-part-items.result.now in
    let i = c.loop-part.part-index in
    let next : drop i items ≡ c.part-item.result ∷ drop (i + 1) items = next_item items i c.part-item.result (omega arith) c.part-item.is in
    let order = order_next c.part-item.result (drop (i + 1) items) (drop i items) (plain c.in-Sequence.last) next in
    record {
      sizes = (off_next c.part-item.result _ (drop i items) next c.loop-part.invariant.sizes).1;
      leaves =
          leaves_next (plain c.args.block.now) (plain c.part-item.result) (in_order (plain_blocks (drop (i + 1) items)) (plain c.in-Sequence.last))
          _ c.args.from c.args.self.now c.loop-part.cursor c.loop-part.self c.in_ok-cursor-in-Sequence.cursor c.write.new.self
          (leaves_as _ _ _ _ _ _ _ _ order c.loop-part.invariant.leaves)
          (writes_in _ _ _ _ _ _ _ (c.loop-part.invariant.leaves.grows.same c.args.around c.requires.fits.there) c.in_ok-cursor-in-Sequence.ensures);
    }

pub write-requires-in-Sequence : goal.write-requires-in-Sequence
write-requires-in-Sequence t c =
    let items = c.as_slice-part-items.result.now in
    let i = c.loop-part.part-index in
    let order = order_none (drop i items) (plain c.in-Sequence.last) (all_gone items i (omega arith)) in
    let is : c.args.block.now ≡ v.Sequence c.in-Sequence.front c.get.result.now =
    c.in-Sequence.is ∙ ap (v.Sequence c.in-Sequence.front) (sym c.get.ensures) in
    let right : off c.get.result.now ≡ 0 =
    (both_zero (all_off c.in-Sequence.front) (off c.get.result.now) (sym (off_sequence c.args.block.now _ _ is) ∙ c.requires.sizes)).1 in
    let fits : Fits (plain c.get.result.now) c.loop-part.self c.args.around c.loop-part.cursor =
    subst (λ x. Fits (plain x) c.loop-part.self c.args.around c.loop-part.cursor) (sym c.get.ensures)
    (fits_last (plain c.args.block.now) (plain c.in-Sequence.last) c.args.around c.args.from c.args.self.now c.loop-part.cursor c.loop-part.self c.requires.fits
    (leaves_as _ _ _ _ _ _ _ _ order c.loop-part.invariant.leaves)) in
    let smaller : parts c.get.result.now < parts c.args.block.now = last_smaller c.args.block.now c.in-Sequence.front c.get.result.now is in
    search rules

pub returns-in_ok-to-in-Sequence : goal.returns-in_ok-to-in-Sequence
returns-in_ok-to-in-Sequence t c =
    let items = c.as_slice-part-items.result.now in
    let i = c.loop-part.part-index in
    let order = order_none (drop i items) (plain c.in-Sequence.last) (all_gone items i (omega arith)) in
    leaves_none (plain c.args.block.now) (plain c.get.result.now) _ c.args.from c.args.self.now c.loop-part.cursor c.loop-part.self
    c.in_ok-to-in-Sequence.to c.write-in-Sequence.new.self
    (leaves_as _ _ _ _ _ _ _ _ (order ∙ ap plain (sym c.get.ensures)) c.loop-part.invariant.leaves)
    (writes_in _ _ _ _ _ _ _ (c.loop-part.invariant.leaves.grows.same c.args.around c.requires.fits.there) c.in_ok-to-in-Sequence.ensures)

pub overflow_add-end : goal.overflow_add-end
overflow_add-end t c =
    let f = fits_as c.args.block.now _ _ _ _ (plain_ends c.args.block.now _ _ _ c.in-Ends.is) c.requires.fits in
    let right = right_size c.in-Ends.bytes (size (plain c.in-Ends.part)) (off c.in-Ends.part) (sym (off_ends c.args.block.now _ _ _ c.in-Ends.is) ∙ c.requires.sizes) in
    omega (arith, f.room, right.0)

pub write-requires-in-Ends : goal.write-requires-in-Ends
write-requires-in-Ends t c =
    let part = c.get-in-Ends.result.now in
    let is : c.args.block.now ≡ v.Ends c.in-Ends.mark c.in-Ends.bytes part =
    c.in-Ends.is ∙ ap (v.Ends c.in-Ends.mark c.in-Ends.bytes) (sym c.get-in-Ends.ensures) in
    let both = right_size c.in-Ends.bytes (size (plain part)) (off part) (sym (off_ends c.args.block.now _ _ _ is) ∙ c.requires.sizes) in
    let right : off part ≡ 0 = both.1 in
    let fits : Fits (plain part) (record { entries = c.args.self.now.entries; scopes = c.enter.new.scopes; phrases = c.args.self.now.phrases })
    c.in_ok-inner-in-Ends.inner c.args.from =
    fits_ends (mark_of c.in-Ends.mark) (plain part) c.args.around c.in_ok-inner-in-Ends.inner c.args.from c.args.self.now _
    (fits_as c.args.block.now _ _ _ _ (plain_ends c.args.block.now _ _ _ is) c.requires.fits) refl
    c.in_ok-inner-in-Ends.ensures.grows c.in_ok-inner-in-Ends.ensures.there
    (c.in_ok-inner-in-Ends.ensures.inner
    ∙ ap (λ n. in_part (mark_of c.in-Ends.mark) c.args.from.at (c.args.from.at + n) (env_at c.args.self.now.scopes.items c.args.around)) both.0) in
    let smaller : parts c.get-in-Ends.result.now < parts c.args.block.now = ends_smaller c.args.block.now c.in-Ends.mark c.in-Ends.bytes c.get-in-Ends.result.now is in
    search rules

pub returns-in_ok-write-in-Ends : goal.returns-in_ok-write-in-Ends
returns-in_ok-write-in-Ends t c =
    let part = c.get-in-Ends.result.now in
    let is : c.args.block.now ≡ v.Ends c.in-Ends.mark c.in-Ends.bytes part =
    c.in-Ends.is ∙ ap (v.Ends c.in-Ends.mark c.in-Ends.bytes) (sym c.get-in-Ends.ensures) in
    let both = right_size c.in-Ends.bytes (size (plain part)) (off part) (sym (off_ends c.args.block.now _ _ _ is) ∙ c.requires.sizes) in
    writes_as c.args.block.now _ _ _ _ _ _ (plain_ends c.args.block.now _ _ _ is)
    (writes_ends (mark_of c.in-Ends.mark) (plain part) (env_at c.args.self.now.scopes.items c.args.around)
    (env_at c.enter.new.scopes.items c.in_ok-inner-in-Ends.inner) c.args.from c.args.self.now
    (record { entries = c.args.self.now.entries; scopes = c.enter.new.scopes; phrases = c.args.self.now.phrases })
    c.in_ok-write-in-Ends.field-0 c.behind_part.result c.write-in-Ends.new.self refl refl c.in_ok-inner-in-Ends.ensures.grows c.requires.fits.held
    (c.in_ok-inner-in-Ends.ensures.inner
    ∙ ap (λ n. in_part (mark_of c.in-Ends.mark) c.args.from.at (c.args.from.at + n) (env_at c.args.self.now.scopes.items c.args.around)) both.0)
    c.in_ok-write-in-Ends.ensures (c.behind_part.ensures.at ∙ ap (λ n. c.args.from.at + n) both.0) c.behind_part.ensures.depth)

pub put-requires-in-Out-clause-room : goal.put-requires-in-Out-clause-room
put-requires-in-Out-clause-room t c =
    out_room (leap_of c.in-Out.leap) c.in-Out.part c.end_of-target.result _ _ _ _ c.leap_to.ensures
    (fits_as c.args.block.now _ _ _ _ (plain_out c.args.block.now _ _ c.in-Out.is) c.requires.fits)

pub put-requires-in-Out-clause-shallow : goal.put-requires-in-Out-clause-shallow
put-requires-in-Out-clause-shallow t c =
    out_depth _ _ _ _ _ (fits_as c.args.block.now _ _ _ _ (plain_out c.args.block.now _ _ c.in-Out.is) c.requires.fits)

pub returns-in_ok-to-in-Out : goal.returns-in_ok-to-in-Out
returns-in_ok-to-in-Out t c =
    writes_as c.args.block.now _ _ _ _ _ _ (plain_out c.args.block.now _ _ c.in-Out.is)
    (writes_out (leap_of c.in-Out.leap) c.in-Out.part c.end_of-target.result c.leap_to.result _ c.args.from c.args.self.now c.in_ok-to-in-Out.to
    c.put-in-Out.new.written c.leap_to.ensures (c.end_of-target.ensures ∙ ap (λ s. end_at (env_at s c.args.around).ends c.in-Out.part) c.as_slice-in-Out.ensures.value)
    c.in_ok-to-in-Out.ensures.code c.in_ok-to-in-Out.ensures.behind c.requires.fits.held)

pub put-requires-in-Goes-clause-room : goal.put-requires-in-Goes-clause-room
put-requires-in-Goes-clause-room t c =
    goes_room c.in-Goes.arms (point_of c.in-Goes.point) c.offset_of-target.result _ _ _ _ c.goes_to.ensures
    (fits_as c.args.block.now _ _ _ _ (plain_goes c.args.block.now _ _ c.in-Goes.is) c.requires.fits)

pub put-requires-in-Goes-clause-shallow : goal.put-requires-in-Goes-clause-shallow
put-requires-in-Goes-clause-shallow t c =
    goes_shallow _ _ _ _ _ (fits_as c.args.block.now _ _ _ _ (plain_goes c.args.block.now _ _ c.in-Goes.is) c.requires.fits)

pub returns-in_ok-to-in-Goes : goal.returns-in_ok-to-in-Goes
returns-in_ok-to-in-Goes t c =
    writes_as c.args.block.now _ _ _ _ _ _ (plain_goes c.args.block.now _ _ c.in-Goes.is)
    (writes_goes c.in-Goes.arms (point_of c.in-Goes.point) c.offset_of-target.result c.goes_to.result _ c.args.from c.args.self.now c.in_ok-to-in-Goes.to
    c.put-in-Goes.new.written c.goes_to.ensures
    (c.offset_of-target.ensures ∙ ap (λ s. offset_at ((env_at s c.args.around).points (point_of c.in-Goes.point))) c.as_slice-in-Goes.ensures.value)
    c.in_ok-to-in-Goes.ensures.code c.in_ok-to-in-Goes.ensures.behind c.requires.fits.held)

pub write-requires-in-Rounds : goal.write-requires-in-Rounds
write-requires-in-Rounds t c =
    let part = c.get-in-Rounds.result.now in
    let is : c.args.block.now ≡ v.Rounds part = c.in-Rounds.is ∙ ap v.Rounds (sym c.get-in-Rounds.ensures) in
    let right : off part ≡ 0 = sym (off_rounds c.args.block.now _ is) ∙ c.requires.sizes in
    let fits : Fits (plain part) c.args.self.now c.args.around c.args.from =
    fits_rounds (plain part) c.args.around c.args.from c.args.self.now (fits_as c.args.block.now _ _ _ _ (plain_rounds c.args.block.now _ is) c.requires.fits) in
    let smaller : parts c.get-in-Rounds.result.now < parts c.args.block.now = rounds_smaller c.args.block.now c.get-in-Rounds.result.now is in
    search rules

pub put-requires-in-Rounds-clause-room : goal.put-requires-in-Rounds-clause-room
put-requires-in-Rounds-clause-room t c =
    let part = c.get-in-Rounds.result.now in
    let is : c.args.block.now ≡ v.Rounds part = c.in-Rounds.is ∙ ap v.Rounds (sym c.get-in-Rounds.ensures) in
    let f = fits_as c.args.block.now _ _ _ _ (plain_rounds c.args.block.now _ is) c.requires.fits in
    omega (arith, f.room, c.in_ok-end-in-Rounds.ensures.at)

pub put-requires-in-Rounds-clause-shallow : goal.put-requires-in-Rounds-clause-shallow
put-requires-in-Rounds-clause-shallow t c =
    let part = c.get-in-Rounds.result.now in
    let is : c.args.block.now ≡ v.Rounds part = c.in-Rounds.is ∙ ap v.Rounds (sym c.get-in-Rounds.ensures) in
    let f = fits_as c.args.block.now _ _ _ _ (plain_rounds c.args.block.now _ is) c.requires.fits in
    let back = back_depth (plain part) c.args.around c.args.from c.args.self.now c.in_ok-end-in-Rounds.end f c.in_ok-end-in-Rounds.ensures.depth in
    omega (arith, back.0, back.1)

pub returns-in_ok-to-in-Rounds : goal.returns-in_ok-to-in-Rounds
returns-in_ok-to-in-Rounds t c =
    let part = c.get-in-Rounds.result.now in
    let is : c.args.block.now ≡ v.Rounds part = c.in-Rounds.is ∙ ap v.Rounds (sym c.get-in-Rounds.ensures) in
    let f = fits_as c.args.block.now _ _ _ _ (plain_rounds c.args.block.now _ is) c.requires.fits in
    let back = back_depth (plain part) c.args.around c.args.from c.args.self.now c.in_ok-end-in-Rounds.end f c.in_ok-end-in-Rounds.ensures.depth in
    writes_as c.args.block.now _ _ _ _ _ _ (plain_rounds c.args.block.now _ is)
    (writes_rounds (plain part) _ c.args.from c.args.self.now c.in_ok-end-in-Rounds.end c.write-in-Rounds.new.self c.in_ok-to-in-Rounds.to
    c.put-in-Rounds.new.written c.in_ok-end-in-Rounds.ensures back.0 c.in_ok-to-in-Rounds.ensures.code
    (ap (λ x. x.at) c.in_ok-to-in-Rounds.ensures.behind) (omega (arith, ap (λ (x : Cursor). x.depth) c.in_ok-to-in-Rounds.ensures.behind)))

pub enable-requires-clause-room : goal.enable-requires-clause-room
enable-requires-clause-room t c =
    let f = fits_as c.args.block.now _ _ _ _ (plain_enables c.args.block.now _ _ _ c.in-Enables.is) c.requires.fits in
    let right = right_size c.in-Enables.bytes (size (plain c.in-Enables.part)) _ (sym (off_enables c.args.block.now _ _ _ c.in-Enables.is) ∙ c.requires.sizes) in
    omega (arith, f.room, right.0)

pub enable-requires-clause-sizes : goal.enable-requires-clause-sizes
enable-requires-clause-sizes t c =
    let right = right_size c.in-Enables.bytes (size (plain c.in-Enables.part)) _ (sym (off_enables c.args.block.now _ _ _ c.in-Enables.is) ∙ c.requires.sizes) in
    (both_zero _ (off c.in-Enables.part) right.1).0

pub write-requires-in-Enables : goal.write-requires-in-Enables
write-requires-in-Enables t c =
    let part = c.get-in-Enables.result.now in
    let is : c.args.block.now ≡ v.Enables c.in-Enables.arms c.in-Enables.bytes part =
    c.in-Enables.is ∙ ap (v.Enables c.in-Enables.arms c.in-Enables.bytes) (sym c.get-in-Enables.ensures) in
    let all = right_size c.in-Enables.bytes (size (plain part)) _ (sym (off_enables c.args.block.now _ _ _ is) ∙ c.requires.sizes) in
    let right : off part ≡ 0 = (both_zero _ (off part) all.1).1 in
    let fits : Fits (plain part) c.enable.new.self c.args.around c.args.from =
    fits_enables (plain_arms c.in-Enables.arms) (plain part) c.args.around c.args.from c.args.self.now c.enable.new.self
    (fits_as c.args.block.now _ _ _ _ (plain_enables c.args.block.now _ _ _ is) c.requires.fits)
    c.in_ok-enable-in-Enables.ensures.scopes c.in_ok-enable-in-Enables.ensures.held in
    let smaller : parts c.get-in-Enables.result.now < parts c.args.block.now =
    enables_smaller c.args.block.now c.in-Enables.arms c.in-Enables.bytes c.get-in-Enables.result.now is in
    search rules

pub returns-in_ok-to-in-Enables : goal.returns-in_ok-to-in-Enables
returns-in_ok-to-in-Enables t c =
    let part = c.get-in-Enables.result.now in
    let is : c.args.block.now ≡ v.Enables c.in-Enables.arms c.in-Enables.bytes part =
    c.in-Enables.is ∙ ap (v.Enables c.in-Enables.arms c.in-Enables.bytes) (sym c.get-in-Enables.ensures) in
    let all = right_size c.in-Enables.bytes (size (plain part)) _ (sym (off_enables c.args.block.now _ _ _ is) ∙ c.requires.sizes) in
    let enabled = c.in_ok-enable-in-Enables.ensures in
    writes_as c.args.block.now _ _ _ _ _ _ (plain_enables c.args.block.now _ _ _ is)
    (writes_enables (plain_arms c.in-Enables.arms) (plain part) c.args.around c.args.from c.args.self.now c.enable.new.self
    c.in_ok-to-in-Enables.to c.write-in-Enables.new.self
    (enabled.found ∙ ap (λ n. found c.args.self.now ++ unless_empty n (own_phrase (plain_arms c.in-Enables.arms) (env_at c.args.self.now.scopes.items c.args.around) c.args.from.at (c.args.from.at + n))) all.0)
    enabled.entries enabled.scopes c.in_ok-to-in-Enables.ensures)
