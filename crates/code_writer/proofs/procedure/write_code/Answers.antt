use Rattle.std.proofs.Common.{◌≡◌, ◌<◌, subst, sym, ap, drop, get_or, length, arith, rules}
use Rattle.code_blocks.specs.Regions.{Written}
use Rattle.code_trees.specs.Plain.{plain}
use Rattle.code_writer.specs.Drafts.{found, pend}
use Rattle.code_writer.proofs.Queue.{left, Stage}
use Rattle.code_writer.proofs.Whole.{first_fits, first_is, held_at, turn, next_is}
use Rattle.code_writer.proofs.procedure.write_code.Goals as goal

pub write_region-requires-clause-fits : goal.write_region-requires-clause-fits
write_region-requires-clause-fits c =
    first_fits (plain c.args.body.now) c.new-draft.result c.new-draft.ensures.scopes c.new-draft.ensures.phrases c.requires.bounds.room c.requires.bounds.shallow

pub arms-init : goal.arms-init
arms-init c = record {
  stage =
      first_is (plain c.args.body.now) c.new-draft.result c.write_region.new.self c.in_ok-end.end c.new-phrases.result
      c.new-draft.ensures.entries c.new-draft.ensures.phrases c.in_ok-end.ensures.adds c.in_ok-end.ensures.end c.new-phrases.ensures;
  held = c.in_ok-end.ensures.adds.held;
}

pub write_phrase-requires-clause-there : goal.write_phrase-requires-clause-there
write_phrase-requires-clause-there c =
    let q = c.index-pending.result.now in
    let lt : length c.arms.phrases < length c.arms.draft.phrases.items = omega arith in
    let is : q ≡ get_or c.arms.draft.phrases.items (length c.arms.phrases) q = search rules in
    (held_at _ c.arms.draft.phrases.items (length c.arms.phrases) q lt is c.arms.invariant.held).0

pub write_phrase-requires-clause-sizes : goal.write_phrase-requires-clause-sizes
write_phrase-requires-clause-sizes c =
    let q = c.index-pending.result.now in
    let lt : length c.arms.phrases < length c.arms.draft.phrases.items = omega arith in
    let is : q ≡ get_or c.arms.draft.phrases.items (length c.arms.phrases) q = search rules in
    (held_at _ c.arms.draft.phrases.items (length c.arms.phrases) q lt is c.arms.invariant.held).1

pub write_phrase-requires-clause-room : goal.write_phrase-requires-clause-room
write_phrase-requires-clause-room c =
    let q = c.index-pending.result.now in
    let lt : length c.arms.phrases < length c.arms.draft.phrases.items = omega arith in
    let is : q ≡ get_or c.arms.draft.phrases.items (length c.arms.phrases) q = search rules in
    let o = turn (plain c.args.body.now) c.arms.draft c.arms.end c.arms.phrases q c.arms.invariant.stage lt is in
    omega (arith, o.room, c.requires.bounds.room)

pub write_phrase-requires-clause-shallow : goal.write_phrase-requires-clause-shallow
write_phrase-requires-clause-shallow c =
    let q = c.index-pending.result.now in
    let lt : length c.arms.phrases < length c.arms.draft.phrases.items = omega arith in
    let is : q ≡ get_or c.arms.draft.phrases.items (length c.arms.phrases) q = search rules in
    let o = turn (plain c.args.body.now) c.arms.draft c.arms.end c.arms.phrases q c.arms.invariant.stage lt is in
    omega (arith, o.shallow, c.requires.bounds.shallow)

pub arms-smaller : goal.arms-smaller
arms-smaller c =
    let q = c.index-pending.result.now in
    let lt : length c.arms.phrases < length c.arms.draft.phrases.items = omega arith in
    let is : q ≡ get_or c.arms.draft.phrases.items (length c.arms.phrases) q = search rules in
    let o = turn (plain c.args.body.now) c.arms.draft c.arms.end c.arms.phrases q c.arms.invariant.stage lt is in
    let next =
    next_is (plain c.args.body.now) c.arms.draft c.write_phrase.new.self c.arms.end c.in_ok-phrase.behind c.arms.phrases c.push.new.self
    (pend c.arms.draft.scopes.items q) c.in_ok-phrase.phrase o c.in_ok-phrase.ensures.adds c.in_ok-phrase.ensures.phrase.0
    c.in_ok-phrase.ensures.phrase.1 c.in_ok-push.ensures.ok in
    let less : left (drop (length c.push.new.self) (found c.write_phrase.new.self)) < left (drop (length c.arms.phrases) (found c.arms.draft)) =
    omega (arith, o.fewer, ap (λ (w : Written). left (drop (length w.done) w.found)) next) in
    less

pub arms-preserved : goal.arms-preserved
arms-preserved c =
    let q = c.index-pending.result.now in
    let lt : length c.arms.phrases < length c.arms.draft.phrases.items = omega arith in
    let is : q ≡ get_or c.arms.draft.phrases.items (length c.arms.phrases) q = search rules in
    let o = turn (plain c.args.body.now) c.arms.draft c.arms.end c.arms.phrases q c.arms.invariant.stage lt is in
    let next =
    next_is (plain c.args.body.now) c.arms.draft c.write_phrase.new.self c.arms.end c.in_ok-phrase.behind c.arms.phrases c.push.new.self
    (pend c.arms.draft.scopes.items q) c.in_ok-phrase.phrase o c.in_ok-phrase.ensures.adds c.in_ok-phrase.ensures.phrase.0
    c.in_ok-phrase.ensures.phrase.1 c.in_ok-push.ensures.ok in
    record {
      stage = subst (Stage (plain c.args.body.now)) (sym next) o.stage;
      held = c.in_ok-phrase.ensures.adds.held;
    }
