use Rattle.std.proofs.Common.{◌≡◌, ◌+◌, ◌∷◌, drop, arith}
use Rattle.code_trees.specs.Plain.{plain_arms}
use Rattle.code_writer.proofs.Regions.{fits_arm, arms_one, arms_none, arms_made, arms_at, arms_off_at, arms_gone}
use Rattle.code_writer.proofs.Shapes.{next_item, all_gone}
use Rattle.code_writer.proofs.draft.Draft.write_arms.Goals as goal

pub write_arm-requires-clause-sizes : goal.write_arm-requires-clause-sizes
write_arm-requires-clause-sizes c =
    let i = c.loop-arm.arm-index in
    let next : drop i c.args.arms.now ≡ c.arm-item.result ∷ drop (i + 1) c.args.arms.now = next_item c.args.arms.now i c.arm-item.result (omega arith) c.arm-item.is in
    (arms_off_at c.arm-item.result _ (drop i c.args.arms.now) next c.loop-arm.invariant.sizes).0

pub write_arm-requires-clause-fits : goal.write_arm-requires-clause-fits
write_arm-requires-clause-fits c =
    let i = c.loop-arm.arm-index in
    let next : drop i c.args.arms.now ≡ c.arm-item.result ∷ drop (i + 1) c.args.arms.now = next_item c.args.arms.now i c.arm-item.result (omega arith) c.arm-item.is in
    fits_arm (plain_arms c.args.arms.now) (plain_arms (drop i c.args.arms.now)) (plain_arms (drop (i + 1) c.args.arms.now)) c.arm-item.result
    c.args.around c.args.from c.args.self.now c.loop-arm.at c.loop-arm.self c.loop-arm.made
    (arms_at c.arm-item.result _ (drop i c.args.arms.now) next) c.requires.fits c.loop-arm.invariant.leaves

pub loop-arm-preserved : goal.loop-arm-preserved
loop-arm-preserved c =
    let i = c.loop-arm.arm-index in
    let next : drop i c.args.arms.now ≡ c.arm-item.result ∷ drop (i + 1) c.args.arms.now = next_item c.args.arms.now i c.arm-item.result (omega arith) c.arm-item.is in
    record {
      sizes = (arms_off_at c.arm-item.result _ (drop i c.args.arms.now) next c.loop-arm.invariant.sizes).1;
      leaves =
          arms_one (plain_arms c.args.arms.now) (plain_arms (drop i c.args.arms.now)) (plain_arms (drop (i + 1) c.args.arms.now)) c.arm-item.result
          c.args.around c.args.from c.args.self.now c.loop-arm.at c.loop-arm.self c.loop-arm.made c.in_ok-next.next c.write_arm.new.self c.push.new.self
          (arms_at c.arm-item.result _ (drop i c.args.arms.now) next) c.requires.fits.there c.loop-arm.invariant.leaves
          c.in_ok-next.ensures.arm c.in_ok-next.ensures.adds c.in_ok-push.ensures.ok;
    }

pub returns-clause-made : goal.returns-clause-made
returns-clause-made c =
    arms_made (plain_arms c.args.arms.now) (plain_arms (drop c.loop-arm.arm-index c.args.arms.now)) _ c.args.from c.args.self.now c.loop-arm.at
    c.loop-arm.self c.loop-arm.made (arms_gone _ (all_gone c.args.arms.now c.loop-arm.arm-index (omega arith))) c.loop-arm.invariant.leaves

pub returns-clause-adds : goal.returns-clause-adds
returns-clause-adds c =
    arms_none (plain_arms c.args.arms.now) (plain_arms (drop c.loop-arm.arm-index c.args.arms.now)) _ c.args.from c.args.self.now c.loop-arm.at
    c.loop-arm.self c.loop-arm.made (arms_gone _ (all_gone c.args.arms.now c.loop-arm.arm-index (omega arith))) c.loop-arm.invariant.leaves
