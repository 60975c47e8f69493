use Rattle.std.proofs.Common.{◌≢◌, take, refl}
use Rattle.loader_rules.specs.declared.fault.LoadFault.{LoadFault}
use Rattle.loader_rules.specs.declared.fault.LoadFault.TheVariants.{Memory}
use Rattle.loader_rules.specs.LoadFaults.{HasLoadFault}
use Rattle.loader_rules.specs.Parts.{part}
use Rattle.load_checks.proofs.Answered.{passed_on}
use Rattle.load_checks.proofs.Turning.{no_faults, none_then, seen_then, first_then}
use Rattle.load_checks.proofs.several.check_all.Goals as goal

pub loop-at-init : goal.loop-at-init
loop-at-init c =
    record {
      none = no_faults;
      seen = c.nothing_seen-seen.ensures;
    }

pub returns-in_err-_chosen-clause-err : goal.returns-in_err-_chosen-clause-err
returns-in_err-_chosen-clause-err c =
    let images = c.args.images.now in
    let at = c.loop-at.at in
    let x = c.index-images-at.result in
    let p = part (take at images) x in
    let fault = c.in_err-_chosen.field-0.0 in
    passed_on c.from_residual.result fault (λ (e : LoadFault). e ≢ Memory → HasLoadFault images e) c.from_residual.ensures.1
    (λ other. first_then images at p x refl c.loop-at-test.true c.index-images-at.is fault c.loop-at.invariant.none (c.in_err-_chosen.ensures.err other))

pub loop-at-preserved : goal.loop-at-preserved
loop-at-preserved c =
    let images = c.args.images.now in
    let at = c.loop-at.at in
    let x = c.index-images-at.result in
    let p = part (take at images) x in
    record {
      none = none_then images at p x refl c.loop-at-test.true c.index-images-at.is c.loop-at.invariant.none c.in_ok-_chosen.ensures.none;
      seen = seen_then images at p x refl c.loop-at-test.true c.index-images-at.is c.take_in.new.seen c.in_ok-_chosen.ensures.seen;
    }
