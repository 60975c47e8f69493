use Rattle.std.proofs.Common.{◌≢◌, ap, ◌∙◌, take, map, sym, refl}
use Rattle.loader_rules.specs.declared.fault.LoadFault.{LoadFault}
use Rattle.loader_rules.specs.declared.fault.LoadFault.TheVariants.{Memory}
use Rattle.loader_rules.specs.LoadFaults.{HasLoadFault}
use Rattle.loader_rules.specs.Parts.{part}
use Rattle.load_checks.specs.Links.{wanted_links}
use Rattle.load_checks.specs.Wanting.{entries_shown}
use Rattle.load_checks.proofs.Answered.{passed_on}
use Rattle.load_checks.proofs.Turning.{no_faults, no_parts, none_then, seen_then, links_then, first_then}
use Rattle.load_checks.proofs.resolving.tables_of.Goals as goal

pub loop-at-init : goal.loop-at-init
loop-at-init c =
    record {
      none = no_faults;
      seen = c.nothing_seen-seen.ensures;
      links = c.new-links.ensures ∙ sym (ap (map (wanted_links (entries_shown c.args.wanting.now.entries.items))) no_parts);
    }

pub returns-in_err-take_turn-clause-err : goal.returns-in_err-take_turn-clause-err
returns-in_err-take_turn-clause-err c =
    let images = c.args.images.now in
    let at = c.loop-at.at in
    let x = c.index-images-at.result in
    let p = part (take at images) x in
    let fault = c.in_err-take_turn.field-0.0 in
    passed_on c.from_residual.result fault (λ (e : LoadFault). e ≢ Memory → HasLoadFault images e) c.from_residual.ensures.1
    (λ other. first_then images at p x refl c.loop-at-test.true c.index-images-at.is fault c.loop-at.invariant.none (c.in_err-take_turn.ensures.err other))

pub loop-at-preserved : goal.loop-at-preserved
loop-at-preserved c =
    let images = c.args.images.now in
    let at = c.loop-at.at in
    let x = c.index-images-at.result in
    let p = part (take at images) x in
    record {
      none = none_then images at p x refl c.loop-at-test.true c.index-images-at.is c.loop-at.invariant.none c.in_ok-take_turn.ensures.none;
      seen = seen_then images at p x refl c.loop-at-test.true c.index-images-at.is c.take_turn.new.seen c.in_ok-take_turn.ensures.seen;
      links = links_then images at p x refl c.loop-at-test.true c.index-images-at.is (wanted_links (entries_shown c.args.wanting.now.entries.items)) c.loop-at.links c.take_turn.new.links c.loop-at.invariant.links
          c.in_ok-take_turn.ensures.links;
    }
