use Rattle.std.proofs.Common.{Option, sym, ap, ◌∙◌}
use Rattle.load_checks.specs.Choosing.{missing_by, first_stamp}
use Rattle.loader_rules.specs.declared.fault.LoadFault.TheVariants.{Twice}
use Rattle.loader_rules.specs.LoadFaults.{item_of}
use Rattle.load_checks.specs.declared.exporters.Exporter.{Exporter}
use Rattle.load_checks.specs.Givers.{found_shown, giver_shown, second_shown}
use Rattle.load_checks.specs.Index.{found_under}
use Rattle.load_checks.specs.Keys.{key_of}
use Rattle.load_checks.specs.Choosing.{Bad, choice_of}
use Rattle.load_checks.specs.Turns.{part_of}
use Rattle.load_checks.proofs.Chosen.{two, built_in_is, none_is, one_is, two_is, first_stamp_is, bad_by}
use Rattle.load_checks.proofs.choosing.choose.Goals as goal

pub returns-then-is_built_in-clause-ok : goal.returns-then-is_built_in-clause-ok
returns-then-is_built_in-clause-ok c = built_in_is (part_of c.args.turn.now) c.args.wanted.now (sym c.is_built_in.ensures ∙ c.if-is_built_in.true)

pub returns-in-None-clause-err : goal.returns-in-None-clause-err
returns-in-None-clause-err c =
    let p = part_of c.args.turn.now in
    let e = c.args.wanted.now in
    let other = sym c.is_built_in.ensures ∙ c.if-is_built_in.false in
    let held = ap (λ k. found_under k c.args.seen.now.index.entries) c.in_ok-key.ensures ∙ c.requires.holds (key_of e) in
    let found = ap found_shown c.in-None.ensures.value ∙ held in
    bad_by (choice_of p e) c.bad.result c.missing.result (missing_by c.args.seen.now.images e (first_stamp e c.args.turn.now.before.now))
    (none_is p e other found ∙ (λ j. Bad (missing_by (sym c.requires.images_are j) e (sym (first_stamp_is p.before e) j)))) c.missing.ensures c.bad.ensures

pub returns-in-None-second-clause-ok : goal.returns-in-None-second-clause-ok
returns-in-None-second-clause-ok c =
    let p = part_of c.args.turn.now in
    let e = c.args.wanted.now in
    let other = sym c.is_built_in.ensures ∙ c.if-is_built_in.false in
    let held = ap (λ k. found_under k c.args.seen.now.index.entries) c.in_ok-key.ensures ∙ c.requires.holds (key_of e) in
    let f = c.in-Some.found.now in
    one_is p e other (giver_shown f.first) (ap (λ (s : Option Exporter). two (giver_shown f.first) (second_shown s)) (sym c.in-None-second.is) ∙ (ap found_shown c.in-Some.ensures.value ∙ held))

pub returns-clause-err : goal.returns-clause-err
returns-clause-err c =
    let p = part_of c.args.turn.now in
    let e = c.args.wanted.now in
    let other = sym c.is_built_in.ensures ∙ c.if-is_built_in.false in
    let held = ap (λ k. found_under k c.args.seen.now.index.entries) c.in_ok-key.ensures ∙ c.requires.holds (key_of e) in
    let f = c.in-Some.found.now in
    let s = c.in-Some-second.second in
    bad_by (choice_of p e) c.bad-in-Some-second.result c.twice.result (Twice c.args.seen.now.images (item_of e) (giver_shown f.first).path (giver_shown s).path)
    (two_is p e other (giver_shown f.first) (giver_shown s)
    (ap (λ (s : Option Exporter). two (giver_shown f.first) (second_shown s)) (sym c.in-Some-second.is) ∙ (ap found_shown c.in-Some.ensures.value ∙ held))
    ∙ (λ j. Bad (Twice (sym c.requires.images_are j) (item_of e) (giver_shown f.first).path (giver_shown s).path))) c.twice.ensures c.bad-in-Some-second.ensures
