use Rattle.std.proofs.Common.{Some, bytes_eq, if◌then◌else◌, is_some, ap, sym, ◌∙◌, ◌||◌}
use Rattle.check_scopes.specs.Shows.{listed}
use Rattle.config_rules.specs.Exporters.{is_named}
use Rattle.load_checks.specs.Givers.{offering_shown}
use Rattle.load_checks.specs.Index.{found_under, through}
use Rattle.load_checks.proofs.Answered.{on_ok, anyhow}
use Rattle.load_checks.proofs.Putting.{no_item, none_named, was_given, named_before, is_new, named_now}
use Rattle.load_checks.proofs.exporters.note_pair.Goals as goal

pub returns-in_default-clause-names : goal.returns-in_default-clause-names
returns-in_default-clause-names c =
    let names = listed c.args.names.now in
    λ k. none_named k (is_some (names k.item)) ∙ ap (λ o. is_some (names k.item) || is_named k.item o) c.in_default.ensures

pub returns-in_default-clause-noted : goal.returns-in_default-clause-noted
returns-in_default-clause-noted c =
    let names = listed c.args.names.now in
    let o = offering_shown c.args.offering.now in
    let n = c.args.pair.now.number in
    λ k.
    let f = found_under k c.args.index.now.entries in
    no_item k o n (is_some (names k.item)) f ∙ ap (λ i. through k o i n (is_some (names k.item)) f) c.in_default.ensures

pub returns-then-has-clause-names : goal.returns-then-has-clause-names
returns-then-has-clause-names c =
    let names = listed c.args.names.now in
    let i = c.in-Some.item.now in
    let there = ap (λ x. is_some (names x)) (sym c.bytes.ensures) ∙ (sym c.has.ensures ∙ c.if-has.true) in
    λ k. named_before names k i there ∙ ap (λ o. is_some (names k.item) || is_named k.item o) c.in-Some.ensures

pub returns-then-has-clause-noted : goal.returns-then-has-clause-noted
returns-then-has-clause-noted c =
    let names = listed c.args.names.now in
    let i = c.in-Some.item.now in
    let o = offering_shown c.args.offering.now in
    let n = c.args.pair.now.number in
    let there = ap (λ x. is_some (names x)) (sym c.bytes.ensures) ∙ (sym c.has.ensures ∙ c.if-has.true) in
    λ k.
    let f = found_under k c.args.index.now.entries in
    was_given names k i there o n f ∙ ap (λ i. through k o i n (is_some (names k.item)) f) c.in-Some.ensures

pub returns-clause-names : goal.returns-clause-names
returns-clause-names c =
    let names = listed c.args.names.now in
    let i = c.in-Some.item.now in
    anyhow c.note_item.result
    (λ k. named_now names k i (listed c.declare.new.self k.item)
    ((λ j. c.in_ok-declare.ensures.ok j k.item) ∙ ap (λ x. if bytes_eq x k.item then Some tt else names k.item) c.bytes-2.ensures) ∙ ap (λ o. is_some (names k.item) || is_named k.item o) c.in-Some.ensures)

pub returns-clause-noted : goal.returns-clause-noted
returns-clause-noted c =
    let names = listed c.args.names.now in
    let i = c.in-Some.item.now in
    let o = offering_shown c.args.offering.now in
    let n = c.args.pair.now.number in
    let none = ap (λ x. is_some (names x)) (sym c.bytes.ensures) ∙ (sym c.has.ensures ∙ c.if-has.false) in
    on_ok c.note_item.result
    (λ noted k.
    let f = found_under k c.args.index.now.entries in
    noted k ∙ (is_new names k i none o n f ∙ ap (λ i. through k o i n (is_some (names k.item)) f) c.in-Some.ensures)) c.note_item.ensures
