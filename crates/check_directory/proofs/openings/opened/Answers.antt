use Rattle.std.proofs.Common.{◌≡◌, rules, map, sym, ap, ◌∙◌}
use Rattle.check_rules.specs.Directory.{names_in, offered, place_in, scope_at}
use Rattle.interface_records.specs.PlainTypes.{plain_interface}
use Rattle.check_scopes.specs.Scopes.{over}
use Rattle.check_state.specs.Views.{names}
use Rattle.check_directory.proofs.EntryLaws.{no_names}
use Rattle.check_directory.proofs.OfferLaws.{all_over, opened_all, opened_end, opened_over, opened_step}
use Rattle.check_directory.proofs.openings.opened.Goals as goal

pub opens-init : goal.opens-init
opens-init c =
    let scopes = offered c.args.imports.now c.args.directory.now (map plain_interface c.args.interfaces.now) in
    opened_all c.args.directory.now scopes c.args.opens.now
    ∙ ap (opened_over c.args.directory.now scopes c.args.opens.now) (sym (no_names c.new-names.result (search rules)))

pub opens-preserved : goal.opens-preserved
opens-preserved c =
    let scopes = offered c.args.imports.now c.args.directory.now (map plain_interface c.args.interfaces.now) in
    let place : c.copied-place.result ≡ place_in 0 (names_in c.args.directory.now) c.in-Some.open.now.name = search rules in
    let offer : names c.in_ok-offer.offer ≡ scope_at scopes c.copied-place.result = c.in_ok-offer.ensures c.args.imports.now (search rules) in
    c.opens.invariant
    ∙ opened_step c.args.directory.now scopes c.opens.rest.now c.in-Some.before.now c.in-Some.open.now (names c.opens.names) (names c.declare_all.new.self) (search rules)
    (all_over c.opens.names c.declare_all.new.self c.in_ok-offer.offer (search rules)
    ∙ ap (λ s. over s (names c.opens.names)) (offer ∙ ap (scope_at scopes) place))

pub returns : goal.returns
returns c =
    sym (c.opens.invariant
    ∙ opened_end c.args.directory.now (offered c.args.imports.now c.args.directory.now (map plain_interface c.args.interfaces.now)) c.opens.rest.now (names c.opens.names) (search rules))
