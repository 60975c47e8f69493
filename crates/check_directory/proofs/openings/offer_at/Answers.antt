use Rattle.std.proofs.Common.{◌≡◌, rules, map, Some, refl, slice_get, sym, ap, ◌∙◌}
use Rattle.std.proofs.lemmas.Option.{slice_get_past, slice_get_read}
use Rattle.check_scopes.specs.Shows.{means}
use Rattle.check_rules.specs.Directory.{offered, scope_at}
use Rattle.interface_records.specs.PlainTypes.{plain_interface}
use Rattle.check_directory.proofs.ElementLaws.{then_if}
use Rattle.check_directory.proofs.EntryLaws.{no_names}
use Rattle.check_directory.proofs.OfferLaws.{no_interface, no_item, nowhere, offer_here}
use Rattle.check_directory.proofs.openings.offer_at.Goals as goal

pub returns-in_default : goal.returns-in_default
returns-in_default c = λ list h.
    no_names c.new.result (search rules) ∙ nowhere (offered list c.args.directory.now (map plain_interface c.args.interfaces.now)) c.args.place (search rules)

pub returns-in_default-get : goal.returns-in_default-get
returns-in_default-get c = λ list h.
    let here : c.args.place ≡ Some c.in-Some.place = search rules in
    no_names c.new-in_default-get.result (search rules)
    ∙ no_item list c.args.directory.now c.args.interfaces.now c.in-Some.place (slice_get_past _ _ c.in_default-get.ensures.lookup.3)
    ∙ ap (scope_at (offered list c.args.directory.now (map plain_interface c.args.interfaces.now))) (sym here)

pub returns-in-None : goal.returns-in-None
returns-in-None c = λ list h.
    let here : c.args.place ≡ Some c.in-Some.place = search rules in
    no_names c.new-in-None.result (search rules)
    ∙ no_interface list c.args.directory.now c.args.interfaces.now c.in-Some.place (slice_get_past _ _ c.in-None.ensures.lookup.3)
    ∙ ap (scope_at (offered list c.args.directory.now (map plain_interface c.args.interfaces.now))) (sym here)

pub returns-in-Some-get-2 : goal.returns-in-Some-get-2
returns-in-Some-get-2 c =
    let here : c.args.place ≡ Some c.in-Some.place = search rules in
    let item : slice_get c.args.directory.now c.in-Some.place ≡ Some c.in-Some-get.item.now =
    slice_get_read _ _ _ _ refl c.in-Some-get.ensures.lookup.3.0 c.in-Some-get.ensures.lookup.1 in
    let interface : slice_get c.args.interfaces.now c.in-Some.place ≡ Some c.in-Some-get-2.interface.now =
    slice_get_read _ _ _ _ refl c.in-Some-get-2.ensures.lookup.3.0 c.in-Some-get-2.ensures.lookup.1 in
    then_if c.offer_of.result c.offer_of.ensures (λ made given list h.
    given
    ∙ offer_here list c.args.directory.now c.args.interfaces.now c.in-Some.place (means c.args.imports.now c.in-Some-get.item.now.name.name)
    c.in-Some-get.item.now c.in-Some-get-2.interface.now item interface (ap (λ s. s c.in-Some-get.item.now.name.name) h)
    ∙ ap (scope_at (offered list c.args.directory.now (map plain_interface c.args.interfaces.now))) (sym here))
