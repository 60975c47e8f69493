use Rattle.std.proofs.Common.{List, ap, ◌∙◌}
use Rattle.load_checks.specs.declared.places.Numbered.{Numbered}
use Rattle.load_checks.specs.Places.{number_in, stands_shown}
use Rattle.load_checks.specs.Wanting.{entries_shown}
use Rattle.load_checks.proofs.Placing.{is_there, is_none, place_found}
use Rattle.load_checks.proofs.wanting.place_of.Goals as goal

pub returns-in-Some : goal.returns-in-Some
returns-in-Some c =
    let w = c.args.wanting.now in
    let e = c.args.wanted.now in
    let k = c.in_ok-key.key in
    c.number_in.ensures
    ∙ ap (λ (l : List Numbered). number_in (stands_shown l) e) (c.as_slice.ensures ∙ is_there k w.places.entries c.in-Some.items.now c.in-Some.ensures.value)
    ∙ place_found (entries_shown w.entries.items) w.places.entries k e c.requires c.in_ok-key.ensures

pub returns : goal.returns
returns c =
    let w = c.args.wanting.now in
    let e = c.args.wanted.now in
    let k = c.in_ok-key.key in
    ap (λ (l : List Numbered). number_in (stands_shown l) e) (is_none k w.places.entries c.in-None.ensures.value)
    ∙ place_found (entries_shown w.entries.items) w.places.entries k e c.requires c.in_ok-key.ensures
