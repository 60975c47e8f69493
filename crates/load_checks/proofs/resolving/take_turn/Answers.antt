use Rattle.std.proofs.Common.{List, ap, ◌∙◌, ◌++◌, ◌∷◌, []}
use Rattle.object_files.specs.declared.image.Link.{Link}
use Rattle.load_checks.specs.Choosing.{choices_shown, links_by}
use Rattle.load_checks.specs.Turns.{part_of}
use Rattle.load_checks.specs.Wanting.{entries_shown}
use Rattle.load_checks.proofs.Linking.{links_are}
use Rattle.load_checks.proofs.resolving.take_turn.Goals as goal

pub returns-clause-links : goal.returns-clause-links
returns-clause-links c =
    let es = entries_shown c.args.wanting.now.entries.items in
    c.in_ok-push.ensures.ok
    ∙ ap (λ (t : List Link). c.args.links.now ++ t ∷ [])
    (c.in_ok-table.ensures ∙ ((λ j. links_by es (c.as_slice-wanteds.ensures j) (choices_shown (c.as_slice.ensures.value j)))
    ∙ links_are (part_of c.args.turn.now) es c.in_ok-chosen.chosen.items c.in_ok-chosen.ensures.chosen))
