use Rattle.load_checks.proofs.Answered.{on_ok}
use Rattle.load_checks.proofs.Putting.{under_item}
use Rattle.std.proofs.Common.{◌∙◌, refl}
use Rattle.load_checks.specs.Givers.{offering_shown}
use Rattle.load_checks.specs.Index.{found_under}
use Rattle.load_checks.proofs.exporters.note_item.Goals as goal

pub returns : goal.returns
returns c =
    let o = offering_shown c.args.offering.now in
    on_ok c.note.result
    (λ noted k.
    noted k
    ∙ under_item (record { face = c.in_ok-copy.field-0; stamp = c.args.offering.now.export.now.face.stamp; item = c.in_ok-copy-2.field-0 }) k o c.args.item.now c.args.number
    (found_under k c.args.index.now.entries) c.in_ok-copy.ensures refl c.in_ok-copy-2.ensures) c.note.ensures
