use Rattle.std.proofs.Common.{◌≡◌, ◌++◌, ◌∷◌, []}
use Rattle.interface_readers.proofs.Turns.{type_grown, type_shown}
use Rattle.interface_readers.proofs.named_types.with_type.Goals as goal

pub returns : goal.returns
returns c =
    let grown : c.in_ok-more.more ≡ record c.args.so_far { types = c.args.so_far.types ++ c.args.named ∷ [] } =
    type_grown c.args.so_far c.in_ok-so_far.so_far c.in_ok-more.more c.args.named c.in_ok-so_far.kind c.in_ok-so_far.ensures.0 c.in_ok-more.ensures in (
      grown,
      type_shown c.args.seen.now c.add-added.new.self c.args.so_far c.in_ok-more.more c.args.named c.bytes.result.now grown c.bytes.ensures
          (rw c.in_ok-so_far.ensures.1 at c.add-added.ensures) c.requires,
    )
