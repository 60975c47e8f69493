use Rattle.std.proofs.Common.{◌≡◌, ◌++◌, ◌∷◌, []}
use Rattle.interface_readers.proofs.Turns.{constant_grown, constant_shown}
use Rattle.interface_readers.proofs.constants.with_constant.Goals as goal

pub returns : goal.returns
returns c =
    let grown : c.in_ok-more.more ≡ record c.args.so_far { constants = c.args.so_far.constants ++ c.args.constant ∷ [] } =
    constant_grown c.args.so_far c.in_ok-so_far.so_far c.in_ok-more.more c.args.constant c.in_ok-so_far.kind c.in_ok-so_far.ensures.0 c.in_ok-more.ensures in (
      grown,
      constant_shown c.args.seen.now c.add-added.new.self c.args.so_far c.in_ok-more.more c.args.constant c.bytes.result.now grown c.bytes.ensures
          (rw c.in_ok-so_far.ensures.1 at c.add-added.ensures) c.requires,
    )
