use Rattle.image_readers.proofs.Turns.{path_among}
use Rattle.image_readers.specs.Paths.{keys_of}
use Rattle.image_readers.proofs.instance_rows.came_before.Goals as goal

pub returns : goal.returns
returns c = λ before shows. cc (c.has.ensures (keys_of before) shows, c.in_ok-key.ensures, path_among before c.args.path.now)
