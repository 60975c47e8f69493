use Rattle.std.proofs.Common.{ap, ◌∙◌}
use Rattle.line_pieces.specs.Texts.{stamp_text}
use Rattle.listing_writers.proofs.Chains.{same_text}
use Rattle.listing_writers.proofs.digits.put_stamp.Goals as goal

pub returns : goal.returns
returns c =
    same_text c.put_text.result c.args.out.now c.put_text.new.out c.stamp_digits.result (stamp_text c.args.stamp)
    (c.stamp_digits.ensures ∙ ap stamp_text c.number.ensures) c.put_text.ensures
