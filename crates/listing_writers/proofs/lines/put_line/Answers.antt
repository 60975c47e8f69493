use Rattle.listing_writers.proofs.Chains.{same_text, then_three}
use Rattle.listing_writers.proofs.LineLaws.{line_is}
use Rattle.listing_writers.proofs.lines.put_line.Goals as goal

pub returns : goal.returns
returns c =
    same_text c.put_text.result c.args.out.now c.put_text.new.out _ _ (line_is _ c.args.others.now)
    (then_three c.put_text.result c.args.out.now c.put_word.new.out c.put_others.new.out c.put_text.new.out _ _ _ c.in_ok-put_word.ensures c.in_ok-put_others.ensures c.put_text.ensures)
