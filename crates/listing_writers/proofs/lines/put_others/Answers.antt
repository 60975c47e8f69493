use Rattle.listing_writers.specs.Words.{after_blank}
use Rattle.listing_writers.proofs.Turns.{none_yet, each_more}
use Rattle.listing_writers.proofs.lines.put_others.Goals as goal

pub words-init : goal.words-init
words-init c = none_yet after_blank c.args.out.now c.args.words.now

pub words-preserved : goal.words-preserved
words-preserved c =
    each_more after_blank c.args.out.now c.words.out c.put_after_blank.new.out c.args.words.now c.words.word-index c.word-item.result c.words-test.true c.word-item.is c.words.invariant
    c.in_ok-put_after_blank.ensures
