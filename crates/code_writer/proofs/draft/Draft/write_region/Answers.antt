use Rattle.code_trees.specs.Plain.{plain}
use Rattle.code_writer.specs.Drafts.{region_at}
use Rattle.code_writer.proofs.Regions.{ending, fits_body, last_shallow, adds_ending, writes_adds}
use Rattle.code_writer.proofs.draft.Draft.write_region.Goals as goal

pub write-requires-clause-fits : goal.write-requires-clause-fits
write-requires-clause-fits c = fits_body (plain c.args.body.now) c.args.last c.args.self.now c.args.around (region_at c.args.at) c.requires.fits

pub put-requires-clause-shallow : goal.put-requires-clause-shallow
put-requires-clause-shallow c =
    last_shallow (plain c.args.body.now) c.args.last c.args.around (region_at c.args.at) c.args.self.now c.in_ok-behind.behind c.write.new.self
    c.requires.fits c.in_ok-behind.ensures

pub returns-clause-adds : goal.returns-clause-adds
returns-clause-adds c =
    writes_adds (ending (plain c.args.body.now) c.args.last) _ (region_at c.args.at) c.args.self.now c.in_ok-to.to _
    (adds_ending (plain c.args.body.now) c.args.last c.args.around (region_at c.args.at) c.args.self.now c.in_ok-behind.behind c.write.new.self
    c.put.new.written c.in_ok-to.to c.requires.fits c.in_ok-behind.ensures c.in_ok-to.ensures.code c.in_ok-to.ensures.behind)
