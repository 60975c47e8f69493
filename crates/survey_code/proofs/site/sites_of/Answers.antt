use Rattle.survey_code.proofs.Listing.{no_sites, site_more, all_sites}
use Rattle.survey_code.proofs.site.sites_of.Goals as goal

pub loop-number-init : goal.loop-number-init
loop-number-init c = no_sites c.args.procedure.now c.args.marks.now c.new-sites.result c.new-sites.ensures

pub loop-number-preserved : goal.loop-number-preserved
loop-number-preserved c =
    site_more c.args.procedure.now c.args.marks.now c.args.positions.now c.as_slice-entries.result.now c.loop-number.number _ c.loop-number.sites c.add.new.sites c.site_of-site.result
    c.as_slice-entries.ensures c.loop-number-test.true c.requires.many_positions c.requires.positions c.loop-number.invariant c.site_of-site.ensures c.in_ok-add.ensures

pub returns : goal.returns
returns c =
    all_sites c.args.procedure.now c.args.marks.now c.as_slice-entries.result.now c.loop-number.number c.loop-number.sites c.as_slice-entries.ensures c.loop-number-test.false c.loop-number.invariant
