use Rattle.loader_rules.specs.Wanted.{still_wanted}
use Rattle.image_loader.proofs.Putting.{none_put, fits_there, links_there, put_there}
use Rattle.image_loader.proofs.joining.all_put.Goals as goal

pub loop-number-init : goal.loop-number-init
loop-number-init c = none_put (still_wanted c.args.images.now) _ c.first.ensures c.new.ensures c.new-2.ensures c.new-3.ensures c.new-4.ensures

pub bounds-links-number : goal.bounds-links-number
bounds-links-number c =
    links_there c.args.images.now c.loop-number.number c.index-images-number.result c.loop-number-test.true c.index-images-number.is c.args.links.now c.requires.links

pub put_image-requires : goal.put_image-requires
put_image-requires c =
    fits_there c.args.images.now c.loop-number.number c.index-images-number.result c.loop-number-test.true c.index-images-number.is c.loop-number.all.standing
    c.loop-number.invariant.standing c.requires.fit

pub loop-number-preserved : goal.loop-number-preserved
loop-number-preserved c =
    put_there c.args.images.now c.loop-number.number c.index-images-number.result c.loop-number-test.true c.index-images-number.is c.args.links.now
    c.index-links-number.result c.as_slice.result.now c.loop-number.all c.put_image.new.all c.requires.links c.index-links-number.is c.as_slice.ensures
    c.loop-number.invariant c.in_ok-put_image.ensures
