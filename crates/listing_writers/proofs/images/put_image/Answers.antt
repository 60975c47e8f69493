use Rattle.std.proofs.Common.{List, flat_map}
use Rattle.interface_records.specs.declared.wanted.Wanted.{Wanted}
use Rattle.object_files.specs.declared.object.Object.{Object}
use Rattle.listing_rules.specs.Images.{head_line, wanted_line, bound_lines}
use Rattle.listing_rules.specs.Objects.{object_listing}
use Rattle.listing_writers.proofs.Chains.{then_four, of_value}
use Rattle.listing_writers.proofs.images.put_image.Goals as goal

pub returns : goal.returns
returns c =
    let i = c.args.image.now in
    then_four c.put_bound.result c.args.out.now c.put_head.new.out c.put_each.new.out c.put_each-2.new.out c.put_bound.new.out
    head_line (flat_map object_listing i.modules) (flat_map wanted_line i.wanted) (bound_lines i)
    c.in_ok-put_head.ensures
    (of_value (λ (xs : List Object). flat_map object_listing xs) c.put_head.new.out c.put_each.new.out c.as_slice.result.now i.modules c.as_slice.ensures c.in_ok-put_each.ensures)
    (of_value (λ (xs : List Wanted). flat_map wanted_line xs) c.put_each.new.out c.put_each-2.new.out c.as_slice-2.result.now i.wanted c.as_slice-2.ensures c.in_ok-put_each-2.ensures)
    c.put_bound.ensures
