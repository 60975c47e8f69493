use Rattle.std.proofs.Common.{ℕ, List, flat_map}
use Rattle.object_files.specs.declared.image.Offer.{Offer}
use Rattle.listing_rules.specs.Images.{instances_from, offer_line, control_line}
use Rattle.listing_writers.proofs.Chains.{then_three, of_value, of_last}
use Rattle.listing_writers.proofs.images.put_bound.Goals as goal

pub returns : goal.returns
returns c =
    let i = c.args.image.now in
    then_three c.put_starts.result c.args.out.now c.put_instances.new.out c.put_offers.new.out c.put_starts.new.out
    (instances_from i.instances i.links 0 i.instances) (flat_map (offer_line i.instances) i.offered) (flat_map (control_line i.instances) i.control)
    c.in_ok-put_instances.ensures
    (of_value (λ (xs : List Offer). flat_map (offer_line i.instances) xs) c.put_instances.new.out c.put_offers.new.out c.as_slice.result.now i.offered c.as_slice.ensures c.in_ok-put_offers.ensures)
    (of_last c.put_starts.result (λ (xs : List ℕ). flat_map (control_line i.instances) xs) c.put_offers.new.out c.put_starts.new.out c.as_slice-2.result.now i.control c.as_slice-2.ensures c.put_starts.ensures)
