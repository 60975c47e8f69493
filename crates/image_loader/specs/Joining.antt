-- What is joined of images, but for their modules and what they still want.
use Rattle.std.specs.Prelude.{◌≡◌, List, ◌++◌, flat_map, map}
use Rattle.interface_records.specs.declared.wanted.Wanted.{Wanted as Entry}
use Rattle.object_files.specs.declared.image.Image.{Image}
use Rattle.object_files.specs.declared.image.Link.{Link}
use Rattle.loader_rules.specs.Loaded.{instance_in, offer_in, started_in, link_in}
use Rattle.loader_rules.specs.Parts.{Part, parts}
use Rattle.image_loader.specs.declared.joining.Joining.{Joining}
use Rattle.image_loader.specs.Standing.{behind, behind_all, instance_by, offer_by, started_by, link_by}

-- what an image has is put behind the rest, with this given for its wanted items
pub record IsPutBehind (i : Image) (given : List Link) (old new : Joining) : Type 0 where
  pub standing : new.standing ≡ behind old.standing i
  pub instances : new.instances ≡ old.instances ++ map (instance_by old.standing) i.instances
  pub links : new.links ≡ old.links ++ map (map (link_by old.standing given)) i.links
  pub offered : new.offered ≡ old.offered ++ map (offer_by old.standing) i.offered
  pub control : new.control ≡ old.control ++ map (started_by old.standing) i.control

-- what these images have is put, where this is still wanted
pub record ArePut (wanted : List Entry) (images : List Image) (j : Joining) : Type 0 where
  pub standing : j.standing ≡ behind_all images
  pub instances : j.instances ≡ flat_map (λ (p : Part). map (instance_in p) p.image.instances) (parts images)
  pub links : j.links ≡ flat_map (λ (p : Part). map (map (link_in p wanted)) p.image.links) (parts images)
  pub offered : j.offered ≡ flat_map (λ (p : Part). map (offer_in p) p.image.offered) (parts images)
  pub control : j.control ≡ flat_map (λ (p : Part). map (started_in p) p.image.control) (parts images)
