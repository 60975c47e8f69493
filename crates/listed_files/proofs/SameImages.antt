-- Images that are the same, depths aside, have one listing.
use Rattle.std.proofs.Common.{◌≡◌, ℕ, List, [], ◌∷◌, ◌++◌, flat_map, refl, ap, ◌∙◌}
use Rattle.interface_records.specs.declared.wanted.Wanted.{Wanted as Entry}
use Rattle.listed_files.specs.Laws.{SameImagesHaveOneListing}
use Rattle.listing_rules.proofs.SameListing.{same_listing}
use Rattle.listing_rules.specs.Images.{head_line, wanted_line, instances_from, offer_line, control_line}
use Rattle.listing_rules.specs.Objects.{object_listing}
use Rattle.object_files.specs.declared.image.Instance.{Instance}
use Rattle.object_files.specs.declared.image.Link.{Link}
use Rattle.object_files.specs.declared.image.Offer.{Offer}
use Rattle.object_files.specs.declared.object.Object.{Object}
use Rattle.object_rules.specs.Exact.{AreSameObjects}

objects_same : (a b : List Object) → AreSameObjects a b → flat_map object_listing a ≡ flat_map object_listing b
unfolding AreSameObjects
objects_same [] [] same = refl
objects_same [] (y ∷ b) same = absurd same
objects_same (x ∷ a) [] same = absurd same
objects_same (x ∷ a) (y ∷ b) same =
    ap (λ (t : List ℕ). t ++ flat_map object_listing a) (same_listing x y same.0.shape same.0.code) ∙ ap (λ (t : List ℕ). object_listing y ++ t) (objects_same a b same.1)

-- the listing of an image, its objects listed
abbrev of_parts : List ℕ → List Entry → List Instance → List (List Link) → List Offer → List ℕ → List ℕ
of_parts objects wanted instances links offered control =
    head_line
    ++ (objects
    ++ (flat_map wanted_line wanted ++ (instances_from instances links 0 instances ++ (flat_map (offer_line instances) offered ++ flat_map (control_line instances) control))))

pub same_image_listing : SameImagesHaveOneListing
same_image_listing a b same =
    ap (λ (t : List ℕ). of_parts t a.wanted a.instances a.links a.offered a.control) (objects_same a.modules b.modules same.modules)
    ∙ ap (λ (w : List Entry). of_parts (flat_map object_listing b.modules) w a.instances a.links a.offered a.control) same.wanted
    ∙ ap (λ (x : List Instance). of_parts (flat_map object_listing b.modules) b.wanted x a.links a.offered a.control) same.instances
    ∙ ap (λ (l : List (List Link)). of_parts (flat_map object_listing b.modules) b.wanted b.instances l a.offered a.control) same.links
    ∙ ap (λ (o : List Offer). of_parts (flat_map object_listing b.modules) b.wanted b.instances b.links o a.control) same.offered
    ∙ ap (λ (c : List ℕ). of_parts (flat_map object_listing b.modules) b.wanted b.instances b.links b.offered c) same.control
