-- Images of the same parts differ in depths alone; so do those that are loaded of them, and their load faults are the same.
use Rattle.std.proofs.Common.{◌≡◌, zero, suc, List, [], ◌∷◌, map, All, refl, sym, ◌∙◌, ap, arith}
use Rattle.object_files.specs.declared.image.Image.{Image}
use Rattle.object_rules.specs.Exact.{IsSameImage}
use Rattle.object_rules.specs.ImageForms.{ImagePart, parts_of_image}
use Rattle.object_rules.specs.Parts.{IsWhole}
use Rattle.object_rules.proofs.WholeLaws.{same_objects}
use Rattle.loader_rules.specs.LoadFaults.{HasLoadFault, first_of}
use Rattle.loader_rules.specs.Laws.{AreSameImages, LoadsAreAlike}
use Rattle.loader_rules.specs.declared.fault.LoadFault.{LoadFault}
use Rattle.command_rules.specs.Loading.{AreImagesWith, IsRunOf}
use Rattle.command_rules.specs.Objects.{IsImageWith}

pub same_image : (parts : ImagePart) (x y : Image) → IsImageWith parts x → IsImageWith parts y → IsSameImage x y
same_image parts x y of_x of_y =
    let e = of_x.its ∙ sym of_y.its in record {
      modules = same_objects x.modules y.modules of_x.whole of_y.whole (ap (λ (p : ImagePart). p.modules) e);
      wanted = ap (λ (p : ImagePart). p.wanted) e;
      instances = ap (λ (p : ImagePart). p.instances) e;
      links = ap (λ (p : ImagePart). p.links) e;
      offered = ap (λ (p : ImagePart). p.offered) e;
      control = ap (λ (p : ImagePart). p.control) e;
    }

abbrev are_whole : List Image → Type 0
are_whole images = All (λ (i : Image). All IsWhole i.modules) images

same_images : (xs ys : List Image) → are_whole xs → are_whole ys → map parts_of_image xs ≡ map parts_of_image ys → AreSameImages xs ys
unfolding AreSameImages
same_images [] [] of_xs of_ys e = tt
same_images [] (y ∷ ys) of_xs of_ys e = absurd cc
same_images (x ∷ xs) [] of_xs of_ys e = absurd cc
same_images (x ∷ xs) (y ∷ ys) of_xs of_ys e =
    let head : parts_of_image x ≡ parts_of_image y = cc in
    let tail : map parts_of_image xs ≡ map parts_of_image ys = cc in (
      same_image (parts_of_image x) x y (record { its = refl; whole = of_xs zero x (omega arith) }) (record { its = sym head; whole = of_ys zero y (omega arith) }),
      same_images xs ys (λ k d less. of_xs (suc k) d (omega (arith, less))) (λ k d less. of_ys (suc k) d (omega (arith, less))) tail,
    )

are_same : (parts : List ImagePart) (xs ys : List Image) → AreImagesWith parts xs → AreImagesWith parts ys → AreSameImages xs ys
are_same parts xs ys a b = same_images xs ys a.whole b.whole (a.its ∙ sym b.its)

pub same_fault : LoadsAreAlike → (parts : List ImagePart) (xs ys : List Image) → AreImagesWith parts xs → AreImagesWith parts ys → (why : LoadFault)
    → HasLoadFault xs why → HasLoadFault ys why
same_fault law parts xs ys a b why h = sym (ap first_of (law xs ys (are_same parts xs ys a b)).faults) ∙ h

pub same_run : LoadsAreAlike → (parts : List ImagePart) (x y : Image) → IsRunOf parts x → IsRunOf parts y → IsSameImage x y
same_run law _ x y (IsRunOf.alone p _ a) (IsRunOf.alone _ _ b) = same_image p x y a b
same_run law _ x y (IsRunOf.joined p q parts xs _ a l) (IsRunOf.joined _ _ _ ys _ b m) = (law xs ys (are_same (p ∷ q ∷ parts) xs ys a b)).images x y l m
