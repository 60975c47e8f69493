-- Several images that are loaded as one.
use Rattle.std.proofs.Common.{◌≡◌, ◌≢◌, ℕ, ◌<◌, ◌≤◌, ◌⊎◌, ⊎_elim, inl, inr, List, [], ◌∷◌, length, map, get_or, Some, slice_get, unwrap_or, All, Result, Ok, Err, refl, sym, ◌∙◌, ap, subst, arith}
use Rattle.std.specs.Prelude.{IfOk, IfErr}
use Rattle.std.proofs.lemmas.List.Elements.{All-contains, All-weaker}
use Rattle.std.proofs.lemmas.Option.{none-some, slice_get_read}
use Rattle.interface_records.specs.Hosts.{IsHostItem}
use Rattle.interface_records.specs.declared.wanted.Wanted.{Wanted as Entry}
use Rattle.machine_ready.specs.Order.{ImageInOrder}
use Rattle.object_files.specs.declared.image.Image.{Image}
use Rattle.object_rules.specs.ImageForms.{parts_of_image}
use Rattle.object_rules.specs.Parts.{IsWhole}
use Rattle.read_files.specs.Laws.{ImagesThatFitAreInOrder}
use Rattle.upgraded_files.specs.Upgraded.{FilesAreUpgraded, upgraded}
use Rattle.loader_rules.specs.Laws.{HasFile, IsWantedByOne, LoadedImagesAreInOrder, LoadsComeOnce, WantedByOne, wanted_of_host}
use Rattle.loader_rules.specs.LoadFaults.{HasLoadFault, first_of, load_faults}
use Rattle.loader_rules.specs.Loaded.{Loaded}
use Rattle.loader_rules.specs.declared.fault.LoadFault.{LoadFault}
use Rattle.loader_rules.specs.declared.fault.LoadFault.TheVariants as load
use Rattle.loader_rules.specs.declared.limits.TheConstants.{MOST_IMAGES}
use Rattle.command_passes.specs.command_rules.specs.Case.{Case, Refused, Memory}
use Rattle.command_passes.specs.command_rules.specs.Forms.{image_file}
use Rattle.command_passes.specs.command_rules.specs.Loading.{AreImagesWith, Joins, IsRunOf, IsFirstToLack, faulty, faulty_file}
use Rattle.command_passes.specs.command_rules.specs.Passes.{Has, Stops}
use Rattle.command_passes.specs.command_rules.specs.declared.trouble.Trouble.TheVariants.{Unresolved, Load}
use Rattle.command_passes.specs.Filed.{IsFiledImage}
use Rattle.command_passes.specs.Stops.{stop_case}
use Rattle.command_passes.specs.declared.stop.Stop.{Stop}
use Rattle.command_passes.specs.declared.stop.Stop.TheVariants as stop
use Rattle.command_loads.specs.Lacking as lacks
use Rattle.command_loads.specs.Lacking.{HasFor, IsFirstLack, LackEnds}
use Rattle.command_loads.specs.Loaded.{IsNotReadied, not_loaded, unresolved, no_memory, ReadiesTo}
use Rattle.command_loads.specs.Stops as stops
use Rattle.command_loads.specs.Stops.{IsOrMemory, LoadEnds}
use Rattle.command_loads.specs.declared.lacking.Lack.{Lack}
use Rattle.command_loads.proofs.Wanting.{first_to_lack, host_has, several_want}

-- ---- what files hold

pub have_files : FilesAreUpgraded → (images : List Image) → All IsFiledImage images → All (HasFile 2) images
have_files law images filed = All-weaker IsFiledImage (HasFile 2) (λ i f. (upgraded f.bytes, law.images f.version i f.bytes f.is_file)) images filed

pub loaded_in_order : FilesAreUpgraded → LoadedImagesAreInOrder → ImagesThatFitAreInOrder → (images : List Image) (image : Image) → length images ≤ MOST_IMAGES
    → All IsFiledImage images → Loaded images image → ImageInOrder image
loaded_in_order files law fit images image few filed loaded =
    let o = law 2 images image few (have_files files images filed) loaded in
    fit 2 image o.fits o.whole

-- what is loaded wants nothing that the host has not, where none of them does
pub loaded_has : WantedByOne → (images : List Image) (image : Image) → Loaded images image → All HasFor images → All IsHostItem image.wanted
loaded_has law images image loaded h = All-weaker (IsWantedByOne images) IsHostItem by image.wanted (law images image loaded)
  where
    by : (e : Entry) → IsWantedByOne images e → IsHostItem e
    by e w = All-contains IsHostItem (wanted_of_host w.image) e (All-contains HasFor images w.image h w.is_one) w.wants

-- ---- the names of files

unwrapped : (xs : List (List ℕ)) (n : ℕ) (x : List ℕ) → slice_get xs n ≡ Some x → image_file x ≡ image_file (unwrap_or (slice_get xs n) [])
unwrapped xs n x is = ap (λ o. image_file (unwrap_or o [])) (sym is)

module _ (bases : List (List ℕ)) (n : ℕ) (base : List ℕ) (less : n < length bases) (is : base ≡ get_or bases n base) where
  at : slice_get bases n ≡ Some base
  at = slice_get_read bases (length bases) n base refl less is

  pub fault_ends : (fault : LoadFault) (case : Case) → n ≡ faulty fault → fault ≢ load.Memory → IsOrMemory (Refused (image_file base) (Load fault)) case
      → LoadEnds bases fault case
  fault_ends fault _ k some (inl e) =
      subst (LoadEnds bases fault) (ap (λ (file : List ℕ). Refused file (Load fault)) its ∙ sym e) (stops.told some)
    where
      its : faulty_file bases fault ≡ image_file base
      its = ap (λ m. image_file (unwrap_or (slice_get bases m) [])) (sym k) ∙ sym (unwrapped bases n base at)
  fault_ends fault _ k some (inr e) = subst (LoadEnds bases fault) (sym e) stops.no_memory

  pub lack_ends : (lack : Lack) (case : Case) → n ≡ lack.number → IsOrMemory (Refused (image_file base) (Unresolved lack.item)) case
      → LackEnds bases lack case
  lack_ends lack _ k (inl e) = subst (LackEnds bases lack) (sym e) (lacks.told base (ap (slice_get bases) (sym k) ∙ at))
  lack_ends lack _ k (inr e) = subst (LackEnds bases lack) (sym e) lacks.no_memory

-- ---- images without a fault are loaded

loads : LoadsComeOnce → (images : List Image) → load_faults images ≡ [] → (image : Image) × Loaded images image
loads law images none =
    ⊎_elim (λ l. l) (λ f. absurd (none-some f.0 (sym (ap first_of none) ∙ f.1))) (law.one_or_the_other images)

-- ---- what comes of images that files hold

are_with : (images : List Image) → All IsFiledImage images → AreImagesWith (map parts_of_image images) images
are_with images filed = record { its = refl; whole = All-weaker IsFiledImage (λ (i : Image). All IsWhole i.modules) (λ i f. f.is_file.whole) images filed }

joins : (bases : List (List ℕ)) (images : List Image) (image : Image) → 2 ≤ length images → All IsFiledImage images → Loaded images image
    → Joins bases (map parts_of_image images) (Has (map parts_of_image images))
joins bases [] image several filed loaded = absurd (omega (arith, several))
joins bases (a ∷ []) image several filed loaded = absurd (omega (arith, several))
joins bases (a ∷ b ∷ images) image several filed loaded =
    Joins.joined (parts_of_image a) (parts_of_image b) (map parts_of_image images) (a ∷ b ∷ images) image (are_with (a ∷ b ∷ images) filed) loaded

not_joins : (bases : List (List ℕ)) (images : List Image) (fault : LoadFault) → 2 ≤ length images → All IsFiledImage images → HasLoadFault images fault
    → Joins bases (map parts_of_image images) (Stops (Refused (faulty_file bases fault) (Load fault)))
not_joins bases [] fault several filed has = absurd (omega (arith, several))
not_joins bases (a ∷ []) fault several filed has = absurd (omega (arith, several))
not_joins bases (a ∷ b ∷ images) fault several filed has =
    Joins.not_joined (parts_of_image a) (parts_of_image b) (map parts_of_image images) (a ∷ b ∷ images) fault (are_with (a ∷ b ∷ images) filed) has

run_of : (images : List Image) (image : Image) → 2 ≤ length images → All IsFiledImage images → Loaded images image → IsRunOf (map parts_of_image images) image
run_of [] image several filed loaded = absurd (omega (arith, several))
run_of (a ∷ []) image several filed loaded = absurd (omega (arith, several))
run_of (a ∷ b ∷ images) image several filed loaded =
    IsRunOf.joined (parts_of_image a) (parts_of_image b) (map parts_of_image images) (a ∷ b ∷ images) image (are_with (a ∷ b ∷ images) filed) loaded

module _ (bases : List (List ℕ)) (images : List Image) (several : 2 ≤ length images) (filed : All IsFiledImage images) where
  pub memory_so : (why : Stop) → why ≡ stop.Memory → ReadiesTo bases (map parts_of_image images) (Err why)
  memory_so why e = subst (λ w. IsNotReadied bases (map parts_of_image images) (stop_case w)) (sym e) no_memory

  -- the first fault
  pub fault_so : (fault : LoadFault) (case : Case) → (fault ≢ load.Memory → HasLoadFault images fault) → LoadEnds bases fault case
      → IsNotReadied bases (map parts_of_image images) case
  fault_so fault _ has (stops.told some) =
      not_loaded (faulty_file bases fault) (Load fault) (not_joins bases images fault several filed (has some))
  fault_so fault _ has stops.no_memory = no_memory

  -- the first item that the host has not, where they have no fault
  pub lack_so : LoadsComeOnce → load_faults images ≡ [] → (lack : Lack) (case : Case) → IsFirstLack images lack → LackEnds bases lack case
      → IsNotReadied bases (map parts_of_image images) case
  lack_so law none lack _ f (lacks.told base is) =
      let l = loads law images none in
      unresolved base lack.item (joins bases images l.0 several filed l.1)
      (subst (λ wants. IsFirstToLack bases wants base lack.item) (sym (several_want images several))
      (first_to_lack bases images lack.number base f.image lack.item is f.is f.before f.lacks))
  lack_so law none lack _ f lacks.no_memory = no_memory

  module _ (image : Image) (loaded : Loaded images image) where
    -- the machine
    pub machine_so : (r : Result Image Stop) → All HasFor images → IfOk r (λ machine. machine ≡ image) → IfErr r (λ why. why ≡ stop.Memory)
        → ReadiesTo bases (map parts_of_image images) r
    machine_so (Ok machine) h same memory = record {
      joins = joins bases images image several filed loaded;
      its = subst (IsRunOf (map parts_of_image images)) (sym same) (run_of images image several filed loaded);
      hosts = host_has images several h;
    }
    machine_so (Err why) h same memory = memory_so why memory
