-- The laws on loaded images.
use Rattle.std.proofs.Common.{◌≡◌, List, [], ◌∷◌, inl, inr, refl, subst}
use Rattle.agreement_laws.proofs.Agreement.{images_run}
use Rattle.object_files.specs.declared.image.Image.{Image}
use Rattle.bound_images.specs.Built.{Built}
use Rattle.bound_images.proofs.Elements.{all_mem}
use Rattle.config_rules.proofs.Members.{Mem}
use Rattle.loader_rules.specs.Loaded.{Loaded}
use Rattle.loaded_runs.specs.Laws.{joined_program, LoadedImagesStand, LoadedProgramsAreLawful, LoadedImagesWantTheHost, LoadedImagesRunAsTheirSource}
use Rattle.loaded_runs.specs.Sources.{IsSource, NoneLater, AreLoaded, LeavesBuiltInToHost}
use Rattle.loaded_runs.specs.Together.{Source, images_of}
use Rattle.loaded_runs.proofs.Hosted as hosted
use Rattle.loaded_runs.proofs.Known.{linked_images, Loading}
use Rattle.loaded_runs.proofs.Lawful as lawful
use Rattle.loaded_runs.proofs.Standing as standing

-- a built image is the linked one
images_are : (sources : List Source) → ((s : Source) → Mem s sources → IsSource s) → images_of sources ≡ linked_images sources
images_are [] h = refl
images_are (s ∷ ss) h = λ j. (h s (inl refl)).built.linked j ∷ images_are ss (λ t m. h t (inr m)) j

abbrev loading : (sources : List Source) (image : Image) → AreLoaded sources image → Loading
loading sources image A =
    let each : (s : Source) → Mem s sources → IsSource s = all_mem IsSource sources A.each in
    let are = images_are sources each in
    record {
      sources = sources;
      image = image;
      built = λ s m. subst (Built s.tree s.modules s.objects) (each s m).built.linked (each s m).built;
      outermost = λ s m. (each s m).outermost;
      passes = λ s m. (each s m).passes;
      none_later = subst NoneLater are A.none_later;
      loaded = subst (λ is. Loaded is image) are A.loaded;
    }

pub images_stand : LoadedImagesStand
images_stand sources image A = standing.whole (loading sources image A)

pub programs_are_lawful : LoadedProgramsAreLawful
programs_are_lawful sources image A host = lawful.whole (loading sources image A) host

pub images_want_the_host : LoadedImagesWantTheHost
images_want_the_host sources image A leaves = hosted.whole (loading sources image A) (all_mem (λ (s : Source). LeavesBuiltInToHost s.tree) sources leaves)

pub loaded_images_run : LoadedImagesRunAsTheirSource
loaded_images_run sources image A host = images_run (joined_program sources) image (programs_are_lawful sources image A host) (images_stand sources image A) host
