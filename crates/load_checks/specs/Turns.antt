-- The image whose turn it is, and what is kept of those before it.
use Rattle.std.specs.Prelude.{◌≡◌, ◌+◌, ◌≤◌, List, [], ◌∷◌, ◌++◌, length}
use Rattle.mesa_base.specs.declared.limits.TheConstants.{INSTANCES}
use Rattle.object_files.specs.declared.image.Image.{Image}
use Rattle.object_rules.specs.declared.limits.TheConstants.{IMAGE_MODULES}
use Rattle.loader_rules.specs.Exporters.{all_offered}
use Rattle.loader_rules.specs.Parts.{Part, part, modules_of, instances_of}
use Rattle.link_tables.specs.declared.key.EntryKey.{EntryKey}
use Rattle.load_checks.specs.declared.turn.Seen.{Seen}
use Rattle.load_checks.specs.declared.turn.Turn.{Turn}
use Rattle.load_checks.specs.Givers.{first_two, givers}
use Rattle.load_checks.specs.Index.{Entries, found_under}

abbrev pub part_of : Turn → Part
part_of t = part t.before.now t.image.now

-- the images with it
abbrev pub after : Part → List Image
after p = p.before ++ p.image ∷ []

-- under each key are the first two who offer its item
abbrev pub HoldsGivers : List Image → Entries → Type 0
HoldsGivers images entries = (k : EntryKey) → found_under k entries ≡ first_two (givers k (all_offered images))

pub record IsSeen (images : List Image) (s : Seen) : Type 0 where
  pub images_are : s.images ≡ length images
  pub instances_are : s.instances ≡ length (instances_of images)
  pub modules_are : s.modules ≡ length (modules_of images)
  pub few_instances : s.instances ≤ INSTANCES
  pub few_modules : s.modules ≤ IMAGE_MODULES
  pub holds : HoldsGivers images s.index.entries

-- there are not too many instances and modules with it
pub record HasRoom (p : Part) : Type 0 where
  pub instances : length (instances_of p.before) + length p.image.instances ≤ INSTANCES
  pub modules : length (modules_of p.before) + length p.image.modules ≤ IMAGE_MODULES
