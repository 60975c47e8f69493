-- Where images stand among those that are loaded, and what they have, with its numbers shifted by that.
use Rattle.std.specs.Prelude.{ℕ, ◌+◌, ◌<◌, ◌^◌, List, ◌∷◌, ◌++◌, length, All, codes, decimal, Option, Some, None, slice_get}
use Rattle.object_files.specs.declared.image.Image.{Image}
use Rattle.object_files.specs.declared.image.Instance.{Instance}
use Rattle.object_files.specs.declared.image.Link.{Link}
use Rattle.object_files.specs.declared.image.Link.TheVariants.{Wanted, To}
use Rattle.object_files.specs.declared.image.Offer.{Offer}
use Rattle.loader_rules.specs.Parts.{Part, modules_of, instances_of}
use Rattle.image_loader.specs.declared.standing.Standing.{Standing}

abbrev pub at_first : Standing
at_first = record { number = 0; modules = 0; instances = 0 }

-- that of the image behind this one
abbrev pub behind : Standing → Image → Standing
behind s i = record { number = s.number + 1; modules = s.modules + length i.modules; instances = s.instances + length i.instances }

-- that of the image behind all of these
abbrev pub behind_all : List Image → Standing
behind_all images = record { number = length images; modules = length (modules_of images); instances = length (instances_of images) }

-- ---- numbers are shifted, and a name is put before each path

abbrev pub name_by : Standing → List ℕ
name_by s = codes "I" ++ decimal (s.number + 1)

abbrev pub instance_by : Standing → Instance → Instance
instance_by s x = record { path = name_by s ∷ x.path; «module» = s.modules + x.«module» }

abbrev pub offer_by : Standing → Offer → Offer
offer_by s o = record { name = o.name; instance = s.instances + o.instance; export = o.export }

abbrev pub started_by : Standing → ℕ → ℕ
started_by s j = s.instances + j

abbrev pub or_given : Link → Option Link → Link
or_given was None = was
or_given was (Some its) = its

-- by what is given for each wanted item
abbrev pub link_by : Standing → (given : List Link) → Link → Link
link_by s given (Wanted n) = or_given (Wanted n) (slice_get given n)
link_by s given (To j n) = To (s.instances + j) n

-- ---- that all of it can be numbered

-- the instance that a link is to, if it is to one
abbrev pub instance_of : Link → ℕ
instance_of (Wanted n) = 0
instance_of (To j n) = j

pub record Fits (s : Standing) (i : Image) : Type 0 where
  pub number : s.number < 16
  pub modules : s.modules + length i.modules < 2 ^ 32
  pub instances : s.instances + length i.instances < 2 ^ 32
  pub each_instance : All (λ (x : Instance). s.modules + x.«module» < 2 ^ 32) i.instances
  pub each_link : All (All (λ (l : Link). s.instances + instance_of l < 2 ^ 32)) i.links
  pub each_offer : All (λ (o : Offer). s.instances + o.instance < 2 ^ 32) i.offered
  pub each_started : All (λ (j : ℕ). s.instances + j < 2 ^ 32) i.control

-- so does an image behind those before it
abbrev pub FitsBehind : Part → Type 0
FitsBehind p = Fits (behind_all p.before) p.image
