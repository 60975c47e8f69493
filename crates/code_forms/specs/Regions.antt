-- The regions of a procedure's code: the body, and the arms (rule of this project).
use Rattle.std.specs.Prelude.{ℕ, zero, suc, ◌+◌, List, [], ◌∷◌, Option, Some, None, nat_le, slice_get, if◌then◌else◌}
use Rattle.code_forms.specs.declared.module_code.Arm.{Arm}
use Rattle.code_forms.specs.declared.module_code.Phrase.{Phrase}
use Rattle.code_forms.specs.declared.region.Region.{Region}
use Rattle.code_forms.specs.declared.region.Region.TheVariants.{Body, ArmOf}

abbrev pub later_arm : ℕ → ℕ → List Arm → ℕ → Region → Region
later_arm phrase arm [] offset before = before
later_arm phrase arm (a ∷ arms) offset before = later_arm phrase (arm + 1) arms offset (if nat_le a.start offset then ArmOf phrase arm else before)

abbrev pub later_phrase : ℕ → List Phrase → ℕ → Region → Region
later_phrase phrase [] offset before = before
later_phrase phrase (p ∷ phrases) offset before = later_phrase (phrase + 1) phrases offset (later_arm phrase 0 p.arms offset before)

-- the region that holds an offset. Regions follow each other, so it is that of the last arm that begins there or before, else the body
abbrev pub region_at : List Phrase → ℕ → Region
region_at phrases offset = later_phrase 0 phrases offset Body

-- the region that holds an arm's phrase is the arm's holder; the body has none
abbrev pub around_phrase : List Phrase → Option Phrase → Option Region
around_phrase phrases None = None
around_phrase phrases (Some p) = Some (region_at phrases p.from)

abbrev pub holder : List Phrase → Region → Option Region
holder phrases Body = None
holder phrases (ArmOf phrase arm) = around_phrase phrases (slice_get phrases phrase)

abbrev pub and_then : (Region → Option Region) → Option Region → Option Region
and_then f None = None
and_then f (Some region) = f region

-- the holder so many steps outward
abbrev pub outward : List Phrase → ℕ → Region → Option Region
outward phrases zero region = Some region
outward phrases (suc k) region = and_then (outward phrases k) (holder phrases region)

abbrev pub arm_in : Option Phrase → ℕ → Option Arm
arm_in None arm = None
arm_in (Some p) arm = slice_get p.arms arm

-- the arm of a region
abbrev pub arm_of : List Phrase → Region → Option Arm
arm_of phrases Body = None
arm_of phrases (ArmOf phrase arm) = arm_in (slice_get phrases phrase) arm
