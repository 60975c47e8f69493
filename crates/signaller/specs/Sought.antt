-- What an arm is sought for, and what one phrase says (rule of this project).
use Rattle.std.specs.Prelude.{◌≡◌, ℕ, ◌<◌, List, length, Bool, true, false, ◌&&◌, Option, Some, None, position, slice_get, if◌then◌else◌}
use Rattle.std.specs.List.{list_any}
use Rattle.code_forms.specs.declared.module_code.Arm.{Arm}
use Rattle.code_forms.specs.declared.module_code.Phrase.{Phrase}
use Rattle.signaller.specs.declared.place.Place.{Place}
use Rattle.signaller.specs.declared.outward.Asked.{Asked}
use Rattle.signaller.specs.declared.outward.Asked.TheVariants.{Fits, Before}
use Rattle.signaller.specs.declared.outward.Sought.{Sought}
use Rattle.signaller.specs.declared.outward.Sought.TheVariants.{Signal, Jump}
use Rattle.signaller.specs.Search.{covers, has, fits_signal, fits_jump}

abbrev pub fits : Sought → Arm → Bool
fits (Signal links signal) = fits_signal links.now signal
fits Jump = fits_jump

abbrev pub goes_outward : Sought → Bool
goes_outward (Signal links signal) = true
goes_outward Jump = false

-- the offset about which the phrases before one are asked, where it is not enabled
abbrev pub passed : Bool → Phrase → ℕ → ℕ
passed outward p offset = if outward && list_any (λ a. has a offset) p.arms then p.from else offset

abbrev pub fitting : Phrase → Option ℕ → Asked
fitting p None = Before p.from
fitting p (Some arm) = Fits arm

abbrev pub answer : Bool → (Arm → Bool) → Phrase → ℕ → Asked
answer outward fits p offset = if covers p offset then fitting p (position fits p.arms) else Before (passed outward p offset)

-- an arm of the table
pub record IsPlace (table : List Phrase) (place : Place) : Type 0 where
  pub phrase : Phrase
  pub is : slice_get table place.phrase ≡ Some phrase
  pub arm : place.arm < length phrase.arms
