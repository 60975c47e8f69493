-- The bytes of a file in version 2.
use Rattle.std.proofs.Common.{ℕ, ◌<◌, List, length}
use Rattle.upgraded_files.specs.Upgraded.{FilesAreUpgraded, FilesHaveVersions, upgraded}
use Rattle.command_passes.specs.command_rules.specs.Case.{Case}
use Rattle.command_passes.specs.command_rules.specs.Forms.{FileKind}
use Rattle.command_passes.specs.command_rules.specs.Listing.{Holds, is_interface, is_object, is_image, no_interface, no_object, no_image}
use Rattle.command_passes.specs.command_rules.specs.Passes.{Outcome, Has, Stops}
use Rattle.command_passes.specs.command_rules.specs.Writing.{Value, IsFileOf}

abbrev Spells : Outcome Case Value → (bytes : List ℕ) → Type 0
Spells (Has v) bytes = IsFileOf v bytes
Spells (Stops case) bytes = Unit {0}

abbrev IsLong : Outcome Case Value → (bytes : List ℕ) → Type 0
IsLong (Has v) bytes = 3 < length bytes
IsLong (Stops case) bytes = Unit {0}

pub spells_upgraded : FilesAreUpgraded → (kind : FileKind) (file bytes : List ℕ) (o : Outcome Case Value) → Holds file bytes kind o → Spells o (upgraded bytes)
spells_upgraded law _ file bytes _ (is_interface version i h) = law.interfaces version i bytes h
spells_upgraded law _ file bytes _ (is_object version o h) = law.objects version o bytes h
spells_upgraded law _ file bytes _ (is_image version i h) = law.images version i bytes h
spells_upgraded law _ file bytes _ (no_interface why h) = tt
spells_upgraded law _ file bytes _ (no_object why h) = tt
spells_upgraded law _ file bytes _ (no_image why h) = tt

pub is_long : FilesHaveVersions → (kind : FileKind) (file bytes : List ℕ) (o : Outcome Case Value) → Holds file bytes kind o → IsLong o bytes
is_long law _ file bytes _ (is_interface version i h) = law.interfaces version i bytes h
is_long law _ file bytes _ (is_object version o h) = law.objects version o bytes h
is_long law _ file bytes _ (is_image version i h) = law.images version i bytes h
is_long law _ file bytes _ (no_interface why h) = tt
is_long law _ file bytes _ (no_object why h) = tt
is_long law _ file bytes _ (no_image why h) = tt
