-- The listing of a file's bytes.
use Rattle.std.proofs.Common.{◌≡◌, ℕ, List, refl, subst, sym}
use Rattle.listed_files.specs.Listings.{IsListing, HasFault}
use Rattle.listed_files.specs.declared.file_kind.FileKind.{FileKind}
use Rattle.listed_files.specs.declared.file_kind.FileKind.TheVariants.{Interface, Object, Image}
use Rattle.object_rules.specs.declared.object_fault.ObjectFault.{ObjectFault}
use Rattle.command_passes.specs.command_rules.specs.Case.{Case, Refused, Absent}
use Rattle.command_passes.specs.command_rules.specs.declared.trouble.Trouble.TheVariants.{File}
use Rattle.command_passes.specs.command_rules.specs.Forms as rules
use Rattle.command_passes.specs.command_rules.specs.Forms.{InterfaceFile, ObjectFile, ImageFile}
use Rattle.command_passes.specs.command_rules.specs.Listing.{Holds, Lists, listed, is_none, is_interface, is_object, is_image}
use Rattle.command_passes.specs.command_rules.specs.Passes.{Outcome, Has, Stops}
use Rattle.command_passes.specs.command_rules.specs.Printing.{Report, text_alone}
use Rattle.command_passes.specs.command_rules.specs.Writing.{OfInterface, OfObject, OfImage}
use Rattle.command_passes.specs.command_rules.proofs.Passing.{Moves}
use Rattle.command_passes.specs.Kinds.{kind_in}
use Rattle.command_passes.proofs.Files.{NeverAbsent}
use Rattle.command_listings.proofs.Holding.{holds_moves, holds_absent, refused}

pub lists_moves : (kind : rules.FileKind) (file : List ℕ) → Moves 536870912 (Lists kind file)
lists_moves kind file part whole _ e (listed v h) = listed v (holds_moves kind file part whole (Has v) e h)
lists_moves kind file part whole _ e (is_none case h) = is_none case (holds_moves kind file part whole (Stops case) e h)

never : (kind : rules.FileKind) (file bytes other : List ℕ) (o : Outcome Case Report) → Lists kind file bytes o → o ≡ Stops (Absent other) → ⊥
never kind file bytes other _ (listed v h) e = absurd cc
never kind file bytes other _ (is_none case h) e =
    let same : case ≡ Absent other = cc in holds_absent kind file bytes other (subst (λ c. Holds file bytes kind (Stops c)) same h)

pub lists_absent : (kind : rules.FileKind) (file bytes : List ℕ) → NeverAbsent (Lists kind file bytes)
lists_absent kind file bytes other x = never kind file bytes other (Stops (Absent other)) x refl

-- the listing that is told of bytes
pub is_listed : (kind : FileKind) (file bytes text : List ℕ) → IsListing kind bytes text → Lists (kind_in kind) file bytes (Has (text_alone text))
is_listed Interface file bytes text h =
    subst (λ t. Lists InterfaceFile file bytes (Has (text_alone t))) (sym h.is) (listed (OfInterface h.value) (is_interface h.version h.value h.file))
is_listed Object file bytes text h =
    subst (λ t. Lists ObjectFile file bytes (Has (text_alone t))) (sym h.is) (listed (OfObject h.value) (is_object h.version h.value h.file))
is_listed Image file bytes text h =
    subst (λ t. Lists ImageFile file bytes (Has (text_alone t))) (sym h.is) (listed (OfImage h.value) (is_image h.version h.value h.file))

-- and their fault
pub not_listed : (kind : FileKind) (file bytes : List ℕ) (fault : ObjectFault) → HasFault kind bytes fault
    → Lists (kind_in kind) file bytes (Stops (Refused file (File fault)))
not_listed kind file bytes fault h = is_none (Refused file (File fault)) (refused kind file bytes fault h)
