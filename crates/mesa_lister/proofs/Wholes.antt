-- What is given for bytes: the listing of the value that they hold, or their first fault, and no other.
use Rattle.std.proofs.Common.{◌≡◌, ℕ, List, Result, Ok, Err, ap, ◌∙◌}
use Rattle.std.specs.Prelude.{◌≢◌, IfErr, IfOk}
use Rattle.face_rules.specs.InterfaceForms.{IsInterfaceFile, IsNoInterfaceFile}
use Rattle.interface_records.specs.declared.interface.Interface.{Interface}
use Rattle.listed_files.proofs.Exact.{one_text, one_reason, text_or_reason}
use Rattle.listed_files.specs.Listings.{ListsInterface, ListsObject, ListsImage, LacksInterface, IsListing, HasFault}
use Rattle.listed_files.specs.declared.file_kind.FileKind.{FileKind}
use Rattle.listing_rules.specs.Images.{image_listing}
use Rattle.listing_rules.specs.Interfaces.{interface_listing}
use Rattle.listing_rules.specs.Objects.{object_listing}
use Rattle.mesa_base.specs.declared.file_fault.FileFault.{FileFault}
use Rattle.mesa_base.specs.declared.file_fault.FileFault.TheVariants as file
use Rattle.object_files.specs.declared.image.Image.{Image}
use Rattle.object_files.specs.declared.object.Object.{Object}
use Rattle.object_rules.specs.ImageFiles.{IsImageFile}
use Rattle.object_rules.specs.ObjectFiles.{IsObjectFile, file_fault}
use Rattle.object_rules.specs.declared.object_fault.ObjectFault.{ObjectFault}
use Rattle.object_rules.specs.declared.object_fault.ObjectFault.TheVariants.{Memory}

-- ---- one kind of file

pub interface_found : (bytes : List ℕ) (version : ℕ) (i : Interface) (r : Result (List ℕ) ObjectFault) → IsInterfaceFile version i bytes
    → IfOk r (λ text. text ≡ interface_listing i) → IfOk r (ListsInterface bytes)
interface_found bytes version i (Ok text) holds is = record { version = version; value = i; file = holds; is = is }
interface_found bytes version i (Err e) holds is = tt

pub interface_fault : (bytes : List ℕ) (cause : FileFault) (e : ObjectFault) → e ≡ file_fault cause → (cause ≢ file.Memory → IsNoInterfaceFile bytes cause)
    → e ≢ Memory → LacksInterface bytes e
interface_fault bytes cause e is first other = record { cause = cause; first = first (λ none. other (is ∙ ap file_fault none)); is = is }

pub object_found : (bytes : List ℕ) (version : ℕ) (o : Object) (r : Result (List ℕ) ObjectFault) → IsObjectFile version o bytes
    → IfOk r (λ text. text ≡ object_listing o) → IfOk r (ListsObject bytes)
object_found bytes version o (Ok text) holds is = record { version = version; value = o; file = holds; is = is }
object_found bytes version o (Err e) holds is = tt

pub image_found : (bytes : List ℕ) (version : ℕ) (i : Image) (r : Result (List ℕ) ObjectFault) → IsImageFile version i bytes
    → IfOk r (λ text. text ≡ image_listing i) → IfOk r (ListsImage bytes)
image_found bytes version i (Ok text) holds is = record { version = version; value = i; file = holds; is = is }
image_found bytes version i (Err e) holds is = tt

-- want of memory is no fault of the bytes
pub no_fault : (P : ObjectFault → Type 0) (r : Result (List ℕ) ObjectFault) → IfErr r (λ e. e ≡ Memory) → IfErr r (λ e. e ≢ Memory → P e)
no_fault P (Ok text) memory = tt
no_fault P (Err e) memory = λ other. absurd (other memory)

-- ---- any kind

-- a fault that is not want of memory is the answer's
live : (e : ObjectFault) → (let r : Result (List ℕ) ObjectFault = Err e in r ≢ Err Memory) → e ≢ Memory
live e other none = other (ap (λ (k : ObjectFault). Err k) none)

pub only_text : (kind : FileKind) (bytes : List ℕ) (r : Result (List ℕ) ObjectFault) → IfOk r (IsListing kind bytes) → IfErr r (λ e. e ≢ Memory → HasFault kind bytes e)
    → (text : List ℕ) → IsListing kind bytes text → r ≢ Err Memory → r ≡ Ok text
only_text kind bytes (Ok t) found fault text is other = ap (λ (k : List ℕ). Ok k) (one_text kind bytes t text found is)
only_text kind bytes (Err e) found fault text is other = absurd (text_or_reason kind bytes text e is (fault (live e other)))

pub first_reason : (kind : FileKind) (bytes : List ℕ) (r : Result (List ℕ) ObjectFault) → IfOk r (IsListing kind bytes) → IfErr r (λ e. e ≢ Memory → HasFault kind bytes e)
    → (e : ObjectFault) → HasFault kind bytes e → r ≢ Err Memory → r ≡ Err e
first_reason kind bytes (Ok t) found fault e is other = absurd (text_or_reason kind bytes t e found is)
first_reason kind bytes (Err d) found fault e is other = ap (λ (k : ObjectFault). Err k) (one_reason kind bytes d e (fault (live d other)) is)
