-- What a file that is listed or upgraded holds is one thing, depths of instructions aside: it has one listing, and one file in version 2.
use Rattle.std.proofs.Common.{◌≡◌, ℕ, List, [], ◌∷◌, ◌++◌, flat_map, length, All, Option, Some, codes, refl, sym, ◌∙◌, ap, subst}
use Rattle.mesa_base.specs.Outside.{Files}
use Rattle.interface_records.specs.declared.interface.Interface.{Interface}
use Rattle.file_forms.specs.Files.{versioned}
use Rattle.file_forms.proofs.FileLaws.{one_file, one_first_fault, file_or_fault}
use Rattle.face_rules.specs.InterfaceForms.{interface}
use Rattle.face_rules.proofs.InterfaceLaws.{interface_law}
use Rattle.object_files.specs.declared.image.Image.{Image}
use Rattle.object_files.specs.declared.object.Object.{Object}
use Rattle.object_rules.specs.Exact.{AreSameObjects}
use Rattle.object_rules.specs.ImageFiles.{IsLinkedFile}
use Rattle.object_rules.specs.ImageForms.{ImagePart, parts_of_image, image_form}
use Rattle.object_rules.specs.ModuleForms.{module_form}
use Rattle.object_rules.specs.ObjectFiles.{file_fault}
use Rattle.object_rules.specs.Parts.{ModulePart, parts_of, IsWhole}
use Rattle.object_rules.proofs.ImageFileLaws.{one_image_fault, image_or_fault}
use Rattle.object_rules.proofs.ImageLaws.{image_law}
use Rattle.object_rules.proofs.ModuleLaws.{module_law}
use Rattle.object_rules.proofs.ObjectLaws.{one_object_fault, object_or_fault}
use Rattle.object_rules.proofs.WholeLaws.{same_object, same_objects}
use Rattle.listing_rules.specs.Images.{head_line, wanted_line, instances_from, offer_line, control_line}
use Rattle.listing_rules.specs.Interfaces.{interface_listing}
use Rattle.listing_rules.specs.Objects.{object_listing}
use Rattle.listing_rules.proofs.SameListing.{same_listing}
use Rattle.command_rules.specs.Case.{Case, Refused, Absent}
use Rattle.command_rules.specs.declared.trouble.Trouble.TheVariants.{File}
use Rattle.command_rules.specs.Forms.{FileKind}
use Rattle.command_rules.specs.Listing.{Holds, is_interface, is_object, is_image, no_interface, no_object, no_image, value_in, listing_of, Lists, listed, listing_in}
use Rattle.command_rules.specs.Passes.{Outcome, Has, Stops, Trail, Pass, FromFile, held, missing, from_file, IsExact}
use Rattle.command_rules.specs.Printing.{text_alone}
use Rattle.command_rules.specs.Writing.{Value, OfInterface, OfObject, OfImage, holding}
use Rattle.command_rules.proofs.PassLaws.{One, from_file_exact}
use Rattle.command_laws.specs.Laws.{AreAlike, ValuesAreAlike}
use Rattle.command_laws.proofs.Likeness.{IsLike, object_like}

-- ---- a value without the depths of instructions

pub data Part : Type 0 where
  InterfacePart : Interface → Part
  ObjectPart : ModulePart → Part
  LinkedPart : ImagePart → Part

abbrev pub part_of : Value → Part
part_of (OfInterface i) = InterfacePart i
part_of (OfObject o) = ObjectPart (parts_of o)
part_of (OfImage i) = LinkedPart (parts_of_image i)

abbrev pub IsWholeValue : Value → Type 0
IsWholeValue (OfInterface i) = Unit {0}
IsWholeValue (OfObject o) = IsWhole o
IsWholeValue (OfImage i) = All IsWhole i.modules

pub whole_value : (kind : FileKind) (file bytes : List ℕ) (v : Value) → Holds file bytes kind (Has v) → IsWholeValue v
whole_value kind file bytes v (is_interface version i h) = tt
whole_value kind file bytes v (is_object version o h) = h.whole
whole_value kind file bytes v (is_image version i h) = h.whole

-- ---- bytes hold one of these, or there is one reason why they don't

pub one_part : (kind : FileKind) (file bytes : List ℕ) (v w : Value) → Holds file bytes kind (Has v) → Holds file bytes kind (Has w) → part_of v ≡ part_of w
one_part kind file bytes v w (is_interface a x h) (is_interface b y k) = ap InterfacePart (one_file (codes "MIF") interface interface_law a b x y bytes h k).1
one_part kind file bytes v w (is_object a x h) (is_object b y k) =
    ap ObjectPart (one_file (codes "MOB") module_form module_law a b (parts_of x) (parts_of y) bytes h.file k.file).1
one_part kind file bytes v w (is_image a x h) (is_image b y k) =
    ap LinkedPart (one_file (codes "MIM") image_form image_law a b (parts_of_image x) (parts_of_image y) bytes h.file k.file).1

pub part_or_stop : (kind : FileKind) (file bytes : List ℕ) (v : Value) (c : Case) → Holds file bytes kind (Has v) → Holds file bytes kind (Stops c) → ⊥
part_or_stop kind file bytes v c (is_interface a x h) (no_interface why k) = file_or_fault (codes "MIF") interface interface_law refl a x bytes why h k
part_or_stop kind file bytes v c (is_object a x h) (no_object why k) = object_or_fault a x bytes why h k
part_or_stop kind file bytes v c (is_image a x h) (no_image why k) = image_or_fault a x bytes why h k

pub one_stop : (kind : FileKind) (file bytes : List ℕ) (c d : Case) → Holds file bytes kind (Stops c) → Holds file bytes kind (Stops d) → c ≡ d
one_stop kind file bytes c d (no_interface why k) (no_interface more h) =
    ap (λ e. Refused file (File (file_fault e))) (one_first_fault (codes "MIF") interface interface_law refl bytes why more k h)
one_stop kind file bytes c d (no_object why k) (no_object more h) = ap (λ e. Refused file (File e)) (one_object_fault bytes why more k h)
one_stop kind file bytes c d (no_image why k) (no_image more h) = ap (λ e. Refused file (File e)) (one_image_fault bytes why more k h)

-- ---- the pass that gives the parts

abbrev pub to_parts : Outcome Case Value → Outcome Case Part
to_parts (Has v) = Has (part_of v)
to_parts (Stops c) = Stops c

pub data HoldsPart (kind : FileKind) (file bytes : List ℕ) : Outcome Case Part → Type 0 where
  part : (v : Value) → Holds file bytes kind (Has v) → HoldsPart kind file bytes (Has (part_of v))
  none : (c : Case) → Holds file bytes kind (Stops c) → HoldsPart kind file bytes (Stops c)

parts_one : (kind : FileKind) (file bytes : List ℕ) → One (HoldsPart kind file bytes)
parts_one kind file bytes o r (part v h) (part w k) = ap Has (one_part kind file bytes v w h k)
parts_one kind file bytes o r (part v h) (none c k) = absurd (part_or_stop kind file bytes v c h k)
parts_one kind file bytes o r (none c k) (part v h) = absurd (part_or_stop kind file bytes v c h k)
parts_one kind file bytes o r (none c h) (none d k) = ap Stops (one_stop kind file bytes c d h k)

abbrev pub parts_in : FileKind → (file : List ℕ) → Pass Case Part
parts_in kind file = from_file file (Absent file) (HoldsPart kind file)

pub parts_exact : (kind : FileKind) (file : List ℕ) → IsExact (parts_in kind file)
parts_exact kind file = from_file_exact file (Absent file) (HoldsPart kind file) (parts_one kind file)

holds_part : (kind : FileKind) (file bytes : List ℕ) (o : Outcome Case Value) → Holds file bytes kind o → HoldsPart kind file bytes (to_parts o)
holds_part kind file bytes (Has v) h = part v h
holds_part kind file bytes (Stops c) h = none c h

from_value : (kind : FileKind) (file : List ℕ) (files : Option Files) (trail : Trail) (o : Outcome Case Value)
    → FromFile file (Absent file) (λ bytes. Holds file bytes kind) files trail o → FromFile file (Absent file) (HoldsPart kind file) files trail (to_parts o)
from_value kind file files trail o (held bytes _ is h) = held bytes (to_parts o) is (holds_part kind file bytes o h)
from_value kind file files trail o (missing gone) = missing gone

pub part_comes : (kind : FileKind) (file : List ℕ) (files : Option Files) (trail : Trail) (o : Outcome Case Value)
    → (value_in kind file).comes files trail o → (parts_in kind file).comes files trail (to_parts o)
unfolding value_in
part_comes kind file files trail o h = from_value kind file files trail o h

from_whole : (kind : FileKind) (file : List ℕ) (files : Option Files) (trail : Trail) (v : Value)
    → FromFile file (Absent file) (λ bytes. Holds file bytes kind) files trail (Has v) → IsWholeValue v
from_whole kind file files trail v (held bytes _ is h) = whole_value kind file bytes v h

pub whole_comes : (kind : FileKind) (file : List ℕ) (files : Option Files) (trail : Trail) (v : Value)
    → (value_in kind file).comes files trail (Has v) → IsWholeValue v
unfolding value_in
whole_comes kind file files trail v h = from_whole kind file files trail v h

-- ---- what follows from equal parts

same_interface : (i j : Interface) → InterfacePart i ≡ InterfacePart j → i ≡ j
same_interface i j e = cc

same_module : (m n : ModulePart) → ObjectPart m ≡ ObjectPart n → m ≡ n
same_module m n e = cc

same_image : (p q : ImagePart) → LinkedPart p ≡ LinkedPart q → p ≡ q
same_image p q e = cc

-- they have one file in version 2

interface_like : (file : List ℕ) (i j : Interface) → i ≡ j → IsLike (holding file (OfInterface i)) (holding file (OfInterface j))
interface_like file i j e =
    subst (λ z. IsLike (holding file (OfInterface i)) (holding file (OfInterface z))) e (record { file = refl; size = refl; holds = λ bytes it. it })

linked_like : (file : List ℕ) (x y : Image) → All IsWhole y.modules → parts_of_image x ≡ parts_of_image y
    → IsLike (holding file (OfImage x)) (holding file (OfImage y))
linked_like file x y whole e = record {
  file = refl;
  size = ap (λ (p : ImagePart). length (codes "MIM" ++ (versioned image_form).spell (2, p))) e;
  holds = λ bytes it. record { file = subst (λ p. IsLinkedFile 2 p bytes) e it.file; whole = whole };
}

pub value_like : (file : List ℕ) (v w : Value) → IsWholeValue w → part_of v ≡ part_of w → IsLike (holding file v) (holding file w)
value_like file (OfInterface i) (OfInterface j) whole e = interface_like file i j (same_interface i j e)
value_like file (OfInterface i) (OfObject y) whole e = absurd cc
value_like file (OfInterface i) (OfImage y) whole e = absurd cc
value_like file (OfObject x) (OfInterface j) whole e = absurd cc
value_like file (OfObject x) (OfObject y) whole e =
    object_like file x y (record { parts = same_module (parts_of x) (parts_of y) e; whole = λ _. whole })
value_like file (OfObject x) (OfImage y) whole e = absurd cc
value_like file (OfImage x) (OfInterface j) whole e = absurd cc
value_like file (OfImage x) (OfObject y) whole e = absurd cc
value_like file (OfImage x) (OfImage y) whole e = linked_like file x y whole (same_image (parts_of_image x) (parts_of_image y) e)

-- and one listing

modules_listing : (xs ys : List Object) → AreSameObjects xs ys → flat_map object_listing xs ≡ flat_map object_listing ys
unfolding AreSameObjects
modules_listing [] [] h = refl
modules_listing [] (y ∷ ys) h = absurd h
modules_listing (x ∷ xs) [] h = absurd h
modules_listing (x ∷ xs) (y ∷ ys) h = λ i. same_listing x y h.0.shape h.0.code i ++ modules_listing xs ys h.1 i

-- the listing of an image, by those of its modules
abbrev image_text : List ℕ → ImagePart → List ℕ
image_text objects p =
    head_line ++ (objects ++ (flat_map wanted_line p.wanted ++ (instances_from p.instances p.links 0 p.instances
    ++ (flat_map (offer_line p.instances) p.offered ++ flat_map (control_line p.instances) p.control))))

linked_listing : (x y : Image) → All IsWhole x.modules → All IsWhole y.modules → parts_of_image x ≡ parts_of_image y
    → listing_of (OfImage x) ≡ listing_of (OfImage y)
linked_listing x y of_x of_y e =
    let same = same_objects x.modules y.modules of_x of_y (ap (λ (p : ImagePart). p.modules) e) in
    ap (λ t. image_text t (parts_of_image x)) (modules_listing x.modules y.modules same) ∙ ap (image_text (flat_map object_listing y.modules)) e

object_text : (x y : Object) → IsWhole x → IsWhole y → parts_of x ≡ parts_of y → listing_of (OfObject x) ≡ listing_of (OfObject y)
object_text x y of_x of_y e = let same = same_object x y of_x of_y e in same_listing x y same.shape same.code

value_listing : (v w : Value) → IsWholeValue v → IsWholeValue w → part_of v ≡ part_of w → listing_of v ≡ listing_of w
value_listing (OfInterface i) (OfInterface j) of_v of_w e = ap interface_listing (same_interface i j e)
value_listing (OfInterface i) (OfObject y) of_v of_w e = absurd cc
value_listing (OfInterface i) (OfImage y) of_v of_w e = absurd cc
value_listing (OfObject x) (OfInterface j) of_v of_w e = absurd cc
value_listing (OfObject x) (OfObject y) of_v of_w e = object_text x y of_v of_w (same_module (parts_of x) (parts_of y) e)
value_listing (OfObject x) (OfImage y) of_v of_w e = absurd cc
value_listing (OfImage x) (OfInterface j) of_v of_w e = absurd cc
value_listing (OfImage x) (OfObject y) of_v of_w e = absurd cc
value_listing (OfImage x) (OfImage y) of_v of_w e = linked_listing x y of_v of_w (same_image (parts_of_image x) (parts_of_image y) e)

lists_one : (kind : FileKind) (file bytes : List ℕ) → One (Lists kind file bytes)
lists_one kind file bytes o r (listed v h) (listed w k) =
    ap (λ text. Has (text_alone text))
    (value_listing v w (whole_value kind file bytes v h) (whole_value kind file bytes w k) (one_part kind file bytes v w h k))
lists_one kind file bytes o r (listed v h) (Lists.is_none c k) = absurd (part_or_stop kind file bytes v c h k)
lists_one kind file bytes o r (Lists.is_none c k) (listed v h) = absurd (part_or_stop kind file bytes v c h k)
lists_one kind file bytes o r (Lists.is_none c h) (Lists.is_none d k) = ap Stops (one_stop kind file bytes c d h k)

pub listing_exact : (kind : FileKind) (file : List ℕ) → IsExact (listing_in kind file)
unfolding listing_in
listing_exact kind file = from_file_exact file (Absent file) (Lists kind file) (lists_one kind file)

-- ---- values of one file

same_has : (p q : Part) → ◌≡◌ {A = Outcome Case Part} (Has p) (Has q) → p ≡ q
same_has p q e = cc

alike : (kind : FileKind) (file : List ℕ) (files : Files) (t u : Trail) (o r : Outcome Case Value) → (value_in kind file).comes (Some files) t o
    → (value_in kind file).comes (Some files) u r → to_parts o ≡ to_parts r → AreAlike o r
alike kind file files t u (Has v) (Has w) x y e =
    let same = same_has (part_of v) (part_of w) e in
    let there = value_like file v w (whole_comes kind file (Some files) u w y) same in
    let back = value_like file w v (whole_comes kind file (Some files) t v x) (sym same) in
    (there.size, λ bytes. (there.holds bytes, back.holds bytes))
alike kind file files t u (Has v) (Stops c) x y e = absurd cc
alike kind file files t u (Stops c) (Has v) x y e = absurd cc
alike kind file files t u (Stops c) (Stops d) x y e = cc

pub values_alike : (kind : FileKind) (file : List ℕ) → ValuesAreAlike kind file
values_alike kind file files t u o r x y =
    let h = parts_exact kind file files t u (to_parts o) (to_parts r) (part_comes kind file (Some files) t o x) (part_comes kind file (Some files) u r y) in
    (h.0, alike kind file files t u o r x y h.1)
