-- The host's procedures among the items of the built-in interface: which one an item stands for is said by its types.
use Rattle.std.proofs.Common.{◌≡◌, ℕ, zero, suc, ◌<◌, List, [], ◌∷◌, map, get_or, Option, Some, None, refl, sym, ap, ◌∙◌, subst, arith}
use Rattle.std.specs.Prelude.{option_and_then, slice_get, codes, Any}
use Rattle.std.proofs.lemmas.Option.{slice_get_within, get_or_from_slice_get}
use Rattle.mesa_types.specs.declared.faces.Import.{Import}
use Rattle.mesa_types.specs.declared.faces.Item.{Item}
use Rattle.mesa_types.specs.declared.faces.ItemKind.TheVariants as item
use Rattle.mesa_types.specs.declared.types.FieldType.{FieldType, roll-FieldType, out-roll-FieldType}
use Rattle.mesa_types.specs.declared.types.TypeTree.{TypeTree, roll-TypeTree}
use Rattle.mesa_types.specs.declared.types.TypeTree.TheOpen.{TypeTree-F, FieldType-F}
use Rattle.mesa_types.specs.declared.types.TypeTree.TheVariants as v
use Rattle.mesa_types.specs.declared.types.TypeTree.TheFolds.{fold-TypeTree, fold-roll-TypeTree}
use Rattle.mesa_types.specs.Plain.{Shaped, kinds, shape_step, field_kind_step, kind_of, kinds_of}
use Rattle.mesa_types.specs.Shapes.{one}
use Rattle.mesa_types.specs.Typed.{Kind, Kinds, NoKinds, Ordinal, Texts}
use Rattle.mesa_types.specs.Types.{types_in}
use Rattle.interface_records.specs.Faces.{io_items}
use Rattle.interface_records.specs.Hosts.{SameItem, IsHostItem}
use Rattle.interface_records.specs.declared.wanted.Wanted.{Wanted}
use Rattle.object_files.specs.declared.image.Image.{Image}
use Rattle.source_meaning.specs.Program.{Host, WriteChar, WriteString, WriteDecimal, ReadChar, EndOfInput}
use Rattle.source_meaning.specs.Lawful.{host_takes, host_gives}
use Rattle.machine_rules.specs.LookUps as machine
use Rattle.machine_rules.specs.LookUps.{host_named, host_of}
use Rattle.agreement_rules.specs.Stands.{IsWanted, WantsTheHost}
use Rattle.agreement_laws.proofs.Linked.{kinds_by_types}

unfoldable pub the_host : Host → machine.Host
the_host WriteChar = machine.WriteChar
the_host WriteString = machine.WriteString
the_host WriteDecimal = machine.WriteDecimal
the_host ReadChar = machine.ReadChar
the_host EndOfInput = machine.EndOfInput

-- Types of one word are told apart by how many values they have.

abbrev shape_of : TypeTree → Shaped
shape_of t = fold-TypeTree Shaped Kind shape_step field_kind_step t

shape_by : (x : TypeTree-F TypeTree FieldType) (t : TypeTree) (s : Shaped) → roll-TypeTree x ≡ t
    → fold-TypeTree Shaped Kind shape_step field_kind_step (roll-TypeTree x) ≡ s → shape_of t ≡ s
shape_by x t s e d = ap shape_of (sym e) ∙ d

integer_shape : shape_of v.Integer ≡ record { shape = Ordinal; elements = 65536 }
integer_shape = shape_by TypeTree-F.Integer v.Integer _ v.rolls-Integer (fold-roll-TypeTree Shaped Kind shape_step field_kind_step TypeTree-F.Integer)

boolean_shape : shape_of v.Boolean ≡ record { shape = Ordinal; elements = 2 }
boolean_shape = shape_by TypeTree-F.Boolean v.Boolean _ v.rolls-Boolean (fold-roll-TypeTree Shaped Kind shape_step field_kind_step TypeTree-F.Boolean)

character_shape : shape_of v.Character ≡ record { shape = Ordinal; elements = 256 }
character_shape = shape_by TypeTree-F.Character v.Character _ v.rolls-Character (fold-roll-TypeTree Shaped Kind shape_step field_kind_step TypeTree-F.Character)

string_shape : shape_of v.String ≡ record { shape = Texts; elements = 0 }
string_shape = shape_by TypeTree-F.String v.String _ v.rolls-String (fold-roll-TypeTree Shaped Kind shape_step field_kind_step TypeTree-F.String)

abbrev size_of : List TypeTree → ℕ
size_of [] = 1
size_of (t ∷ ts) = (shape_of t).elements

abbrev taken : Host → ℕ
taken WriteChar = 256
taken WriteString = 0
taken WriteDecimal = 65536
taken ReadChar = 1
taken EndOfInput = 1

abbrev given : Host → ℕ
given WriteChar = 1
given WriteString = 1
given WriteDecimal = 1
given ReadChar = 256
given EndOfInput = 2

host_taken : (h : Host) → size_of (host_takes h) ≡ taken h
unfolding host_takes
host_taken WriteChar = ap (λ (s : Shaped). s.elements) character_shape
host_taken WriteString = ap (λ (s : Shaped). s.elements) string_shape
host_taken WriteDecimal = ap (λ (s : Shaped). s.elements) integer_shape
host_taken ReadChar = refl
host_taken EndOfInput = refl

host_given : (h : Host) → size_of (host_gives h) ≡ given h
unfolding host_gives
host_given WriteChar = refl
host_given WriteString = refl
host_given WriteDecimal = refl
host_given ReadChar = ap (λ (s : Shaped). s.elements) character_shape
host_given EndOfInput = ap (λ (s : Shaped). s.elements) boolean_shape

-- The items of the interface.

field_type : (name : Option (List ℕ)) (t : TypeTree) → types_in (roll-FieldType (record { name = name; kind = t }) ∷ []) ≡ t ∷ []
field_type name t = ap (λ (f : FieldType-F TypeTree FieldType). f.kind ∷ []) (out-roll-FieldType (record { name = name; kind = t }))

abbrev item_at : ℕ → Item → Item
item_at k other = get_or io_items k other

abbrev Typed : Item → (takes gives : ℕ) → Type 0
Typed i t g = (size_of (types_in i.takes) ≡ t) × (size_of (types_in i.gives) ≡ g)

one_type : (name : Option (List ℕ)) (t : TypeTree) (s : Shaped) → shape_of t ≡ s
    → size_of (types_in (roll-FieldType (record { name = name; kind = t }) ∷ [])) ≡ s.elements
one_type name t s e = ap size_of (field_type name t) ∙ ap (λ (x : Shaped). x.elements) e

named_by : (k : ℕ) (other : Item) (h : Host) → k < 6 → (item_at k other).kind ≡ item.Procedure → size_of (types_in (item_at k other).takes) ≡ taken h
    → size_of (types_in (item_at k other).gives) ≡ given h → host_named (item_at k other).name ≡ Some (the_host h)
unfolding host_named the_host
named_by zero other WriteChar lt kind t g = refl
named_by zero other WriteString lt kind t g = absurd (let x = one_type (Some (codes "c")) v.Character _ character_shape in omega (arith, x, t))
named_by zero other WriteDecimal lt kind t g = absurd (let x = one_type (Some (codes "c")) v.Character _ character_shape in omega (arith, x, t))
named_by zero other ReadChar lt kind t g = absurd (let x = one_type (Some (codes "c")) v.Character _ character_shape in omega (arith, x, t))
named_by zero other EndOfInput lt kind t g = absurd (let x = one_type (Some (codes "c")) v.Character _ character_shape in omega (arith, x, t))
named_by (suc zero) other WriteChar lt kind t g = absurd (let x = one_type (Some (codes "s")) v.String _ string_shape in omega (arith, x, t))
named_by (suc zero) other WriteString lt kind t g = refl
named_by (suc zero) other WriteDecimal lt kind t g = absurd (let x = one_type (Some (codes "s")) v.String _ string_shape in omega (arith, x, t))
named_by (suc zero) other ReadChar lt kind t g = absurd (let x = one_type (Some (codes "s")) v.String _ string_shape in omega (arith, x, t))
named_by (suc zero) other EndOfInput lt kind t g = absurd (let x = one_type (Some (codes "s")) v.String _ string_shape in omega (arith, x, t))
named_by (suc (suc zero)) other WriteChar lt kind t g = absurd (let x = one_type (Some (codes "n")) v.Integer _ integer_shape in omega (arith, x, t))
named_by (suc (suc zero)) other WriteString lt kind t g = absurd (let x = one_type (Some (codes "n")) v.Integer _ integer_shape in omega (arith, x, t))
named_by (suc (suc zero)) other WriteDecimal lt kind t g = refl
named_by (suc (suc zero)) other ReadChar lt kind t g = absurd (let x = one_type (Some (codes "n")) v.Integer _ integer_shape in omega (arith, x, t))
named_by (suc (suc zero)) other EndOfInput lt kind t g = absurd (let x = one_type (Some (codes "n")) v.Integer _ integer_shape in omega (arith, x, t))
named_by (suc (suc (suc zero))) other WriteChar lt kind t g = absurd (omega (arith, t))
named_by (suc (suc (suc zero))) other WriteString lt kind t g = absurd (omega (arith, t))
named_by (suc (suc (suc zero))) other WriteDecimal lt kind t g = absurd (omega (arith, t))
named_by (suc (suc (suc zero))) other ReadChar lt kind t g = refl
named_by (suc (suc (suc zero))) other EndOfInput lt kind t g = absurd (let x = one_type None v.Character _ character_shape in omega (arith, x, g))
named_by (suc (suc (suc (suc zero)))) other WriteChar lt kind t g = absurd (omega (arith, t))
named_by (suc (suc (suc (suc zero)))) other WriteString lt kind t g = absurd (omega (arith, t))
named_by (suc (suc (suc (suc zero)))) other WriteDecimal lt kind t g = absurd (omega (arith, t))
named_by (suc (suc (suc (suc zero)))) other ReadChar lt kind t g = absurd (let x = one_type None v.Boolean _ boolean_shape in omega (arith, x, g))
named_by (suc (suc (suc (suc zero)))) other EndOfInput lt kind t g = refl
named_by (suc (suc (suc (suc (suc zero))))) other h lt kind t g = absurd (let z : ⊥ = cc in z)
named_by (suc (suc (suc (suc (suc (suc k)))))) other h lt kind t g = absurd (omega (arith, lt))

host_item : (image : Image) → WantsTheHost image → (n : ℕ) (w : Wanted) → slice_get image.wanted n ≡ Some w → IsHostItem w
host_item image wants n w is = subst IsHostItem (get_or_from_slice_get image.wanted n w w is) (wants n w (slice_get_within image.wanted n w is))

-- that of the interface which an item is by name, kind and types is the host's procedure of these types
named_alike : (a : Item) (h : Host) → Any (SameItem a) io_items → a.kind ≡ item.Procedure → types_in a.takes ≡ host_takes h → types_in a.gives ≡ host_gives h
    → host_named a.name ≡ Some (the_host h)
named_alike a h (k, x, lt, is, same) kind takes gives =
    ap host_named (same.0 ∙ sym (ap (λ (i : Item). i.name) is))
    ∙ named_by k x h lt (ap (λ (i : Item). i.kind) is ∙ sym same.1.0 ∙ kind)
    (ap (λ (i : Item). size_of (types_in i.takes)) is ∙ ap size_of (sym same.1.1 ∙ takes) ∙ host_taken h)
    (ap (λ (i : Item). size_of (types_in i.gives)) is ∙ ap size_of (sym same.1.2 ∙ gives) ∙ host_given h)

-- a wanted item of the host's types is that procedure
pub host_there : (image : Image) → WantsTheHost image → (import : Import) (i : Item) (n : ℕ) (h : Host) → IsWanted image import i n → i.kind ≡ item.Procedure
    → types_in i.takes ≡ host_takes h → types_in i.gives ≡ host_gives h → host_of image n ≡ Some (the_host h)
unfolding host_of
host_there image wants import i n h is kind takes gives =
    ap (λ o. option_and_then (λ (w : Wanted). host_named w.item.name) o) is.is_there
    ∙ named_alike is.entry.item h (host_item image wants n is.entry is.is_there).2 (is.its_item.1.0 ∙ kind)
    (is.its_item.1.1 ∙ takes) (is.its_item.1.2 ∙ gives)

-- The kinds of what it takes and gives.

abbrev pub kinds_taken : Host → Kinds
kinds_taken WriteChar = one Ordinal
kinds_taken WriteString = one Texts
kinds_taken WriteDecimal = one Ordinal
kinds_taken ReadChar = NoKinds
kinds_taken EndOfInput = NoKinds

abbrev pub kinds_given : Host → Kinds
kinds_given WriteChar = NoKinds
kinds_given WriteString = NoKinds
kinds_given WriteDecimal = NoKinds
kinds_given ReadChar = one Ordinal
kinds_given EndOfInput = one Ordinal

one_kind : (fields : List FieldType) (t : TypeTree) (s : Shaped) → types_in fields ≡ t ∷ [] → shape_of t ≡ s → kinds_of fields ≡ one s.shape
unfolding one
one_kind fields t s e d = kinds_by_types fields ∙ ap (λ ts. kinds (map kind_of ts)) e ∙ ap (λ (x : Shaped). one x.shape) d

no_kind : (fields : List FieldType) → types_in fields ≡ [] → kinds_of fields ≡ NoKinds
no_kind fields e = kinds_by_types fields ∙ ap (λ ts. kinds (map kind_of ts)) e

pub takes_kinds : (h : Host) (fields : List FieldType) → types_in fields ≡ host_takes h → kinds_of fields ≡ kinds_taken h
unfolding host_takes
takes_kinds WriteChar fields e = one_kind fields v.Character _ e character_shape
takes_kinds WriteString fields e = one_kind fields v.String _ e string_shape
takes_kinds WriteDecimal fields e = one_kind fields v.Integer _ e integer_shape
takes_kinds ReadChar fields e = no_kind fields e
takes_kinds EndOfInput fields e = no_kind fields e

pub gives_kinds : (h : Host) (fields : List FieldType) → types_in fields ≡ host_gives h → kinds_of fields ≡ kinds_given h
unfolding host_gives
gives_kinds WriteChar fields e = no_kind fields e
gives_kinds WriteString fields e = no_kind fields e
gives_kinds WriteDecimal fields e = no_kind fields e
gives_kinds ReadChar fields e = one_kind fields v.Character _ e character_shape
gives_kinds EndOfInput fields e = one_kind fields v.Boolean _ e boolean_shape
