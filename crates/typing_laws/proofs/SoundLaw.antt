-- The law that checked modules are sound.
use Rattle.std.proofs.Common.{◌≡◌, List, [], ◌∷◌, refl, sym, subst}
use Rattle.std.specs.Prelude.{IfOk, map}
use Rattle.syntax_trees.specs.Syntax as s
use Rattle.mesa_types.specs.Sound.{Sound}
use Rattle.interface_records.specs.PlainTypes as v
use Rattle.interface_records.specs.PlainTypes.{PlainType, PlainField, PlainItem, PlainConstant, PlainName, PlainInterface, plain_interface}
use Rattle.interface_records.specs.PlainTypes.{HasPart}
use Rattle.check_rules.specs.Interfaces.{TypeInOrder, PartsInOrder, FieldsInOrder, ItemsInOrder, ConstantsInOrder, NamesInOrder, InterfacesInOrder}
use Rattle.check_rules.specs.Mentions.{of_kind}
use Rattle.check_rules.specs.Written.{ModuleWritten}
use Rattle.check_rules.specs.CheckedModule.{checked, program_by}
use Rattle.check_rules.specs.Laws.{CheckedModulesAreSound}
use Rattle.check_rules.proofs.SoundTypes.{TypeIn, PartsIn, SomePart, FieldsIn}
use Rattle.typing_laws.proofs.SoundStart.{ItemsGood, ConstantsGood, TypesGood, InterfacesGood}
use Rattle.typing_laws.proofs.SoundTexts.{EachShort, program_short}
use Rattle.typing_laws.proofs.SoundChecked.{program_sound}

some_part : (ps : v.Parts) → HasPart ps → SomePart ps
unfolding HasPart SomePart
some_part v.NoPart h = h
some_part (v.AndPart x k ps) h = h

mutual
  unfolding TypeInOrder TypeIn

  pub type_in : (k : PlainType) → TypeInOrder k → TypeIn k
  type_in v.Integer h = tt
  type_in v.Cardinal h = tt
  type_in v.LongInteger h = tt
  type_in v.LongCardinal h = tt
  type_in v.Boolean h = tt
  type_in v.Character h = tt
  type_in v.String h = tt
  type_in (v.Enumeration o xs) h = (h.0, h.1)
  type_in (v.Subrange k first last) h = (type_in k h.0, h.2, h.3, h.4, h.1)
  type_in (v.Array i e) h = (type_in i h.0, type_in e h.1, h.2, h.3, h.4)
  type_in (v.Record o ps) h = (parts_in ps h.0, some_part ps h.1, h.2, h.3)

  parts_in : (ps : v.Parts) → PartsInOrder ps → PartsIn ps
  parts_in v.NoPart h = tt
  parts_in (v.AndPart x k ps) h = (type_in k h.0, parts_in ps h.1)

fields_in : (fs : List PlainField) → FieldsInOrder fs → FieldsIn fs
unfolding FieldsInOrder FieldsIn
fields_in [] h = tt
fields_in (f ∷ fs) h = (type_in f.kind h.0, fields_in fs h.1)

items_in : (is : List PlainItem) → ItemsInOrder is → ItemsGood is
unfolding ItemsInOrder ItemsGood
items_in [] h = tt
items_in (i ∷ is) h = (
  record {
    head = record { takes = fields_in i.takes (h.0).takes; gives = fields_in i.gives (h.0).gives };
    error = (h.0).error;
  },
  items_in is h.1,
)

constants_in : (cs : List PlainConstant) → ConstantsInOrder cs → ConstantsGood cs
unfolding ConstantsInOrder ConstantsGood
constants_in [] h = tt
constants_in (c ∷ cs) h = (((h.0).value, type_in c.kind (h.0).kind), constants_in cs h.1)

types_in : (xs : List PlainName) → NamesInOrder xs → TypesGood xs
unfolding NamesInOrder TypesGood
types_in [] h = tt
types_in (x ∷ xs) h = (type_in x.kind h.0, types_in xs h.1)

interfaces_in : (is : List PlainInterface) → InterfacesInOrder is → InterfacesGood is
unfolding InterfacesInOrder InterfacesGood
interfaces_in [] h = tt
interfaces_in (i ∷ is) h = (
  record {
    items = items_in i.items (h.0).items;
    constants = constants_in i.constants (h.0).constants;
    types = types_in i.types (h.0).types;
  },
  interfaces_in is h.1,
)

sound_by : (m : s.Module) (is : List PlainInterface) (k : s.ModuleKind) → m.kind ≡ k → ModuleWritten k → InterfacesGood is → IfOk (program_by m is k) Sound
unfolding ModuleWritten of_kind
sound_by m is (s.Interface p opens defs) e w h = tt
sound_by m is (s.Program p imports exports opens inner) e w h =
    program_sound m is imports exports opens inner h w (subst (λ k. EachShort (of_kind k)) (sym e) (program_short inner w))

pub checked_modules_are_sound : CheckedModulesAreSound
unfolding checked
checked_modules_are_sound m is w h = sound_by m (map plain_interface is) m.kind refl w (interfaces_in (map plain_interface is) h)
