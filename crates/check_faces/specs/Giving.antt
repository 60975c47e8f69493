-- One item or interface of those that a module imports or exports.
use Rattle.std.specs.Prelude.{ℕ, Bool, true, false, List, [], ◌∷◌, ◌++◌, Option, Some, None, Ok}
use Rattle.mesa_types.specs.declared.faces.Export.{Export}
use Rattle.mesa_types.specs.declared.faces.Import.{Import}
use Rattle.mesa_types.specs.declared.faces.Pair.{Pair}
use Rattle.interface_records.specs.PlainTypes.{PlainInterface, PlainItem, face_of}
use Rattle.check_rules.specs.Programs.{Offer, fits_item, marked_from, pairs}
use Rattle.check_rules.specs.Steps.{Checked, and_then}

-- the pair of this item, if something is offered for it
abbrev pub pair : ℕ → Option Offer → List Pair
pair n None = []
pair n (Some o) = record { item = n; number = o.number } ∷ []

-- what is offered fits the item, and stands behind what is given
abbrev pub given : ℕ → PlainItem → Option Offer → List Pair → Checked (List Pair)
given n i o before = and_then (fits_item i o) (λ _. Ok (before ++ pair n o))

abbrev pub export_with : PlainInterface → List Pair → Export
export_with f ps = record { face = face_of f; given = ps }

abbrev pub export : List Offer → PlainInterface → Checked Export
export os f = and_then (pairs os 0 f.items) (λ ps. Ok (export_with f ps))

-- the number of an item that is marked
abbrev pub number_if : Bool → ℕ → List ℕ
number_if true n = n ∷ []
number_if false n = []

abbrev pub import : PlainInterface → List Bool → Import
import f marks = record { face = face_of f; used = marked_from 0 f.items marks }
