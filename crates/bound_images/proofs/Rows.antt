-- Worked configurations, by computation: what the items that an instance uses stand for in the program.
use Rattle.std.proofs.Common.{◌≡◌, refl}
use Rattle.std.specs.Prelude.{ℕ, List, [], ◌∷◌, codes, Option, Some, None, Ok, Err, slice_get}
use Rattle.mesa_types.specs.declared.faces.Face.{Face}
use Rattle.mesa_types.specs.declared.faces.Item.{Item}
use Rattle.mesa_types.specs.declared.faces.ItemKind.TheVariants.{Signal}
use Rattle.mesa_types.specs.declared.faces.Shape.{Shape}
use Rattle.interface_records.specs.Faces.{iodefs}
use Rattle.config_rules.specs.cmesa_grammar.specs.Syntax.{Configuration, AndDeclare, AndInstance}
use Rattle.source_meaning.specs.Program.{Target, ToProcedure, ToHost, ToSignal, SignalOf, NoInput, Unnamed, WriteDecimal, host_of, host_target}
use Rattle.config_rules.specs.Exporters.{outside_of, stepped, step_in, goes_on, reach, outlets_of, outlets_from, is_named, is_given, exporters}
use Rattle.config_rules.specs.Resolves.{from_outside, source, given_for, chosen, resolved_at, resolved}
use Rattle.config_rules.specs.Through.{Answer}
use Rattle.config_rules.specs.declared.tree.Tree.{Tree}
use Rattle.config_rules.specs.declared.tree.TreeInstance.{TreeInstance}
use Rattle.config_rules.proofs.Written.{at, named, names, linked, all_of, one_of, configuration, procedure, interface_of, uses, pair, offers, module_of, tree_of}
use Rattle.bound_images.specs.Programs.{given_as, target_by, target_at, target_in, target}

-- ---- what is shown: what the first two items of an instance's first import, and two of the built-in interface's, stand for

abbrev of_items : Tree → Option TreeInstance → List Target
of_items t None = []
of_items t (Some x) = target t x 0 0 ∷ target t x 0 1 ∷ target t x 1 2 ∷ target t x 1 5 ∷ []

abbrev of_instance : ℕ → Answer Tree → List Target
of_instance j (Ok t) = of_items t (slice_get t.instances j)
of_instance j (Err e) = []

unfoldable meant : ℕ → Configuration → List Shape → List Target
unfolding tree_of outside_of stepped step_in goes_on reach outlets_of outlets_from is_named is_given exporters from_outside source given_for chosen resolved_at resolved given_as target_by target_at target_in target host_of host_target
meant j c shapes = of_instance j (tree_of c shapes)

-- ---- modules: the procedure has the number 5 in its module, the signal the number 2

abbrev signal : List ℕ → Item
signal name = record { kind = Signal; name = name; takes = []; gives = [] }

abbrev clock : Face
clock = interface_of (codes "Clock") 40 (procedure (codes "Now") ∷ signal (codes "Late") ∷ [])

abbrev ticker : Shape
ticker = module_of (codes "Ticker") [] (offers clock (pair 0 5 ∷ pair 1 2 ∷ []) ∷ [])

abbrev reader : Shape
reader = module_of (codes "Reader") (uses clock (0 ∷ 1 ∷ []) ∷ uses iodefs.face (2 ∷ 5 ∷ []) ∷ []) []

-- ---- two instances of one module, each with a record of its own: the reader's items are those of the second

abbrev both : Configuration
both = configuration (codes "Both") (codes "IODefs" ∷ []) [] (codes "Reader" ∷ [])
    (AndInstance (record { place = at 1; records = names (codes "East" ∷ []); name = Some (named 2 (codes "early")); component = named 3 (codes "Ticker"); arguments = [] })
    (AndInstance (record { place = at 4; records = names (codes "West" ∷ []); name = Some (named 5 (codes "late")); component = named 6 (codes "Ticker"); arguments = [] })
    (one_of (linked [] (codes "Reader") (names (codes "West" ∷ codes "IODefs" ∷ []))))))

second_of_two : meant 2 both (ticker ∷ reader ∷ []) ≡ ToProcedure 1 5 ∷ ToSignal (SignalOf 1 2) ∷ ToHost WriteDecimal ∷ ToSignal NoInput ∷ []
unfolding meant
second_of_two = refl

-- ---- the reader in a nested configuration, whose record Hours is the ticker's outside, and which does not import the built-in interface

abbrev house : Configuration
house = configuration (codes "House") (codes "IODefs" ∷ []) [] (codes "Room" ∷ [])
    (AndDeclare
    (configuration (codes "Room") (codes "Hours" ∷ []) [] (codes "Reader" ∷ []) (one_of (linked [] (codes "Reader") (names (codes "Hours" ∷ codes "IODefs" ∷ [])))))
    (AndInstance (linked [] (codes "Room") (names (codes "Clock" ∷ []))) (all_of (codes "Ticker" ∷ []))))

from_inside : meant 0 house (reader ∷ ticker ∷ []) ≡ ToProcedure 1 5 ∷ ToSignal (SignalOf 1 2) ∷ ToSignal Unnamed ∷ ToSignal Unnamed ∷ []
unfolding meant
from_inside = refl
