-- Worked configurations, by computation: records that have another name in each of three scopes, and modules that export what they import.
use Rattle.std.proofs.Common.{◌≡◌, refl}
use Rattle.std.specs.Prelude.{ℕ, List, [], ◌∷◌, codes, Some, Ok}
use Rattle.mesa_types.specs.declared.faces.Face.{Face}
use Rattle.mesa_types.specs.declared.faces.ItemKind.TheVariants.{Signal}
use Rattle.mesa_types.specs.declared.faces.Shape.{Shape}
use Rattle.cmesa_grammar.specs.Syntax.{Configuration, AndDeclare, AndInstance}
use Rattle.config_rules.specs.Resolves.{Bound, NoExporter, Twice}
use Rattle.config_rules.proofs.Written.{at, named, names, alone, linked, all_of, one_of, configuration, procedure, interface_of, uses, pair, offers, module_of, shown, good}

abbrev clock : Face
clock = interface_of (codes "Clock") 40 (procedure (codes "Now") ∷ record { kind = Signal; name = codes "Late"; takes = []; gives = [] } ∷ [])

-- it gives the clock's procedure as its procedure 5, and its signal as its signal 2
abbrev ticker : Shape
ticker = module_of (codes "Ticker") [] (offers clock (pair 0 5 ∷ pair 1 2 ∷ []) ∷ [])

abbrev reader : Shape
reader = module_of (codes "Reader") (uses clock (0 ∷ 1 ∷ []) ∷ []) []

-- ---- three scopes: the ticker inside exports to Keys, which is Locks in the house and Hours in the tower; the reader inside imports from Days, which is
-- Weeks in the house and Years in the tower

-- Flat: CONFIGURATION IMPORTS Days EXPORTS Keys = { [Keys] ← Ticker; Reader[Days] }
abbrev flat : Configuration
flat = configuration (codes "Flat") (codes "Days" ∷ []) (codes "Keys" ∷ []) []
    (AndInstance (linked (names (codes "Keys" ∷ [])) (codes "Ticker") []) (one_of (linked [] (codes "Reader") (names (codes "Days" ∷ [])))))

-- House: CONFIGURATION IMPORTS Weeks EXPORTS Locks = { Flat: ..; [Locks] ← Flat[Weeks] }
abbrev house : Configuration
house = configuration (codes "House") (codes "Weeks" ∷ []) (codes "Locks" ∷ []) []
    (AndDeclare flat (one_of (linked (names (codes "Locks" ∷ [])) (codes "Flat") (names (codes "Weeks" ∷ [])))))

-- Tower: CONFIGURATION = { House: ..; [Hours] ← House[Years]; [Years] ← late: Ticker; Reader[RECORD] }
abbrev tower : (record_name : List ℕ) → Configuration
tower record_name = configuration (codes "Tower") [] [] []
    (AndDeclare house
    (AndInstance (linked (names (codes "Hours" ∷ [])) (codes "House") (names (codes "Years" ∷ [])))
    (AndInstance (record { place = at 4; records = names (codes "Years" ∷ []); name = Some (named 5 (codes "late")); component = named 6 (codes "Ticker"); arguments = [] })
    (one_of (linked [] (codes "Reader") (names (record_name ∷ [])))))))

-- House.Flat.Ticker, House.Flat.Reader, late, Reader: the reader inside has the ticker outside, and the one outside has that inside
renamed_in_three_scopes : shown (tower (codes "Hours")) (ticker ∷ reader ∷ []) ≡ good (Bound 2 5 ∷ Bound 2 2 ∷ Bound 0 5 ∷ Bound 0 2 ∷ []) []
unfolding shown
renamed_in_three_scopes = refl

-- the names of the scopes inside mean nothing outside
not_by_the_name_inside : shown (tower (codes "Locks")) (ticker ∷ reader ∷ [])
    ≡ Ok (record {
      answers = Bound 2 5 ∷ Bound 2 2 ∷ NoExporter ∷ NoExporter ∷ [];
      control = [];
      bad = Some (record { path = codes "Reader" ∷ []; interface = codes "Clock"; stamp = 40; item = codes "Now"; cause = NoExporter });
    })
unfolding shown
not_by_the_name_inside = refl

-- ---- a module that exports what it imports serves itself, where nobody else does

abbrev heap : Face
heap = interface_of (codes "Heap") 7 (procedure (codes "Take") ∷ procedure (codes "Give") ∷ [])

-- it gives Take as its procedure 3, and not Give
abbrev own : Shape
own = module_of (codes "Own") (uses heap (0 ∷ []) ∷ []) (offers heap (pair 0 3 ∷ []) ∷ [])

abbrev needy : Shape
needy = module_of (codes "Needy") (uses heap (0 ∷ 1 ∷ []) ∷ []) (offers heap (pair 0 3 ∷ []) ∷ [])

serves_itself : shown (configuration (codes "Alone") [] [] [] (all_of (codes "Own" ∷ []))) (own ∷ []) ≡ good (Bound 0 3 ∷ []) []
unfolding shown
serves_itself = refl

-- what it does not give it has not
serves_itself_in_part : shown (configuration (codes "Alone") [] [] [] (all_of (codes "Needy" ∷ []))) (needy ∷ [])
    ≡ Ok (record {
      answers = Bound 0 3 ∷ NoExporter ∷ [];
      control = [];
      bad = Some (record { path = codes "Needy" ∷ []; interface = codes "Heap"; stamp = 7; item = codes "Give"; cause = NoExporter });
    })
unfolding shown
serves_itself_in_part = refl

-- two instances that export to one record are two exporters of each
abbrev twins : Configuration
twins = configuration (codes "Twins") [] [] [] (AndInstance (alone 0 (codes "Own"))
    (one_of (record { place = at 2; records = []; name = Some (named 2 (codes "other")); component = named 4 (codes "Own"); arguments = [] })))

two_of_them_serve_none : shown twins (own ∷ [])
    ≡ Ok (record {
      answers = Twice 0 1 ∷ Twice 0 1 ∷ [];
      control = [];
      bad = Some (record { path = codes "Own" ∷ []; interface = codes "Heap"; stamp = 7; item = codes "Take"; cause = Twice 0 1 });
    })
unfolding shown
two_of_them_serve_none = refl
