-- Worked configurations, by computation: the image of each, whatever the code of its modules is.
use Rattle.std.proofs.Common.{◌≡◌, refl}
use Rattle.std.specs.Prelude.{List, [], ◌∷◌, codes, Ok, Err}
use Rattle.mesa_types.specs.declared.faces.Face.{Face}
use Rattle.mesa_types.specs.declared.faces.Item.{Item}
use Rattle.mesa_types.specs.declared.faces.ItemKind.TheVariants.{Signal}
use Rattle.mesa_types.specs.declared.faces.Shape.{Shape}
use Rattle.interface_records.specs.declared.wanted.Wanted.{Wanted as Entry}
use Rattle.object_files.specs.declared.image.Image.{Image}
use Rattle.object_files.specs.declared.image.Link.TheVariants.{Wanted, To}
use Rattle.object_files.specs.declared.object.Object.{Object}
use Rattle.config_rules.specs.cmesa_grammar.specs.Syntax.{Configuration, AndDeclare, AndInstance}
use Rattle.config_rules.specs.Bindings.{binding_of}
use Rattle.config_rules.specs.Exporters.{outside_of, stepped, step_in, goes_on, reach, outlets_of, outlets_from, is_named, is_given, exporters}
use Rattle.config_rules.specs.Resolves.{from_outside, source, given_for, chosen, resolved_at, resolved, want, wants_of}
use Rattle.config_rules.specs.Through.{Answer}
use Rattle.config_rules.specs.declared.tree.Tree.{Tree}
use Rattle.config_rules.proofs.Written.{names, alone, linked, called, all_of, one_of, configuration, procedure, interface_of, uses, pair, offers as gives, module_of, tree_of, quiet}
use Rattle.link_tables.specs.Linked.{has_instance, kept, many_kept, has_entry, entry_number, noted, is_left, wanted_of, link_by, outermost_exports, offers, image_of}

abbrev image_in : Answer Tree → List Object → Answer Image
image_in (Ok t) objects = Ok (image_of t objects)
image_in (Err e) objects = Err e

-- the image of a configuration, from the shapes and the objects of its components in the order in which they are mentioned first
unfoldable image_by : Configuration → List Shape → List Object → Answer Image
unfolding tree_of outside_of stepped step_in goes_on reach outlets_of outlets_from is_named is_given exporters from_outside source given_for chosen resolved_at resolved want wants_of binding_of has_instance kept many_kept has_entry entry_number noted is_left wanted_of link_by outermost_exports offers image_of
image_by c shapes objects = image_in (tree_of c shapes) objects

-- ---- what the modules import and export

abbrev now : Item
now = procedure (codes "Now")

abbrev late : Item
late = record { kind = Signal; name = codes "Late"; takes = []; gives = [] }

abbrev set : Item
set = procedure (codes "Set")

abbrev clock : Face
clock = interface_of (codes "Clock") 40 (now ∷ late ∷ set ∷ [])

abbrev from_clock : Item → Entry
from_clock i = record { face = codes "Clock"; stamp = 40; item = i }

-- it gives the clock's procedure Now as its procedure 5, and its signal Late as its signal 2
abbrev ticker : Shape
ticker = module_of (codes "Ticker") [] (gives clock (pair 0 5 ∷ pair 1 2 ∷ []) ∷ [])

abbrev reader : Shape
reader = module_of (codes "Reader") (uses clock (0 ∷ 1 ∷ []) ∷ []) []

abbrev setter : Shape
setter = module_of (codes "Setter") (uses clock (1 ∷ 2 ∷ []) ∷ []) []

-- ---- links to an instance

-- Day: CONFIGURATION CONTROL Reader = { Reader; Ticker }
day_is_linked : (r t : Object) → image_by (configuration (codes "Day") [] [] (codes "Reader" ∷ []) (all_of (codes "Reader" ∷ codes "Ticker" ∷ []))) (reader ∷ ticker ∷ []) (r ∷ t ∷ [])
    ≡ Ok (record {
      modules = r ∷ t ∷ [];
      wanted = [];
      instances = record { path = codes "Reader" ∷ []; «module» = 0 } ∷ record { path = codes "Ticker" ∷ []; «module» = 1 } ∷ [];
      links = (To 1 5 ∷ To 1 2 ∷ []) ∷ [] ∷ [];
      offered = [];
      control = 0 ∷ [];
    })
unfolding image_by
day_is_linked r t = refl

-- ---- two instances of one module, which want the same items of the loader, and a third that wants one of them and another

-- Both: CONFIGURATION IMPORTS Clock CONTROL late, early = { early: Reader; Setter; late: Reader }
both_are_linked : (r s : Object)
    → image_by (configuration (codes "Both") (codes "Clock" ∷ []) [] (codes "late" ∷ codes "early" ∷ []) (AndInstance (called (codes "early") 0 (codes "Reader")) (AndInstance (alone 1 (codes "Setter")) (one_of (called (codes "late") 2 (codes "Reader"))))))
    (reader ∷ setter ∷ []) (r ∷ s ∷ [])
    ≡ Ok (record {
      modules = r ∷ s ∷ [];
      wanted = from_clock now ∷ from_clock late ∷ from_clock set ∷ [];
      instances =
          record { path = codes "early" ∷ []; «module» = 0 }
          ∷ record { path = codes "Setter" ∷ []; «module» = 1 }
          ∷ record { path = codes "late" ∷ []; «module» = 0 }
          ∷ [];
      links = (Wanted 0 ∷ Wanted 1 ∷ []) ∷ (Wanted 1 ∷ Wanted 2 ∷ []) ∷ (Wanted 0 ∷ Wanted 1 ∷ []) ∷ [];
      offered = [];
      control = 2 ∷ 0 ∷ [];
    })
unfolding image_by
both_are_linked r s = refl

-- the same item under another stamp is another
abbrev old_reader : Shape
old_reader = module_of (codes "Older") (uses (interface_of (codes "Clock") 39 (now ∷ [])) (0 ∷ []) ∷ []) []

stamps_are_told_apart : (o r : Object) → image_by (configuration (codes "Both") (codes "Clock" ∷ []) [] [] (all_of (codes "Older" ∷ codes "Reader" ∷ []))) (old_reader ∷ reader ∷ []) (o ∷ r ∷ [])
    ≡ Ok (record {
      modules = o ∷ r ∷ [];
      wanted = record { face = codes "Clock"; stamp = 39; item = now } ∷ from_clock now ∷ from_clock late ∷ [];
      instances = record { path = codes "Older" ∷ []; «module» = 0 } ∷ record { path = codes "Reader" ∷ []; «module» = 1 } ∷ [];
      links = (Wanted 0 ∷ []) ∷ (Wanted 1 ∷ Wanted 2 ∷ []) ∷ [];
      offered = [];
      control = [];
    })
unfolding image_by
stamps_are_told_apart o r = refl

-- ---- components without an instance

-- Part: CONFIGURATION = { Spare: CONFIGURATION = { Idle; Main }; Main; Last }; nothing makes an instance of Spare
part_is_linked : (idle main last : Object)
    → image_by (configuration (codes "Part") [] [] (codes "Last" ∷ []) (AndDeclare (configuration (codes "Spare") [] [] [] (all_of (codes "Idle" ∷ codes "Main" ∷ []))) (all_of (codes "Main" ∷ codes "Last" ∷ []))))
    (quiet (codes "Idle") ∷ quiet (codes "Main") ∷ quiet (codes "Last") ∷ []) (idle ∷ main ∷ last ∷ [])
    ≡ Ok (record {
      modules = main ∷ last ∷ [];
      wanted = [];
      instances = record { path = codes "Main" ∷ []; «module» = 0 } ∷ record { path = codes "Last" ∷ []; «module» = 1 } ∷ [];
      links = [] ∷ [] ∷ [];
      offered = [];
      control = 1 ∷ [];
    })
unfolding image_by
part_is_linked idle main last = refl

-- ---- what is offered

abbrev journal : Face
journal = interface_of (codes "Journal") 50 (procedure (codes "Note") ∷ [])

abbrev archive : Face
archive = interface_of (codes "Archive") 60 (procedure (codes "Keep") ∷ [])

abbrev scribe : Shape
scribe = module_of (codes "Scribe") [] (gives journal (pair 0 1 ∷ []) ∷ [])

-- it exports the archive without giving its item
abbrev keeper : Shape
keeper = module_of (codes "Keeper") [] (gives journal (pair 0 3 ∷ []) ∷ gives archive [] ∷ [])

-- Office: CONFIGURATION EXPORTS Archive, Journal = { Scribe; Keeper }: record by record, and under each the exporters in tree order
office_is_linked : (s k : Object) → image_by (configuration (codes "Office") [] (codes "Archive" ∷ codes "Journal" ∷ []) [] (all_of (codes "Scribe" ∷ codes "Keeper" ∷ []))) (scribe ∷ keeper ∷ []) (s ∷ k ∷ [])
    ≡ Ok (record {
      modules = s ∷ k ∷ [];
      wanted = [];
      instances = record { path = codes "Scribe" ∷ []; «module» = 0 } ∷ record { path = codes "Keeper" ∷ []; «module» = 1 } ∷ [];
      links = [] ∷ [] ∷ [];
      offered =
          record { name = codes "Archive"; instance = 1; export = 1 }
          ∷ record { name = codes "Journal"; instance = 0; export = 0 }
          ∷ record { name = codes "Journal"; instance = 1; export = 0 }
          ∷ [];
      control = [];
    })
unfolding image_by
office_is_linked s k = refl

-- Museum: CONFIGURATION EXPORTS Papers = { Vault: CONFIGURATION EXPORTS Archive = { Keeper }; [Papers] ← Vault; Scribe }: what a nested configuration
-- exports is offered under the record outside, and what it does not is not
museum_is_linked : (k s : Object)
    → image_by (configuration (codes "Museum") [] (codes "Papers" ∷ []) [] (AndDeclare (configuration (codes "Vault") [] (codes "Archive" ∷ []) [] (all_of (codes "Keeper" ∷ []))) (AndInstance (linked (names (codes "Papers" ∷ [])) (codes "Vault") []) (all_of (codes "Scribe" ∷ [])))))
    (keeper ∷ scribe ∷ []) (k ∷ s ∷ [])
    ≡ Ok (record {
      modules = k ∷ s ∷ [];
      wanted = [];
      instances = record { path = codes "Vault" ∷ codes "Keeper" ∷ []; «module» = 0 } ∷ record { path = codes "Scribe" ∷ []; «module» = 1 } ∷ [];
      links = [] ∷ [] ∷ [];
      offered = record { name = codes "Papers"; instance = 0; export = 1 } ∷ [];
      control = [];
    })
unfolding image_by
museum_is_linked k s = refl
