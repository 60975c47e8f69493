-- An interface: its items, types and constants in text order (Language Manual, chapter 7).
use Rattle.std.specs.Prelude.{◌++◌, List, [], ◌∷◌, map, None}
use Rattle.syntax_trees.specs.Syntax as s
use Rattle.check_rules.specs.Typed as t
use Rattle.mesa_types.specs.declared.faces.ItemKind.{ItemKind}
use Rattle.mesa_types.specs.declared.faces.ItemKind.TheVariants as item
use Rattle.mesa_base.specs.declared.identifier.Identifier.{Identifier}
use Rattle.check_rules.specs.Scopes.{Scope, nothing}
use Rattle.check_rules.specs.Meanings.{Meaning, TypeName, Procedure, Signal, Later, Headless}
use Rattle.check_rules.specs.Meanings as m
use Rattle.check_rules.specs.Steps.{Check, ◌>>=◌, pure, lift, within_operands}
use Rattle.check_rules.specs.Around.{Around, in_constant}
use Rattle.check_rules.specs.Names.{announce, settle}
use Rattle.check_rules.specs.Parts.{first, first_name}
use Rattle.check_rules.specs.Ranges.{Into}
use Rattle.check_rules.specs.Statements.{constant_meaning}
use Rattle.check_rules.specs.Checking.{check, type_exp}
use Rattle.check_rules.specs.Programs.{elements_of, also, before_others, Heading, heading, named_item}
-- what the interface's own names mean before their declaration
use Rattle.interface_records.specs.PlainTypes.{PlainConstant, PlainItem, PlainName, PlainType}

abbrev pub one_ahead : List Identifier → s.Defined → Scope Meaning → Scope Meaning
one_ahead xs (s.TypeItem e) scope = also Later (xs ++ elements_of e) scope
one_ahead xs (s.ConstantItem e x) scope = also Later (xs ++ elements_of e) scope
one_ahead xs d scope = also Headless xs scope

unfoldable pub ahead : List s.Definition → Scope Meaning
ahead [] = nothing
ahead (d ∷ ds) = one_ahead d.names d.defined (ahead ds)

pub record Defined : Type 0 where
  pub items : List PlainItem
  pub constants : List PlainConstant
  pub types : List PlainName

abbrev pub nothing_defined : Defined
nothing_defined = record { items = []; constants = []; types = [] }

-- an item can be in no constant, so its number is never seen
abbrev pub item_meaning : ItemKind → PlainItem → Meaning
item_meaning item.Procedure i = Procedure (t.OwnProcedure 0) i
item_meaning kind i = Signal (t.OwnSignal 0) i

abbrev pub defined_items : ItemKind → List Identifier → Heading → Check Defined
defined_items kind xs h = do
  _ ← settle xs (map (item_meaning kind) (map (named_item kind h) xs))
  pure (record nothing_defined { items = map (named_item kind h) xs })

abbrev pub named_type : PlainType → Identifier → PlainName
named_type k x = record { name = x.name; kind = k }

abbrev pub constants_by : List Identifier → Meaning → List PlainConstant
constants_by xs (m.Constant k n) = map (λ (x : Identifier). record { name = x.name; kind = k; value = n }) xs
constants_by xs _ = []

unfoldable pub defined : Around → List Identifier → s.Defined → Check Defined
defined a xs (s.ProcedureItem h) = heading a h.takes h.gives >>= defined_items item.Procedure xs
defined a xs (s.SignalItem h) = heading a h.takes h.gives >>= defined_items item.Signal xs
defined a xs (s.ErrorItem takes) = heading a takes None >>= defined_items item.Error xs
defined a xs (s.TypeItem e) = do
  k ← type_exp a e
  _ ← settle xs (map (λ x. TypeName k) xs)
  pure (record nothing_defined { types = map (named_type k) xs })
defined a xs (s.ConstantItem e x) = do
  k ← type_exp a e
  y ← check (in_constant (first x) a) (Into k (first x)) x
  c ← lift (constant_meaning a k x (first x) y.value)
  _ ← settle xs (map (λ x. c) xs)
  pure (record nothing_defined { constants = constants_by xs c })

abbrev pub and_defined : Defined → Defined → Defined
and_defined d e = record { items = d.items ++ e.items; constants = d.constants ++ e.constants; types = d.types ++ e.types }

abbrev pub definition : Around → s.Definition → Check Defined
definition a d = within_operands 0 (first_name d.names) (announce d.names >>= (λ _. defined a d.names d.defined))

unfoldable pub all_defined : Around → List s.Definition → Check Defined
all_defined a [] = pure nothing_defined
all_defined a (d ∷ ds) = do
  x ← before_others (λ (e : s.Definition). e.names) definition a d ds
  more ← all_defined a ds
  pure (and_defined x more)
