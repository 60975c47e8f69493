-- Parts of the rules of heads and definitions, as the code takes them one by one.
use Rattle.std.specs.Prelude.{ℕ, List, Option, map}
use Rattle.mesa_base.specs.declared.identifier.Identifier.{Identifier}
use Rattle.syntax_trees.specs.Syntax as s
use Rattle.mesa_types.specs.declared.faces.ItemKind.{ItemKind}
use Rattle.check_rules.specs.Around.{Around, in_constant}
use Rattle.check_rules.specs.Checking.{check, type_exp}
use Rattle.check_rules.specs.Definitions.{Defined, constants_by, defined, definition, item_meaning, named_type, nothing_defined}
use Rattle.check_rules.specs.Meanings.{Meaning, TypeName}
use Rattle.check_rules.specs.Names.{announce, settle}
use Rattle.check_rules.specs.Parts.{first}
use Rattle.interface_records.specs.PlainTypes.{PlainConstant, PlainItem, PlainType}
use Rattle.check_rules.specs.Programs.{Heading, before_others, coming_scope, heading, named_item, own_scope, parameters}
use Rattle.check_rules.specs.Ranges.{Into}
use Rattle.check_rules.specs.Statements.{constant_meaning}
use Rattle.check_rules.specs.Steps.{Check, ◌>>=◌, pure, lift}
use Rattle.check_heads.specs.Again.{retried}

-- parameters and results, in their scope
unfoldable pub inside_heading : Around → Option s.FieldList → Option s.FieldList → Check Heading
inside_heading a takes gives = do
  fs ← parameters a takes
  gs ← parameters a gives
  scope ← coming_scope
  pure (record { takes = fs; gives = gs; scope = own_scope fs gs scope })

-- the items that these names are, with this head
abbrev pub items : ItemKind → Heading → List Identifier → List PlainItem
items kind h xs = map (named_item kind h) xs

unfoldable pub item_names : ItemKind → List Identifier → Heading → Check (List PlainItem)
item_names kind xs h = do
  _ ← settle xs (map (item_meaning kind) (items kind h xs))
  pure (items kind h xs)

-- names of a procedure, signal or error
unfoldable pub item : Around → ItemKind → List Identifier → Option s.FieldList → Option s.FieldList → Check Defined
item a kind xs takes gives = do
  h ← heading a takes gives
  is ← item_names kind xs h
  pure (record nothing_defined { items = is })

unfoldable pub type_names : Around → List Identifier → s.TypeExp → Check Defined
type_names a xs e = do
  k ← type_exp a e
  _ ← settle xs (map (λ x. TypeName k) xs)
  pure (record nothing_defined { types = map (named_type k) xs })

-- what a constant of this type means
unfoldable pub constant_named : Around → PlainType → s.Expr → Check Meaning
constant_named a k x = do
  y ← check (in_constant (first x) a) (Into k (first x)) x
  lift (constant_meaning a k x (first x) y.value)

unfoldable pub constant_names : Around → List Identifier → s.TypeExp → s.Expr → Check Defined
constant_names a xs e x = do
  k ← type_exp a e
  c ← constant_named a k x
  _ ← settle xs (map (λ x. c) xs)
  pure (record nothing_defined { constants = constants_by xs c })

abbrev pub named_constant : PlainType → ℕ → Identifier → PlainConstant
named_constant k n x = record { name = x.name; kind = k; value = n }

-- what names are that must be new
unfoldable pub announced : Around → List Identifier → s.Defined → Check Defined
announced a xs d = announce xs >>= (λ _. defined a xs d)

-- a declaration before these others
abbrev pub before : Around → s.Definition → List s.Definition → Check Defined
before = before_others (λ (d : s.Definition). d.names) definition

-- its second try
abbrev pub retried_definition : Around → s.Definition → List s.Definition → Check Defined
retried_definition = retried (λ (d : s.Definition). d.names) definition
