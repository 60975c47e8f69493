-- The places of declarations and modules, as `TokenedBodies` has them of what stands in them.
use Rattle.std.proofs.Common.{List, [], Option, All, map}
use Rattle.std.proofs.lemmas.List.Elements.{All-nil, All-cons, All-push}
use Rattle.mesa_lexer.specs.declared.token.Token.{Token}
use Rattle.mesa_lexer.specs.declared.word.Word.{Word}
use Rattle.mesa_base.specs.declared.place.Place.{Place}
use Rattle.mesa_base.specs.declared.identifier.Identifier.{Identifier}
use Rattle.syntax_trees.specs.declared.syntax.Labeled.{Labeled}
use Rattle.syntax_trees.specs.declared.syntax.FieldList.{FieldList}
use Rattle.syntax_trees.specs.declared.syntax.Access.{Access}
use Rattle.syntax_trees.specs.declared.syntax.Head.{Head}
use Rattle.syntax_trees.specs.declared.syntax.Declared.{Declared}
use Rattle.syntax_trees.specs.declared.syntax.Declaration.{Declaration}
use Rattle.syntax_trees.specs.declared.syntax.Inner.{Inner}
use Rattle.syntax_trees.specs.declared.syntax.Defined.{Defined}
use Rattle.syntax_trees.specs.declared.syntax.ModuleKind.{ModuleKind}
use Rattle.syntax_trees.specs.declared.syntax.DirectoryItem.{DirectoryItem}
use Rattle.syntax_trees.specs.declared.syntax.Module.{Module}
use Rattle.syntax_trees.specs.PlainSyntax as plain
use Rattle.grammar_rules.specs.Grammar.{labeled}
use Rattle.grammar_rules.specs.Modules as m
use Rattle.check_rules.specs.Places as places
use Rattle.written_trees.proofs.Tokened.{Stand, none, more, TokensStand, Read, both, each, names, identifiers}
use Rattle.written_trees.proofs.TokenedBodies as body

module _ (S : Place → Type 0) where
  -- ---- heads and declarations

  params : {ts rest : List Token} {x : Option FieldList} → m.IsParams ts x rest → TokensStand S ts
      → Read S places.of_maybe_fields (plain.maybe_fields x) rest
  params m.no_params h = (none, h)
  params m.empty_params h = (none, (h.1).1)
  params (m.params d) h = let a = body.fields S d h.1 in (a.0, a.1.1)

  returns : {ts rest : List Token} {x : Option FieldList} → m.IsReturns ts x rest → TokensStand S ts
      → Read S places.of_maybe_fields (plain.maybe_fields x) rest
  returns m.no_returns h = (none, h)
  returns m.empty_returns h = (none, ((h.1).1).1)
  returns (m.returns d) h = let a = body.fields S d (h.1).1 in (a.0, a.1.1)

  head : {ts rest : List Token} {x : Head} → m.IsHead ts x rest → TokensStand S ts → Read S places.of_head (plain.head x) rest
  head (m.head_of d f) h = let a = params d h in let c = returns f a.1 in (both a.0 c.0, c.1)

  access : {ts rest : List Token} {x : Option Access} → m.IsAccess ts x rest → TokensStand S ts → TokensStand S rest
  access m.no_access h = h
  access (m.access _) h = h.1

  declared : {ts rest : List Token} {x : Declared} → m.IsDeclared ts x rest → TokensStand S ts
      → Read S places.of_declared (plain.declared x) rest
  declared (m.procedure _ d f) h = let a = head d h.1 in let c = body.block S f a.1.1 in (both a.0 c.0, c.1)
  declared (m.signal d) h = let a = head d h.1 in (a.0, (a.1.1).1)
  declared (m.error d) h = let a = params d h.1 in (a.0, (a.1.1).1)
  declared (m.plainly d) h = body.item S d h

  -- the names of each declaration, and the rest of it
  abbrev DeclarationStands : Declaration → Type 0
  DeclarationStands d = Stand S (places.of_declared_names d.names) × Stand S (places.of_declared (plain.declared d.declared))

  all_declarations : (ds : List Declaration) → All DeclarationStands ds → Stand S (places.of_declarations (map plain.declaration ds))
  unfolding places.of_declarations
  all_declarations = each (λ ds. places.of_declarations (map plain.declaration ds)) DeclarationStands none (λ d ds h k. both h.0 (both h.1 k))

  declaration : {ts rest : List Token} {x : Declaration} → m.IsDeclaration ts x rest → TokensStand S ts
      → DeclarationStands x × TokensStand S rest
  declaration (m.declared d f k) h =
      let a = names d h in
      let c = declared k (access f a.1.1) in
      ((a.0, c.0), c.1)

  declarations : {ts rest : List Token} {x : List Declaration} → m.IsDeclarations ts x rest → TokensStand S ts
      → All DeclarationStands x × TokensStand S rest
  declarations m.no_declarations h = (All-nil DeclarationStands, h)
  declarations (m.declarations {all = all} {x = x} d f) h =
      let a = declarations d h in
      let c = declaration f a.1 in
      (All-push DeclarationStands all x a.0 c.0, c.1.1)

  inner : {ts rest : List Token} {x : Inner} → m.IsInner ts x rest → TokensStand S ts → Read S places.of_inner (plain.inner x) rest
  inner (m.inside {ds = ds} d f k l) h =
      let a = body.enabling S d h in
      let b = declarations f a.1 in
      let i = body.statements S k b.1 in
      let j = body.exit_part S l i.1 in
      (both a.0 (both (all_declarations ds b.0) (both i.0 j.0)), j.1)

  -- ---- interfaces

  defined : {ts rest : List Token} {x : Defined} → m.IsDefined ts x rest → TokensStand S ts
      → Read S places.of_defined (plain.defined x) rest
  defined (m.procedure_item _ d) h = head d h.1
  defined (m.signal_item d) h = head d h.1
  defined (m.error_item d) h = params d h.1
  defined (m.type_item d) h = body.type S d (h.1).1
  defined (m.constant_item d f) h = let a = body.type S d h in let c = body.expr S f a.1.1 in (both a.0 c.0, c.1)

  abbrev DefinitionStands : Labeled (List Identifier) Defined → Type 0
  DefinitionStands d = Stand S (places.of_declared_names d.labels) × Stand S (places.of_defined (plain.defined d.item))

  all_definitions : (ds : List (Labeled (List Identifier) Defined)) → All DefinitionStands ds
      → Stand S (places.of_definitions (map plain.definition ds))
  unfolding places.of_definitions
  all_definitions = each (λ ds. places.of_definitions (map plain.definition ds)) DefinitionStands none (λ d ds h k. both h.0 (both h.1 k))

  definitions : {ts rest : List Token} {x : List (Labeled (List Identifier) Defined)} → m.IsDefinitions ts x rest → TokensStand S ts
      → All DefinitionStands x × TokensStand S rest
  definitions m.no_definitions h = (All-nil DefinitionStands, h)
  definitions (m.definitions {all = all} {ns = ns} {x = x} d f k) h =
      let a = definitions d h in
      let b = names f a.1 in
      let c = defined k b.1.1 in
      (All-push DefinitionStands all (labeled ns x) a.0 (b.0, c.0), c.1.1)

  -- ---- lists of names

  opened : {ts rest : List Token} {x : List Identifier} → m.IsOpen ts x rest → TokensStand S ts → Read S places.of_identifiers x rest
  opened m.no_open h = (none, h)
  opened (m.opened {ns = ns} d) h = let a = names d h.1 in (identifiers ns a.0, a.1.1)

  listed : {w : Word} {ts rest : List Token} {x : List Identifier} → m.IsListed w ts x rest → TokensStand S ts
      → Read S places.of_identifiers x rest
  listed m.unlisted h = (none, h)
  listed (m.listed {ns = ns} d) h = let a = names d h.1 in (identifiers ns a.0, a.1)

  using : {ts rest : List Token} {x : Option (List Identifier)} → m.IsUsing ts x rest → TokensStand S ts
      → Read S places.of_used x rest
  using m.no_using h = (none, h)
  using m.using_none h = (none, ((h.1).1).1)
  using (m.using {ns = ns} d) h = let a = names d (h.1).1 in (identifiers ns a.0, a.1.1)

  abbrev ItemStands : DirectoryItem → Type 0
  ItemStands d = S d.name.place × S d.file_place × Stand S (places.of_used d.used)

  all_items : (ds : List DirectoryItem) → All ItemStands ds → Stand S (places.of_directory ds)
  unfolding places.of_directory
  all_items = each places.of_directory ItemStands none (λ d ds h k. more h.0 (more h.1 (both h.2 k)))

  item : {ts rest : List Token} {x : DirectoryItem} → m.IsItem ts x rest → TokensStand S ts
      → ItemStands x × TokensStand S rest
  item (m.item d) h = let t = ((h.1).1).1 in let a = using d t.1 in ((h.0, t.0, a.0), a.1)

  items : {ts rest : List Token} {x : List DirectoryItem} → m.IsItems ts x rest → TokensStand S ts → All ItemStands x × TokensStand S rest
  items (m.an_item {x = x} d) h = let a = item d h in (All-cons ItemStands x [] a.0 (All-nil ItemStands), a.1)
  items (m.items {all = all} {x = x} d f) h =
      let a = items d h in
      let c = item f a.1.1 in
      (All-push ItemStands all x a.0 c.0, c.1)

  directory : {ts rest : List Token} {x : List DirectoryItem} → m.IsDirectory ts x rest → TokensStand S ts
      → Read S places.of_directory x rest
  unfolding places.of_directory
  directory m.no_directory h = (none, h)
  directory (m.directory {all = all} d) h = let a = items d h.1 in (all_items all a.0, a.1.1)

  -- ---- modules

  kind : {ts rest : List Token} {x : ModuleKind} → m.IsKind ts x rest → TokensStand S ts → Read S places.of_kind (plain.kind x) rest
  kind (m.program d f k l) h =
      let a = listed d h.1 in
      let b = listed f a.1 in
      let c = opened k (b.1.1).1 in
      let e = inner l c.1 in
      (more h.0 (both a.0 (both b.0 (both c.0 e.0))), e.1.1)
  kind (m.interface {all = all} d f) h =
      let a = opened d ((h.1).1).1 in
      let c = definitions f a.1 in
      (more h.0 (both a.0 (all_definitions all c.0)), c.1.1)

  -- a module of tokens whose places stand
  pub module_stands : {ts rest : List Token} {x : Module} → m.IsModule ts x rest → TokensStand S ts → Stand S (places.places_in (plain.syntax x))
  unfolding places.places_in
  module_stands (m.a_module d f) h =
      let a = directory d h in
      let c = kind f (a.1.1).1 in
      both a.0 (more (a.1).0 c.0)
