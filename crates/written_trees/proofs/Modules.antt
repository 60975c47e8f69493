-- The grammar's side of declarations and modules, as `Bodies` has it of what stands in them.
use Rattle.std.proofs.Common.{List, [], Option, All}
use Rattle.std.proofs.lemmas.List.Elements.{All-nil, All-cons, All-push, All-map}
use Rattle.mesa_lexer.specs.declared.token.Token.{Token}
use Rattle.mesa_lexer.specs.declared.word.Word.{Word}
use Rattle.mesa_base.specs.declared.identifier.Identifier.{Identifier}
use Rattle.syntax_trees.specs.declared.syntax.Labeled.{Labeled}
use Rattle.syntax_trees.specs.declared.syntax.FieldList.{FieldList}
use Rattle.syntax_trees.specs.declared.syntax.Access.{Access}
use Rattle.syntax_trees.specs.declared.syntax.Head.{Head}
use Rattle.syntax_trees.specs.declared.syntax.Declared.{Declared}
use Rattle.syntax_trees.specs.declared.syntax.Declaration.{Declaration}
use Rattle.syntax_trees.specs.declared.syntax.Inner.{Inner}
use Rattle.syntax_trees.specs.declared.syntax.Defined.{Defined}
use Rattle.syntax_trees.specs.declared.syntax.ModuleKind.{ModuleKind}
use Rattle.syntax_trees.specs.declared.syntax.DirectoryItem.{DirectoryItem}
use Rattle.syntax_trees.specs.declared.syntax.Module.{Module}
use Rattle.syntax_trees.specs.PlainSyntax as plain
use Rattle.grammar_rules.specs.Grammar.{labeled}
use Rattle.grammar_rules.specs.Modules as m
use Rattle.check_rules.specs.Written.{MaybeFieldsWritten, HeadWritten, DeclaredWritten, DeclarationWritten, InnerWritten, DefinedWritten, DefinitionWritten, ModuleWritten}
use Rattle.written_trees.specs.Limits.{AreWithin}
use Rattle.check_rules.specs.TreeNames.{Named, MaybeFieldsNamed, HeadNamed, DeclaredNamed, DeclarationNamed, InnerNamed, DefinedNamed, DefinitionNamed, UsedNamed, DirectoryItemNamed, KindNamed, HasNames}
use Rattle.written_trees.proofs.Lists.{Both}
use Rattle.written_trees.proofs.Names.{names}
use Rattle.written_trees.proofs.Bodies as body

-- ---- heads and declarations

params : {ts rest : List Token} {x : Option FieldList} → m.IsParams ts x rest → AreWithin ts
    → Both MaybeFieldsWritten MaybeFieldsNamed (plain.maybe_fields x) (AreWithin rest)
unfolding MaybeFieldsWritten MaybeFieldsNamed
params m.no_params h = (tt, tt, h)
params m.empty_params h = (tt, tt, (h.1).1)
params (m.params d) h = let a = body.fields d h.1 in (a.0.1, a.1, a.2.1)

returns : {ts rest : List Token} {x : Option FieldList} → m.IsReturns ts x rest → AreWithin ts
    → Both MaybeFieldsWritten MaybeFieldsNamed (plain.maybe_fields x) (AreWithin rest)
unfolding MaybeFieldsWritten MaybeFieldsNamed
returns m.no_returns h = (tt, tt, h)
returns m.empty_returns h = (tt, tt, ((h.1).1).1)
returns (m.returns d) h = let a = body.fields d (h.1).1 in (a.0.1, a.1, a.2.1)

head : {ts rest : List Token} {x : Head} → m.IsHead ts x rest → AreWithin ts → Both HeadWritten HeadNamed (plain.head x) (AreWithin rest)
unfolding HeadWritten HeadNamed
head (m.head_of d f) h = let a = params d h in let c = returns f a.2 in ((a.0, c.0), (a.1, c.1), c.2)

access : {ts rest : List Token} {x : Option Access} → m.IsAccess ts x rest → AreWithin ts → AreWithin rest
access m.no_access h = h
access (m.access _) h = h.1

declared : {ts rest : List Token} {x : Declared} → m.IsDeclared ts x rest → AreWithin ts
    → Both DeclaredWritten DeclaredNamed (plain.declared x) (AreWithin rest)
unfolding DeclaredWritten DeclaredNamed
declared (m.procedure _ d f) h = let a = head d h.1 in let c = body.block f a.2.1 in ((a.0, c.0), (a.1, c.1), c.2)
declared (m.signal d) h = let a = head d h.1 in (a.0, a.1, (a.2.1).1)
declared (m.error d) h = let a = params d h.1 in (a.0, a.1, (a.2.1).1)
declared (m.plainly d) h = body.item d h

declaration : {ts rest : List Token} {x : Declaration} → m.IsDeclaration ts x rest → AreWithin ts
    → Both DeclarationWritten DeclarationNamed (plain.declaration x) (AreWithin rest)
unfolding DeclarationWritten DeclarationNamed
declaration (m.declared d f k) h =
    let a = names d h in
    let c = declared k (access f a.2.1) in
    ((a.0, c.0), (a.1, c.1), c.2)

-- each declaration
abbrev WrittenDeclaration : Declaration → Type 0
WrittenDeclaration d = DeclarationWritten (plain.declaration d)

abbrev NamedDeclaration : Declaration → Type 0
NamedDeclaration d = DeclarationNamed (plain.declaration d)

declarations : {ts rest : List Token} {x : List Declaration} → m.IsDeclarations ts x rest → AreWithin ts
    → Both (All WrittenDeclaration) (All NamedDeclaration) x (AreWithin rest)
declarations m.no_declarations h = (All-nil WrittenDeclaration, All-nil NamedDeclaration, h)
declarations (m.declarations {all = all} {x = x} d f) h =
    let a = declarations d h in
    let c = declaration f a.2 in
    (All-push WrittenDeclaration all x a.0 c.0, All-push NamedDeclaration all x a.1 c.1, c.2.1)

inner : {ts rest : List Token} {x : Inner} → m.IsInner ts x rest → AreWithin ts → Both InnerWritten InnerNamed (plain.inner x) (AreWithin rest)
unfolding InnerWritten InnerNamed
inner (m.inside {ds = ds} d f k l) h =
    let a = body.enabling d h in
    let b = declarations f a.2 in
    let i = body.statements k b.2 in
    let j = body.exit_part l i.2 in
    ((a.0, All-map DeclarationWritten plain.declaration ds b.0, i.0, j.0), (a.1, All-map DeclarationNamed plain.declaration ds b.1, i.1, j.1), j.2)

-- ---- interfaces

defined : {ts rest : List Token} {x : Defined} → m.IsDefined ts x rest → AreWithin ts → Both DefinedWritten DefinedNamed (plain.defined x) (AreWithin rest)
unfolding DefinedWritten DefinedNamed
defined (m.procedure_item _ d) h = head d h.1
defined (m.signal_item d) h = head d h.1
defined (m.error_item d) h = params d h.1
defined (m.type_item d) h = body.type d (h.1).1
defined (m.constant_item d f) h = let a = body.type d h in let c = body.expr f a.2.1 in ((a.0, c.0), (a.1, c.1), c.2)

-- each definition
abbrev WrittenDefinition : Labeled (List Identifier) Defined → Type 0
WrittenDefinition d = DefinitionWritten (plain.definition d)

abbrev NamedDefinition : Labeled (List Identifier) Defined → Type 0
NamedDefinition d = DefinitionNamed (plain.definition d)

definitions : {ts rest : List Token} {x : List (Labeled (List Identifier) Defined)} → m.IsDefinitions ts x rest → AreWithin ts
    → Both (All WrittenDefinition) (All NamedDefinition) x (AreWithin rest)
unfolding DefinitionWritten DefinitionNamed
definitions m.no_definitions h = (All-nil WrittenDefinition, All-nil NamedDefinition, h)
definitions (m.definitions {all = all} {ns = ns} {x = x} d f k) h =
    let a = definitions d h in
    let b = names f a.2 in
    let c = defined k b.2.1 in
    (All-push WrittenDefinition all (labeled ns x) a.0 (b.0, c.0), All-push NamedDefinition all (labeled ns x) a.1 (b.1, c.1), c.2.1)

-- ---- lists of names

opened : {ts rest : List Token} {x : List Identifier} → m.IsOpen ts x rest → AreWithin ts → All Named x × AreWithin rest
opened m.no_open h = (All-nil Named, h)
opened (m.opened d) h = let a = names d h.1 in (a.1, a.2.1)

listed : {w : Word} {ts rest : List Token} {x : List Identifier} → m.IsListed w ts x rest → AreWithin ts → All Named x × AreWithin rest
listed m.unlisted h = (All-nil Named, h)
listed (m.listed d) h = let a = names d h.1 in (a.1, a.2)

using : {ts rest : List Token} {x : Option (List Identifier)} → m.IsUsing ts x rest → AreWithin ts → UsedNamed x × AreWithin rest
using m.no_using h = (tt, h)
using m.using_none h = (All-nil Named, ((h.1).1).1)
using (m.using d) h = let a = names d (h.1).1 in (a.1, a.2.1)

item : {ts rest : List Token} {x : DirectoryItem} → m.IsItem ts x rest → AreWithin ts → DirectoryItemNamed x × AreWithin rest
unfolding DirectoryItemNamed
item (m.item d) h = let a = using d (((h.1).1).1).1 in ((h.0, a.0), a.1)

items : {ts rest : List Token} {x : List DirectoryItem} → m.IsItems ts x rest → AreWithin ts → All DirectoryItemNamed x × AreWithin rest
items (m.an_item {x = x} d) h = let a = item d h in (All-cons DirectoryItemNamed x [] a.0 (All-nil DirectoryItemNamed), a.1)
items (m.items {all = all} {x = x} d f) h =
    let a = items d h in
    let c = item f a.1.1 in
    (All-push DirectoryItemNamed all x a.0 c.0, c.1)

directory : {ts rest : List Token} {x : List DirectoryItem} → m.IsDirectory ts x rest → AreWithin ts → All DirectoryItemNamed x × AreWithin rest
directory m.no_directory h = (All-nil DirectoryItemNamed, h)
directory (m.directory d) h = let a = items d h.1 in (a.0, a.1.1)

-- ---- modules

kind : {ts rest : List Token} {x : ModuleKind} → m.IsKind ts x rest → AreWithin ts → Both ModuleWritten KindNamed (plain.kind x) (AreWithin rest)
unfolding ModuleWritten KindNamed
kind (m.program d f k l) h =
    let a = listed d h.1 in
    let b = listed f a.1 in
    let c = opened k (b.1.1).1 in
    let e = inner l c.1 in
    (e.0, (a.0, b.0, c.0, e.1), e.2.1)
kind (m.interface {all = all} d f) h =
    let a = opened d ((h.1).1).1 in
    let c = definitions f a.1 in
    (All-map DefinitionWritten plain.definition all c.0, (a.0, All-map DefinitionNamed plain.definition all c.1), c.2.1)

-- a module of tokens within their limits
pub module_read : {ts rest : List Token} {x : Module} → m.IsModule ts x rest → AreWithin ts → ModuleWritten (plain.syntax x).kind × HasNames (plain.syntax x)
unfolding HasNames
module_read (m.a_module d f) h =
    let a = directory d h in
    let c = kind f (a.1.1).1 in
    (c.0, (a.0, a.1.0, c.1))
