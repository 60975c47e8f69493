-- What weighs in a tree stands among its tokens: declarations and modules, as `Bodies` has it of what stands in them.
use Rattle.std.proofs.Common.{◌≡◌, ◌+◌, ℕ, List, [], ◌∷◌, ◌++◌, Option, map, arith}
use Rattle.mesa_lexer.specs.declared.token.Token.{Token}
use Rattle.mesa_lexer.specs.declared.word.Word.{Word}
use Rattle.mesa_base.specs.declared.identifier.Identifier.{Identifier}
use Rattle.syntax_trees.specs.declared.syntax.Labeled.{Labeled}
use Rattle.syntax_trees.specs.declared.syntax.FieldList.{FieldList}
use Rattle.syntax_trees.specs.declared.syntax.Access.{Access}
use Rattle.syntax_trees.specs.declared.syntax.Head.{Head}
use Rattle.syntax_trees.specs.declared.syntax.Declared.{Declared}
use Rattle.syntax_trees.specs.declared.syntax.Declaration.{Declaration}
use Rattle.syntax_trees.specs.declared.syntax.Inner.{Inner}
use Rattle.syntax_trees.specs.declared.syntax.Defined.{Defined}
use Rattle.syntax_trees.specs.declared.syntax.ModuleKind.{ModuleKind}
use Rattle.syntax_trees.specs.declared.syntax.DirectoryItem.{DirectoryItem}
use Rattle.syntax_trees.specs.declared.syntax.Module.{Module}
use Rattle.syntax_trees.specs.PlainSyntax as plain
use Rattle.grammar_rules.specs.Grammar.{labeled}
use Rattle.grammar_rules.specs.Modules as m
use Rattle.checking_laws.specs.Weights as tree
use Rattle.checking_laws.specs.Weights.{Weights}
use Rattle.text_weights.specs.Tokens.{tokens_weight}
use Rattle.text_weights.proofs.Lists.{Fits}
use Rattle.text_weights.proofs.Bodies as body

module _ (w : Weights) where
  params_f : {ts rest : List Token} {x : Option FieldList} → m.IsParams ts x rest → Fits w (tree.maybe_fields_weight w (plain.maybe_fields x)) ts rest
  unfolding tokens_weight tree.maybe_fields_weight
  params_f m.no_params = record { fits = omega arith }
  params_f m.empty_params = record { fits = omega arith }
  params_f (m.params d) = record { fits = omega (arith, (body.fields_f w d).fits) }

  returns_f : {ts rest : List Token} {x : Option FieldList} → m.IsReturns ts x rest → Fits w (tree.maybe_fields_weight w (plain.maybe_fields x)) ts rest
  unfolding tokens_weight tree.maybe_fields_weight
  returns_f m.no_returns = record { fits = omega arith }
  returns_f m.empty_returns = record { fits = omega arith }
  returns_f (m.returns d) = record { fits = omega (arith, (body.fields_f w d).fits) }

  head_f : {ts rest : List Token} {x : Head} → m.IsHead ts x rest → Fits w (tree.head_weight w (plain.head x)) ts rest
  unfolding tree.head_weight
  head_f (m.head_of d f) = record { fits = omega (arith, (params_f d).fits, (returns_f f).fits) }

  access_f : {ts rest : List Token} {x : Option Access} → m.IsAccess ts x rest → Fits w 0 ts rest
  unfolding tokens_weight
  access_f m.no_access = record { fits = omega arith }
  access_f (m.access _) = record { fits = omega arith }

  declared_f : {ts rest : List Token} {x : Declared} → m.IsDeclared ts x rest → Fits w (tree.declared_weight w (plain.declared x)) ts rest
  unfolding tokens_weight tree.declared_weight
  declared_f (m.procedure _ d f) = record { fits = omega (arith, (head_f d).fits, (body.block_f w f).fits) }
  declared_f (m.signal d) = record { fits = omega (arith, (head_f d).fits) }
  declared_f (m.error d) = record { fits = omega (arith, (params_f d).fits) }
  declared_f (m.plainly d) = body.item_f w d

  abbrev declaration_weight : Declaration → ℕ
  declaration_weight x = tree.each_name w x.names + tree.declared_weight w (plain.declared x.declared)

  declaration_f : {ts rest : List Token} {x : Declaration} → m.IsDeclaration ts x rest → Fits w (declaration_weight x) ts rest
  unfolding tokens_weight
  declaration_f (m.declared d f h) = record { fits = omega (arith, (body.names_f w d).fits, (access_f f).fits, (declared_f h).fits) }

  push_declarations : (xs : List Declaration) (x : Declaration)
      → tree.declarations_weight w (map plain.declaration (xs ++ x ∷ [])) ≡ tree.declarations_weight w (map plain.declaration xs) + declaration_weight x
  unfolding tree.declarations_weight
  push_declarations [] x = omega arith
  push_declarations (y ∷ ys) x = omega (arith, push_declarations ys x)

  declarations_f : {ts rest : List Token} {x : List Declaration} → m.IsDeclarations ts x rest → Fits w (tree.declarations_weight w (map plain.declaration x)) ts rest
  unfolding tokens_weight tree.declarations_weight
  declarations_f m.no_declarations = record { fits = omega arith }
  declarations_f (m.declarations {all = all} {x = x} d f) = record { fits = omega (arith, push_declarations all x, (declarations_f d).fits, (declaration_f f).fits) }

  inner_f : {ts rest : List Token} {x : Inner} → m.IsInner ts x rest → Fits w (tree.inner_weight w (plain.inner x)) ts rest
  unfolding tree.inner_weight
  inner_f (m.inside d f h i) = record { fits = omega (arith, (body.enabling_f w d).fits, (declarations_f f).fits, (body.body_f w h).fits, (body.exit_part_f w i).fits) }

  -- ---- interfaces

  defined_f : {ts rest : List Token} {x : Defined} → m.IsDefined ts x rest → Fits w (tree.defined_weight w (plain.defined x)) ts rest
  unfolding tokens_weight tree.defined_weight
  defined_f (m.procedure_item _ d) = record { fits = omega (arith, (head_f d).fits) }
  defined_f (m.signal_item d) = record { fits = omega (arith, (head_f d).fits) }
  defined_f (m.error_item d) = record { fits = omega (arith, (params_f d).fits) }
  defined_f (m.type_item d) = record { fits = omega (arith, (body.type_f w d).fits) }
  defined_f (m.constant_item d f) = record { fits = omega (arith, (body.type_f w d).fits, (body.expr_f w f).fits) }

  abbrev definition_weight : Labeled (List Identifier) Defined → ℕ
  definition_weight x = tree.each_name w x.labels + tree.defined_weight w (plain.defined x.item)

  push_definitions : (xs : List (Labeled (List Identifier) Defined)) (x : Labeled (List Identifier) Defined)
      → tree.definitions_weight w (map plain.definition (xs ++ x ∷ [])) ≡ tree.definitions_weight w (map plain.definition xs) + definition_weight x
  unfolding tree.definitions_weight
  push_definitions [] x = omega arith
  push_definitions (y ∷ ys) x = omega (arith, push_definitions ys x)

  definitions_f : {ts rest : List Token} {x : List (Labeled (List Identifier) Defined)} → m.IsDefinitions ts x rest
      → Fits w (tree.definitions_weight w (map plain.definition x)) ts rest
  unfolding tokens_weight tree.definitions_weight
  definitions_f m.no_definitions = record { fits = omega arith }
  definitions_f (m.definitions {all = all} {ns = ns} {x = x} d f h) =
      record { fits = omega (arith, push_definitions all (labeled ns x), (definitions_f d).fits, (body.names_f w f).fits, (defined_f h).fits) }

  -- ---- lists of names

  open_f : {ts rest : List Token} {x : List Identifier} → m.IsOpen ts x rest → Fits w (tree.each_name w x) ts rest
  unfolding tokens_weight tree.each_name
  open_f m.no_open = record { fits = omega arith }
  open_f (m.opened d) = record { fits = omega (arith, (body.names_f w d).fits) }

  listed_f : {word : Word} {ts rest : List Token} {x : List Identifier} → m.IsListed word ts x rest → Fits w (tree.each_name w x) ts rest
  unfolding tokens_weight tree.each_name
  listed_f m.unlisted = record { fits = omega arith }
  listed_f (m.listed d) = record { fits = omega (arith, (body.names_f w d).fits) }

  using_f : {ts rest : List Token} {x : Option (List Identifier)} → m.IsUsing ts x rest → Fits w (tree.using_weight w x) ts rest
  unfolding tokens_weight tree.each_name
  using_f m.no_using = record { fits = omega arith }
  using_f m.using_none = record { fits = omega arith }
  using_f (m.using d) = record { fits = omega (arith, (body.names_f w d).fits) }

  abbrev item_weight : DirectoryItem → ℕ
  item_weight d = w.of_name d.name.name + tree.using_weight w d.used

  item_f : {ts rest : List Token} {x : DirectoryItem} → m.IsItem ts x rest → Fits w (item_weight x) ts rest
  unfolding tokens_weight
  item_f (m.item d) = record { fits = omega (arith, (using_f d).fits) }

  push_items : (xs : List DirectoryItem) (x : DirectoryItem) → tree.directory_weight w (xs ++ x ∷ []) ≡ tree.directory_weight w xs + item_weight x
  unfolding tree.directory_weight
  push_items [] x = omega arith
  push_items (y ∷ ys) x = omega (arith, push_items ys x)

  items_f : {ts rest : List Token} {x : List DirectoryItem} → m.IsItems ts x rest → Fits w (tree.directory_weight w x) ts rest
  unfolding tokens_weight tree.directory_weight
  items_f (m.an_item d) = record { fits = omega (arith, (item_f d).fits) }
  items_f (m.items {all = all} {x = x} d f) = record { fits = omega (arith, push_items all x, (items_f d).fits, (item_f f).fits) }

  directory_f : {ts rest : List Token} {x : List DirectoryItem} → m.IsDirectory ts x rest → Fits w (tree.directory_weight w x) ts rest
  unfolding tokens_weight tree.directory_weight
  directory_f m.no_directory = record { fits = omega arith }
  directory_f (m.directory d) = record { fits = omega (arith, (items_f d).fits) }

  -- ---- modules

  kind_f : {ts rest : List Token} {x : ModuleKind} → m.IsKind ts x rest → Fits w (tree.kind_weight w (plain.kind x)) ts rest
  unfolding tokens_weight tree.kind_weight
  kind_f (m.program d f h i) = record { fits = omega (arith, (listed_f d).fits, (listed_f f).fits, (open_f h).fits, (inner_f i).fits) }
  kind_f (m.interface d f) = record { fits = omega (arith, (open_f d).fits, (definitions_f f).fits) }

  pub module_f : {ts rest : List Token} {x : Module} → m.IsModule ts x rest → Fits w (tree.module_weight w (plain.syntax x)) ts rest
  unfolding tokens_weight tree.module_weight
  module_f (m.a_module d f) = record { fits = omega (arith, (directory_f d).fits, (kind_f f).fits) }
