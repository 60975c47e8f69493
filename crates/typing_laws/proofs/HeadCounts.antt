-- The heads of an interface have no more parameters and results than its text has nodes, and the names of its items, constants and
-- types are those of the text.
use Rattle.std.specs.Prelude.{ℕ, ◌≡◌, ◌+◌, ◌≤◌, false, Option, Some, None, Ok, List, [], ◌∷◌, ◌++◌, length, map, IfOk}
use Rattle.std.specs.List.{All}
use Rattle.std.proofs.Common.{arith}
use Rattle.std.proofs.lemmas.List.Elements.{All-nil, All-append, All-head, All-tail}
use Rattle.std.proofs.lemmas.List.{length-append}
use Rattle.mesa_base.specs.Name.{IsName}
use Rattle.mesa_base.specs.declared.identifier.Identifier.{Identifier}
use Rattle.syntax_trees.specs.Syntax as s
use Rattle.syntax_trees.specs.SyntaxNodes.{type_nodes, named_fields_nodes, types_nodes, field_list_nodes, maybe_fields_nodes, head_nodes, defined_nodes, definition_nodes, definitions_nodes}
use Rattle.mesa_types.specs.declared.faces.ItemKind.{ItemKind}
use Rattle.mesa_types.specs.declared.faces.ItemKind.TheVariants as item
use Rattle.interface_records.specs.PlainTypes.{PlainType, PlainField, PlainItem, PlainInterface}
use Rattle.check_rules.specs.Scopes.{nothing}
use Rattle.check_rules.specs.Meanings as meaning
use Rattle.check_rules.specs.Steps.{State, ◌>>=◌, lift, back}
use Rattle.check_rules.specs.Around.{Around, Known, in_constant, inside, body_of}
use Rattle.check_rules.specs.Parts.{each_of, first, first_name, names_of}
use Rattle.check_rules.specs.Ranges.{Into}
use Rattle.check_rules.specs.Names.{announce, settle}
use Rattle.check_rules.specs.Statements.{constant_meaning}
use Rattle.check_rules.specs.Checking.{check, type_exp, unnamed_fields}
use Rattle.check_rules.specs.Programs.{named_parameters, parameters, Heading, own_scope, heading, named_item, before_others, outermost}
use Rattle.check_rules.specs.Definitions as d
use Rattle.check_rules.specs.CheckedModule.{interface_by, definitions, known_of, start, defined_as, lists}
use Rattle.check_rules.specs.Laws.{item_names, constant_names, type_names, each_declares, definitions_of}
use Rattle.check_rules.specs.TreeNames.{AllNames, DefinitionNamed}
use Rattle.typing_laws.proofs.Outcomes.{Gives, Any, any, any_ok, bind, give, then_ok, told_ok, within, length_of_map}
use Rattle.typing_laws.proofs.SpelledTypes.{names_spelled}

-- ---- parameters and results
has_node : (e : s.TypeExp) → 1 ≤ type_nodes e
unfolding type_nodes
has_node (s.Integer p) = omega arith
has_node (s.Cardinal p) = omega arith
has_node (s.LongInteger p) = omega arith
has_node (s.LongCardinal p) = omega arith
has_node (s.Boolean p) = omega arith
has_node (s.Character p) = omega arith
has_node (s.String p) = omega arith
has_node (s.Called q) = omega arith
has_node (s.Enumeration p xs) = omega arith
has_node (s.Subrange b i) = omega arith
has_node (s.Array p i e) = omega arith
has_node (s.Record p fs) = omega arith

each_many : (k : PlainType) (xs : List Identifier) (fs : List PlainField) → length (each_of k xs ++ fs) ≡ length xs + length fs
each_many k [] fs = omega arith
each_many k (x ∷ xs) fs = omega (arith, each_many k xs fs)

abbrev Few : ℕ → List PlainField → Type 0
Few n fs = length fs ≤ n

named_few : (a : Around) (fs : s.NamedFields) → Gives (Few (named_fields_nodes fs)) (named_parameters a fs)
unfolding named_parameters named_fields_nodes
named_few a s.NoFields = give (omega arith)
named_few a (s.AndFields xs e rest) = bind Any (announce xs) (any (announce xs)) (λ u w. bind Any (type_exp a e) (any (type_exp a e)) (λ k w.
    bind (Few (named_fields_nodes rest)) (named_parameters a rest) (named_few a rest) (λ fs h. give (omega (arith, h, each_many k xs fs)))))

unnamed_few : (a : Around) (es : s.TypeExps) → Gives (Few (types_nodes es)) (unnamed_fields a es)
unfolding unnamed_fields types_nodes
unnamed_few a s.NoTypes = give (omega arith)
unnamed_few a (s.AndType e es) = bind Any (type_exp a e) (any (type_exp a e)) (λ k w.
    bind (Few (types_nodes es)) (unnamed_fields a es) (unnamed_few a es) (λ fs h. give (omega (arith, h, has_node e))))

parameters_few : (a : Around) (fs : Option s.FieldList) → Gives (Few (maybe_fields_nodes fs)) (parameters a fs)
unfolding maybe_fields_nodes field_list_nodes
parameters_few a None = give (omega arith)
parameters_few a (Some (s.WithNames fs)) = named_few a fs
parameters_few a (Some (s.Unnamed es)) = unnamed_few a es

record HeadingFew (n : ℕ) (h : Heading) : Type 0 where
  takes : length h.takes ≤ n
  gives : length h.gives ≤ n

heading_few : (a : Around) (takes gives : Option s.FieldList) (n : ℕ) → maybe_fields_nodes takes ≤ n → maybe_fields_nodes gives ≤ n
    → Gives (HeadingFew n) (heading a takes gives)
unfolding heading
heading_few a takes gives n i j = record {
  in_state = λ σ.
      let τ : State = record σ { scopes = nothing ∷ σ.scopes; coming = nothing } in
      then_ok (λ (r : Heading × State). HeadingFew n r.0) (λ (r : Heading × State). HeadingFew n r.0) _ (back σ) (
      then_ok (λ (r : List PlainField × State). Few (maybe_fields_nodes takes) r.0) (λ (r : Heading × State). HeadingFew n r.0)
      (parameters (inside a) takes τ) _ ((parameters_few (inside a) takes).in_state τ) (λ f p.
      then_ok (λ (r : List PlainField × State). Few (maybe_fields_nodes gives) r.0) (λ (r : Heading × State). HeadingFew n r.0)
      (parameters (inside a) gives f.1)
      (λ g. Ok (record { takes = f.0; gives = g.0; scope = own_scope f.0 g.0 g.1.coming }, g.1))
      ((parameters_few (inside a) gives).in_state f.1) (λ g q. record { takes = omega (arith, p, i); gives = omega (arith, q, j) }))) (λ r h. h);
}

-- ---- items
unfoldable pub ItemsFew : ℕ → List PlainItem → Type 0
ItemsFew n [] = Unit {0}
ItemsFew n (i ∷ is) = (length i.takes ≤ n) × (length i.gives ≤ n) × ItemsFew n is

items_few : (n : ℕ) (kind : ItemKind) (h : Heading) → HeadingFew n h → (xs : List Identifier) → ItemsFew n (map (named_item kind h) xs)
unfolding ItemsFew
items_few n kind h f [] = tt
items_few n kind h f (x ∷ xs) = (f.takes, f.gives, items_few n kind h f xs)

items_more : (n : ℕ) (is js : List PlainItem) → ItemsFew n is → ItemsFew n js → ItemsFew n (is ++ js)
unfolding ItemsFew
items_more n [] js h k = k
items_more n (i ∷ is) js h k = (h.0, h.1, items_more n is js h.2 k)

abbrev DefinedFew : ℕ → d.Defined → Type 0
DefinedFew n y = ItemsFew n y.items

defined_items_few : (n : ℕ) (kind : ItemKind) (xs : List Identifier) (h : Heading) → HeadingFew n h → Gives (DefinedFew n) (d.defined_items kind xs h)
defined_items_few n kind xs h f = bind Any (settle xs (map (d.item_meaning kind) (map (named_item kind h) xs)))
    (any (settle xs (map (d.item_meaning kind) (map (named_item kind h) xs)))) (λ u w. give (items_few n kind h f xs))

defined_few : (a : Around) (n : ℕ) (xs : List Identifier) (x : s.Defined) → defined_nodes x ≤ n → Gives (DefinedFew n) (d.defined a xs x)
unfolding d.defined ItemsFew defined_nodes head_nodes maybe_fields_nodes
defined_few a n xs (s.ProcedureItem h) l = bind (HeadingFew n) (heading a h.takes h.gives)
    (heading_few a h.takes h.gives n (omega (arith, l)) (omega (arith, l))) (λ y f. defined_items_few n item.Procedure xs y f)
defined_few a n xs (s.SignalItem h) l = bind (HeadingFew n) (heading a h.takes h.gives)
    (heading_few a h.takes h.gives n (omega (arith, l)) (omega (arith, l))) (λ y f. defined_items_few n item.Signal xs y f)
defined_few a n xs (s.ErrorItem takes) l = bind (HeadingFew n) (heading a takes None)
    (heading_few a takes None n (omega (arith, l)) (omega arith)) (λ y f. defined_items_few n item.Error xs y f)
defined_few a n xs (s.TypeItem e) l = bind Any (type_exp a e) (any (type_exp a e))
    (λ k u. bind Any (settle xs (map (λ x. meaning.TypeName k) xs)) (any (settle xs (map (λ x. meaning.TypeName k) xs))) (λ v w. give tt))
defined_few a n xs (s.ConstantItem e x) l =
    bind Any (type_exp a e) (any (type_exp a e))
    (λ k u. bind Any (check (in_constant (first x) a) (Into k (first x)) x) (any (check (in_constant (first x) a) (Into k (first x)) x)) (λ y v.
    bind Any (lift (constant_meaning a k x (first x) y.value)) (any (lift (constant_meaning a k x (first x) y.value)))
    (λ c i. bind Any (settle xs (map (λ x. c) xs)) (any (settle xs (map (λ x. c) xs))) (λ v w. give tt))))

definition_few : (a : Around) (n : ℕ) (x : s.Definition) (ds : List s.Definition) → defined_nodes x.defined ≤ n
    → Gives (DefinedFew n) (before_others (λ (e : s.Definition). e.names) d.definition a x ds)
definition_few a n x ds l = record {
  in_state = λ σ. told_ok (λ (r : d.Defined × State). DefinedFew n r.0) (d.definition a x σ) _
      ((within (DefinedFew n) 0 (first_name x.names) (announce x.names >>= (λ _. d.defined a x.names x.defined))
      (bind Any (announce x.names) (any (announce x.names)) (λ u w. defined_few a n x.names x.defined l))).in_state σ);
}

all_few : (a : Around) (n : ℕ) (ds : List s.Definition) → definitions_nodes ds ≤ n → Gives (DefinedFew n) (d.all_defined a ds)
unfolding d.all_defined ItemsFew definitions_nodes definition_nodes
all_few a n [] l = give tt
all_few a n (x ∷ ds) l =
    bind (DefinedFew n) (before_others (λ (e : s.Definition). e.names) d.definition a x ds) (definition_few a n x ds (omega (arith, l))) (λ y p.
    bind (DefinedFew n) (d.all_defined a ds) (all_few a n ds (omega (arith, l))) (λ z q. give (items_more n y.items z.items p q)))

module _ (m : s.Module) (stamp : ℕ) (is : List PlainInterface) where
  definitions_few : (opens : List Identifier) (ds : List s.Definition) → IfOk (definitions m stamp is opens ds)
      (λ (i : PlainInterface). ItemsFew (definitions_nodes ds) i.items)
  definitions_few opens ds = then_ok Any (λ (i : PlainInterface). ItemsFew (definitions_nodes ds) i.items) (lists m is [] [] opens) _
      (any_ok (lists m is [] [] opens)) (λ u w.
      let known : Known = known_of m (Some stamp) false [] is in
      let σ : State = start m known (d.ahead ds) opens [] in
      then_ok (λ (r : d.Defined × State). DefinedFew (definitions_nodes ds) r.0) (λ (i : PlainInterface). ItemsFew (definitions_nodes ds) i.items)
      (d.all_defined (outermost (body_of known [] [])) ds σ) (λ r. Ok (defined_as m stamp r.0))
      ((all_few (outermost (body_of known [] [])) (definitions_nodes ds) ds (omega arith)).in_state σ) (λ r p. p))

  pub interface_few : (k : s.ModuleKind) → IfOk (interface_by m stamp is k) (λ (i : PlainInterface). ItemsFew (definitions_nodes (definitions_of k)) i.items)
  interface_few (s.Program p imports exports opens inner) = tt
  interface_few (s.Interface p opens ds) = definitions_few opens ds

-- ---- names
names_many : (xs : List Identifier) → length (names_of xs) ≡ length xs
names_many xs = length_of_map (λ (x : Identifier). x.name) xs

-- what a kind of names of a declaration is: those of its list, or none
record OfList (names : List Identifier → s.Defined → List (List ℕ)) : Type 0 where
  few : (xs : List Identifier) (x : s.Defined) → length (names xs x) ≤ length xs
  spelled : (xs : List Identifier) (x : s.Defined) → AllNames xs → All IsName (names xs x)

of_items : OfList item_names
of_items = record { few = few; spelled = spelled }
  where
    few : (xs : List Identifier) (x : s.Defined) → length (item_names xs x) ≤ length xs
    few xs (s.ProcedureItem h) = omega (arith, names_many xs)
    few xs (s.SignalItem h) = omega (arith, names_many xs)
    few xs (s.ErrorItem takes) = omega (arith, names_many xs)
    few xs (s.TypeItem e) = omega arith
    few xs (s.ConstantItem e y) = omega arith

    spelled : (xs : List Identifier) (x : s.Defined) → AllNames xs → All IsName (item_names xs x)
    spelled xs (s.ProcedureItem h) k = names_spelled xs k
    spelled xs (s.SignalItem h) k = names_spelled xs k
    spelled xs (s.ErrorItem takes) k = names_spelled xs k
    spelled xs (s.TypeItem e) k = All-nil IsName
    spelled xs (s.ConstantItem e y) k = All-nil IsName

of_constants : OfList constant_names
of_constants = record { few = few; spelled = spelled }
  where
    few : (xs : List Identifier) (x : s.Defined) → length (constant_names xs x) ≤ length xs
    few xs (s.ConstantItem e y) = omega (arith, names_many xs)
    few xs (s.ProcedureItem h) = omega arith
    few xs (s.SignalItem h) = omega arith
    few xs (s.ErrorItem takes) = omega arith
    few xs (s.TypeItem e) = omega arith

    spelled : (xs : List Identifier) (x : s.Defined) → AllNames xs → All IsName (constant_names xs x)
    spelled xs (s.ConstantItem e y) k = names_spelled xs k
    spelled xs (s.ProcedureItem h) k = All-nil IsName
    spelled xs (s.SignalItem h) k = All-nil IsName
    spelled xs (s.ErrorItem takes) k = All-nil IsName
    spelled xs (s.TypeItem e) k = All-nil IsName

of_types : OfList type_names
of_types = record { few = few; spelled = spelled }
  where
    few : (xs : List Identifier) (x : s.Defined) → length (type_names xs x) ≤ length xs
    few xs (s.TypeItem e) = omega (arith, names_many xs)
    few xs (s.ProcedureItem h) = omega arith
    few xs (s.SignalItem h) = omega arith
    few xs (s.ErrorItem takes) = omega arith
    few xs (s.ConstantItem e y) = omega arith

    spelled : (xs : List Identifier) (x : s.Defined) → AllNames xs → All IsName (type_names xs x)
    spelled xs (s.TypeItem e) k = names_spelled xs k
    spelled xs (s.ProcedureItem h) k = All-nil IsName
    spelled xs (s.SignalItem h) k = All-nil IsName
    spelled xs (s.ErrorItem takes) k = All-nil IsName
    spelled xs (s.ConstantItem e y) k = All-nil IsName

module _ (names : List Identifier → s.Defined → List (List ℕ)) (l : OfList names) where
  each_few : (ds : List s.Definition) → length (each_declares names ds) ≤ definitions_nodes ds
  unfolding each_declares definitions_nodes definition_nodes
  each_few [] = omega arith
  each_few (d ∷ ds) = omega (arith, l.few d.names d.defined, each_few ds, length-append (names d.names d.defined) (each_declares names ds))

  each_spelled : (ds : List s.Definition) → All DefinitionNamed ds → All IsName (each_declares names ds)
  unfolding each_declares DefinitionNamed
  each_spelled [] h = All-nil IsName
  each_spelled (d ∷ ds) h = All-append IsName (names d.names d.defined) (each_declares names ds)
      (l.spelled d.names d.defined (All-head DefinitionNamed d ds h).0) (each_spelled ds (All-tail DefinitionNamed d ds h))

pub declared_few : (ds : List s.Definition) → (length (each_declares item_names ds) ≤ definitions_nodes ds) × (length (each_declares constant_names ds)
    ≤ definitions_nodes ds) × (length (each_declares type_names ds) ≤ definitions_nodes ds)
declared_few ds = (each_few item_names of_items ds, each_few constant_names of_constants ds, each_few type_names of_types ds)

pub declared_spelled : (ds : List s.Definition) → All DefinitionNamed ds → All IsName (each_declares item_names ds) × All IsName
    (each_declares constant_names ds) × All IsName (each_declares type_names ds)
declared_spelled ds h = (each_spelled item_names of_items ds h, each_spelled constant_names of_constants ds h, each_spelled type_names of_types ds h)
