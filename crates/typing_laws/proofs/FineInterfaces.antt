-- An interface keeps a law on types where those of the interfaces given do.
use Rattle.std.specs.Prelude.{ℕ, zero, suc, ◌+◌, ◌≤◌, ◌<◌, Bool, true, false, Option, Some, None, Ok, List, [], ◌∷◌, ◌++◌, length, map, bytes_eq, IfOk, slice_get, if◌then◌else◌}
use Rattle.std.specs.List.{All}
use Rattle.std.proofs.Common.{refl, sym, subst, arith}
use Rattle.mesa_base.specs.declared.place.Place.{Place}
use Rattle.mesa_base.specs.declared.identifier.Identifier.{Identifier}
use Rattle.syntax_trees.specs.Syntax as s
use Rattle.mesa_types.specs.declared.faces.ItemKind.{ItemKind}
use Rattle.mesa_types.specs.declared.faces.ItemKind.TheVariants as item
use Rattle.syntax_trees.specs.declared.syntax.DirectoryItem.{DirectoryItem}
use Rattle.interface_records.specs.declared.interface.Interface.{Interface}
use Rattle.interface_records.specs.PlainTypes as v
use Rattle.interface_records.specs.PlainTypes.{PlainType, PlainField, PlainItem, PlainConstant, PlainName, PlainInterface, fields_of_parts, interface_of, plain_interface}
use Rattle.check_rules.specs.Scopes.{Scope, over, has}
use Rattle.check_rules.specs.Meanings as m
use Rattle.check_rules.specs.Meanings.{Meaning}
use Rattle.check_rules.specs.Steps.{State}
use Rattle.check_rules.specs.Around.{Known, body_of}
use Rattle.check_rules.specs.Parts.{names_of}
use Rattle.check_rules.specs.Directory.{Entry, first_entry, elements_from, is_own, elements_in, in_parts, in_fields, in_items, in_constants, in_types, linked, of_import, items_from, constant_entry, type_entry, entries, restricted, offered, place_in, names_in, directory_scope, scope_at, opened, predeclared}
use Rattle.check_rules.specs.Programs.{outermost, also, elements_of}
use Rattle.check_rules.specs.Definitions as d
use Rattle.check_rules.specs.CheckedModule.{checked_definitions, interface_by, definitions, known_of, start, defined_as, lists}
use Rattle.check_rules.specs.TreeNames.{DefinitionNamed, KindNamed}
use Rattle.check_rules.specs.TypeRules.{origin}
use Rattle.check_rules.specs.Written.{DefinitionWritten, ModuleWritten}
use Rattle.typing_laws.proofs.RoundTrip.{interface_again}
use Rattle.typing_laws.proofs.Keeping.{OfSome}
use Rattle.typing_laws.proofs.TypeLaws.{TypeLaw, FieldsHave, Text, less_text}
use Rattle.typing_laws.proofs.FineTypes.{ItemFine, MeaningFine, ScopeFine, ScopesFine, StateFine, AroundFine, Good, any_ok, then_fine, or_fine}
use Rattle.typing_laws.proofs.FineDefinitions.{ItemsFine, ItemsNamed, ConstantsFine, ConstantsOrdinal, TypesFine, DefinedFine, nothing_fine, all_fine}

-- of an interface that is given
pub record InterfaceFine (L : TypeLaw) (i : PlainInterface) : Type 0 where
  pub items : ItemsFine L i.items
  pub constants : ConstantsFine L i.constants
  pub types : TypesFine L i.types

unfoldable pub InterfacesFine : TypeLaw → List PlainInterface → Type 0
InterfacesFine L [] = Unit {0}
InterfacesFine L (i ∷ is) = InterfaceFine L i × InterfacesFine L is

-- of one that is made
pub record InterfaceMade (L : TypeLaw) (i : PlainInterface) : Type 0 where
  pub items : ItemsFine L i.items
  pub names : L.Named → ItemsNamed i.items
  pub constants : ConstantsFine L i.constants
  pub ordinal : ConstantsOrdinal i.constants
  pub types : TypesFine L i.types

EntriesFine : TypeLaw → List Entry → Type 0
EntriesFine L [] = Unit {0}
EntriesFine L (e ∷ es) = MeaningFine L e.meaning × EntriesFine L es

module _ (L : TypeLaw) where
  entries_more : (xs ys : List Entry) → EntriesFine L xs → EntriesFine L ys → EntriesFine L (xs ++ ys)
  unfolding EntriesFine
  entries_more [] ys h k = k
  entries_more (x ∷ xs) ys h k = (h.0, entries_more xs ys h.1 k)

  some_if : (b : Bool) (y : Meaning) (o : Option Meaning) → MeaningFine L y → OfSome (MeaningFine L) o → OfSome (MeaningFine L) (if b then Some y else o)
  some_if true y o h k = h
  some_if false y o h k = k

  first_fine : (es : List Entry) → EntriesFine L es → ScopeFine L (first_entry es)
  unfolding EntriesFine ScopeFine first_entry
  first_fine [] h = λ x. tt
  first_fine (e ∷ es) h = λ x. some_if (bytes_eq x e.name) e.meaning (first_entry es x) h.0 (first_fine es h.1 x)

  elements_from_fine : (k : PlainType) → L.Kept k → (many : ℕ) → ((n : ℕ) → n < many → L.Worth k n) → (n : ℕ) (xs : List (List ℕ)) → n + length xs ≤ many
      → EntriesFine L (elements_from k n xs)
  unfolding EntriesFine elements_from MeaningFine
  elements_from_fine k h many w n [] e = tt
  elements_from_fine k h many w n (x ∷ xs) e = ((h, w n (omega (arith, e))), elements_from_fine k h many w (n + 1) xs (omega (arith, e)))

  entries_if : (b : Bool) (es : List Entry) → EntriesFine L es → EntriesFine L (if b then es else [])
  unfolding EntriesFine
  entries_if true es h = h
  entries_if false es h = tt

  mutual
    unfolding elements_in EntriesFine FieldsHave fields_of_parts

    elements_in_fine : (face : PlainInterface) (k : PlainType) → L.Kept k → EntriesFine L (elements_in face k)
    elements_in_fine face v.Integer h = tt
    elements_in_fine face v.Cardinal h = tt
    elements_in_fine face v.LongInteger h = tt
    elements_in_fine face v.LongCardinal h = tt
    elements_in_fine face v.Boolean h = tt
    elements_in_fine face v.Character h = tt
    elements_in_fine face v.String h = tt
    elements_in_fine face (v.Enumeration o xs) h =
        entries_if (is_own face o) (elements_from (v.Enumeration o xs) 0 xs) (elements_from_fine (v.Enumeration o xs) h (length xs)
        (λ n l. L.enumerated o xs n h l) 0 xs (omega arith))
    elements_in_fine face (v.Subrange k x y) h = elements_in_fine face k (L.base k x y h)
    elements_in_fine face (v.Array i e) h =
        entries_more (elements_in face i) (elements_in face e) (elements_in_fine face i (L.index i e h)) (elements_in_fine face e (L.element i e h))
    elements_in_fine face (v.Record o ps) h = in_parts_fine face ps (L.parts o ps h)

    in_parts_fine : (face : PlainInterface) (ps : v.Parts) → FieldsHave L.Kept (fields_of_parts ps) → EntriesFine L (in_parts face ps)
    in_parts_fine face v.NoPart h = tt
    in_parts_fine face (v.AndPart x k ps) h = entries_more (elements_in face k) (in_parts face ps) (elements_in_fine face k h.0) (in_parts_fine face ps h.1)

  in_fields_fine : (face : PlainInterface) (fs : List PlainField) → FieldsHave L.Kept fs → EntriesFine L (in_fields face fs)
  unfolding FieldsHave in_fields EntriesFine
  in_fields_fine face [] h = tt
  in_fields_fine face (f ∷ fs) h = entries_more (elements_in face f.kind) (in_fields face fs) (elements_in_fine face f.kind h.0) (in_fields_fine face fs h.1)

  in_items_fine : (face : PlainInterface) (is : List PlainItem) → ItemsFine L is → EntriesFine L (in_items face is)
  unfolding ItemsFine ItemFine in_items EntriesFine
  in_items_fine face [] h = tt
  in_items_fine face (i ∷ is) h = entries_more (in_fields face i.takes) (in_fields face i.gives ++ in_items face is) (in_fields_fine face i.takes h.0.0)
      (entries_more (in_fields face i.gives) (in_items face is) (in_fields_fine face i.gives h.0.1) (in_items_fine face is h.1))

  in_constants_fine : (face : PlainInterface) (cs : List PlainConstant) → ConstantsFine L cs → EntriesFine L (in_constants face cs)
  unfolding ConstantsFine in_constants EntriesFine
  in_constants_fine face [] h = tt
  in_constants_fine face (c ∷ cs) h = entries_more (elements_in face c.kind) (in_constants face cs) (elements_in_fine face c.kind h.0)
      (in_constants_fine face cs h.2)

  in_types_fine : (face : PlainInterface) (xs : List PlainName) → TypesFine L xs → EntriesFine L (in_types face xs)
  unfolding TypesFine in_types EntriesFine
  in_types_fine face [] h = tt
  in_types_fine face (x ∷ xs) h = entries_more (elements_in face x.kind) (in_types face xs) (elements_in_fine face x.kind h.0) (in_types_fine face xs h.1)

  of_import_fine : (o : Option ℕ) (n : ℕ) (i : PlainItem) → ItemFine L i → MeaningFine L (of_import o n i)
  unfolding MeaningFine
  of_import_fine None n i h = tt
  of_import_fine (Some k) n i h = of_kind i.kind
    where
      of_kind : (kind : ItemKind) → MeaningFine L (linked kind k n i)
      of_kind item.Procedure = h
      of_kind item.Signal = h
      of_kind item.Error = h

  items_from_fine : (o : Option ℕ) (n : ℕ) (is : List PlainItem) → ItemsFine L is → EntriesFine L (items_from o n is)
  unfolding ItemsFine items_from EntriesFine ItemFine
  items_from_fine o n [] h = tt
  items_from_fine o n (i ∷ is) h = (of_import_fine o n i h.0, items_from_fine o (n + 1) is h.1)

  constant_entries : (cs : List PlainConstant) → ConstantsFine L cs → EntriesFine L (map constant_entry cs)
  unfolding ConstantsFine EntriesFine MeaningFine
  constant_entries [] h = tt
  constant_entries (c ∷ cs) h = ((h.0, h.1), constant_entries cs h.2)

  type_entries : (xs : List PlainName) → TypesFine L xs → EntriesFine L (map type_entry xs)
  unfolding TypesFine EntriesFine MeaningFine
  type_entries [] h = tt
  type_entries (x ∷ xs) h = (h.0, type_entries xs h.1)

  entries_fine : (o : Option ℕ) (i : PlainInterface) → InterfaceFine L i → EntriesFine L (entries o i)
  unfolding entries
  entries_fine o i h = entries_more _ _ (items_from_fine o 0 i.items h.items)
      (entries_more _ _ (constant_entries i.constants h.constants) (entries_more _ _ (type_entries i.types h.types)
      (entries_more _ _ (in_items_fine i i.items h.items) (entries_more _ _ (in_constants_fine i i.constants h.constants) (in_types_fine i i.types h.types)))))

  restricted_fine : (xs : Option (List Identifier)) (scope : Scope Meaning) → ScopeFine L scope → ScopeFine L (restricted xs scope)
  unfolding ScopeFine
  restricted_fine None scope h x = h x
  restricted_fine (Some xs) scope h x = by_test (has x (names_of xs)) (scope x) (h x)
    where
      by_test : (b : Bool) (o : Option Meaning) → OfSome (MeaningFine L) o → OfSome (MeaningFine L) (if b then o else None)
      by_test true o k = k
      by_test false o k = tt

  offered_fine : (imports : List Identifier) (ds : List DirectoryItem) (is : List PlainInterface) → InterfacesFine L is → (n : ℕ)
      → OfSome (ScopeFine L) (slice_get (offered imports ds is) n)
  unfolding offered InterfacesFine
  offered_fine imports [] [] h n = tt
  offered_fine imports [] (i ∷ is) h n = tt
  offered_fine imports (d ∷ ds) [] h n = tt
  offered_fine imports (d ∷ ds) (i ∷ is) h zero =
      restricted_fine d.used (first_entry (entries (place_in 0 imports d.name.name) i))
      (first_fine (entries (place_in 0 imports d.name.name) i) (entries_fine (place_in 0 imports d.name.name) i h.0))
  offered_fine imports (d ∷ ds) (i ∷ is) h (suc n) = offered_fine imports ds is h.1 n

  scope_at_fine : (ss : List (Scope Meaning)) → ((n : ℕ) → OfSome (ScopeFine L) (slice_get ss n)) → (o : Option ℕ) → ScopeFine L (scope_at ss o)
  scope_at_fine ss h None = (nothing_fine L)
  scope_at_fine [] h (Some n) = (nothing_fine L)
  scope_at_fine (s ∷ ss) h (Some zero) = h 0
  scope_at_fine (s ∷ ss) h (Some (suc n)) = scope_at_fine ss (λ k. h (suc k)) (Some n)

  over_fine : (a b : Scope Meaning) → ScopeFine L a → ScopeFine L b → ScopeFine L (over a b)
  unfolding ScopeFine
  over_fine a b h k x = or_fine L (a x) (b x) (h x) (k x)

  opened_fine : (ds : List DirectoryItem) (ss : List (Scope Meaning)) → ((n : ℕ) → OfSome (ScopeFine L) (slice_get ss n)) → (xs : List Identifier)
      → ScopeFine L (opened ds ss xs)
  unfolding opened
  opened_fine ds ss h [] = (nothing_fine L)
  opened_fine ds ss h (x ∷ xs) = over_fine (scope_at ss (place_in 0 (names_in ds) x.name)) (opened ds ss xs)
      (scope_at_fine ss h (place_in 0 (names_in ds) x.name)) (opened_fine ds ss h xs)

  directory_fine : (n : ℕ) (ds : List DirectoryItem) → ScopeFine L (directory_scope n ds)
  unfolding directory_scope ScopeFine MeaningFine
  directory_fine n [] = λ x. tt
  directory_fine n (d ∷ ds) = λ x. some_if (bytes_eq x d.name.name) (m.Interface n) (directory_scope (n + 1) ds x) tt (directory_fine (n + 1) ds x)

  also_fine : (y : Meaning) → MeaningFine L y → (xs : List Identifier) (scope : Scope Meaning) → ScopeFine L scope → ScopeFine L (also y xs scope)
  unfolding ScopeFine
  also_fine y h xs scope k x = some_if (has x (names_of xs)) y (scope x) h (k x)

  one_ahead_fine : (xs : List Identifier) (x : s.Defined) (scope : Scope Meaning) → ScopeFine L scope → ScopeFine L (d.one_ahead xs x scope)
  unfolding MeaningFine
  one_ahead_fine xs (s.TypeItem e) scope h = also_fine m.Later tt (xs ++ elements_of e) scope h
  one_ahead_fine xs (s.ConstantItem e x) scope h = also_fine m.Later tt (xs ++ elements_of e) scope h
  one_ahead_fine xs (s.ProcedureItem y) scope h = also_fine m.Headless tt xs scope h
  one_ahead_fine xs (s.SignalItem y) scope h = also_fine m.Headless tt xs scope h
  one_ahead_fine xs (s.ErrorItem y) scope h = also_fine m.Headless tt xs scope h

  ahead_fine : (ds : List s.Definition) → ScopeFine L (d.ahead ds)
  unfolding d.ahead
  ahead_fine [] = (nothing_fine L)
  ahead_fine (x ∷ ds) = one_ahead_fine x.names x.defined (d.ahead ds) (ahead_fine ds)

  predeclared_fine : ScopeFine L predeclared
  unfolding MeaningFine ItemFine FieldsHave EntriesFine
  predeclared_fine = first_fine _ ((tt, tt), ((tt, tt), tt))

  module _ (m : s.Module) (stamp : ℕ) (is : List PlainInterface) (h : InterfacesFine L is)
      (origins : (p : Place) → L.Made (origin (known_of m (Some stamp) false [] is) p)) where
    start_fine : (opens : List Identifier) (ds : List s.Definition) → StateFine L (start m (known_of m (Some stamp) false [] is) (d.ahead ds) opens [])
    unfolding ScopesFine
    start_fine opens ds = record {
      scopes = (
        (nothing_fine L),
        (
          ahead_fine ds,
          (
            directory_fine 0 m.directory,
            (
              opened_fine m.directory (offered [] m.directory is) (offered_fine [] m.directory is h) opens,
              (predeclared_fine, tt),
            ),
          ),
        ),
      );
      coming = (nothing_fine L);
    }

    around_fine : AroundFine L (outermost (body_of (known_of m (Some stamp) false [] is) [] []))
    around_fine = record { further = λ x. refl; interfaces = offered_fine [] m.directory is h; origins = origins }

    definitions_fine : (opens : List Identifier) (ds : List s.Definition) → Text L (All DefinitionWritten ds) (All DefinitionNamed ds)
        → IfOk (definitions m stamp is opens ds) (InterfaceMade L)
    definitions_fine opens ds text = then_fine Good (InterfaceMade L) (lists m is [] [] opens) _ (any_ok (lists m is [] [] opens)) (λ u w.
        let known : Known = known_of m (Some stamp) false [] is in
        let σ : State = start m known (d.ahead ds) opens [] in
        then_fine (λ (r : d.Defined × State). DefinedFine L r.0 × StateFine L r.1) (InterfaceMade L)
        (d.all_defined (outermost (body_of known [] [])) ds σ)
        (λ r. Ok (defined_as m stamp r.0))
        ((all_fine L (outermost (body_of known [] [])) around_fine ds text).in_state σ (start_fine opens ds))
        (λ r p. record {
          items = p.0.items;
          names = p.0.names;
          constants = p.0.constants;
          ordinal = p.0.ordinal;
          types = p.0.types;
        }))

    interface_fine : (k : s.ModuleKind) → Text L (ModuleWritten k) (KindNamed k) → IfOk (interface_by m stamp is k) (InterfaceMade L)
    unfolding ModuleWritten KindNamed
    interface_fine (s.Program p imports exports opens inner) text = tt
    interface_fine (s.Interface p opens ds) text = definitions_fine opens ds (less_text text (λ w. w) (λ n. n.1))

  -- what checking gives of definitions, with interfaces that keep the law
  pub checked_fine : (m : s.Module) (stamp : ℕ) (is : List Interface) → InterfacesFine L (map plain_interface is)
      → ((p : Place) → L.Made (origin (known_of m (Some stamp) false [] (map plain_interface is)) p)) → Text L (ModuleWritten m.kind) (KindNamed m.kind)
      → IfOk (checked_definitions m stamp is) (λ (i : Interface). InterfaceMade L (plain_interface i))
  unfolding checked_definitions
  checked_fine m stamp is h origins text = then_fine (InterfaceMade L) (λ (i : Interface). InterfaceMade L (plain_interface i))
      (interface_by m stamp (map plain_interface is) m.kind) (λ i. Ok (interface_of i))
      (interface_fine m stamp (map plain_interface is) h origins m.kind text) (λ i k. subst (InterfaceMade L) (sym (interface_again i)) k)
