-- Where the checking of a module begins: what the names of its DIRECTORY mean, the opened ones and the predeclared ones.
use Rattle.std.proofs.Common.{◌≡◌, ℕ, zero, suc, ◌+◌, List, [], ◌∷◌, ◌++◌, length, refl, sym, subst, arith}
use Rattle.std.specs.Prelude.{◌≤◌, Bool, true, false, Option, Some, None, bytes_eq, map, slice_get, if◌then◌else◌}
use Rattle.mesa_base.specs.declared.identifier.Identifier.{Identifier}
use Rattle.mesa_types.specs.declared.faces.ItemKind.{ItemKind}
use Rattle.mesa_types.specs.declared.faces.ItemKind.TheVariants as item
use Rattle.syntax_trees.specs.declared.syntax.DirectoryItem.{DirectoryItem}
use Rattle.syntax_trees.specs.Syntax as s
use Rattle.mesa_types.specs.Links.{imported}
use Rattle.check_rules.specs.Typed as t
use Rattle.interface_records.specs.PlainTypes as v
use Rattle.interface_records.specs.PlainTypes.{PlainType, PlainField, PlainItem, PlainConstant, PlainName, PlainInterface, kind_of, item_of}
use Rattle.check_rules.specs.Scopes.{Scope, has}
use Rattle.check_rules.specs.Meanings as m
use Rattle.check_rules.specs.Meanings.{Meaning}
use Rattle.check_rules.specs.Parts.{names_of}
use Rattle.check_rules.specs.Programs.{also, one_ahead, ahead}
use Rattle.check_rules.specs.Directory.{Entry, first_entry, elements_from, is_own, elements_in, in_parts, in_fields, in_items, in_constants, in_types, linked, of_import, items_from, constant_entry, type_entry, entries, restricted, place_in, offered, names_in, directory_scope, scope_at, opened, predeclared}
use Rattle.check_rules.specs.Interfaces.{ConstantFits}
use Rattle.check_rules.proofs.SoundTypes.{TypeIn, PartsIn, FieldsIn, none_is_no}
use Rattle.typing_laws.proofs.SoundSteps.{World, ItemIn, SignalKind, MeaningIn, ScopeIn}
use Rattle.typing_laws.proofs.SoundScopes.{no_names, over_in}
use Rattle.typing_laws.proofs.SoundConstants.{word_fits}

-- ---- interfaces that are in order: types keep their limits, no error gives anything, and constants are words
pub record ItemGood (i : PlainItem) : Type 0 where
  pub head : ItemIn i
  pub error : i.kind ≡ item.Error → i.gives ≡ []

unfoldable pub ItemsGood : List PlainItem → Type 0
ItemsGood [] = Unit {0}
ItemsGood (i ∷ is) = ItemGood i × ItemsGood is

unfoldable pub ConstantsGood : List PlainConstant → Type 0
ConstantsGood [] = Unit {0}
ConstantsGood (c ∷ cs) = (ConstantFits (kind_of c.kind) c.value × TypeIn c.kind) × ConstantsGood cs

unfoldable pub TypesGood : List PlainName → Type 0
TypesGood [] = Unit {0}
TypesGood (x ∷ xs) = TypeIn x.kind × TypesGood xs

pub record InterfaceGood (i : PlainInterface) : Type 0 where
  pub items : ItemsGood i.items
  pub constants : ConstantsGood i.constants
  pub types : TypesGood i.types

unfoldable pub InterfacesGood : List PlainInterface → Type 0
InterfacesGood [] = Unit {0}
InterfacesGood (i ∷ is) = InterfaceGood i × InterfacesGood is

module _ (W : World) where
  unfoldable pub EntriesIn : List Entry → Type 0
  EntriesIn [] = Unit {0}
  EntriesIn (e ∷ es) = MeaningIn W true e.meaning × EntriesIn es

  both_entries : (xs ys : List Entry) → EntriesIn xs → EntriesIn ys → EntriesIn (xs ++ ys)
  unfolding EntriesIn
  both_entries [] ys h k = k
  both_entries (x ∷ xs) ys h k = (h.0, both_entries xs ys h.1 k)

  same_meaning : (a b : Meaning) → Some a ≡ Some b → a ≡ b
  same_meaning a b e = cc

  pub first_in : (es : List Entry) → EntriesIn es → ScopeIn W true (first_entry es)
  unfolding EntriesIn first_entry ScopeIn
  first_in [] h x a e = none_is_no a e
  first_in (y ∷ es) h x a e = by (bytes_eq x y.name) e (first_in es h.1 x a)
    where
      by : (b : Bool) → (if b then Some y.meaning else first_entry es x) ≡ Some a → (first_entry es x ≡ Some a → MeaningIn W true a) → MeaningIn W true a
      by true d more = subst (MeaningIn W true) (same_meaning y.meaning a d) h.0
      by false d more = more d

  -- ---- elements of enumerations
  elements_good : (k : PlainType) (n : ℕ) (xs : List (List ℕ)) → n + length xs ≤ 65536 → kind_of k ≡ t.Ordinal → TypeIn k → EntriesIn (elements_from k n xs)
  unfolding EntriesIn elements_from MeaningIn
  elements_good k n [] h e i = tt
  elements_good k n (x ∷ xs) h e i = ((word_fits (kind_of k) n e (omega (arith, h)), i), elements_good k (n + 1) xs (omega (arith, h)) e i)

  mutual
    unfolding EntriesIn elements_in TypeIn kind_of

    type_elements : (face : PlainInterface) (k : PlainType) → TypeIn k → EntriesIn (elements_in face k)
    type_elements face v.Integer h = tt
    type_elements face v.Cardinal h = tt
    type_elements face v.LongInteger h = tt
    type_elements face v.LongCardinal h = tt
    type_elements face v.Boolean h = tt
    type_elements face v.Character h = tt
    type_elements face v.String h = tt
    type_elements face (v.Enumeration o xs) h = by (is_own face o)
      where
        by : (b : Bool) → EntriesIn (if b then elements_from (v.Enumeration o xs) 0 xs else [])
        by true = elements_good (v.Enumeration o xs) 0 xs (omega (arith, h.1)) refl h
        by false = tt
    type_elements face (v.Subrange k m n) h = type_elements face k h.0
    type_elements face (v.Array i e) h = both_entries (elements_in face i) (elements_in face e) (type_elements face i h.0) (type_elements face e h.1)
    type_elements face (v.Record o ps) h = parts_elements face ps h.0

    parts_elements : (face : PlainInterface) (ps : v.Parts) → PartsIn ps → EntriesIn (in_parts face ps)
    parts_elements face v.NoPart h = tt
    parts_elements face (v.AndPart x k ps) h = both_entries (elements_in face k) (in_parts face ps) (type_elements face k h.0) (parts_elements face ps h.1)

  fields_elements : (face : PlainInterface) (fs : List PlainField) → FieldsIn fs → EntriesIn (in_fields face fs)
  unfolding EntriesIn in_fields FieldsIn
  fields_elements face [] h = tt
  fields_elements face (f ∷ fs) h = both_entries (elements_in face f.kind) (in_fields face fs) (type_elements face f.kind h.0) (fields_elements face fs h.1)

  items_elements : (face : PlainInterface) (is : List PlainItem) → ItemsGood is → EntriesIn (in_items face is)
  unfolding EntriesIn in_items ItemsGood
  items_elements face [] h = tt
  items_elements face (i ∷ is) h = both_entries (in_fields face i.takes) (in_fields face i.gives ++ in_items face is)
      (fields_elements face i.takes ((h.0).head).takes) (both_entries (in_fields face i.gives) (in_items face is)
      (fields_elements face i.gives ((h.0).head).gives) (items_elements face is h.1))

  constants_elements : (face : PlainInterface) (cs : List PlainConstant) → ConstantsGood cs → EntriesIn (in_constants face cs)
  unfolding EntriesIn in_constants ConstantsGood
  constants_elements face [] h = tt
  constants_elements face (c ∷ cs) h = both_entries (elements_in face c.kind) (in_constants face cs) (type_elements face c.kind h.0.1) (constants_elements face cs h.1)

  types_elements : (face : PlainInterface) (xs : List PlainName) → TypesGood xs → EntriesIn (in_types face xs)
  unfolding EntriesIn in_types TypesGood
  types_elements face [] h = tt
  types_elements face (x ∷ xs) h = both_entries (elements_in face x.kind) (in_types face xs) (type_elements face x.kind h.0) (types_elements face xs h.1)

  -- ---- the interface's own names
  constants_named : (cs : List PlainConstant) → ConstantsGood cs → EntriesIn (map constant_entry cs)
  unfolding EntriesIn ConstantsGood MeaningIn
  constants_named [] h = tt
  constants_named (c ∷ cs) h = (h.0, constants_named cs h.1)

  types_named : (xs : List PlainName) → TypesGood xs → EntriesIn (map type_entry xs)
  unfolding EntriesIn TypesGood MeaningIn
  types_named [] h = tt
  types_named (x ∷ xs) h = (h.0, types_named xs h.1)

  -- where the interface is the import of this number
  abbrev pub IsImport : Option ℕ → List PlainItem → Type 0
  IsImport import is = (k n : ℕ) (i : PlainItem) → import ≡ Some k → slice_get is n ≡ Some i → imported W.imports k n ≡ Some (item_of i)

  linked_in : (kind : ItemKind) (k n : ℕ) (i : PlainItem) → i.kind ≡ kind → ItemIn i → imported W.imports k n ≡ Some (item_of i)
      → MeaningIn W true (linked kind k n i)
  unfolding MeaningIn SignalKind
  linked_in item.Procedure k n i e h d = (h, e, d)
  linked_in item.Signal k n i e h d = (h, subst SignalKind (sym e) tt, d)
  linked_in item.Error k n i e h d = (h, subst SignalKind (sym e) tt, d)

  import_in : (import : Option ℕ) (n : ℕ) (i : PlainItem) → ItemIn i → ((k : ℕ) → import ≡ Some k → imported W.imports k n ≡ Some (item_of i))
      → MeaningIn W true (of_import import n i)
  unfolding MeaningIn
  import_in None n i h d = tt
  import_in (Some k) n i h d = linked_in i.kind k n i refl h (d k refl)

  items_named : (import : Option ℕ) (all : List PlainItem) (n : ℕ) (is : List PlainItem) → ((j : ℕ) (i : PlainItem) → slice_get is j ≡ Some i
      → slice_get all (n + j) ≡ Some i) → IsImport import all → ItemsGood is
      → EntriesIn (items_from import n is)
  unfolding EntriesIn items_from ItemsGood
  items_named import all n [] at d h = tt
  items_named import all n (i ∷ is) at d h =
      let here : n + 0 ≡ n = omega arith in (
        import_in import n i (h.0).head (λ k e. d k n i e (subst (λ j. slice_get all j ≡ Some i) here (at 0 i refl))),
        items_named import all (n + 1) is (λ j x e. let number : n + suc j ≡ n + 1 + j = omega arith in
            subst (λ j. slice_get all j ≡ Some x) number (at (suc j) x e)) d h.1,
      )

  pub entries_in : (import : Option ℕ) (i : PlainInterface) → InterfaceGood i → IsImport import i.items → EntriesIn (entries import i)
  unfolding entries
  entries_in import i h d =
      both_entries (items_from import 0 i.items) _ (items_named import i.items 0 i.items (λ j x e. let number : j ≡ 0 + j = omega arith in
      subst (λ j. slice_get i.items j ≡ Some x) number e) d h.items)
      (both_entries (map constant_entry i.constants) _ (constants_named i.constants h.constants)
      (both_entries (map type_entry i.types) _ (types_named i.types h.types)
      (both_entries (in_items i i.items) _ (items_elements i i.items h.items)
      (both_entries (in_constants i i.constants) (in_types i i.types) (constants_elements i i.constants h.constants) (types_elements i i.types h.types)))))

  -- ---- scopes
  restricted_in : (used : Option (List Identifier)) (scope : Scope Meaning) → ScopeIn W true scope → ScopeIn W true (restricted used scope)
  unfolding ScopeIn
  restricted_in None scope h x a e = h x a e
  restricted_in (Some xs) scope h x a e = by (has x (names_of xs)) e
    where
      by : (b : Bool) → (if b then scope x else None) ≡ Some a → MeaningIn W true a
      by true d = h x a d
      by false d = none_is_no a d

  pub directory_in : (n : ℕ) (ds : List DirectoryItem) → ScopeIn W true (directory_scope n ds)
  unfolding ScopeIn directory_scope MeaningIn
  directory_in n [] x a e = none_is_no a e
  directory_in n (d ∷ ds) x a e = by (bytes_eq x d.name.name) e (directory_in (n + 1) ds x a)
    where
      by : (b : Bool) → (if b then Some (m.Interface n) else directory_scope (n + 1) ds x) ≡ Some a
          → (directory_scope (n + 1) ds x ≡ Some a → MeaningIn W true a) → MeaningIn W true a
      by true c more = subst (MeaningIn W true) (same_meaning (m.Interface n) a c) tt
      by false c more = more c

  abbrev pub AllScopesIn : List (Scope Meaning) → Type 0
  AllScopesIn scopes = (n : ℕ) (scope : Scope Meaning) → slice_get scopes n ≡ Some scope → ScopeIn W true scope

  scope_at_in : (scopes : List (Scope Meaning)) (o : Option ℕ) → AllScopesIn scopes → ScopeIn W true (scope_at scopes o)
  scope_at_in scopes None h = no_names W true
  scope_at_in scopes (Some n) h = by (slice_get scopes n) refl
    where
      by : (o : Option (Scope Meaning)) → slice_get scopes n ≡ o → ScopeIn W true (scope_at scopes (Some n))
      by None e = rw e (no_names W true)
      by (Some scope) e = rw e (h n scope e)

  pub opened_in : (ds : List DirectoryItem) (scopes : List (Scope Meaning)) (xs : List Identifier) → AllScopesIn scopes → ScopeIn W true (opened ds scopes xs)
  unfolding opened
  opened_in ds scopes [] h = no_names W true
  opened_in ds scopes (x ∷ xs) h = over_in W true (scope_at scopes (place_in 0 (names_in ds) x.name)) (opened ds scopes xs)
      (scope_at_in scopes (place_in 0 (names_in ds) x.name) h) (opened_in ds scopes xs h)

  pub predeclared_in : ScopeIn W true predeclared
  unfolding EntriesIn MeaningIn
  predeclared_in = first_in _ (record { kind = refl; takes = refl; gives = refl }, (record { kind = refl; takes = refl; gives = refl }, tt))

  also_in : (a : Meaning) (xs : List Identifier) (scope : Scope Meaning) → MeaningIn W true a → ScopeIn W true scope → ScopeIn W true (also a xs scope)
  unfolding ScopeIn
  also_in a xs scope h i x b e = by (has x (names_of xs)) e
    where
      by : (c : Bool) → (if c then Some a else scope x) ≡ Some b → MeaningIn W true b
      by true d = subst (MeaningIn W true) (same_meaning a b d) h
      by false d = i x b d

  one_in : (xs : List Identifier) (e : s.Declared) (scope : Scope Meaning) → ScopeIn W true scope → ScopeIn W true (one_ahead xs e scope)
  unfolding MeaningIn
  one_in xs (s.Data e) scope h = also_in m.Later _ scope tt h
  one_in xs (s.Procedure h b) scope i = also_in m.Headless xs scope tt i
  one_in xs (s.Signal h) scope i = also_in m.Headless xs scope tt i
  one_in xs (s.Error takes) scope i = also_in m.Headless xs scope tt i

  pub ahead_in : (ds : List s.Declaration) → ScopeIn W true (ahead ds)
  unfolding ahead
  ahead_in [] = no_names W true
  ahead_in (d ∷ ds) = one_in d.names d.declared (ahead ds) (ahead_in ds)

  -- what each item of the DIRECTORY offers, where those that are imported have the numbers of their imports
  pub offered_in : (imports : List Identifier) (ds : List DirectoryItem) (is : List PlainInterface) → InterfacesGood is
      → ((j : ℕ) (d : DirectoryItem) (f : PlainInterface) → slice_get ds j ≡ Some d → slice_get is j ≡ Some f → IsImport (place_in 0 imports d.name.name) f.items)
      → AllScopesIn (offered imports ds is)
  unfolding offered InterfacesGood
  offered_in imports [] is h at n scope e = none_is_no scope e
  offered_in imports (d ∷ ds) [] h at n scope e = none_is_no scope e
  offered_in imports (d ∷ ds) (i ∷ is) h at zero scope e =
      subst (ScopeIn W true) (same_scope (restricted d.used (first_entry (entries (place_in 0 imports d.name.name) i))) scope e)
      (restricted_in d.used (first_entry (entries (place_in 0 imports d.name.name) i)) (first_in (entries (place_in 0 imports d.name.name) i)
      (entries_in (place_in 0 imports d.name.name) i h.0 (at 0 d i refl refl))))
    where
      same_scope : (a b : Scope Meaning) → Some a ≡ Some b → a ≡ b
      same_scope a b e = cc
  offered_in imports (d ∷ ds) (i ∷ is) h at (suc n) scope e = offered_in imports ds is h.1 (λ j. at (suc j)) n scope e
