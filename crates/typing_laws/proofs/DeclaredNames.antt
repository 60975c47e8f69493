-- An interface has the names that its text declares.
use Rattle.std.specs.Prelude.{ℕ, ◌≡◌, false, Option, Some, None, Ok, List, [], ◌∷◌, ◌++◌, map, IfOk}
use Rattle.std.proofs.Common.{refl, ap, ◌∙◌}
use Rattle.mesa_base.specs.declared.place.Place.{Place}
use Rattle.mesa_base.specs.declared.identifier.Identifier.{Identifier}
use Rattle.syntax_trees.specs.Syntax as s
use Rattle.mesa_types.specs.Constants.{constant}
use Rattle.mesa_types.specs.declared.faces.Item.{Item}
use Rattle.mesa_types.specs.declared.faces.ItemKind.{ItemKind}
use Rattle.mesa_types.specs.declared.faces.ItemKind.TheVariants as item
use Rattle.interface_records.specs.declared.interface.Constant.{Constant}
use Rattle.interface_records.specs.declared.interface.NamedType.{NamedType}
use Rattle.check_rules.specs.Typed as t
use Rattle.interface_records.specs.PlainTypes.{PlainType, PlainItem, PlainConstant, PlainName, PlainInterface, item_of, constant_of, named_of, interface_of, plain_interface, base_of}
use Rattle.check_rules.specs.Meanings as meaning
use Rattle.check_rules.specs.Meanings.{Meaning}
use Rattle.check_rules.specs.Steps.{State, ◌>>=◌, lift, or_refuse}
use Rattle.check_rules.specs.Around.{Around, Known, in_constant, body_of}
use Rattle.check_rules.specs.Parts.{names_of, first, first_name}
use Rattle.check_rules.specs.Ranges.{Into}
use Rattle.check_rules.specs.Names.{announce, settle}
use Rattle.check_rules.specs.Statements.{constant_meaning, constant_by}
use Rattle.check_rules.specs.Checking.{check, type_exp}
use Rattle.check_rules.specs.Programs.{Heading, heading, named_item, outermost, before_others}
use Rattle.check_rules.specs.Definitions as d
use Rattle.check_rules.specs.CheckedModule.{checked_definitions, interface_by, definitions, known_of, start, defined_as, lists}
use Rattle.check_rules.specs.declared.fault.Cause.TheVariants.{NotConstant}
use Rattle.check_rules.specs.Laws.{item_names, constant_names, type_names, each_declares, definitions_of, IsOfItsText, InterfacesAreOfTheirText}
use Rattle.typing_laws.proofs.Outcomes.{Gives, then_ok, any_ok, told_ok, Any, any, bind, give, lifting, weaker, within, map_append, map_twice}

-- the names of a declaration, by their lists
record HasNames (xs : List Identifier) (x : s.Defined) (y : d.Defined) : Type 0 where
  items : map (λ (i : PlainItem). i.name) y.items ≡ item_names xs x
  constants : map (λ (c : PlainConstant). c.name) y.constants ≡ constant_names xs x
  types : map (λ (z : PlainName). z.name) y.types ≡ type_names xs x

named_items : (kind : ItemKind) (h : Heading) (xs : List Identifier) → map (λ (i : PlainItem). i.name) (map (named_item kind h) xs) ≡ names_of xs
named_items kind h [] = refl
named_items kind h (x ∷ xs) = ap (λ ns. x.name ∷ ns) (named_items kind h xs)

named_types : (k : PlainType) (xs : List Identifier) → map (λ (x : PlainName). x.name) (map (d.named_type k) xs) ≡ names_of xs
named_types k [] = refl
named_types k (x ∷ xs) = ap (λ ns. x.name ∷ ns) (named_types k xs)

named_constants : (k : PlainType) (w : ℕ) (xs : List Identifier) → map (λ (c : PlainConstant). c.name) (d.constants_by xs (meaning.Constant k w)) ≡ names_of xs
named_constants k w [] = refl
named_constants k w (x ∷ xs) = ap (λ ns. x.name ∷ ns) (named_constants k w xs)

-- in an interface a constant is no text
abbrev IsConstant : Meaning → Type 0
IsConstant (meaning.Constant k n) = Unit {0}
IsConstant _ = ⊥

of_base : (o : Option PlainType) (k : PlainType) (p : Place) (e : t.Expr) → IfOk (constant_by o k false p e) IsConstant
of_base (Some base) k p e = then_ok Any IsConstant (or_refuse (constant e) NotConstant p) (λ n. Ok (meaning.Constant k n))
    (any_ok (or_refuse (constant e) NotConstant p)) (λ n u. tt)
of_base None k p e = tt

no_text : (a : Around) → a.known.is_program ≡ false → (k : PlainType) (x : s.Expr) (p : Place) (e : t.Expr) → IfOk (constant_meaning a k x p e) IsConstant
unfolding constant_meaning
no_text a f k x p e = rw f (of_base (base_of k) k p e)

defined_items_named : (kind : ItemKind) (xs : List Identifier) (h : Heading)
    → Gives (λ (y : d.Defined). (map (λ (i : PlainItem). i.name) y.items ≡ names_of xs) × (y.constants ≡ []) × (y.types ≡ [])) (d.defined_items kind xs h)
defined_items_named kind xs h = bind Any (settle xs (map (d.item_meaning kind) (map (named_item kind h) xs)))
    (any (settle xs (map (d.item_meaning kind) (map (named_item kind h) xs))))
    (λ u w. give (named_items kind h xs, refl, refl))

no_constants : (cs : List PlainConstant) → cs ≡ [] → map (λ (c : PlainConstant). c.name) cs ≡ []
no_constants cs e = ap (map (λ (c : PlainConstant). c.name)) e

no_types : (xs : List PlainName) → xs ≡ [] → map (λ (x : PlainName). x.name) xs ≡ []
no_types xs e = ap (map (λ (x : PlainName). x.name)) e

module _ (a : Around) (f : a.known.is_program ≡ false) where
  defined_named : (xs : List Identifier) (x : s.Defined) → Gives (HasNames xs x) (d.defined a xs x)
  unfolding d.defined
  defined_named xs (s.ProcedureItem h) = bind Any (heading a h.takes h.gives) (any (heading a h.takes h.gives)) (λ y u.
      weaker _ (HasNames xs (s.ProcedureItem h)) (d.defined_items item.Procedure xs y) (defined_items_named item.Procedure xs y)
      (λ z p. record { items = p.0; constants = no_constants z.constants p.1; types = no_types z.types p.2 }))
  defined_named xs (s.SignalItem h) = bind Any (heading a h.takes h.gives) (any (heading a h.takes h.gives)) (λ y u.
      weaker _ (HasNames xs (s.SignalItem h)) (d.defined_items item.Signal xs y) (defined_items_named item.Signal xs y)
      (λ z p. record { items = p.0; constants = no_constants z.constants p.1; types = no_types z.types p.2 }))
  defined_named xs (s.ErrorItem takes) = bind Any (heading a takes None) (any (heading a takes None)) (λ y u.
      weaker _ (HasNames xs (s.ErrorItem takes)) (d.defined_items item.Error xs y) (defined_items_named item.Error xs y)
      (λ z p. record { items = p.0; constants = no_constants z.constants p.1; types = no_types z.types p.2 }))
  defined_named xs (s.TypeItem e) = bind Any (type_exp a e) (any (type_exp a e)) (λ k u.
      bind Any (settle xs (map (λ x. meaning.TypeName k) xs)) (any (settle xs (map (λ x. meaning.TypeName k) xs)))
      (λ v w. give (record { items = refl; constants = refl; types = named_types k xs })))
  defined_named xs (s.ConstantItem e x) = bind Any (type_exp a e) (any (type_exp a e)) (λ k u.
      bind Any (check (in_constant (first x) a) (Into k (first x)) x) (any (check (in_constant (first x) a) (Into k (first x)) x)) (λ y v.
      bind IsConstant (lift (constant_meaning a k x (first x) y.value))
      (lifting IsConstant (constant_meaning a k x (first x) y.value) (no_text a f k x (first x) y.value)) (λ c i.
      bind Any (settle xs (map (λ x. c) xs)) (any (settle xs (map (λ x. c) xs)))
      (λ v w. give (record { items = refl; constants = of_constant c i; types = refl })))))
    where
      of_constant : (c : Meaning) → IsConstant c → map (λ (z : PlainConstant). z.name) (d.constants_by xs c) ≡ names_of xs
      of_constant (meaning.Constant k n) i = named_constants k n xs
      of_constant (meaning.Variable h k) i = absurd i
      of_constant (meaning.TextConstant n) i = absurd i
      of_constant (meaning.TypeName k) i = absurd i
      of_constant (meaning.Procedure c h) i = absurd i
      of_constant (meaning.Signal r h) i = absurd i
      of_constant (meaning.Interface n) i = absurd i
      of_constant meaning.Later i = absurd i
      of_constant meaning.Headless i = absurd i
      of_constant meaning.NotImported i = absurd i

  definition_named : (x : s.Definition) (ds : List s.Definition)
      → Gives (HasNames x.names x.defined) (before_others (λ (e : s.Definition). e.names) d.definition a x ds)
  definition_named x ds = record {
    in_state = λ σ. told_ok (λ (r : d.Defined × State). HasNames x.names x.defined r.0) (d.definition a x σ) _
        ((within (HasNames x.names x.defined) 0 (first_name x.names) (announce x.names >>= (λ _. d.defined a x.names x.defined))
        (bind Any (announce x.names) (any (announce x.names)) (λ u w. defined_named x.names x.defined))).in_state σ);
  }

map_both : {A : Type 0} (g : A → List ℕ) (xs ys : List A) (ns ms : List (List ℕ)) → map g xs ≡ ns → map g ys ≡ ms → map g (xs ++ ys) ≡ ns ++ ms
map_both g xs ys ns ms e f = map_append g xs ys ∙ (ap (λ ls. ls ++ map g ys) e ∙ ap (λ ls. ns ++ ls) f)

-- those of all declarations
record HaveNames (ds : List s.Definition) (y : d.Defined) : Type 0 where
  items : map (λ (i : PlainItem). i.name) y.items ≡ each_declares item_names ds
  constants : map (λ (c : PlainConstant). c.name) y.constants ≡ each_declares constant_names ds
  types : map (λ (z : PlainName). z.name) y.types ≡ each_declares type_names ds

all_named : (a : Around) → a.known.is_program ≡ false → (ds : List s.Definition) → Gives (HaveNames ds) (d.all_defined a ds)
unfolding d.all_defined each_declares
all_named a f [] = give (record { items = refl; constants = refl; types = refl })
all_named a f (x ∷ ds) =
    bind (HasNames x.names x.defined) (before_others (λ (e : s.Definition). e.names) d.definition a x ds) (definition_named a f x ds) (λ y p.
    bind (HaveNames ds) (d.all_defined a ds) (all_named a f ds) (λ z q. give (record {
      items = map_both (λ (i : PlainItem). i.name) y.items z.items _ _ p.items q.items;
      constants = map_both (λ (c : PlainConstant). c.name) y.constants z.constants _ _ p.constants q.constants;
      types = map_both (λ (n : PlainName). n.name) y.types z.types _ _ p.types q.types;
    })))

OfText : s.Module → ℕ → List s.Definition → PlainInterface → Type 0
OfText m stamp ds i = (i.name ≡ m.name.name) × (i.stamp ≡ stamp) × HaveNames ds (record { items = i.items; constants = i.constants; types = i.types })

module _ (m : s.Module) (stamp : ℕ) (is : List PlainInterface) where
  definitions_named : (opens : List Identifier) (ds : List s.Definition) → IfOk (definitions m stamp is opens ds) (OfText m stamp ds)
  unfolding OfText
  definitions_named opens ds = then_ok Any (OfText m stamp ds) (lists m is [] [] opens) _ (any_ok (lists m is [] [] opens)) (λ u w.
      let known : Known = known_of m (Some stamp) false [] is in
      let σ : State = start m known (d.ahead ds) opens [] in
      then_ok (λ (r : d.Defined × State). HaveNames ds r.0) (OfText m stamp ds) (d.all_defined (outermost (body_of known [] [])) ds σ)
      (λ r. Ok (defined_as m stamp r.0))
      ((all_named (outermost (body_of known [] [])) refl ds).in_state σ) (λ r p. (refl, refl, p)))

  interface_named : (k : s.ModuleKind) → IfOk (interface_by m stamp is k) (OfText m stamp (definitions_of k))
  interface_named (s.Program p imports exports opens inner) = tt
  interface_named (s.Interface p opens ds) = definitions_named opens ds

pub of_their_text : InterfacesAreOfTheirText
unfolding checked_definitions OfText
of_their_text m stamp is = then_ok (OfText m stamp (definitions_of m.kind)) (IsOfItsText m stamp) (interface_by m stamp (map plain_interface is) m.kind)
    (λ i. Ok (interface_of i))
    (interface_named m stamp (map plain_interface is) m.kind) (λ i h. record {
      name = h.0;
      stamped = h.1;
      items = map_twice item_of (λ (x : Item). x.name) (λ (x : PlainItem). x.name) (λ x. refl) i.items ∙ h.2.items;
      constants = map_twice constant_of (λ (c : Constant). c.name) (λ (c : PlainConstant). c.name) (λ x. refl) i.constants ∙ h.2.constants;
      types = map_twice named_of (λ (x : NamedType). x.name) (λ (x : PlainName). x.name) (λ x. refl) i.types ∙ h.2.types;
    })
