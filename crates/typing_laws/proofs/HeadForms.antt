-- The heads of an interface's items are in form.
use Rattle.std.specs.Prelude.{ℕ, ◌≡◌, ◌+◌, ◌≤◌, ◌⊎◌, Bool, true, false, not, ◌||◌, Option, Some, None, Ok, Err, List, [], ◌∷◌, ◌++◌, map, is_some, cond, bytes_eq, IfOk}
use Rattle.std.specs.List.{All}
use Rattle.std.proofs.lemmas.List.Elements.{All-cons}
use Rattle.std.proofs.Common.{refl, ap, subst, arith, inl, inr}
use Rattle.mesa_base.specs.declared.identifier.Identifier.{Identifier}
use Rattle.syntax_trees.specs.Syntax as s
use Rattle.mesa_types.specs.declared.faces.ItemKind.{ItemKind}
use Rattle.mesa_types.specs.declared.faces.ItemKind.TheVariants as item
use Rattle.interface_records.specs.declared.interface.Interface.{Interface}
use Rattle.interface_records.specs.PlainTypes.{PlainType, PlainField, PlainItem, PlainInterface, field_of, item_of, interface_of, plain_interface}
use Rattle.check_rules.specs.Scopes.{nothing}
use Rattle.check_rules.specs.Meanings.{Later}
use Rattle.check_rules.specs.Steps.{lift, State, Checked, and_then, ◌>>=◌, only, back}
use Rattle.check_rules.specs.Around.{Around, Known, in_constant, body_of, inside}
use Rattle.check_rules.specs.Parts.{names_of, each_of, first, first_name}
use Rattle.check_rules.specs.Names.{settle, announce, is_declared, coming}
use Rattle.check_rules.specs.Checking.{check, type_exp, unnamed_fields}
use Rattle.check_rules.specs.Programs.{named_item, before_others, outermost, named_parameters, parameters, Heading, own_scope, heading}
use Rattle.check_rules.specs.Ranges.{Into}
use Rattle.check_rules.specs.Statements.{constant_meaning}
use Rattle.check_rules.specs.Meanings as meaning
use Rattle.check_rules.specs.Definitions as d
use Rattle.check_rules.specs.CheckedModule.{checked_definitions, interface_by, definitions, known_of, start, defined_as, lists}
use Rattle.check_rules.specs.declared.fault.Cause.TheVariants.{TwiceDeclared}
use Rattle.check_rules.specs.Laws.{AllNamed, NoneNamed, names_of_fields, GivesNothing, HeadIsInForm, HeadsAreInForm}
use Rattle.interface_records.specs.Spelled.{EachHasName, NoneHasName, names_among, with_name}
use Rattle.typing_laws.proofs.Coming.{bit, is_coming, Grown, type_exp_grows, unnamed_fields_grow}
use Rattle.typing_laws.proofs.Distinct.{times, times_append, none_twice, same_name, turned_false, bit_small}
use Rattle.typing_laws.proofs.Outcomes.{Gives, then_ok, any_ok, both_ok, Any, any, bind, give, within, told_ok}

abbrev pub AllOrNone : List PlainField → Type 0
AllOrNone fs = EachHasName fs ⊎ NoneHasName fs

-- announced names are coming from then on, each once
coming_more : (x n : List ℕ) (σ : State) → is_declared x σ ≡ false → bit (bytes_eq x n) + is_coming σ n ≤ is_coming (coming x Later σ) n
coming_more x n σ e = go (bytes_eq x n) refl
  where
    first_false : (a b : Bool) → (a || b) ≡ false → bit a ≡ 0
    first_false true b h = ap bit h
    first_false false b h = refl

    go : (b : Bool) → bytes_eq x n ≡ b → bit b + is_coming σ n ≤ bit (is_some (cond b (Some Later) (σ.coming n)))
    go true h = omega (arith, first_false (is_some (σ.coming n)) _ (subst (λ y. is_declared y σ ≡ false) (same_name x n h) e))
    go false h = omega arith

Declares : State → List (List ℕ) → State → Type 0
Declares σ ns τ = (n : List ℕ) → times n ns + is_coming σ n ≤ is_coming τ n

announced : (xs : List Identifier) (σ : State) → IfOk (announce xs σ) (λ (r : Unit {0} × State). Declares σ (names_of xs) r.1)
unfolding announce Declares
announced [] σ = λ n. omega arith
announced (x ∷ xs) σ = tests (not (is_declared x.name σ)) refl (announced xs (coming x.name Later σ))
  where
    next : not (is_declared x.name σ) ≡ true → (c : Checked (Unit {0} × State))
        → IfOk c (λ (r : Unit {0} × State). Declares (coming x.name Later σ) (names_of xs) r.1)
        → IfOk c (λ (r : Unit {0} × State). Declares σ (names_of (x ∷ xs)) r.1)
    next e (Ok r) h = λ n. omega (arith, h n, coming_more x.name n σ (turned_false (is_declared x.name σ) e))
    next e (Err f) h = tt

    tests : (b : Bool) → not (is_declared x.name σ) ≡ b
        → IfOk (announce xs (coming x.name Later σ)) (λ (r : Unit {0} × State). Declares (coming x.name Later σ) (names_of xs) r.1)
        → IfOk (and_then (only b TwiceDeclared x.place) (λ _. announce xs (coming x.name Later σ)))
        (λ (r : Unit {0} × State). Declares σ (names_of (x ∷ xs)) r.1)
    tests true e h = next e (announce xs (coming x.name Later σ)) h
    tests false e h = tt

-- fields of one type under several names
each_there : (k : PlainType) (xs : List Identifier) (fs : List PlainField) → EachHasName fs → EachHasName (each_of k xs ++ fs)
unfolding EachHasName
each_there k [] fs h = h
each_there k (x ∷ xs) fs h = (refl, each_there k xs fs h)

each_names : (k : PlainType) (xs : List Identifier) (fs : List PlainField) → names_among (each_of k xs ++ fs) ≡ names_of xs ++ names_among fs
each_names k [] fs = refl
each_names k (x ∷ xs) fs = ap (λ ns. x.name ∷ ns) (each_names k xs fs)

-- what parameters are, and what they declare
record Form (σ : State) (r : List PlainField × State) : Type 0 where
  all : AllOrNone r.0
  new : Declares σ (names_among r.0) r.1

NamedForm : State → List PlainField × State → Type 0
NamedForm σ r = EachHasName r.0 × Declares σ (names_among r.0) r.1

named_form : (a : Around) (fs : s.NamedFields) (σ : State) → IfOk (named_parameters a fs σ) (NamedForm σ)
unfolding named_parameters NamedForm EachHasName Declares
named_form a s.NoFields σ = (tt, λ n. omega arith)
named_form a (s.AndFields xs e rest) σ =
    then_ok (λ (r : Unit {0} × State). Declares σ (names_of xs) r.1) (NamedForm σ) (announce xs σ) _ (announced xs σ) (λ u p.
    then_ok (λ (r : PlainType × State). Grown u.1 r.1) (NamedForm σ) (type_exp a e u.1) _ ((type_exp_grows a e).in_state u.1) (λ k q.
    then_ok (NamedForm k.1) (NamedForm σ) (named_parameters a rest k.1) (λ r. Ok (each_of k.0 xs ++ r.0, r.1)) (named_form a rest k.1) (λ r h.
    (each_there k.0 xs r.0 h.0, λ n. omega (arith, p n, q n, h.1 n, ap (times n) (each_names k.0 xs r.0), times_append n (names_of xs) (names_among r.0))))))

UnnamedForm : List PlainField → Type 0
UnnamedForm fs = NoneHasName fs × (names_among fs ≡ [])

unnamed_form : (a : Around) (ts : s.TypeExps) (σ : State) → IfOk (unnamed_fields a ts σ) (λ (r : List PlainField × State). UnnamedForm r.0)
unfolding unnamed_fields UnnamedForm NoneHasName
unnamed_form a s.NoTypes σ = (tt, refl)
unnamed_form a (s.AndType e es) σ = then_ok (λ (r : PlainType × State). Unit {0}) (λ (r : List PlainField × State). UnnamedForm r.0) (type_exp a e σ) _
    (any_ok (type_exp a e σ)) (λ k u.
    then_ok (λ (r : List PlainField × State). UnnamedForm r.0) (λ (r : List PlainField × State). UnnamedForm r.0) (unnamed_fields a es k.1) _
    (unnamed_form a es k.1) (λ r h. ((refl, h.0), h.1)))

parameters_form : (a : Around) (fs : Option s.FieldList) (σ : State) → IfOk (parameters a fs σ) (Form σ)
unfolding NamedForm UnnamedForm Declares EachHasName
parameters_form a None σ = record { all = inl tt; new = λ n. omega arith }
parameters_form a (Some (s.WithNames fs)) σ =
    both_ok (NamedForm σ) (λ _. Unit {0}) (Form σ) (named_parameters a fs σ) (named_form a fs σ) (any_ok (named_parameters a fs σ))
    (λ r h u. record { all = inl h.0; new = h.1 })
parameters_form a (Some (s.Unnamed es)) σ =
    both_ok (λ (r : List PlainField × State). UnnamedForm r.0) (λ (r : List PlainField × State). Grown σ r.1) (Form σ) (unnamed_fields a es σ)
    (unnamed_form a es σ) ((unnamed_fields_grow a es).in_state σ) (λ r h g. record { all = inr h.0; new = λ n. omega (arith, g n, ap (times n) h.1) })

-- a head whose results are left out gives nothing
abbrev NothingIf : Option s.FieldList → List PlainField → Type 0
NothingIf None gs = gs ≡ []
NothingIf (Some fs) gs = Unit {0}

nothing_if : (a : Around) (fs : Option s.FieldList) (σ : State) → IfOk (parameters a fs σ) (λ (r : List PlainField × State). NothingIf fs r.0)
nothing_if a None σ = refl
nothing_if a (Some (s.WithNames fs)) σ = any_ok (named_parameters a fs σ)
nothing_if a (Some (s.Unnamed es)) σ = any_ok (unnamed_fields a es σ)

record HeadingForm (gives : Option s.FieldList) (h : Heading) : Type 0 where
  takes_all : AllOrNone h.takes
  gives_all : AllOrNone h.gives
  distinct : (n : List ℕ) → times n (names_among h.takes) + times n (names_among h.gives) ≤ 1
  none : NothingIf gives h.gives

heading_of : (gives : Option s.FieldList) (τ : State) (f g : List PlainField × State) → Form τ f → Form f.1 g → NothingIf gives g.0
    → HeadingForm gives (record { takes = f.0; gives = g.0; scope = own_scope f.0 g.0 g.1.coming })
unfolding Declares
heading_of gives τ f g p q k = record {
  takes_all = p.all;
  gives_all = q.all;
  distinct = λ n. omega (arith, p.new n, q.new n, bit_small (is_some (g.1.coming n)));
  none = k;
}

heading_form : (a : Around) (takes gives : Option s.FieldList) → Gives (HeadingForm gives) (heading a takes gives)
unfolding heading
heading_form a takes gives = record {
  in_state = λ σ.
      let τ : State = record σ { scopes = nothing ∷ σ.scopes; coming = nothing } in
      then_ok (λ (r : Heading × State). HeadingForm gives r.0) (λ (r : Heading × State). HeadingForm gives r.0) _ (back σ) (
      then_ok (Form τ) (λ (r : Heading × State). HeadingForm gives r.0) (parameters (inside a) takes τ) _ (parameters_form (inside a) takes τ) (λ f p.
      then_ok (λ (r : List PlainField × State). Form f.1 r × NothingIf gives r.0) (λ (r : Heading × State). HeadingForm gives r.0)
      (parameters (inside a) gives f.1)
      (λ g. Ok (record { takes = f.0; gives = g.0; scope = own_scope f.0 g.0 g.1.coming }, g.1))
      (both_ok (Form f.1) (λ (r : List PlainField × State). NothingIf gives r.0) (λ (r : List PlainField × State). Form f.1 r × NothingIf gives r.0)
      (parameters (inside a) gives f.1)
      (parameters_form (inside a) gives f.1) (nothing_if (inside a) gives f.1) (λ r h k. (h, k))) (λ g q. heading_of gives τ f g p q.0 q.1))) (λ r h. h);
}

-- items with such heads
abbrev pub NothingFor : ItemKind → List PlainField → Type 0
NothingFor item.Error gs = gs ≡ []
NothingFor item.Procedure gs = Unit {0}
NothingFor item.Signal gs = Unit {0}

pub record ItemForm (i : PlainItem) : Type 0 where
  pub takes_all : AllOrNone i.takes
  pub gives_all : AllOrNone i.gives
  pub distinct : (n : List ℕ) → times n (names_among i.takes) + times n (names_among i.gives) ≤ 1
  pub none : NothingFor i.kind i.gives

unfoldable pub ItemsForm : List PlainItem → Type 0
ItemsForm [] = Unit {0}
ItemsForm (i ∷ is) = ItemForm i × ItemsForm is

items_append : (is js : List PlainItem) → ItemsForm is → ItemsForm js → ItemsForm (is ++ js)
unfolding ItemsForm
items_append [] js h k = k
items_append (i ∷ is) js h k = (h.0, items_append is js h.1 k)

items_of_heading : (kind : ItemKind) (gives : Option s.FieldList) (h : Heading) → HeadingForm gives h → NothingFor kind h.gives → (xs : List Identifier)
    → ItemsForm (map (named_item kind h) xs)
unfolding ItemsForm
items_of_heading kind gives h f n [] = tt
items_of_heading kind gives h f n (x ∷ xs) =
    (record { takes_all = f.takes_all; gives_all = f.gives_all; distinct = f.distinct; none = n }, items_of_heading kind gives h f n xs)

defined_items_form : (kind : ItemKind) (gives : Option s.FieldList) (xs : List Identifier) (h : Heading) → HeadingForm gives h → NothingFor kind h.gives
    → Gives (λ (y : d.Defined). ItemsForm y.items) (d.defined_items kind xs h)
defined_items_form kind gives xs h f n =
    bind Any (settle xs (map (d.item_meaning kind) (map (named_item kind h) xs))) (any (settle xs (map (d.item_meaning kind) (map (named_item kind h) xs))))
    (λ u w. give (items_of_heading kind gives h f n xs))

defined_form : (a : Around) (xs : List Identifier) (x : s.Defined) → Gives (λ (y : d.Defined). ItemsForm y.items) (d.defined a xs x)
unfolding d.defined ItemsForm
defined_form a xs (s.ProcedureItem h) =
    bind (HeadingForm h.gives) (heading a h.takes h.gives) (heading_form a h.takes h.gives) (λ y f. defined_items_form item.Procedure h.gives xs y f tt)
defined_form a xs (s.SignalItem h) = bind (HeadingForm h.gives) (heading a h.takes h.gives) (heading_form a h.takes h.gives)
    (λ y f. defined_items_form item.Signal h.gives xs y f tt)
defined_form a xs (s.ErrorItem takes) =
    bind (HeadingForm None) (heading a takes None) (heading_form a takes None) (λ y f. defined_items_form item.Error None xs y f f.none)
defined_form a xs (s.TypeItem e) = bind Any (type_exp a e) (any (type_exp a e))
    (λ k u. bind Any (settle xs (map (λ x. meaning.TypeName k) xs)) (any (settle xs (map (λ x. meaning.TypeName k) xs))) (λ v w. give tt))
defined_form a xs (s.ConstantItem e x) =
    bind Any (type_exp a e) (any (type_exp a e))
    (λ k u. bind Any (check (in_constant (first x) a) (Into k (first x)) x) (any (check (in_constant (first x) a) (Into k (first x)) x)) (λ y v.
    bind Any (lift (constant_meaning a k x (first x) y.value)) (any (lift (constant_meaning a k x (first x) y.value)))
    (λ c i. bind Any (settle xs (map (λ x. c) xs)) (any (settle xs (map (λ x. c) xs))) (λ v w. give tt))))

definition_form : (a : Around) (x : s.Definition) (ds : List s.Definition)
    → Gives (λ (y : d.Defined). ItemsForm y.items) (before_others (λ (e : s.Definition). e.names) d.definition a x ds)
definition_form a x ds = record {
  in_state = λ σ. told_ok (λ (r : d.Defined × State). ItemsForm r.0.items) (d.definition a x σ) _
      ((within (λ (y : d.Defined). ItemsForm y.items) 0 (first_name x.names) (announce x.names >>= (λ _. d.defined a x.names x.defined))
      (bind Any (announce x.names) (any (announce x.names)) (λ u w. defined_form a x.names x.defined))).in_state σ);
}

all_form : (a : Around) (ds : List s.Definition) → Gives (λ (y : d.Defined). ItemsForm y.items) (d.all_defined a ds)
unfolding d.all_defined ItemsForm
all_form a [] = give tt
all_form a (x ∷ ds) =
    bind (λ (y : d.Defined). ItemsForm y.items) (before_others (λ (e : s.Definition). e.names) d.definition a x ds) (definition_form a x ds) (λ y p.
    bind (λ (y : d.Defined). ItemsForm y.items) (d.all_defined a ds) (all_form a ds) (λ z q. give (items_append y.items z.items p q)))

-- of the code's items
all_named : (fs : List PlainField) → EachHasName fs → AllNamed (map field_of fs)
unfolding EachHasName AllNamed
all_named [] h = tt
all_named (f ∷ fs) h = (h.0, all_named fs h.1)

none_named : (fs : List PlainField) → NoneHasName fs → NoneNamed (map field_of fs)
unfolding NoneHasName NoneNamed
none_named [] h = tt
none_named (f ∷ fs) h = (h.0, none_named fs h.1)

all_or_none : (fs : List PlainField) → AllOrNone fs → AllNamed (map field_of fs) ⊎ NoneNamed (map field_of fs)
all_or_none fs (inl h) = inl (all_named fs h)
all_or_none fs (inr h) = inr (none_named fs h)

names_back : (fs : List PlainField) → names_of_fields (map field_of fs) ≡ names_among fs
unfolding names_of_fields
names_back [] = refl
names_back (f ∷ fs) = ap (with_name f.name) (names_back fs)

gives_nothing : (kind : ItemKind) (gs : List PlainField) → NothingFor kind gs → GivesNothing kind (map field_of gs)
gives_nothing item.Error gs h = ap (map field_of) h
gives_nothing item.Procedure gs h = tt
gives_nothing item.Signal gs h = tt

in_form : (i : PlainItem) → ItemForm i → HeadIsInForm (item_of i)
in_form i h = record {
  takes = all_or_none i.takes h.takes_all;
  gives = all_or_none i.gives h.gives_all;
  distinct = none_twice (names_of_fields (map field_of i.takes) ++ names_of_fields (map field_of i.gives)) (λ n.
      omega (
        arith,
        h.distinct n,
        times_append n (names_of_fields (map field_of i.takes)) (names_of_fields (map field_of i.gives)),
        ap (times n)
            (names_back i.takes),
        ap (times n) (names_back i.gives),
      ));
  error = gives_nothing i.kind i.gives h.none;
}

all_in_form : (is : List PlainItem) → ItemsForm is → All HeadIsInForm (map item_of is)
unfolding ItemsForm
all_in_form [] h = λ k x l. absurd (omega (arith, l))
all_in_form (i ∷ is) h = All-cons HeadIsInForm (item_of i) (map item_of is) (in_form i h.0) (all_in_form is h.1)

module _ (m : s.Module) (stamp : ℕ) (is : List PlainInterface) where
  definitions_form : (opens : List Identifier) (ds : List s.Definition) → IfOk (definitions m stamp is opens ds) (λ (i : PlainInterface). ItemsForm i.items)
  definitions_form opens ds = then_ok Any (λ (i : PlainInterface). ItemsForm i.items) (lists m is [] [] opens) _ (any_ok (lists m is [] [] opens)) (λ u w.
      let known : Known = known_of m (Some stamp) false [] is in
      let σ : State = start m known (d.ahead ds) opens [] in
      then_ok (λ (r : d.Defined × State). ItemsForm r.0.items) (λ (i : PlainInterface). ItemsForm i.items)
      (d.all_defined (outermost (body_of known [] [])) ds σ) (λ r. Ok (defined_as m stamp r.0))
      ((all_form (outermost (body_of known [] [])) ds).in_state σ) (λ r p. p))

  pub interface_form : (k : s.ModuleKind) → IfOk (interface_by m stamp is k) (λ (i : PlainInterface). ItemsForm i.items)
  interface_form (s.Program p imports exports opens inner) = tt
  interface_form (s.Interface p opens ds) = definitions_form opens ds

pub heads_in_form : HeadsAreInForm
unfolding checked_definitions
heads_in_form m stamp is = then_ok (λ (i : PlainInterface). ItemsForm i.items) (λ (i : Interface). All HeadIsInForm i.face.items)
    (interface_by m stamp (map plain_interface is) m.kind) (λ i. Ok (interface_of i))
    (interface_form m stamp (map plain_interface is) m.kind) (λ i h. all_in_form i.items h)
