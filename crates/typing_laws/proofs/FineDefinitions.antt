-- The definitions of a module keep a law on types: heads, constants and types.
use Rattle.std.specs.Prelude.{ℕ, ◌≡◌, ◌+◌, Bool, true, false, not, Option, Some, None, Ok, Err, List, [], ◌∷◌, ◌++◌, map, bytes_eq, IfOk, is_some, nat_le}
use Rattle.std.specs.List.{All}
use Rattle.std.proofs.Common.{refl, subst, ap}
use Rattle.std.proofs.lemmas.List.Elements.{All-head, All-tail}
use Rattle.mesa_base.specs.declared.place.Place.{Place}
use Rattle.mesa_base.specs.declared.limits.TheConstants.{OPERAND_WORDS}
use Rattle.mesa_base.specs.declared.identifier.Identifier.{Identifier}
use Rattle.syntax_trees.specs.Syntax as s
use Rattle.mesa_types.specs.Constants.{constant}
use Rattle.mesa_types.specs.declared.faces.ItemKind.{ItemKind}
use Rattle.mesa_types.specs.declared.faces.ItemKind.TheVariants as item
use Rattle.check_rules.specs.Typed as t
use Rattle.interface_records.specs.PlainTypes.{PlainType, PlainField, PlainItem, PlainConstant, PlainName, base_of}
use Rattle.check_rules.specs.Scopes.{Scope, nothing, innermost}
use Rattle.check_rules.specs.Meanings as m
use Rattle.check_rules.specs.Meanings.{Meaning}
use Rattle.check_rules.specs.Steps.{State, Check, Checked, and_then, ◌>>=◌, pure, only, in_scope, back, measured, or_refuse}
use Rattle.check_rules.specs.Around.{Around, inside, in_constant}
use Rattle.check_rules.specs.Parts.{first, first_name}
use Rattle.check_rules.specs.Ranges.{Typed, Into}
use Rattle.check_rules.specs.Names.{announce, settle, each_means, shown, coming, is_declared}
use Rattle.check_rules.specs.Statements.{constant_meaning, constant_by}
use Rattle.check_rules.specs.Programs.{named_parameters, parameters, Heading, own_scope, coming_scope, heading, named_item, before_others}
use Rattle.check_rules.specs.Definitions as d
use Rattle.check_rules.specs.TreeNames.{LabeledNamed, MaybeFieldsNamed, HeadNamed, DefinedNamed, DefinitionNamed}
use Rattle.check_rules.specs.Written.{NamedWritten, MaybeFieldsWritten, HeadWritten, DefinedWritten, DefinitionWritten}
use Rattle.check_rules.specs.declared.fault.Cause.TheVariants.{TwiceDeclared, FrameTooLarge, NotConstant}
use Rattle.typing_laws.proofs.Keeping.{OfSome}
use Rattle.typing_laws.proofs.Outcomes.{told_ok}
use Rattle.typing_laws.proofs.TypeLaws.{TypeLaw, FieldsHave, NamesFine, Text, less_text}
use Rattle.typing_laws.proofs.FineTypes.{ItemFine, MeaningFine, ScopeFine, ScopesFine, StateFine, Fine, AroundFine, Good, bind, done, weaker, lifted, ensured, then_fine, or_fine}
use Rattle.typing_laws.proofs.FineFields.{each_have, each_named}
use Rattle.typing_laws.proofs.FineTypeRules.{innermost_fine, outer_fine, updated_fine, tested}
use Rattle.typing_laws.proofs.FineValues.{OfAim, CheckedFine, into_fine, constant_around}
use Rattle.typing_laws.proofs.FineExpressions.{check_fine, type_exp_fine, unnamed_fields_fine}

-- parameters or results, with their names
pub record ParametersFine (L : TypeLaw) (fs : List PlainField) : Type 0 where
  pub kinds : FieldsHave L.Kept fs
  pub names : L.Named → NamesFine fs

pub record HeadingFine (L : TypeLaw) (h : Heading) : Type 0 where
  pub takes : ParametersFine L h.takes
  pub gives : ParametersFine L h.gives

unfoldable pub MeaningsFine : TypeLaw → List Meaning → Type 0
MeaningsFine L [] = Unit {0}
MeaningsFine L (x ∷ xs) = MeaningFine L x × MeaningsFine L xs

unfoldable pub ItemsFine : TypeLaw → List PlainItem → Type 0
ItemsFine L [] = Unit {0}
ItemsFine L (i ∷ is) = ItemFine L i × ItemsFine L is

unfoldable pub ItemsNamed : List PlainItem → Type 0
ItemsNamed [] = Unit {0}
ItemsNamed (i ∷ is) = NamesFine i.takes × NamesFine i.gives × ItemsNamed is

unfoldable pub ConstantsFine : TypeLaw → List PlainConstant → Type 0
ConstantsFine L [] = Unit {0}
ConstantsFine L (c ∷ cs) = L.Kept c.kind × L.Worth c.kind c.value × ConstantsFine L cs

unfoldable pub ConstantsOrdinal : List PlainConstant → Type 0
ConstantsOrdinal [] = Unit {0}
ConstantsOrdinal (c ∷ cs) = (is_some (base_of c.kind) ≡ true) × ConstantsOrdinal cs

unfoldable pub TypesFine : TypeLaw → List PlainName → Type 0
TypesFine L [] = Unit {0}
TypesFine L (x ∷ xs) = L.Kept x.kind × TypesFine L xs

pub record DefinedFine (L : TypeLaw) (y : d.Defined) : Type 0 where
  pub items : ItemsFine L y.items
  pub names : L.Named → ItemsNamed y.items
  pub constants : ConstantsFine L y.constants
  pub ordinal : ConstantsOrdinal y.constants
  pub types : TypesFine L y.types

-- a constant has an ordinal type
unfoldable pub MeaningOrdinal : Meaning → Type 0
MeaningOrdinal (m.Constant k n) = is_some (base_of k) ≡ true
MeaningOrdinal _ = Unit {0}

items_named : (kind : ItemKind) (h : Heading) → NamesFine h.takes → NamesFine h.gives → (xs : List Identifier) → ItemsNamed (map (named_item kind h) xs)
unfolding ItemsNamed
items_named kind h f g [] = tt
items_named kind h f g (x ∷ xs) = (f, g, items_named kind h f g xs)

items_named_more : (is js : List PlainItem) → ItemsNamed is → ItemsNamed js → ItemsNamed (is ++ js)
unfolding ItemsNamed
items_named_more [] js h k = k
items_named_more (i ∷ is) js h k = (h.0, h.1, items_named_more is js h.2 k)

ordinal_more : (cs es : List PlainConstant) → ConstantsOrdinal cs → ConstantsOrdinal es → ConstantsOrdinal (cs ++ es)
unfolding ConstantsOrdinal
ordinal_more [] es h k = k
ordinal_more (c ∷ cs) es h k = (h.0, ordinal_more cs es h.1 k)

constants_ordinal : (y : Meaning) → MeaningOrdinal y → (xs : List Identifier) → ConstantsOrdinal (d.constants_by xs y)
unfolding ConstantsOrdinal MeaningOrdinal
constants_ordinal (m.Constant k n) h xs = each xs
  where
    each : (xs : List Identifier) → ConstantsOrdinal (d.constants_by xs (m.Constant k n))
    each [] = tt
    each (x ∷ xs) = (h, each xs)
constants_ordinal _ h xs = tt

module _ (L : TypeLaw) where
  pub nothing_fine : ScopeFine L nothing
  unfolding ScopeFine
  nothing_fine x = tt

  -- ---- heads
  scoped : {A : Type 0} {P : A → Type 0} (scope : Scope Meaning) → ScopeFine L scope → {c : Check A} → Fine L P c → Fine L P (in_scope scope c)
  unfolding ScopesFine
  scoped {A} {P} scope f {c} h = record {
    in_state = λ σ g. go σ g (c (record σ { scopes = scope ∷ σ.scopes; coming = nothing }))
        (h.in_state (record σ { scopes = scope ∷ σ.scopes; coming = nothing }) (record { scopes = (f, g.scopes); coming = nothing_fine }));
  }
    where
      go : (σ : State) → StateFine L σ → (r : Checked (A × State)) → IfOk r (λ (x : A × State). P x.0 × StateFine L x.1)
          → IfOk (and_then r (back σ)) (λ (x : A × State). P x.0 × StateFine L x.1)
      go σ g (Ok x) p = (p.0, record { scopes = outer_fine L x.1.scopes p.1.scopes; coming = g.coming })
      go σ g (Err e) p = tt

  announced_in : (xs : List Identifier) (σ : State) → StateFine L σ → IfOk (announce xs σ) (λ (r : Unit {0} × State). Unit {0} × StateFine L r.1)
  unfolding announce ScopeFine MeaningFine
  announced_in [] σ g = (tt, g)
  announced_in (x ∷ xs) σ g = tested (λ (r : Unit {0} × State). Unit {0} × StateFine L r.1) (only (not (is_declared x.name σ)) TwiceDeclared x.place)
      (announce xs (coming x.name m.Later σ))
      (announced_in xs (coming x.name m.Later σ)
      (record { scopes = g.scopes; coming = λ y. updated_fine L (bytes_eq x.name y) m.Later (σ.coming y) tt (g.coming y) }))

  announced : (xs : List Identifier) → Fine L Good (announce xs)
  announced xs = record { in_state = λ σ g. announced_in xs σ g }

  means_fine : (xs : List Identifier) (ms : List Meaning) → MeaningsFine L ms → (σ : State) → StateFine L σ → StateFine L (each_means xs ms σ)
  unfolding each_means MeaningsFine ScopeFine
  means_fine [] ms h σ g = g
  means_fine (x ∷ xs) [] h σ g = g
  means_fine (x ∷ xs) (y ∷ ms) h σ g = means_fine xs ms h.1 (coming x.name y σ)
      (record { scopes = g.scopes; coming = λ z. updated_fine L (bytes_eq x.name z) y (σ.coming z) h.0 (g.coming z) })

  shown_fine : (σ : State) → StateFine L σ → StateFine L (shown σ)
  unfolding ScopeFine ScopesFine
  shown_fine σ g =
      record {
        scopes = ((λ x. or_fine L (σ.coming x) (innermost σ.scopes x) (g.coming x) (innermost_fine L σ.scopes g.scopes x)), outer_fine L σ.scopes g.scopes);
        coming = λ x. tt;
      }

  settled : (xs : List Identifier) (ms : List Meaning) → MeaningsFine L ms → Fine L Good (settle xs ms)
  unfolding settle
  settled xs ms h = record { in_state = λ σ g. (tt, shown_fine (each_means xs ms σ) (means_fine xs ms h σ g)) }

  inside_fine : (a : Around) → AroundFine L a → AroundFine L (inside a)
  inside_fine a g = record { further = g.further; interfaces = g.interfaces; origins = g.origins }

  no_parameters : ParametersFine L []
  unfolding FieldsHave NamesFine
  no_parameters = record { kinds = tt; names = λ l. tt }

  named_parameters_fine : (a : Around) → AroundFine L a → (fs : s.NamedFields) → Text L (NamedWritten fs) (LabeledNamed fs)
      → Fine L (ParametersFine L) (named_parameters a fs)
  unfolding named_parameters NamedWritten LabeledNamed
  named_parameters_fine a g s.NoFields x = done no_parameters
  named_parameters_fine a g (s.AndFields xs e rest) x =
      bind (announced xs) (λ u w. bind (type_exp_fine L a g e (less_text x (λ w. w.1) (λ n. n.1))) (λ k h.
      bind (named_parameters_fine a g rest (less_text x (λ w. w.2) (λ n. n.2))) (λ fs i. done (record {
        kinds = each_have L.Kept k h xs fs i.kinds;
        names = λ l. each_named k xs fs (x.named l).0 (i.names l);
      }))))

  parameters_fine : (a : Around) → AroundFine L a → (fs : Option s.FieldList) → Text L (MaybeFieldsWritten fs) (MaybeFieldsNamed fs)
      → Fine L (ParametersFine L) (parameters a fs)
  unfolding MaybeFieldsWritten MaybeFieldsNamed NamedWritten LabeledNamed
  parameters_fine a g None x = done no_parameters
  parameters_fine a g (Some (s.WithNames fs)) x = named_parameters_fine a g fs (less_text x (λ w. w) (λ n. n))
  parameters_fine a g (Some (s.Unnamed es)) x =
      weaker (unnamed_fields_fine L a g es (less_text x (λ w. w) (λ n. n))) (λ fs h. record { kinds = h.kinds; names = λ l. h.names })

  after_coming : {B : Type 0} {Q : B → Type 0} (f : Scope Meaning → Check B) → ((x : Scope Meaning) → Fine L Q (f x)) → Fine L Q (coming_scope >>= f)
  after_coming f h = record { in_state = λ σ g. (h σ.coming).in_state σ g }

  heading_fine : (a : Around) → AroundFine L a → (takes gives : Option s.FieldList) → Text L (MaybeFieldsWritten takes) (MaybeFieldsNamed takes)
      → Text L (MaybeFieldsWritten gives) (MaybeFieldsNamed gives)
      → Fine L (HeadingFine L) (heading a takes gives)
  unfolding heading
  heading_fine a g takes gives x y = scoped nothing nothing_fine {c =
      parameters (inside a) takes >>= (λ fs. parameters (inside a) gives >>= (λ gs. coming_scope >>= (λ scope.
      pure (record { takes = fs; gives = gs; scope = own_scope fs gs scope }))))} (
      bind (parameters_fine (inside a) (inside_fine a g) takes x) (λ fs h.
      bind (parameters_fine (inside a) (inside_fine a g) gives y) (λ gs i.
      after_coming (λ scope. pure (record { takes = fs; gives = gs; scope = own_scope fs gs scope })) (λ scope. done (record { takes = h; gives = i })))))

  -- ---- definitions
  items_fine : (kind : ItemKind) (h : Heading) → HeadingFine L h → (xs : List Identifier) → ItemsFine L (map (named_item kind h) xs)
  unfolding ItemsFine ItemFine
  items_fine kind h f [] = tt
  items_fine kind h f (x ∷ xs) = ((f.takes.kinds, f.gives.kinds), items_fine kind h f xs)

  item_means : (kind : ItemKind) (h : Heading) → HeadingFine L h → (x : Identifier) → MeaningFine L (d.item_meaning kind (named_item kind h x))
  unfolding MeaningFine ItemFine
  item_means item.Procedure h f x = (f.takes.kinds, f.gives.kinds)
  item_means item.Signal h f x = (f.takes.kinds, f.gives.kinds)
  item_means item.Error h f x = (f.takes.kinds, f.gives.kinds)

  items_mean : (kind : ItemKind) (h : Heading) → HeadingFine L h → (xs : List Identifier)
      → MeaningsFine L (map (d.item_meaning kind) (map (named_item kind h) xs))
  unfolding MeaningsFine
  items_mean kind h f [] = tt
  items_mean kind h f (x ∷ xs) = (item_means kind h f x, items_mean kind h f xs)

  all_mean : (y : Meaning) → MeaningFine L y → (xs : List Identifier) → MeaningsFine L (map (λ (x : Identifier). y) xs)
  unfolding MeaningsFine
  all_mean y h [] = tt
  all_mean y h (x ∷ xs) = (h, all_mean y h xs)

  types_fine : (k : PlainType) → L.Kept k → (xs : List Identifier) → TypesFine L (map (d.named_type k) xs)
  unfolding TypesFine
  types_fine k h [] = tt
  types_fine k h (x ∷ xs) = (h, types_fine k h xs)

  constants_fine : (y : Meaning) → MeaningFine L y → (xs : List Identifier) → ConstantsFine L (d.constants_by xs y)
  unfolding ConstantsFine MeaningFine
  constants_fine (m.Constant k n) h xs = each xs
    where
      each : (xs : List Identifier) → ConstantsFine L (d.constants_by xs (m.Constant k n))
      each [] = tt
      each (x ∷ xs) = (h.0, h.1, each xs)
  constants_fine _ h xs = tt

  constant_fine : (k : PlainType) → L.Kept k → (b : Bool) (p : Place) (e : t.Expr) → OfSome (L.Worth k) (constant e) → (o : Option PlainType) → base_of k ≡ o
      → IfOk (constant_by o k b p e) (λ c. MeaningFine L c × MeaningOrdinal c)
  unfolding MeaningFine MeaningOrdinal
  constant_fine k h b p e w (Some base) q = by (constant e) w
    where
      by : (o : Option ℕ) → OfSome (L.Worth k) o → IfOk (and_then (or_refuse o NotConstant p) (λ n. Ok (m.Constant k n))) (λ c.
          MeaningFine L c × MeaningOrdinal c)
      by (Some n) i = ((h, i), ap is_some q)
      by None i = tt
  constant_fine k h true p (t.Literal n) w None q = (tt, tt)
  constant_fine k h true p _ w None q = tt
  constant_fine k h false p e w None q = tt

  no_more : DefinedFine L d.nothing_defined
  unfolding ItemsFine ItemsNamed ConstantsFine ConstantsOrdinal TypesFine
  no_more = record { items = tt; names = λ l. tt; constants = tt; ordinal = tt; types = tt }

  defined_items_fine : (kind : ItemKind) (xs : List Identifier) (h : Heading) → HeadingFine L h → Fine L (DefinedFine L) (d.defined_items kind xs h)
  defined_items_fine kind xs h f = bind (settled xs (map (d.item_meaning kind) (map (named_item kind h) xs)) (items_mean kind h f xs)) (λ u w.
      done (record {
        items = items_fine kind h f xs;
        names = λ l. items_named kind h (f.takes.names l) (f.gives.names l) xs;
        constants = no_more.constants;
        ordinal = no_more.ordinal;
        types = no_more.types;
      }))

  no_results : Text L (MaybeFieldsWritten None) (MaybeFieldsNamed None)
  unfolding MaybeFieldsWritten MaybeFieldsNamed
  no_results = record { written = λ l. tt; named = λ l. tt }

  defined_fine : (a : Around) → AroundFine L a → (xs : List Identifier) (x : s.Defined) → Text L (DefinedWritten x) (DefinedNamed x)
      → Fine L (DefinedFine L) (d.defined a xs x)
  unfolding d.defined MeaningFine constant_meaning DefinedWritten DefinedNamed HeadWritten HeadNamed OfAim
  defined_fine a g xs (s.ProcedureItem h) x =
      bind (heading_fine a g h.takes h.gives (less_text x (λ w. w.0) (λ n. n.0)) (less_text x (λ w. w.1) (λ n. n.1)))
      (λ y f. defined_items_fine item.Procedure xs y f)
  defined_fine a g xs (s.SignalItem h) x =
      bind (heading_fine a g h.takes h.gives (less_text x (λ w. w.0) (λ n. n.0)) (less_text x (λ w. w.1) (λ n. n.1)))
      (λ y f. defined_items_fine item.Signal xs y f)
  defined_fine a g xs (s.ErrorItem takes) x =
      bind (heading_fine a g takes None (less_text x (λ w. w) (λ n. n)) no_results) (λ y f. defined_items_fine item.Error xs y f)
  defined_fine a g xs (s.TypeItem e) x =
      bind (type_exp_fine L a g e (less_text x (λ w. w) (λ n. n))) (λ k h.
      bind (settled xs (map (λ x. m.TypeName k) xs) (all_mean (m.TypeName k) h xs)) (λ u w. done (record {
        items = no_more.items;
        names = no_more.names;
        constants = no_more.constants;
        ordinal = no_more.ordinal;
        types = types_fine k h xs;
      })))
  defined_fine a g xs (s.ConstantItem e z) x =
      bind (type_exp_fine L a g e (less_text x (λ w. w.0) (λ n. n.0))) (λ k h. bind
      (check_fine L (in_constant (first z) a) (constant_around L a g (first z)) (Into k (first z)) (into_fine L k h (first z)) z) (λ y i.
      bind (lifted (λ c. MeaningFine L c × MeaningOrdinal c) (constant_meaning a k z (first z) y.value)
      (constant_fine k h _ (first z) y.value (worth k y i) (base_of k) refl))
      (λ c j. bind (settled xs (map (λ x. c) xs) (all_mean c j.0 xs)) (λ u w. done (record {
        items = no_more.items;
        names = no_more.names;
        constants = constants_fine c j.0 xs;
        ordinal = constants_ordinal c j.1 xs;
        types = no_more.types;
      })))))
    where
      worth : (k : PlainType) (y : Typed) → CheckedFine L (Into k (first z)) y → OfSome (L.Worth k) (constant y.value)
      worth k y i = subst (λ j. OfSome (L.Worth j) (constant y.value)) i.aimed i.value.worth

  told_fine : (a : Around) → AroundFine L a → (x : s.Definition) → Text L (DefinitionWritten x) (DefinitionNamed x) → (ds : List s.Definition)
      → Fine L (DefinedFine L) (before_others (λ (e : s.Definition). e.names) d.definition a x ds)
  unfolding DefinitionWritten DefinitionNamed
  told_fine a g x text ds = record {
    in_state =
        λ σ k. told_ok (λ (r : d.Defined × State). DefinedFine L r.0 × StateFine L r.1) (d.definition a x σ) _ (whole.in_state σ k);
  }
    where
      measuring : {A : Type 0} (P : A → Type 0) (c : Check A) → Fine L P c → Fine L (λ (y : A × ℕ). P y.0) (measured c)
      measuring {A} P c h = record {
        in_state =
            λ σ k. then_fine (λ (r : A × State). P r.0 × StateFine L r.1) (λ (r : (A × ℕ) × State). P r.0.0 × StateFine L r.1)
            (c (record σ { operands = 0 }))
            (λ r. Ok ((r.0, r.1.operands), record r.1 { operands = σ.operands }))
            (h.in_state (record σ { operands = 0 }) (record { scopes = k.scopes; coming = k.coming }))
            (λ r p. (p.0, record { scopes = p.1.scopes; coming = p.1.coming }));
      }

      whole : Fine L (DefinedFine L) (d.definition a x)
      whole = bind {P = λ (y : d.Defined × ℕ). DefinedFine L y.0}
          (measuring (DefinedFine L) (announce x.names >>= (λ _. d.defined a x.names x.defined))
          (bind (announced x.names) (λ u w. defined_fine a g x.names x.defined (less_text text (λ w. w.1) (λ n. n.1))))) (λ r p.
          bind (ensured (nat_le (0 + r.1) OPERAND_WORDS) FrameTooLarge (first_name x.names)) (λ u w. done p))

  items_more : (xs ys : List PlainItem) → ItemsFine L xs → ItemsFine L ys → ItemsFine L (xs ++ ys)
  unfolding ItemsFine
  items_more [] ys h k = k
  items_more (x ∷ xs) ys h k = (h.0, items_more xs ys h.1 k)

  constants_more : (xs ys : List PlainConstant) → ConstantsFine L xs → ConstantsFine L ys → ConstantsFine L (xs ++ ys)
  unfolding ConstantsFine
  constants_more [] ys h k = k
  constants_more (x ∷ xs) ys h k = (h.0, h.1, constants_more xs ys h.2 k)

  types_more : (xs ys : List PlainName) → TypesFine L xs → TypesFine L ys → TypesFine L (xs ++ ys)
  unfolding TypesFine
  types_more [] ys h k = k
  types_more (x ∷ xs) ys h k = (h.0, types_more xs ys h.1 k)

  pub all_fine : (a : Around) → AroundFine L a → (ds : List s.Definition) → Text L (All DefinitionWritten ds) (All DefinitionNamed ds)
      → Fine L (DefinedFine L) (d.all_defined a ds)
  unfolding d.all_defined
  all_fine a g [] text = done no_more
  all_fine a g (x ∷ ds) text =
      bind (told_fine a g x (less_text text (All-head DefinitionWritten x ds) (All-head DefinitionNamed x ds)) ds) (λ y h.
      bind (all_fine a g ds (less_text text (All-tail DefinitionWritten x ds) (All-tail DefinitionNamed x ds))) (λ z i. done (record {
        items = items_more y.items z.items h.items i.items;
        names = λ l. items_named_more y.items z.items (h.names l) (i.names l);
        constants = constants_more y.constants z.constants h.constants i.constants;
        ordinal = ordinal_more y.constants z.constants h.ordinal i.ordinal;
        types = types_more y.types z.types h.types i.types;
      })))
