-- Calls, raises and constructors: from sound values, sound expressions.
use Rattle.std.proofs.Common.{◌≡◌, ℕ, zero, suc, ◌+◌, List, [], ◌∷◌, length, refl, sym, ◌∙◌, ap, subst, arith, inl, inr}
use Rattle.std.specs.Prelude.{◌≤◌, ◌<◌, Bool, true, false, not, ◌||◌, Option, Some, None, IfOk, is_some, nat_eq, bytes_eq, slice_index_or, if◌then◌else◌}
use Rattle.std.proofs.lemmas.Bool.{eqb-true, eq-eqb}
use Rattle.mesa_base.specs.declared.place.Place.{Place}
use Rattle.mesa_base.specs.declared.identifier.Identifier.{Identifier}
use Rattle.mesa_types.specs.declared.faces.ItemKind.{ItemKind}
use Rattle.mesa_types.specs.declared.faces.ItemKind.TheVariants as item
use Rattle.mesa_types.specs.declared.faces.Item.{Item}
use Rattle.mesa_types.specs.Sound as sound
use Rattle.mesa_types.specs.Counts as counts
use Rattle.mesa_types.specs.Counts.{operands, operands_of, hidden_expr, hidden_exprs, hidden_phrase}
use Rattle.mesa_types.specs.Shapes.{one, copies, count_in, KindAt, words_in_all}
use Rattle.mesa_types.proofs.WordSizes.{sizes_agree}
use Rattle.check_rules.specs.Typed as t
use Rattle.interface_records.specs.PlainTypes as v
use Rattle.interface_records.specs.PlainTypes.{PlainType, PlainField, PlainItem, kind_of, kinds_of, fields, words_of, words_of_fields, elements_of, item_of}
use Rattle.check_rules.specs.Scopes.{has}
use Rattle.check_rules.specs.Meanings.{Meaning}
use Rattle.check_rules.specs.Meanings as m
use Rattle.check_rules.specs.Parts.{Found, has_name, found, field_named, are_fields, differ, complete, number_by, kind_by, places_of, names_of, kinds}
use Rattle.check_rules.specs.Ranges.{Arguments}
use Rattle.check_rules.specs.Reached.{Reached, Variable, Value, Results, Named, Shape, OfFields, OfElements, NoShape, shape_of, bare_call, performed}
use Rattle.check_rules.specs.Values.{in_order, made, Raises, is_kind, raises_by, raised}
use Rattle.check_rules.proofs.SoundTypes.{TypeIn, FieldsIn, FieldsOf, no_truth, none_is_no, both_left, both_right, fields_of_type, words_agree, field_words_agree, has_words, or_left, or_right}
use Rattle.check_rules.proofs.SoundSame.{bytes_same}
use Rattle.typing_laws.proofs.SoundTrees.{tree_kinds}
use Rattle.typing_laws.proofs.SoundSteps.{World, Spot, at, MeaningIn, ItemIn, Bare, SignalKind, Rule, bind, given, failed, spent_words, tested}
use Rattle.typing_laws.proofs.SoundReached.{found_in_fields}
use Rattle.typing_laws.proofs.SoundnessStatements.{SeenIn, UsedIn, ValueIn, GaveIn, ResultsReached, ReachedIn, PerformedIn, ArgumentsIn}
use Rattle.typing_laws.proofs.SoundValues as values

-- ---- lists of kinds

unfoldable pub shapes : List PlainType → t.Kinds
shapes [] = t.NoKinds
shapes (k ∷ ks) = t.AndKind (kind_of k) (shapes ks)

pub shapes_of_kinds : (fs : List PlainField) → shapes (kinds fs) ≡ kinds_of fs
unfolding shapes kinds_of
shapes_of_kinds [] = refl
shapes_of_kinds (f ∷ fs) = ap (t.AndKind (kind_of f.kind)) (shapes_of_kinds fs)

pub length_of_kinds : (fs : List PlainField) → length (kinds fs) ≡ length fs
length_of_kinds [] = refl
length_of_kinds (f ∷ fs) = ap suc (length_of_kinds fs)

pub count_of_kinds : (fs : List PlainField) → count_in (kinds_of fs) ≡ length fs
unfolding count_in kinds_of
count_of_kinds [] = refl
count_of_kinds (f ∷ fs) = omega (arith, count_of_kinds fs)

unfoldable pub key_kinds : List PlainField → List Identifier → t.Kinds
key_kinds fs [] = t.NoKinds
key_kinds fs (x ∷ xs) = t.AndKind (kind_of (kind_by (field_named fs x))) (key_kinds fs xs)

key_count : (fs : List PlainField) (xs : List Identifier) → count_in (key_kinds fs xs) ≡ length xs
unfolding count_in key_kinds
key_count fs [] = refl
key_count fs (x ∷ xs) = omega (arith, key_count fs xs)

-- ---- keys: each of a field, and none twice

pub key_type : (fs : List PlainField) (x : Identifier) → FieldsIn fs → TypeIn (kind_by (field_named fs x))
unfolding TypeIn
key_type fs x h = by (field_named fs x) refl
  where
    by : (o : Option Found) → field_named fs x ≡ o → TypeIn (kind_by o)
    by (Some f) e = (found_in_fields fs x f h e).kind
    by None e = tt

keyed_place : (fs : List PlainField) (x : Identifier) → FieldsIn fs → is_some (field_named fs x) ≡ true
    → KindAt (kinds_of fs) (number_by (field_named fs x)) (kind_of (kind_by (field_named fs x)))
keyed_place fs x h s = by (field_named fs x) refl s
  where
    by : (o : Option Found) → field_named fs x ≡ o → is_some o ≡ true → KindAt (kinds_of fs) (number_by o) (kind_of (kind_by o))
    by (Some f) e s = (found_in_fields fs x f h e).there
    by None e s = no_truth s

placed_keys : (fs : List PlainField) (xs : List Identifier) → FieldsIn fs → are_fields fs xs ≡ true
    → sound.Placed (places_of fs xs) (key_kinds fs xs) (kinds_of fs)
unfolding sound.Placed key_kinds are_fields
placed_keys fs [] h e = tt
placed_keys fs (x ∷ xs) h e = (
  keyed_place fs x h (both_left (is_some (field_named fs x)) (are_fields fs xs) e),
  placed_keys fs xs h
      (both_right (is_some (field_named fs x)) (are_fields fs xs) e),
)

-- the name that a field has at its number
abbrev pub name_at : List PlainField → ℕ → Option (List ℕ)
name_at [] n = None
name_at (f ∷ fs) zero = f.name
name_at (f ∷ fs) (suc n) = name_at fs n

record NamedAt (x : List ℕ) (n : ℕ) (fs : List PlainField) (f : Found) : Type 0 where
  place : ℕ
  is : f.number ≡ n + place
  name : name_at fs place ≡ Some x

has_name_is : (x : List ℕ) (o : Option (List ℕ)) → has_name x o ≡ true → o ≡ Some x
has_name_is x (Some y) e = ap Some (sym (bytes_same x y e))
has_name_is x None e = no_truth e

named_at : (x : List ℕ) (n offset : ℕ) (fs : List PlainField) (f : Found) → found x n offset fs ≡ Some f → NamedAt x n fs f
unfolding found
named_at x n offset [] f e = none_is_no f e
named_at x n offset (g ∷ gs) f e = by (has_name x g.name) refl e (named_at x (n + 1) (offset + words_of g.kind) gs f)
  where
    here : Found
    here = record { number = n; offset = offset; kind = g.kind }

    same_one : (a b : Found) → Some a ≡ Some b → a ≡ b
    same_one a b e = cc

    by : (b : Bool) → has_name x g.name ≡ b → (if b then Some here else found x (n + 1) (offset + words_of g.kind) gs) ≡ Some f
        → (found x (n + 1) (offset + words_of g.kind) gs ≡ Some f → NamedAt x (n + 1) gs f) → NamedAt x n (g ∷ gs) f
    by true d e rest = subst (NamedAt x n (g ∷ gs)) (same_one here f e) (record { place = 0; is = omega arith; name = has_name_is x g.name d })
    by false d e rest = let r = rest e in record { place = suc r.place; is = omega (arith, r.is); name = r.name }

pub number_names : (fs : List PlainField) (x : Identifier) → is_some (field_named fs x) ≡ true → name_at fs (number_by (field_named fs x)) ≡ Some x.name
number_names fs x s = by (field_named fs x) refl s
  where
    by : (o : Option Found) → field_named fs x ≡ o → is_some o ≡ true → name_at fs (number_by o) ≡ Some x.name
    by (Some f) e s = let r = named_at x.name 0 0 fs f e in let d : f.number ≡ r.place = omega (arith, r.is) in subst (λ n. name_at fs n ≡ Some x.name) (sym d)
        r.name
    by None e s = no_truth s

bytes_are : (x : List ℕ) → bytes_eq x x ≡ true
bytes_are [] = refl
bytes_are (b ∷ bs) = let e : nat_eq b b ≡ true = eq-eqb b b refl in let d : bytes_eq bs bs ≡ true = bytes_are bs in cc

pub same_some : (a b : List ℕ) → Some a ≡ Some b → a ≡ b
same_some a b e = cc

pub has_first : (x y : List ℕ) (ys : List (List ℕ)) → x ≡ y → has x (y ∷ ys) ≡ true
unfolding has
has_first x y ys e = subst (λ z. (bytes_eq x z || has x ys) ≡ true) e (or_left (bytes_eq x x) (has x ys) (bytes_are x))

-- a number among those of some keys is that of a key with the same name
key_is_there : (fs : List PlainField) (x : Identifier) (xs : List Identifier) (k : ℕ) → k < length (places_of fs xs)
    → slice_index_or (places_of fs xs) k (number_by (field_named fs x)) ≡ number_by (field_named fs x)
    → is_some (field_named fs x) ≡ true → are_fields fs xs ≡ true → has x.name (names_of xs) ≡ true
unfolding has are_fields
key_is_there fs x [] k small e s d = absurd (omega (arith, small))
key_is_there fs x (y ∷ ys) zero small e s d =
    has_first x.name y.name (names_of ys) (same_some x.name y.name (sym (number_names fs x s) ∙ ap (name_at fs) (sym e)
    ∙ number_names fs y (both_left (is_some (field_named fs y)) (are_fields fs ys) d)))
key_is_there fs x (y ∷ ys) (suc k) small e s d =
    or_right (bytes_eq x.name y.name) (has x.name (names_of ys)) (key_is_there fs x ys k (omega (arith, small)) e s
    (both_right (is_some (field_named fs y)) (are_fields fs ys) d))

pub not_both : (b : Bool) → b ≡ true → not b ≡ true → ⊥
not_both true e d = no_truth d
not_both false e d = no_truth e

keys_differ : (fs : List PlainField) (xs : List Identifier) → are_fields fs xs ≡ true → differ xs ≡ true → sound.AllDiffer (places_of fs xs)
unfolding sound.AllDiffer are_fields differ
keys_differ fs [] e d = tt
keys_differ fs (x ∷ xs) e d = (
  λ c. not_both (has x.name (names_of xs))
      (key_is_there fs x xs c.0 c.1 c.2 (both_left (is_some (field_named fs x)) (are_fields fs xs) e)
      (both_right (is_some (field_named fs x)) (are_fields fs xs) e))
      (both_left (not (has x.name (names_of xs))) (differ xs) d),
  keys_differ fs xs (both_right (is_some (field_named fs x)) (are_fields fs xs) e) (both_right (not (has x.name (names_of xs))) (differ xs) d),
)

-- a complete list of keys is arranged as the fields
pub arranged_keys : (fs : List PlainField) (xs : List Identifier) → FieldsIn fs → complete fs xs ≡ true
    → sound.Arranged (places_of fs xs) (key_kinds fs xs) (kinds_of fs)
unfolding sound.Arranged key_kinds kinds_of
arranged_keys fs [] h e = no_fields fs (eqb-true 0 (length fs) (both_left _ _ e))
  where
    no_fields : (fs : List PlainField) → 0 ≡ length fs → t.NoKinds ≡ kinds_of fs
    no_fields [] e = refl
    no_fields (f ∷ fs) e = absurd (omega (arith, e))
arranged_keys fs (x ∷ xs) h e =
    let number : length (x ∷ xs) ≡ length fs = eqb-true (length (x ∷ xs)) (length fs) (both_left _ _ e) in
    let r = both_right (nat_eq (length (x ∷ xs)) (length fs)) _ e in
    let are = both_left (are_fields fs (x ∷ xs)) (differ (x ∷ xs)) r in (
      placed_keys fs (x ∷ xs) h are,
      keys_differ fs (x ∷ xs) are (both_right (are_fields fs (x ∷ xs)) (differ (x ∷ xs)) r),
      key_count fs (x ∷ xs) ∙ number ∙ sym (count_of_kinds fs),
    )

module _ (W : World) (p : Spot) where
  -- ---- constructors
  unfoldable pub ShapeIn : PlainType → Shape → Type 0
  ShapeIn k (OfFields fs) = fields k ≡ Some fs
  ShapeIn k (OfElements n e) = (i : PlainType) × (k ≡ v.Array i e) × (n ≡ elements_of i)
  ShapeIn k NoShape = Unit {0}

  pub shape_in : (k : PlainType) → ShapeIn k (shape_of k)
  unfolding ShapeIn shape_of
  shape_in (v.Record o ps) = refl
  shape_in (v.Array i e) = (i, refl, refl)
  shape_in v.Integer = tt
  shape_in v.Cardinal = tt
  shape_in v.LongInteger = tt
  shape_in v.LongCardinal = tt
  shape_in v.Boolean = tt
  shape_in v.Character = tt
  shape_in v.String = tt
  shape_in (v.Enumeration o xs) = tt
  shape_in (v.Subrange k m n) = tt

  built : (k : PlainType) (x : Arguments) (js all : t.Kinds) → TypeIn k → sound.Constructs (kind_of k) x.places all → sound.ExprsIn (at W p) x.values js
      → sound.Arranged x.places js all
      → sound.ExprIn (at W p) (t.Construct x.places x.values) (one (kind_of k))
  unfolding sound.ExprIn
  built k x js all h c e a = (kind_of k, js, all, has_words k h, c, e, a, refl)

  built_words : (k : PlainType) (x : Arguments) → sound.ExprIn (at W p) (t.Construct x.places x.values) (one (kind_of k))
      → operands (t.Construct x.places x.values) ≡ words_of k + operands_of x.values
  unfolding operands counts.words_of words_in_all one
  built_words k x e = omega (arith, words_agree k, sizes_agree.of_expression (at W p) (t.Construct x.places x.values) (one (kind_of k)) e)

  pub made_in : (k : PlainType) (x : Arguments) (js all : t.Kinds) (s h n : ℕ) → TypeIn k → sound.Constructs (kind_of k) x.places all
      → sound.ExprsIn (at W p) x.values js → sound.Arranged x.places js all
      → n ≡ words_of k → n + operands_of x.values ≤ s → hidden_exprs x.values ≤ h → ValueIn W p (made k x) s h × ((made k x).kind ≡ k)
  unfolding GaveIn hidden_expr
  made_in k x js all s h n i c e a d o g = let b = built k x js all i c e a in
      (record { value = b; kind = i; operands_are = omega (arith, built_words k x b, d, o); hidden_are = g; gave = tt; literal = λ l. no_truth l }, refl)

  pub made_of_fields : (k : PlainType) (fs : List PlainField) (x : Arguments) (js : t.Kinds) (s h n : ℕ) → TypeIn k → fields k ≡ Some fs
      → sound.ExprsIn (at W p) x.values js → sound.Arranged x.places js (kinds_of fs)
      → n ≡ words_of k → n + operands_of x.values ≤ s → hidden_exprs x.values ≤ h → ValueIn W p (made k x) s h × ((made k x).kind ≡ k)
  unfolding sound.Constructs
  made_of_fields k fs x js s h n i f e a d o g = made_in k x js (kinds_of fs) s h n i (by (fields_of_type k fs i f)) e a d o g
    where
      recorded : (ks : t.Kinds) → sound.Constructs (t.Record ks) x.places ks
      recorded ks = refl

      by : FieldsOf k fs → sound.Constructs (kind_of k) x.places (kinds_of fs)
      by r = subst (λ j. sound.Constructs j x.places (kinds_of fs)) (sym r.shape) (recorded (kinds_of fs))

  pub made_of_elements : (k i e : PlainType) (es : t.Exprs) (c s h n : ℕ) → TypeIn k → k ≡ v.Array i e → sound.ExprsIn (at W p) es (copies c (kind_of e))
      → c ≡ elements_of i
      → n ≡ words_of k → n + operands_of es ≤ s → hidden_exprs es ≤ h → ValueIn W p (made k (in_order es)) s h × ((made k (in_order es)).kind ≡ k)
  unfolding sound.Constructs sound.Arranged kind_of
  made_of_elements k i e es c s h n j f x q d o g =
      made_in k (in_order es) (copies c (kind_of e)) (copies c (kind_of e)) s h n j
      (subst (λ y. sound.Constructs y [] (copies c (kind_of e))) (sym (ap kind_of f)) (refl, ap (λ m. copies m (kind_of e)) q)) x refl d o g

  pub record_fields : (k : PlainType) (fs : List PlainField) → TypeIn k → fields k ≡ Some fs → FieldsIn fs
  record_fields k fs h e = (fields_of_type k fs h e).types

  pub array_element : (k i e : PlainType) → TypeIn k → k ≡ v.Array i e → TypeIn e
  unfolding TypeIn
  array_element k i e h d = (element (v.Array i e) i e refl (subst TypeIn d h)).1
    where
      element : (k i e : PlainType) → k ≡ v.Array i e → TypeIn (v.Array i e) → TypeIn i × TypeIn e
      element k i e d h = (h.0, h.1)

  -- ---- calls
  record CalleeOf (c : t.Callee) (i : PlainItem) : Type 0 where
    is : sound.CalleeIs (at W p) c (item_of i)
    item : ItemIn i

  callee_of : (flat : Bool) (c : t.Callee) (i : PlainItem) → SeenIn W flat (m.Procedure c i) → CalleeOf c i
  unfolding MeaningIn UsedIn sound.CalleeIs sound.UsedItem
  callee_of flat (t.OwnProcedure q) i h = record { is = ((h.there).1, (h.there).2, (h.there).3); item = (h.there).0 }
  callee_of flat (t.LinkedProcedure k n) i h = record { is = (((h.there).2, h.used), (h.there).1); item = (h.there).0 }

  pub callee_types : (flat : Bool) (c : t.Callee) (i : PlainItem) → SeenIn W flat (m.Procedure c i) → ItemIn i
  callee_types flat c i h = (callee_of flat c i h).item

  pub call_in : (flat : Bool) (c : t.Callee) (i : PlainItem) (x : Arguments) (w : t.Phrase) (s g n h : ℕ) → SeenIn W flat (m.Procedure c i)
      → ArgumentsIn W p i.takes x n h → sound.PhraseIn (at W p) w
      → words_of_fields i.gives + n ≤ s → h + hidden_phrase w ≤ g → ResultsReached W p (t.Call c x.places x.values (words_of_fields i.gives) w) i.gives s g
  unfolding sound.ExprIn sound.IsCall operands hidden_expr
  call_in flat c i x w s g n h seen a ph o d =
      let callee = callee_of flat c i seen in
      record {
        call = tt;
        value = (
          item_of i,
          a.kinds,
          callee.is,
          a.values,
          subst (sound.Arranged x.places a.kinds) (sym (tree_kinds i.takes)) a.arranged,
          sym
              (tree_kinds i.gives),
          field_words_agree i.gives,
          ph,
        );
        kinds = (callee.item).gives;
        operands_are = omega (arith, a.operands_are, o);
        hidden_are = omega (arith, a.hidden_are, d);
      }

  -- ---- raises
  pub record RaisesIn (flat : Bool) (r : Raises) : Type 0 where
    pub seen : SeenIn W flat (m.Signal r.raised r.head)

  pub raises_in : (flat : Bool) (kind : ItemKind) (q : Place) (x : Meaning) → SeenIn W flat x → IfOk (raises_by kind q x) (RaisesIn flat)
  raises_in flat kind q (m.Signal r i) h = values.where_true (is_kind kind i.kind) (record { raised = r; head = i }) _ q (RaisesIn flat)
      (λ e. record { seen = h })
  raises_in flat kind q (m.TypeName k) h = tt
  raises_in flat kind q (m.Variable v k) h = tt
  raises_in flat kind q (m.Constant k n) h = tt
  raises_in flat kind q (m.TextConstant n) h = tt
  raises_in flat kind q (m.Procedure c i) h = tt
  raises_in flat kind q (m.Interface n) h = tt
  raises_in flat kind q m.Later h = tt
  raises_in flat kind q m.Headless h = tt
  raises_in flat kind q m.NotImported h = tt

  pub record RaisedOf (r : t.Raised) (i : PlainItem) : Type 0 where
    pub is : sound.RaisedIs (at W p) r (kinds_of i.takes) (kinds_of i.gives)
    pub item : ItemIn i

  signal_kind : (k : ItemKind) (i : Item) → i.kind ≡ k → SignalKind k → sound.IsSignal i
  unfolding SignalKind sound.IsSignal
  signal_kind item.Signal i e h = inl e
  signal_kind item.Error i e h = inr e
  signal_kind item.Procedure i e h = absurd h

  bare_kinds : (i : PlainItem) → Bare i → (kinds_of i.takes ≡ t.NoKinds) × (kinds_of i.gives ≡ t.NoKinds) × ItemIn i
  unfolding kinds_of FieldsIn
  bare_kinds i b = (ap kinds_of b.takes, ap kinds_of b.gives, record { takes = subst FieldsIn (sym b.takes) tt; gives = subst FieldsIn (sym b.gives) tt })

  pub raised_of : (flat : Bool) (r : t.Raised) (i : PlainItem) → SeenIn W flat (m.Signal r i) → RaisedOf r i
  unfolding MeaningIn UsedIn sound.RaisedIs sound.UsedItem
  raised_of flat (t.OwnSignal n) i h = record { is = (item_of i, (h.there).2, sym (tree_kinds i.takes), sym (tree_kinds i.gives)); item = (h.there).0 }
  raised_of flat (t.LinkedSignal k n) i h = record {
    is = (item_of i, ((h.there).2, h.used), signal_kind i.kind (item_of i) refl (h.there).1, sym (tree_kinds i.takes), sym (tree_kinds i.gives));
    item = (h.there).0;
  }
  raised_of flat t.TheBoundsFault i h = let b = bare_kinds i h.there in record { is = (b.0, b.1); item = b.2 }
  raised_of flat t.TheZeroDivisor i h = let b = bare_kinds i h.there in record { is = (b.0, b.1); item = b.2 }
  raised_of flat t.TheUnnamed i h = absurd h.there

  pub raised_in : (flat : Bool) (r : Raises) (x : Arguments) (w : t.Phrase) (s g n h : ℕ) → RaisesIn flat r → ArgumentsIn W p (r.head).takes x n h
      → sound.PhraseIn (at W p) w
      → words_of_fields (r.head).gives + n ≤ s → h + hidden_phrase w ≤ g → ReachedIn W flat p (raised r x w) s g
  unfolding ReachedIn sound.ExprIn sound.IsCall operands hidden_expr
  raised_in flat r x w s g n h seen a ph o d =
      let is = raised_of flat r.raised r.head seen.seen in
      record {
        call = tt;
        value = (kinds_of (r.head).takes, a.kinds, is.is, a.values, a.arranged, field_words_agree (r.head).gives, ph);
        kinds = (is.item).gives;
        operands_are = omega (arith, a.operands_are, o);
        hidden_are = omega (arith, a.hidden_are, d);
      }

  pub unnamed_in : (flat : Bool) (s g : ℕ) → ReachedIn W flat p (Results (t.Raise t.TheUnnamed [] t.NoExprs 0 t.NoPhrase) []) s g
  unfolding ReachedIn sound.ExprIn sound.IsCall sound.RaisedIs sound.ExprsIn sound.Arranged sound.PhraseIn operands operands_of hidden_expr hidden_exprs
      hidden_phrase kinds_of words_in_all FieldsIn
  unnamed_in flat s g = record {
    call = tt;
    value = (t.NoKinds, t.NoKinds, (refl, refl), refl, refl, refl, tt);
    kinds = tt;
    operands_are = omega arith;
    hidden_are = omega arith;
  }

  -- ---- no values
  pub no_arguments : (fs : List PlainField) → 0 ≡ length fs → ArgumentsIn W p fs (in_order t.NoExprs) 0 0
  unfolding sound.ExprsIn sound.Arranged operands_of hidden_exprs kinds_of
  no_arguments [] e = record {
    kinds = t.NoKinds;
    values = refl;
    arranged = refl;
    some = λ some. absurd (some refl);
    operands_are = omega arith;
    hidden_are = omega arith;
  }
  no_arguments (f ∷ fs) e = absurd (omega (arith, e))

  pub no_phrase_in : sound.PhraseIn (at W p) t.NoPhrase × (hidden_phrase t.NoPhrase ≡ 0)
  unfolding sound.PhraseIn hidden_phrase
  no_phrase_in = (tt, refl)

  -- a call without brackets, and what stands as a statement
  results_performed : (e : t.Expr) (fs : List PlainField) (s g s' g' : ℕ) → s ≤ s' → g ≤ g' → ResultsReached W p e fs s g → PerformedIn W p e s' g'
  results_performed e fs s g s' g' a b r = record {
    call = r.call;
    gives = kinds_of fs;
    value = r.value;
    operands_are = omega (arith, a, r.operands_are);
    hidden_are = omega (arith, b, r.hidden_are);
  }

  bare_in : (flat : Bool) (start : Place) (c : t.Callee) (i : PlainItem) (s g : ℕ)
      → Rule W flat (SeenIn W flat (m.Procedure c i)) (λ e k n. PerformedIn W p e (s + k) (g + n)) (bare_call start c i)
  bare_in flat start c i s g =
      bind W flat (tested W flat (nat_eq 0 (length i.takes)) _ start) (λ u x y.
      bind W flat (spent_words W flat (words_of_fields i.gives)) (λ u k n.
      given W flat (t.Call c [] t.NoExprs (words_of_fields i.gives) t.NoPhrase) (λ pre.
      let r = call_in flat c i (in_order t.NoExprs) t.NoPhrase k 0 0 0 pre.0.0 (no_arguments i.takes (eqb-true 0 (length i.takes) pre.0.1)) no_phrase_in.0
      (omega (arith, pre.1)) (omega (arith, no_phrase_in.1)) in
      results_performed _ i.gives k 0 (s + (x + (k + 0))) (g + (y + (n + 0))) (omega arith) (omega arith) r)))

  pub performed_in : (flat : Bool) (start last : Place) (r : Reached) (s g : ℕ) → Rule W flat (ReachedIn W flat p r s g)
      (λ e k n. PerformedIn W p e (s + k) (g + n)) (performed start last r)
  unfolding performed ReachedIn
  performed_in flat start last (Results e fs) s g = given W flat e (λ pre. results_performed e fs s g (s + 0) (g + 0) (omega arith) (omega arith) pre)
  performed_in flat start last (Named (m.Procedure c i)) s g = bare_in flat start c i s g
  performed_in flat start last (Named (m.Interface n)) s g = failed W flat _ last
  performed_in flat start last (Named (m.Variable h k)) s g = failed W flat _ last
  performed_in flat start last (Named (m.Constant k n)) s g = failed W flat _ last
  performed_in flat start last (Named (m.TextConstant n)) s g = failed W flat _ last
  performed_in flat start last (Named (m.TypeName k)) s g = failed W flat _ last
  performed_in flat start last (Named (m.Signal r i)) s g = failed W flat _ last
  performed_in flat start last (Named m.Later) s g = failed W flat _ last
  performed_in flat start last (Named m.Headless) s g = failed W flat _ last
  performed_in flat start last (Named m.NotImported) s g = failed W flat _ last
  performed_in flat start last (Variable h ss k) s g = failed W flat _ last
  performed_in flat start last (Value n e k) s g = failed W flat _ last
