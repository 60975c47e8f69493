-- Types as they are written keep their limits: rules that look at no part of the text, and each form from its parts.
use Rattle.std.proofs.Common.{◌≡◌, ℕ, suc, ◌+◌, List, [], ◌∷◌, ◌++◌, length, refl, ap, subst, arith}
use Rattle.std.specs.Prelude.{◌≤◌, ◌<◌, ◌≢◌, ◌-◌, Bool, true, false, not, Option, Some, None, Ok, Err, IfOk, nat_le, if◌then◌else◌}
use Rattle.std.proofs.lemmas.Bool.{leb-true}
use Rattle.mesa_base.specs.declared.place.Place.{Place}
use Rattle.mesa_base.specs.declared.identifier.Identifier.{Identifier}
use Rattle.mesa_base.specs.declared.limits.TheConstants.{TYPE_WORDS, TYPE_DEPTH, ENUMERATION_ELEMENTS}
use Rattle.syntax_trees.specs.Syntax as s
use Rattle.mesa_types.specs.Operators.{truth}
use Rattle.syntax_trees.specs.declared.syntax.QualifiedName.{QualifiedName}
use Rattle.syntax_trees.specs.declared.syntax.TypeBase.{TypeBase}
use Rattle.mesa_types.specs.declared.types.Origin.{Origin}
use Rattle.check_rules.specs.Typed as t
use Rattle.interface_records.specs.PlainTypes as v
use Rattle.interface_records.specs.PlainTypes.{PlainType, Parts, PlainField, base_of, kind_of, elements_of, words_of, depth_of, parts_of, same, conforms, is_long, is_ordinal}
use Rattle.check_rules.specs.declared.fault.Cause.{Cause}
use Rattle.check_rules.specs.Meanings as m
use Rattle.check_rules.specs.Meanings.{Meaning}
use Rattle.check_rules.specs.Scopes.{innermost}
use Rattle.check_rules.specs.Steps.{State, Check, Checked, and_then, ◌>>=◌, pure, lift, only, refuse, or_refuse}
use Rattle.check_rules.specs.Around.{Around, in_constant}
use Rattle.check_rules.specs.Operators.{Sort, Number, LongNumber, Letter, Truth, Other, sort_of}
use Rattle.check_rules.specs.Statements.{not_long}
use Rattle.check_rules.specs.Names.{is_declared, element_in}
use Rattle.check_rules.specs.Parts.{first, first_of_type, names_of, distinct, each_of}
use Rattle.check_rules.specs.Ranges.{Typed, Free, fitted_if, finish}
use Rattle.check_rules.specs.Values.{bound_aim, bound_of}
use Rattle.check_rules.specs.TypeRules.{origin, limited, elements, few, is_index, bound, number_base, same_base, bounds_base, base_of_bounds, subrange_if, subrange, interval_base}
use Rattle.check_rules.specs.Checking.{type_exp, fields_of, named_fields, unnamed_fields, of_interval}
use Rattle.check_rules.specs.Written.{IntervalWritten, TypeWritten, FieldsWritten, NamedWritten, TypesWritten, HasField}
use Rattle.check_rules.proofs.SoundTypes.{TypeIn, PartsIn, FieldsIn, SomePart, no_truth, no_lie, none_is_no, both_left, both_right, ordinal_not_long}
use Rattle.typing_laws.proofs.SoundConstants.{wrapped, word_fits}
use Rattle.typing_laws.proofs.SoundSteps.{World, Spot, MeaningIn, ScopesIn, Step, Rule, bind, under, given, ended, plainly, tested}
use Rattle.typing_laws.proofs.SoundnessStatements.{AroundIn, ValueIn, AimIn, CheckedIn, Checks}
use Rattle.typing_laws.proofs.SoundNames.{BaseIn, type_is_seen, base_is_seen}
use Rattle.typing_laws.proofs.SoundScopes.{name_more, innermost_in, outer_in, then_by, done}
use Rattle.typing_laws.proofs.SoundAround.{constant_spot, constant_around, constant_phrase}

pub any_ok : {A : Type 0} (r : Checked A) → IfOk r (λ x. Unit {0})
any_ok (Ok a) = tt
any_ok (Err e) = tt

-- ---- limits

only_ok : {A : Type 0} (b : Bool) (cause : Cause) (q : Place) (x : A) (P : A → Type 0) → (b ≡ true → P x)
    → IfOk (and_then (only b cause q) (λ u. Ok x)) P
only_ok true cause q x P h = h refl
only_ok false cause q x P h = tt

pub limited_array : (q : Place) (i e : PlainType) → TypeIn i → TypeIn e → 0 < elements_of i → IfOk (limited q (v.Array i e)) TypeIn
unfolding limited TypeIn
limited_array q i e h k n = only_ok _ _ q (v.Array i e) TypeIn (λ d. (
  h,
  k,
  n,
  leb-true (words_of (v.Array i e)) TYPE_WORDS (both_left _ _ d),
  leb-true (depth_of (v.Array i e)) TYPE_DEPTH
      (both_right (nat_le (words_of (v.Array i e)) TYPE_WORDS) _ d),
))

pub limited_record : (q : Place) (o : Origin) (ps : Parts) → PartsIn ps → SomePart ps → IfOk (limited q (v.Record o ps)) TypeIn
unfolding limited TypeIn
limited_record q o ps h k = only_ok _ _ q (v.Record o ps) TypeIn (λ d. (
  h,
  k,
  leb-true (words_of (v.Record o ps)) TYPE_WORDS (both_left _ _ d),
  leb-true (depth_of (v.Record o ps)) TYPE_DEPTH
      (both_right (nat_le (words_of (v.Record o ps)) TYPE_WORDS) _ d),
))

pub index_elements : (k : PlainType) → TypeIn k → is_index k ≡ true → 0 < elements_of k
unfolding is_index is_ordinal sort_of base_of TypeIn
index_elements v.Integer h e = omega arith
index_elements v.Cardinal h e = omega arith
index_elements v.LongInteger h e = no_truth e
index_elements v.LongCardinal h e = no_truth e
index_elements v.Boolean h e = omega arith
index_elements v.Character h e = omega arith
index_elements v.String h e = no_truth e
index_elements (v.Enumeration o xs) h e = h.0
index_elements (v.Subrange k m n) h e = omega arith
index_elements (v.Array i k) h e = no_truth e
index_elements (v.Record o ps) h e = no_truth e

pub parts_in : (fs : List PlainField) → FieldsIn fs → PartsIn (parts_of fs)
unfolding TypeIn FieldsIn parts_of
parts_in [] h = tt
parts_in (f ∷ fs) h = (h.0, parts_in fs h.1)

pub some_part : (fs : List PlainField) → fs ≢ [] → SomePart (parts_of fs)
unfolding SomePart parts_of
some_part [] h = absurd (h refl)
some_part (f ∷ fs) h = tt

-- ---- subranges

pub record BaseType (k : PlainType) : Type 0 where
  pub type : TypeIn k
  pub flat : depth_of k ≡ 1
  pub word : kind_of k ≡ t.Ordinal
  pub ordinal : is_ordinal k ≡ true

base_type : (k b : PlainType) → TypeIn k → is_long k ≡ false → base_of k ≡ Some b → BaseType b
unfolding base_of TypeIn depth_of kind_of is_ordinal
base_type v.Integer b h f e = subst BaseType (same_one v.Integer b e) (record { type = tt; flat = refl; word = refl; ordinal = refl })
  where
    same_one : (a b : PlainType) → Some a ≡ Some b → a ≡ b
    same_one a b e = cc
base_type v.Cardinal b h f e = subst BaseType (same_one v.Cardinal b e) (record { type = tt; flat = refl; word = refl; ordinal = refl })
  where
    same_one : (a b : PlainType) → Some a ≡ Some b → a ≡ b
    same_one a b e = cc
base_type v.LongInteger b h f e = no_lie f
base_type v.LongCardinal b h f e = no_lie f
base_type v.Boolean b h f e = subst BaseType (same_one v.Boolean b e) (record { type = tt; flat = refl; word = refl; ordinal = refl })
  where
    same_one : (a b : PlainType) → Some a ≡ Some b → a ≡ b
    same_one a b e = cc
base_type v.Character b h f e = subst BaseType (same_one v.Character b e) (record { type = tt; flat = refl; word = refl; ordinal = refl })
  where
    same_one : (a b : PlainType) → Some a ≡ Some b → a ≡ b
    same_one a b e = cc
base_type v.String b h f e = none_is_no b e
base_type (v.Enumeration o xs) b h f e = subst BaseType (same_one (v.Enumeration o xs) b e) (record { type = h; flat = refl; word = refl; ordinal = refl })
  where
    same_one : (a b : PlainType) → Some a ≡ Some b → a ≡ b
    same_one a b e = cc
base_type (v.Subrange k m n) b h f e = base_type k b h.0 (ordinal_not_long k h.4) e
base_type (v.Array i k) b h f e = none_is_no b e
base_type (v.Record o ps) b h f e = none_is_no b e

abbrev IfBase : Option PlainType → Type 0
IfBase None = Unit {0}
IfBase (Some k) = BaseType k

base_in : (k : PlainType) → TypeIn k → is_long k ≡ false → IfBase (base_of k)
base_in k h f = by (base_of k) refl
  where
    by : (o : Option PlainType) → base_of k ≡ o → IfBase o
    by (Some b) e = base_type k b h f e
    by None e = tt

number_bases : (b c : Bool) → IfBase (number_base b c)
unfolding TypeIn depth_of kind_of is_ordinal base_of
number_bases true c = record { type = tt; flat = refl; word = refl; ordinal = refl }
number_bases false true = record { type = tt; flat = refl; word = refl; ordinal = refl }
number_bases false false = tt

same_bases : (a b : Option PlainType) → IfBase a → IfBase (same_base a b)
same_bases (Some a) (Some b) h = by (same a b)
  where
    by : (c : Bool) → IfBase (if c then Some a else None)
    by true = h
    by false = tt
same_bases (Some a) None h = tt
same_bases None b h = tt

bounds_bases : (i : Sort) (x : ℕ) (j : Sort) (y : ℕ) (o : Option PlainType) → IfBase o → IfBase (bounds_base i x j y o)
bounds_bases (Number a) x (Number b) y o h = number_bases _ _
bounds_bases (Number a) x (LongNumber b) y o h = h
bounds_bases (Number a) x Letter y o h = h
bounds_bases (Number a) x Truth y o h = h
bounds_bases (Number a) x Other y o h = h
bounds_bases (LongNumber a) x j y o h = h
bounds_bases Letter x j y o h = h
bounds_bases Truth x j y o h = h
bounds_bases Other x j y o h = h

interval_bases : (base : Option PlainType) (i j : PlainType) (x y : ℕ) → BaseIn base → TypeIn i → is_long i ≡ false → IfBase (interval_base base i x j y)
unfolding BaseIn base_of_bounds
interval_bases (Some k) i j x y h g f = base_in k h.0 (ordinal_not_long k h.1)
interval_bases None i j x y h g f = bounds_bases (sort_of i) x (sort_of j) y (same_base (base_of i) (base_of j))
    (same_bases (base_of i) (base_of j) (base_in i g f))

pub refused_base : (o : Option PlainType) (cause : Cause) (q : Place) → IfBase o → IfOk (or_refuse o cause q) BaseType
refused_base (Some k) cause q h = h
refused_base None cause q h = tt

subrange_by : (b : Bool) (q : Place) (k : PlainType) (open_low : Bool) (x y : ℕ) (open_high : Bool) → BaseType k
    → IfOk (subrange_if b q k open_low x y open_high) TypeIn
unfolding TypeIn depth_of
subrange_by true q k open_low x y open_high h = (h.type, wrapped (x + truth open_low), wrapped (y + 65536 - truth open_high), omega (arith, h.flat), h.ordinal)
subrange_by false q k open_low x y open_high h = tt

pub subrange_in : (q : Place) (k : PlainType) (open_low : Bool) (x y : ℕ) (open_high : Bool) → BaseType k
    → IfOk (subrange q k open_low x y open_high) TypeIn
unfolding subrange
subrange_in q k open_low x y open_high h = subrange_by _ q k open_low x y open_high h

-- ---- elements of an enumeration are constants

element_meaning : (W : World) (flat : Bool) (k : PlainType) (n : ℕ) → TypeIn k → kind_of k ≡ t.Ordinal → n < 65536 → MeaningIn W flat (m.Constant k n)
unfolding MeaningIn
element_meaning W flat k n h e i = (word_fits (kind_of k) n e i, h)

module _ (W : World) (flat : Bool) where
  element_step : {A : Type 0} {Pre : Type 0} (Q : A → ℕ → ℕ → Type 0) (b : Bool) (x : List ℕ) (a : Meaning) (y : A) (s : State)
      → (Pre → MeaningIn W flat a)
      → (Pre → Q y 0 0) → Step W flat Pre Q s (y, element_in b x a s)
  unfolding ScopesIn
  element_step Q true x a y s h g = record {
    spent = 0;
    hid = 0;
    spends = omega arith;
    hides = omega arith;
    under = refl;
    limit = λ l. l;
    rows = refl;
    back = λ w. record { more_globals = w.more_globals; globals = w.globals; more_locals = w.more_locals; locals = w.locals; used = w.used };
    keeps = λ pre w names. record {
      scopes = (
        name_more W flat x a (innermost s.scopes) (h pre) (innermost_in W flat s.scopes names.scopes),
        outer_in W flat
            s.scopes names.scopes,
      );
      coming = names.coming;
      rows = names.rows;
      globals = names.globals;
      variables = names.variables;
    };
    gives = λ pre w names. g pre;
  }
  element_step Q false x a y s h g = record {
    spent = 0;
    hid = 0;
    spends = omega arith;
    hides = omega arith;
    under = refl;
    limit = λ l. l;
    rows = refl;
    back = λ w. record { more_globals = w.more_globals; globals = w.globals; more_locals = w.more_locals; locals = w.locals; used = w.used };
    keeps = λ pre w names. record {
      scopes = names.scopes;
      coming = name_more W flat x a s.coming (h pre) names.coming;
      rows = names.rows;
      globals = names.globals;
      variables = names.variables;
    };
    gives = λ pre w names. g pre;
  }

  pub elements_in : (a : Around) (k : PlainType) (n : ℕ) (xs : List Identifier) {Pre : Type 0} → (Pre → TypeIn k) → kind_of k ≡ t.Ordinal
      → n + length xs ≤ 65536 → Rule W flat Pre (λ u i j. Unit {0}) (elements a k n xs)
  unfolding elements
  elements_in a k n [] {Pre} h e i = given W flat {A = Unit {0}} {Pre = Pre} {Q = λ u i j. Unit {0}} done (λ pre. tt)
  elements_in a k n (x ∷ xs) {Pre} h e i = record {
    by = λ s. by s (not (is_declared x.name s)) _
        (elements_in a k (n + 1) xs (λ pre. h pre.0) e (omega (arith, i)));
  }
    where
      next : State → State
      next s = element_in a.is_outermost x.name (m.Constant k n) s

      by : (s : State) (b : Bool) (cause : Cause) → Rule W flat (Pre × Unit {0}) (λ u i j. Unit {0}) (elements a k (n + 1) xs)
          → IfOk (and_then (only b cause x.place) (λ u. elements a k (n + 1) xs (next s))) (Step W flat Pre (λ u i j. Unit {0}) s)
      by s true cause rest = then_by W {A = Unit {0}} {P = λ u i j. Unit {0}} (λ u i j. Unit {0}) flat s (done, next s)
          (element_step (λ u i j. Unit {0}) a.is_outermost x.name (m.Constant k n) done s
          (λ pre. element_meaning W flat k n (h pre) e (omega (arith, i)))
          (λ pre. tt))
          (elements a k (n + 1) xs (next s)) (λ c g. rest.by (next s))
      by s false cause rest = tt

  -- where what comes behind is refused
  pub refused_behind : {A B C : Type 0} {Pre : Type 0} {Q : C → ℕ → ℕ → Type 0} (q : Check A) (cause : Cause) (place : Place) (f : B → Check C)
      → Rule W flat Pre Q (q >>= (λ x. lift (refuse {A = B} cause place) >>= f))
  refused_behind {A} {B} {C} {Pre} {Q} q cause place f = record { by = λ s. by s (q s) }
    where
      by : (s : State) (r : Checked (A × State)) → IfOk (and_then r (λ x. (lift (refuse {A = B} cause place) >>= f) x.1)) (Step W flat Pre Q s)
      by s (Ok x) = tt
      by s (Err e) = tt

-- ---- judgements on types

pub record ChecksType (W : World) (e : s.TypeExp) : Type 0 where
  pub by : (flat : Bool) (p : Spot) (a : Around) → Rule W flat (AroundIn W flat p a × TypeWritten e) (λ k i j. TypeIn k) (type_exp a e)

pub record ChecksFields (W : World) (fs : s.FieldList) : Type 0 where
  pub by : (flat : Bool) (p : Spot) (a : Around) → Rule W flat (AroundIn W flat p a × FieldsWritten fs) (λ x i j. FieldsIn x × (HasField fs → x ≢ []))
      (fields_of a fs)

pub record ChecksNamed (W : World) (fs : s.NamedFields) : Type 0 where
  pub by : (flat : Bool) (p : Spot) (a : Around) (before : List (List ℕ)) → Rule W flat (AroundIn W flat p a × NamedWritten fs)
      (λ x i j. FieldsIn x × (HasField (s.WithNames fs) → x ≢ [])) (named_fields a before fs)

pub record ChecksTypes (W : World) (es : s.TypeExps) : Type 0 where
  pub by : (flat : Bool) (p : Spot) (a : Around) → Rule W flat (AroundIn W flat p a × TypesWritten es)
      (λ x i j. FieldsIn x × (HasField (s.Unnamed es) → x ≢ [])) (unnamed_fields a es)

pub record ChecksBounds (W : World) (i : s.Interval) : Type 0 where
  pub by : (flat : Bool) (p : Spot) (a : Around) (base : Option PlainType) → Rule W flat (AroundIn W flat p a × BaseIn base × IntervalWritten i)
      (λ k i j. TypeIn k) (of_interval a base i)

module _ (W : World) where
  -- a bound, which is not LONG
  record BoundIn (p : Spot) (x : Typed) : Type 0 where
    kind : TypeIn x.kind
    short : is_long x.kind ≡ false

  bound_in : (p : Spot) (base : Option PlainType) (q : Place) (x : Typed) (c g : ℕ) → BaseIn base → ValueIn W p x c g → IfOk (bound_of base q x) (BoundIn p)
  unfolding bound_of not_long finish BaseIn
  bound_in p base q x c g b h = by (is_long x.kind) refl _ base b
    where
      fitted_bound : (k : PlainType) (f : Bool) → TypeIn k → is_ordinal k ≡ true → IfOk (fitted_if f k q x) (BoundIn p)
      fitted_bound k true i o = record { kind = i; short = ordinal_not_long k o }
      fitted_bound k false i o = tt

      by : (l : Bool) → is_long x.kind ≡ l → (cause : Cause) (base : Option PlainType) → BaseIn base
          → IfOk (and_then (only (not l) cause q) (λ u. finish (bound_aim base q) x)) (BoundIn p)
      by true e cause base b = tt
      by false e cause None b = record { kind = h.kind; short = e }
      by false e cause (Some k) b = fitted_bound k (conforms x.kind k) b.0 b.1

  pub bounds_checked : (q : Place) (open_low : Bool) (low high : s.Expr) (open_high : Bool) → Checks W low → Checks W high
      → ChecksBounds W (s.Between q open_low low high open_high)
  unfolding of_interval IntervalWritten CheckedIn AimIn
  bounds_checked q open_low low high open_high l k = record {
    by = λ flat p a base.
        bind W flat (under W flat (λ pre. (
          record {
            around = constant_around W flat p a (first low) pre.0;
            phrase = λ e. constant_phrase W p a (first low);
            written = pre.2.0;
          },
          tt,
        )) (l.by flat (constant_spot W p a) (in_constant (first low) a) (Free (first low)))) (λ i c g.
        bind W flat (plainly W flat {P = BoundIn (constant_spot W p a)} (bound_of base (first low) i)
        (λ pre. bound_in (constant_spot W p a) base (first low) i c g pre.0.1 pre.1)) (λ x c1 g1.
        bind W flat (plainly W flat {P = λ n. Unit {0}} (bound (first low) x) (λ pre. any_ok (bound (first low) x))) (λ m c' g'.
        bind W flat (under W flat (λ pre. (
          record {
            around = constant_around W flat p a (first high) pre.0.0.0.0;
            phrase = λ e. constant_phrase W p a (first high);
            written = pre.0.0.0.2.1;
          },
          tt,
        )) (k.by flat (constant_spot W p a) (in_constant (first high) a) (Free (first high)))) (λ j d h.
        bind W flat (plainly W flat {P = BoundIn (constant_spot W p a)} (bound_of base (first high) j)
        (λ pre. bound_in (constant_spot W p a) base (first high) j d h pre.0.0.0.0.1 pre.1)) (λ y d1 h1.
        bind W flat (plainly W flat {P = λ n. Unit {0}} (bound (first high) y) (λ pre. any_ok (bound (first high) y))) (λ n d' h'.
        bind W flat (plainly W flat {P = BaseType} (or_refuse (interval_base base x.kind m y.kind n) _ q)
        (λ pre. refused_base (interval_base base x.kind m y.kind n) _ q
        (interval_bases base x.kind y.kind m n pre.0.0.0.0.0.0.1 (pre.0.0.0.0.1).kind (pre.0.0.0.0.1).short))) (λ z i' j'.
        ended W flat (subrange q z open_low m n open_high) (λ pre. subrange_in q z open_low m n open_high pre.1))))))));
  }

  pub type_plain : (q : Place) → ChecksType W (s.Integer q) × ChecksType W (s.Cardinal q) × ChecksType W (s.Boolean q) × ChecksType W
      (s.Character q) × ChecksType W (s.String q) × ChecksType W (s.LongInteger q) × ChecksType W (s.LongCardinal q)
  unfolding type_exp TypeIn
  type_plain q = (
    record { by = λ flat p a. given W flat v.Integer (λ pre. tt) },
    record { by = λ flat p a. given W flat v.Cardinal (λ pre. tt) },
    record
        { by = λ flat p a. given W flat v.Boolean (λ pre. tt) },
    record { by = λ flat p a. given W flat v.Character (λ pre. tt) },
    record { by = λ flat p a. given W flat v.String (λ pre. tt) },
    record { by = λ flat p a. given W flat v.LongInteger (λ pre. tt) },
    record { by = λ flat p a. given W flat v.LongCardinal (λ pre. tt) },
  )

  pub type_called : (x : QualifiedName) → ChecksType W (s.Called x)
  unfolding type_exp
  type_called x = record { by = λ flat p a. type_is_seen W flat a x (λ pre. pre.0) }

  length_of_names : (xs : List Identifier) → length (names_of xs) ≡ length xs
  length_of_names [] = refl
  length_of_names (x ∷ xs) = ap suc (length_of_names xs)

  some_names : (xs : List Identifier) → xs ≢ [] → 0 < length xs
  some_names [] h = absurd (h refl)
  some_names (x ∷ xs) h = omega arith

  pub type_enumeration : (q : Place) (xs : List Identifier) → ChecksType W (s.Enumeration q xs)
  unfolding type_exp few TypeWritten TypeIn kind_of
  type_enumeration q xs = record { by = λ flat p a. by flat p a (nat_le (length xs) ENUMERATION_ELEMENTS) refl _ }
    where
      type : Around → PlainType
      type a = v.Enumeration (origin a.known q) (names_of xs)

      by : (flat : Bool) (p : Spot) (a : Around) (b : Bool) → nat_le (length xs) ENUMERATION_ELEMENTS ≡ b → (cause : Cause)
          → Rule W flat (AroundIn W flat p a × (xs ≢ [])) (λ k i j. TypeIn k) (elements a (type a) 0 xs >>=
          (λ u. lift (only b cause q) >>= (λ w. pure (type a))))
      by flat p a true e cause =
          let small : length xs ≤ 65536 = leb-true (length xs) ENUMERATION_ELEMENTS e in
          bind W flat (elements_in W flat a (type a) 0 xs (λ pre. (
            omega (arith, length_of_names xs, some_names xs pre.1),
            omega
                (arith, length_of_names xs, small),
          )) refl (omega (arith, small))) (λ u c g.
          bind W flat (plainly W flat {P = λ u. Unit {0}} (only true cause q) (λ pre. tt)) (λ w i j.
          given W flat (type a) (λ pre. (omega (arith, length_of_names xs, some_names xs pre.0.0.1), omega (arith, length_of_names xs, small)))))
      by flat p a false e cause = refused_behind W flat {B = Unit {0}} (elements a (type a) 0 xs) cause q (λ w. pure (type a))

  pub type_subrange : (b : TypeBase) (i : s.Interval) → ChecksBounds W i → ChecksType W (s.Subrange b i)
  unfolding type_exp TypeWritten
  type_subrange b i k = record {
    by = λ flat p a.
        bind W flat (base_is_seen W flat a b (λ pre. pre.0)) (λ base c g.
        under W flat (λ pre. (pre.0.0, pre.1, pre.0.1)) (k.by flat p a base));
  }

  pub type_array : (q : Place) (i e : s.TypeExp) → ChecksType W i → ChecksType W e → ChecksType W (s.Array q i e)
  unfolding type_exp TypeWritten
  type_array q i e l k = record {
    by = λ flat p a.
        bind W flat (under W flat (λ pre. (pre.0, pre.1.0)) (l.by flat p a)) (λ x c g.
        bind W flat (tested W flat (is_index x) _ (first_of_type i)) (λ u d h.
        bind W flat (under W flat (λ pre. (pre.0.0.0, pre.0.0.1.1)) (k.by flat p a)) (λ y m n.
        ended W flat (limited q (v.Array x y)) (λ pre. limited_array q x y pre.0.0.1 pre.1 (index_elements x pre.0.0.1 pre.0.1)))));
  }

  pub type_record : (q : Place) (fs : s.FieldList) → ChecksFields W fs → ChecksType W (s.Record q fs)
  unfolding type_exp TypeWritten
  type_record q fs k = record {
    by = λ flat p a.
        bind W flat (under W flat (λ pre. (pre.0, pre.1.1)) (k.by flat p a)) (λ x c g.
        ended W flat (limited q (v.Record (origin a.known q) (parts_of x))) (λ pre. limited_record q (origin a.known q) (parts_of x)
        (parts_in x pre.1.0)
        (some_part x (pre.1.1 pre.0.1.0))));
  }

  -- ---- fields
  pub each_field : (k : PlainType) (xs : List Identifier) → TypeIn k → FieldsIn (each_of k xs)
  unfolding FieldsIn
  each_field k [] h = tt
  each_field k (x ∷ xs) h = (h, each_field k xs h)

  pub and_fields : (fs gs : List PlainField) → FieldsIn fs → FieldsIn gs → FieldsIn (fs ++ gs)
  unfolding FieldsIn
  and_fields [] gs h i = i
  and_fields (f ∷ fs) gs h i = (h.0, and_fields fs gs h.1 i)

  some_fields : (k : PlainType) (xs : List Identifier) (fs : List PlainField) → xs ≢ [] → (each_of k xs ++ fs) ≢ []
  some_fields k [] fs h = absurd (h refl)
  some_fields k (x ∷ xs) fs h = λ e. let d : suc (length (each_of k xs ++ fs)) ≡ 0 = ap length e in omega (arith, d)

  pub fields_named : (fs : s.NamedFields) → ChecksNamed W fs → ChecksFields W (s.WithNames fs)
  unfolding fields_of FieldsWritten
  fields_named fs k = record { by = λ flat p a. k.by flat p a [] }

  pub fields_unnamed : (es : s.TypeExps) → ChecksTypes W es → ChecksFields W (s.Unnamed es)
  unfolding fields_of FieldsWritten
  fields_unnamed es k = record { by = λ flat p a. k.by flat p a }

  pub named_none : ChecksNamed W s.NoFields
  unfolding named_fields HasField FieldsIn
  named_none = record { by = λ flat p a before. given W flat [] (λ pre. (tt, λ h. absurd h)) }

  pub named_more : (xs : List Identifier) (e : s.TypeExp) (rest : s.NamedFields) → ChecksType W e → ChecksNamed W rest
      → ChecksNamed W (s.AndFields xs e rest)
  unfolding named_fields NamedWritten
  named_more xs e rest l k = record {
    by = λ flat p a before.
        bind W flat (plainly W flat {P = λ u. Unit {0}} (distinct before xs) (λ pre. any_ok (distinct before xs))) (λ u c g.
        bind W flat (under W flat (λ pre. (pre.0.0, pre.0.1.1)) (l.by flat p a)) (λ x d h.
        bind W flat (under W flat (λ pre. (pre.0.0.0, pre.0.0.1.2)) (k.by flat p a (before ++ names_of xs))) (λ fs m n.
        given W flat (each_of x xs ++ fs) (λ pre. (
          and_fields (each_of x xs) fs (each_field x xs pre.0.1) pre.1.0,
          λ h. some_fields x xs fs
              pre.0.0.0.1.0,
        )))));
  }

  pub types_none : ChecksTypes W s.NoTypes
  unfolding unnamed_fields HasField FieldsIn
  types_none = record { by = λ flat p a. given W flat [] (λ pre. (tt, λ h. absurd h)) }

  pub types_more : (e : s.TypeExp) (rest : s.TypeExps) → ChecksType W e → ChecksTypes W rest → ChecksTypes W (s.AndType e rest)
  unfolding unnamed_fields TypesWritten FieldsIn
  types_more e rest l k = record {
    by = λ flat p a.
        bind W flat (under W flat (λ pre. (pre.0, pre.1.0)) (l.by flat p a)) (λ x d h.
        bind W flat (under W flat (λ pre. (pre.0.0, pre.0.1.1)) (k.by flat p a)) (λ fs m n.
        given W flat (record { name = None; kind = x } ∷ fs) (λ pre. (
          (pre.0.1, pre.1.0),
          λ h e. let d : suc (length fs) ≡ 0 = ap length e in omega
              (arith, d),
        ))));
  }
