-- Fields as they are written keep a law on types: their types, their names, and that no name stands twice.
use Rattle.std.specs.Prelude.{ℕ, ◌≡◌, ◌≢◌, ◌+◌, ◌≤◌, Bool, true, false, not, ◌||◌, None, List, [], ◌∷◌, ◌++◌, length, bytes_eq, IfOk}
use Rattle.std.proofs.Common.{refl, sym, subst, ap, arith, inl, inr}
use Rattle.std.proofs.lemmas.List.Elements.{All-head, All-tail}
use Rattle.mesa_base.specs.declared.identifier.Identifier.{Identifier}
use Rattle.syntax_trees.specs.Syntax as s
use Rattle.interface_records.specs.PlainTypes.{PlainType, PlainField}
use Rattle.check_rules.specs.Scopes.{has}
use Rattle.check_rules.specs.Steps.{only}
use Rattle.check_rules.specs.Parts.{distinct, each_of, names_of}
use Rattle.interface_records.specs.Spelled.{EachHasName, NoneHasName, names_among}
use Rattle.check_rules.specs.TreeNames.{AllNames, Named, FieldsNamed, LabeledNamed}
use Rattle.check_rules.specs.Written.{HasField, FieldsWritten, NamedWritten}
use Rattle.check_rules.specs.declared.fault.Cause.TheVariants.{TwiceDeclared}
use Rattle.typing_laws.proofs.Coming.{bit}
use Rattle.typing_laws.proofs.Distinct.{times, times_append, same_name, turned_false, bit_small}
use Rattle.typing_laws.proofs.Outcomes.{ok_only, ok_as}
use Rattle.check_rules.proofs.SoundSame.{bytes_itself}
use Rattle.typing_laws.proofs.TypeLaws.{TypeLaw, FieldsHave, NamesFine, FieldsMade, Text}
use Rattle.typing_laws.proofs.FineTypes.{then_fine}

-- ---- fields of one type under several names
pub each_have : (P : PlainType → Type 0) (k : PlainType) → P k → (xs : List Identifier) (fs : List PlainField) → FieldsHave P fs
    → FieldsHave P (each_of k xs ++ fs)
unfolding FieldsHave
each_have P k h [] fs i = i
each_have P k h (x ∷ xs) fs i = (h, each_have P k h xs fs i)

pub each_named : (k : PlainType) (xs : List Identifier) (fs : List PlainField) → AllNames xs → NamesFine fs → NamesFine (each_of k xs ++ fs)
unfolding NamesFine
each_named k [] fs h i = i
each_named k (x ∷ xs) fs h i = (All-head Named x xs h, each_named k xs fs (All-tail Named x xs h) i)

pub each_has : (k : PlainType) (xs : List Identifier) (fs : List PlainField) → EachHasName fs → EachHasName (each_of k xs ++ fs)
unfolding EachHasName
each_has k [] fs h = h
each_has k (x ∷ xs) fs h = (refl, each_has k xs fs h)

each_among : (k : PlainType) (xs : List Identifier) (fs : List PlainField) → names_among (each_of k xs ++ fs) ≡ names_of xs ++ names_among fs
each_among k [] fs = refl
each_among k (x ∷ xs) fs = ap (λ ns. x.name ∷ ns) (each_among k xs fs)

pub some_each : (k : PlainType) (xs : List Identifier) (fs : List PlainField) → xs ≢ [] → (each_of k xs ++ fs) ≢ []
some_each k [] fs h = absurd (h refl)
some_each k (x ∷ xs) fs h = λ e. absurd (omega (arith, ap length e))

-- ---- names that stand once
-- none twice, and none of those before
unfoldable pub Apart : List (List ℕ) → List (List ℕ) → Type 0
Apart before ns = (n : List ℕ) → times n ns + bit (has n before) ≤ 1

has_itself : (x : List ℕ) (before : List (List ℕ)) → has x (x ∷ before) ≡ true
unfolding has
has_itself x before = ap (λ b. b || has x before) (bytes_itself x)

bit_or : (a b : Bool) → bit b ≤ bit (a || b)
bit_or true b = bit_small b
bit_or false b = omega arith

bit_or_left : (a b : Bool) → bit a ≤ bit (a || b)
bit_or_left true b = omega arith
bit_or_left false b = omega arith

has_more : (n x : List ℕ) (before : List (List ℕ)) → bit (has n before) ≤ bit (has n (x ∷ before))
unfolding has
has_more n x before = bit_or (bytes_eq n x) (has n before)

-- a name that is none of those before
pub apart_one : (before : List (List ℕ)) (x : Identifier) (xs : List Identifier) → has x.name before ≡ false → Apart (x.name ∷ before) (names_of xs)
    → Apart before (names_of (x ∷ xs))
unfolding Apart
apart_one before x xs e h n = by (h n) (bytes_eq x.name n) refl
  where
    by : times n (names_of xs) + bit (has n (x.name ∷ before)) ≤ 1 → (b : Bool) → bytes_eq x.name n ≡ b
        → bit b + times n (names_of xs) + bit (has n before) ≤ 1
    by h true d =
        let same : x.name ≡ n = same_name x.name n d in
        let here : has n (x.name ∷ before) ≡ true = subst (λ y. has y (x.name ∷ before) ≡ true) same (has_itself x.name before) in
        let new : has n before ≡ false = subst (λ y. has y before ≡ false) same e in
        omega (arith, h, ap bit here, ap bit new)
    by h false d = omega (arith, h, has_more n x.name before)

pub none_apart : (before : List (List ℕ)) → Apart before []
unfolding Apart
none_apart before n = omega (arith, bit_small (has n before))

pub distinct_apart : (before : List (List ℕ)) (xs : List Identifier) → IfOk (distinct before xs) (λ _. Apart before (names_of xs))
unfolding distinct
distinct_apart before [] = none_apart before
distinct_apart before (x ∷ xs) =
    then_fine (λ _. not (has x.name before) ≡ true) (λ _. Apart before (names_of (x ∷ xs))) (only (not (has x.name before)) TwiceDeclared x.place) _
    (ok_only (not (has x.name before)) TwiceDeclared x.place) (λ u e.
    ok_as (λ _. Apart (x.name ∷ before) (names_of xs)) (λ _. Apart before (names_of (x ∷ xs))) (distinct (x.name ∷ before) xs)
    (distinct_apart (x.name ∷ before) xs) (λ u h. apart_one before x xs (turned_false (has x.name before) e) h))

has_append : (n : List ℕ) (xs ys : List (List ℕ)) → bit (has n xs) ≤ bit (has n (xs ++ ys))
unfolding has
has_append n [] ys = omega (arith, bit_small (has n ys))
has_append n (x ∷ xs) ys = by (bytes_eq n x) (has_append n xs ys)
  where
    by : (b : Bool) → bit (has n xs) ≤ bit (has n (xs ++ ys)) → bit (b || has n xs) ≤ bit (b || has n (xs ++ ys))
    by true h = omega arith
    by false h = h

has_behind : (n : List ℕ) (xs ys : List (List ℕ)) → bit (has n ys) ≤ bit (has n (xs ++ ys))
unfolding has
has_behind n [] ys = omega arith
has_behind n (x ∷ xs) ys = omega (arith, has_behind n xs ys, bit_or (bytes_eq n x) (has n (xs ++ ys)))

stands : (n : List ℕ) (xs : List (List ℕ)) → times n xs ≤ 1 → times n xs ≤ bit (has n xs)
unfolding has
stands n [] h = omega arith
stands n (x ∷ xs) h = by (bytes_eq x n) refl h (stands n xs)
  where
    by : (b : Bool) → bytes_eq x n ≡ b → bit b + times n xs ≤ 1 → (times n xs ≤ 1 → times n xs ≤ bit (has n xs))
        → bit b + times n xs ≤ bit (bytes_eq n x || has n xs)
    by true e i r =
        let here : bytes_eq n x ≡ true = subst (λ y. bytes_eq n y ≡ true) (sym (same_name x n e)) (bytes_itself n) in
        omega (arith, i, ap bit here, bit_or_left (bytes_eq n x) (has n xs))
    by false e i r = omega (arith, r (omega (arith, i)), bit_or (bytes_eq n x) (has n xs))

-- names behind others
pub apart_more : (before : List (List ℕ)) (xs : List Identifier) (k : PlainType) (fs : List PlainField) → Apart before (names_of xs)
    → Apart (before ++ names_of xs) (names_among fs)
    → Apart before (names_among (each_of k xs ++ fs))
unfolding Apart
apart_more before xs k fs h i = λ n. omega (
  arith,
  h n,
  i n,
  ap (times n) (each_among k xs fs),
  times_append n (names_of xs) (names_among fs),
  stands n (names_of xs) (omega (arith, h n)),
  has_append n before (names_of xs),
  has_behind n before (names_of xs),
  bit_small (has n before),
  bit_small (has n (before ++ names_of xs)),
)

-- ---- fields of a record
pub record NamedFine (L : TypeLaw) (taken : List (List ℕ)) (fs : s.NamedFields) (gs : List PlainField) : Type 0 where
  pub kinds : FieldsHave L.Kept gs
  pub names : L.Named → NamesFine gs
  pub all : EachHasName gs
  pub apart : Apart taken (names_among gs)
  pub some : L.Written → HasField (s.WithNames fs) → gs ≢ []

pub record UnnamedFine (L : TypeLaw) (es : s.TypeExps) (gs : List PlainField) : Type 0 where
  pub kinds : FieldsHave L.Kept gs
  pub names : NamesFine gs
  pub none : NoneHasName gs
  pub nothing : names_among gs ≡ []
  pub some : HasField (s.Unnamed es) → gs ≢ []

pub record ListFine (L : TypeLaw) (gs : List PlainField) : Type 0 where
  pub kinds : FieldsHave L.Kept gs
  pub made : FieldsMade L.Written L.Named gs

module _ (L : TypeLaw) where
  pub no_named : (taken : List (List ℕ)) → NamedFine L taken s.NoFields []
  unfolding FieldsHave NamesFine EachHasName Apart HasField
  no_named taken = record {
    kinds = tt;
    names = λ l. tt;
    all = tt;
    apart = λ n. omega (arith, bit_small (has n taken));
    some = λ l h. absurd h;
  }

  pub more_named : (taken : List (List ℕ)) (xs : List Identifier) (e : s.TypeExp) (rest : s.NamedFields)
      → Text L (NamedWritten (s.AndFields xs e rest)) (LabeledNamed (s.AndFields xs e rest)) → Apart taken (names_of xs)
      → (k : PlainType) → L.Kept k → (gs : List PlainField) → NamedFine L (taken ++ names_of xs) rest gs
      → NamedFine L taken (s.AndFields xs e rest) (each_of k xs ++ gs)
  unfolding NamedWritten LabeledNamed
  more_named taken xs e rest x d k h gs i = record {
    kinds = each_have L.Kept k h xs gs i.kinds;
    names = λ l. each_named k xs gs (x.named l).0 (i.names l);
    all = each_has k xs gs i.all;
    apart = apart_more taken xs k gs d i.apart;
    some = λ l f. some_each k xs gs (x.written l).0;
  }

  pub no_unnamed : UnnamedFine L s.NoTypes []
  unfolding FieldsHave NamesFine NoneHasName HasField
  no_unnamed = record { kinds = tt; names = tt; none = tt; nothing = refl; some = λ h. absurd h }

  pub more_unnamed : (e : s.TypeExp) (es : s.TypeExps) (k : PlainType) → L.Kept k → (gs : List PlainField) → UnnamedFine L es gs
      → UnnamedFine L (s.AndType e es) (record { name = None; kind = k } ∷ gs)
  unfolding FieldsHave NamesFine NoneHasName
  more_unnamed e es k h gs i = record {
    kinds = (h, i.kinds);
    names = (tt, i.names);
    none = (refl, i.none);
    nothing = i.nothing;
    some = λ f d. absurd (omega (arith, ap length d));
  }

  pub named_list : (fs : s.NamedFields) (gs : List PlainField)
      → Text L (HasField (s.WithNames fs) × FieldsWritten (s.WithNames fs)) (FieldsNamed (s.WithNames fs)) → NamedFine L [] fs gs → ListFine L gs
  unfolding Apart
  named_list fs gs x h = record {
    kinds = h.kinds;
    made = record { some = λ l. h.some l (x.written l).0; names = h.names; all = inl h.all; once = λ n. omega (arith, h.apart n) };
  }

  pub unnamed_list : (es : s.TypeExps) (gs : List PlainField)
      → Text L (HasField (s.Unnamed es) × FieldsWritten (s.Unnamed es)) (FieldsNamed (s.Unnamed es)) → UnnamedFine L es gs → ListFine L gs
  unnamed_list es gs x h = record {
    kinds = h.kinds;
    made = record {
      some = λ l. h.some (x.written l).0;
      names = λ l. h.names;
      all = inr h.none;
      once = λ n. omega (arith, ap (times n) h.nothing);
    };
  }
