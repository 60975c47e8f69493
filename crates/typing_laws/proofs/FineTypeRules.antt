-- Types as they are written keep a law on types: limits, elements, bounds, arrays and records.
use Rattle.std.specs.Prelude.{ℕ, ◌≡◌, ◌+◌, ◌≤◌, ◌<◌, Bool, true, false, not, ◌&&◌, ◌||◌, Option, Some, None, Ok, Err, List, [], ◌∷◌, length, cond, bytes_eq, IfOk, is_some, nat_le, if◌then◌else◌}
use Rattle.std.proofs.Common.{refl, sym, subst, ap, arith}
use Rattle.std.proofs.lemmas.Bool.{leb-true}
use Rattle.mesa_base.specs.declared.place.Place.{Place}
use Rattle.mesa_base.specs.declared.limits.TheConstants.{TYPE_WORDS, TYPE_DEPTH, ENUMERATION_ELEMENTS}
use Rattle.mesa_base.specs.declared.identifier.Identifier.{Identifier}
use Rattle.syntax_trees.specs.Syntax as s
use Rattle.mesa_types.specs.Constants.{constant}
use Rattle.mesa_types.specs.Operators.{shifted, truth}
use Rattle.check_rules.specs.Typed as t
use Rattle.check_rules.specs.Typed.{Base, Signed, Unsigned}
use Rattle.interface_records.specs.PlainTypes as v
use Rattle.interface_records.specs.PlainTypes.{PlainType, PlainField, base_of, depth_of, is_text, parts_of, same, sign_of, words_of, is_long, is_ordinal}
use Rattle.check_rules.specs.Scopes.{Scope, innermost, outer}
use Rattle.check_rules.specs.Meanings as m
use Rattle.check_rules.specs.Meanings.{Meaning}
use Rattle.check_rules.specs.Steps.{State, Checked, and_then, ◌>>=◌, pure, lift, only, or_refuse}
use Rattle.check_rules.specs.Around.{Around}
use Rattle.check_rules.specs.Parts.{names_of}
use Rattle.check_rules.specs.Operators.{Sort, Number, Letter, Truth, Other, sort_of, sort_of_base, LongNumber}
use Rattle.check_rules.specs.Names.{is_declared, element_in}
use Rattle.check_rules.specs.Ranges.{Typed}
use Rattle.check_rules.specs.TreeNames.{TypeNamed}
use Rattle.check_rules.specs.Written.{TypeWritten}
use Rattle.check_rules.specs.TypeRules.{origin, limited, elements, few, is_index, literal_word, bound, fits_integer, fits_cardinal, subrange, subrange_if, number_base, same_base, bounds_base, base_of_bounds, interval_base}
use Rattle.check_rules.specs.declared.fault.Cause.TheVariants.{TypeTooLarge, TwiceDeclared, NotConstant}
use Rattle.typing_laws.proofs.Coming.{bit}
use Rattle.typing_laws.proofs.Distinct.{times, same_name, turned_false, bit_small}
use Rattle.typing_laws.proofs.Keeping.{OfSome}
use Rattle.typing_laws.proofs.Outcomes.{length_of_map, ok_only, ok_as}
use Rattle.check_rules.proofs.SoundSame.{types_same}
use Rattle.check_rules.proofs.SoundTypes.{both_left, both_right, no_truth, no_lie, none_is_no, ordinal_not_long}
use Rattle.typing_laws.proofs.TypeLaws.{TypeLaw, FieldsHave, FieldsMade, Text}
use Rattle.typing_laws.proofs.FineTypes.{MeaningFine, ScopeFine, ScopesFine, StateFine, Fine, AroundFine, lifted, then_fine}

-- ---- limits
pub limited_fine : (L : TypeLaw) (p : Place) (k : PlainType) → (words_of k ≤ TYPE_WORDS → depth_of k ≤ TYPE_DEPTH → L.Kept k) → IfOk (limited p k) L.Kept
unfolding limited
limited_fine L p k h = then_fine (λ _. (nat_le (words_of k) TYPE_WORDS && nat_le (depth_of k) TYPE_DEPTH) ≡ true) L.Kept
    (only (nat_le (words_of k) TYPE_WORDS && nat_le (depth_of k) TYPE_DEPTH) TypeTooLarge p) (λ _. Ok k)
    (ok_only (nat_le (words_of k) TYPE_WORDS && nat_le (depth_of k) TYPE_DEPTH) TypeTooLarge p)
    (λ u e. h (leb-true (words_of k) TYPE_WORDS (both_left (nat_le (words_of k) TYPE_WORDS) (nat_le (depth_of k) TYPE_DEPTH) e))
    (leb-true (depth_of k) TYPE_DEPTH (both_right (nat_le (words_of k) TYPE_WORDS) (nat_le (depth_of k) TYPE_DEPTH) e)))

-- ---- elements of an enumeration
pub updated_fine : (L : TypeLaw) (b : Bool) (x : Meaning) (o : Option Meaning) → MeaningFine L x → OfSome (MeaningFine L) o
    → OfSome (MeaningFine L) (cond b (Some x) o)
updated_fine L true x o h k = h
updated_fine L false x o h k = k

pub tested : {A : Type 0} (P : A → Type 0) (r : Checked (Unit {0})) (c : Checked A) → IfOk c P → IfOk (and_then r (λ _. c)) P
tested P (Ok u) c h = h
tested P (Err e) c h = tt

element_more : (b : Bool) (x n : List ℕ) (a : Meaning) (σ : State) → is_declared x σ ≡ false
    → bit (bytes_eq x n) + bit (is_declared n σ) ≤ bit (is_declared n (element_in b x a σ))
element_more b x n a σ e = go b (bytes_eq x n) refl
  where
    go : (b c : Bool) → bytes_eq x n ≡ c → bit c + bit (is_declared n σ) ≤ bit (is_declared n (element_in b x a σ))
    go true true h =
        let old : is_declared n σ ≡ false = subst (λ y. is_declared y σ ≡ false) (same_name x n h) e in
        let new : is_declared n (element_in true x a σ) ≡ true = in_scope (is_some (σ.coming n)) (bytes_eq x n) h (innermost σ.scopes n) in
        omega (arith, ap bit old, ap bit new)
      where
        in_scope : (d c : Bool) → c ≡ true → (o : Option Meaning) → (d || is_some (cond c (Some a) o)) ≡ true
        in_scope true c i o = refl
        in_scope false true i o = refl
        in_scope false false i o = no_truth i
    go false true h =
        let old : is_declared n σ ≡ false = subst (λ y. is_declared y σ ≡ false) (same_name x n h) e in
        let new : is_declared n (element_in false x a σ) ≡ true = coming (bytes_eq x n) h (σ.coming n) (is_some (innermost σ.scopes n)) in
        omega (arith, ap bit old, ap bit new)
      where
        coming : (c : Bool) → c ≡ true → (o : Option Meaning) (d : Bool) → (is_some (cond c (Some a) o) || d) ≡ true
        coming true i o d = refl
        coming false i o d = no_truth i
    go true false h = omega (arith, ap bit (in_scope (bytes_eq x n) h (is_some (σ.coming n)) (innermost σ.scopes n)))
      where
        in_scope : (c : Bool) → c ≡ false → (d : Bool) (o : Option Meaning) → (d || is_some (cond c (Some a) o)) ≡ (d || is_some o)
        in_scope false i d o = refl
        in_scope true i d o = no_truth (sym i)
    go false false h = omega (arith, ap bit (coming (bytes_eq x n) h (σ.coming n) (is_some (innermost σ.scopes n))))
      where
        coming : (c : Bool) → c ≡ false → (o : Option Meaning) (d : Bool) → (is_some (cond c (Some a) o) || d) ≡ (is_some o || d)
        coming false i o d = refl
        coming true i o d = no_truth (sym i)

elements_new : (a : Around) (k : PlainType) (i : ℕ) (xs : List Identifier) (σ : State)
    → IfOk (elements a k i xs σ) (λ _. (n : List ℕ) → times n (names_of xs) + bit (is_declared n σ) ≤ 1)
unfolding elements
elements_new a k i [] σ = λ n. omega (arith, bit_small (is_declared n σ))
elements_new a k i (x ∷ xs) σ =
    let next : State = element_in a.is_outermost x.name (m.Constant k i) σ in
    then_fine (λ _. not (is_declared x.name σ) ≡ true) (λ _. (n : List ℕ) → times n (names_of (x ∷ xs)) + bit (is_declared n σ) ≤ 1)
    (only (not (is_declared x.name σ)) TwiceDeclared x.place) _ (ok_only (not (is_declared x.name σ)) TwiceDeclared x.place) (λ u e.
    ok_as (λ _. (n : List ℕ) → times n (names_of xs) + bit (is_declared n next) ≤ 1) (λ _. (n : List ℕ) → times n (names_of (x ∷ xs)) + bit (is_declared n σ)
    ≤ 1) (elements a k (i + 1) xs next) (elements_new a k (i + 1) xs next) (λ u h n.
    omega (arith, h n, element_more a.is_outermost x.name n (m.Constant k i) σ (turned_false (is_declared x.name σ) e))))

elements_once : (a : Around) (k : PlainType) (xs : List Identifier) (σ : State) → IfOk (elements a k 0 xs σ) (λ _. (n : List ℕ) → times n (names_of xs) ≤ 1)
elements_once a k xs σ = ok_as (λ _. (n : List ℕ) → times n (names_of xs) + bit (is_declared n σ) ≤ 1) (λ _. (n : List ℕ) → times n (names_of xs) ≤ 1)
    (elements a k 0 xs σ) (elements_new a k 0 xs σ) (λ u h n. omega (arith, h n))

-- ---- what is known of a base, and of the bounds of a subrange of it
pub record BaseFine (L : TypeLaw) (k : PlainType) : Type 0 where
  pub kind : L.Kept k
  pub itself : base_of k ≡ Some k
  pub ordinal : is_ordinal k ≡ true

pub record BoundsFine (L : TypeLaw) (x y : ℕ) (k : PlainType) : Type 0 where
  pub base : BaseFine L k
  pub first : L.Worth k x
  pub last : L.Worth k y

-- a word that is one of a base, where its type has one
abbrev pub WorthAt : TypeLaw → PlainType → ℕ → Type 0
WorthAt L k n = (b : PlainType) → base_of k ≡ Some b → L.Worth b n

module _ (L : TypeLaw) where
  pub innermost_fine : (ss : List (Scope Meaning)) → ScopesFine L ss → ScopeFine L (innermost ss)
  unfolding ScopesFine ScopeFine
  innermost_fine [] h = λ x. tt
  innermost_fine (s ∷ ss) h = h.0

  pub outer_fine : (ss : List (Scope Meaning)) → ScopesFine L ss → ScopesFine L (outer ss)
  unfolding ScopesFine
  outer_fine [] h = tt
  outer_fine (s ∷ ss) h = h.1

  element_fine : (b : Bool) (x : List ℕ) (y : Meaning) → MeaningFine L y → (σ : State) → StateFine L σ → StateFine L (element_in b x y σ)
  unfolding ScopeFine ScopesFine
  element_fine true x y h σ g = record {
    scopes =
        ((λ z. updated_fine L (bytes_eq x z) y (innermost σ.scopes z) h (innermost_fine σ.scopes g.scopes z)), outer_fine σ.scopes g.scopes);
    coming = g.coming;
  }
  element_fine false x y h σ g = record { scopes = g.scopes; coming = λ z. updated_fine L (bytes_eq x z) y (σ.coming z) h (g.coming z) }

  elements_of_fine : (a : Around) (k : PlainType) → L.Kept k → (many : ℕ) → ((n : ℕ) → n < many → L.Worth k n) → (i : ℕ) (xs : List Identifier)
      → i + length xs ≤ many → (σ : State) → StateFine L σ
      → IfOk (elements a k i xs σ) (λ (r : Unit {0} × State). Unit {0} × StateFine L r.1)
  unfolding elements MeaningFine
  elements_of_fine a k h many w i [] e σ g = (tt, g)
  elements_of_fine a k h many w i (x ∷ xs) e σ g =
      tested (λ (r : Unit {0} × State). Unit {0} × StateFine L r.1) (only (not (is_declared x.name σ)) TwiceDeclared x.place)
      (elements a k (i + 1) xs (element_in a.is_outermost x.name (m.Constant k i) σ))
      (elements_of_fine a k h many w (i + 1) xs (omega (arith, e)) (element_in a.is_outermost x.name (m.Constant k i) σ)
      (element_fine a.is_outermost x.name (m.Constant k i) (h, w i (omega (arith, e))) σ g))

  -- the elements stand once, and are not too many, or the enumeration is refused
  pub enumeration_fine : (a : Around) (p : Place) (k : PlainType) (xs : List Identifier)
      → (((n : List ℕ) → times n (names_of xs) ≤ 1) → length xs ≤ ENUMERATION_ELEMENTS → L.Kept k) → (L.Kept k → (n : ℕ) → n < length xs → L.Worth k n)
      → Fine L L.Kept (elements a k 0 xs >>= (λ u. lift (few p xs) >>= (λ u. pure k)))
  unfolding few
  enumeration_fine a p k xs h w = record {
    in_state = λ σ g. by (elements a k 0 xs σ) (elements_once a k xs σ)
        (λ i. elements_of_fine a k i (length xs) (w i) 0 xs (omega arith) σ g)
        (nat_le (length xs) ENUMERATION_ELEMENTS) refl;
  }
    where
      by : (r : Checked (Unit {0} × State)) → IfOk r (λ _. (n : List ℕ) → times n (names_of xs) ≤ 1)
          → (L.Kept k → IfOk r (λ (x : Unit {0} × State). Unit {0} × StateFine L x.1))
          → (b : Bool) → nat_le (length xs) ENUMERATION_ELEMENTS ≡ b
          → IfOk (and_then {A = Unit {0} × State} {B = PlainType × State} r (λ x. and_then {A = Unit {0} × State} {B = PlainType × State}
          (and_then {A = Unit {0}} {B = Unit {0} × State} (only b TypeTooLarge p) (λ u. Ok (u, x.1))) (λ y. Ok (k, y.1))))
          (λ (x : PlainType × State). L.Kept x.0 × StateFine L x.1)
      by (Err e) i j b d = tt
      by (Ok x) i j false d = tt
      by (Ok x) i j true d = let kept : L.Kept k = h i (leb-true (length xs) ENUMERATION_ELEMENTS d) in (kept, (j kept).1)

  pub enumerated_fine : (a : Around) → AroundFine L a → (p : Place) (xs : List Identifier)
      → Text L (TypeWritten (s.Enumeration p xs)) (TypeNamed (s.Enumeration p xs))
      → Fine L L.Kept (elements a (v.Enumeration (origin a.known p) (names_of xs)) 0 xs >>= (λ u. lift (few p xs) >>= (λ u.
      pure (v.Enumeration (origin a.known p) (names_of xs)))))
  unfolding TypeWritten TypeNamed
  enumerated_fine a g p xs x = enumeration_fine a p (v.Enumeration (origin a.known p) (names_of xs)) xs
      (λ o l. L.enumeration (origin a.known p) xs (g.origins p) x.written x.named o l)
      (λ h n l. L.enumerated (origin a.known p) (names_of xs) n h (omega (arith, l, length_of_map (λ (x : Identifier). x.name) xs)))

  -- ---- bases and bounds
  pub base_fine : (k : PlainType) → L.Kept k → is_long k ≡ false → OfSome (BaseFine L) (base_of k)
  unfolding base_of is_ordinal
  base_fine v.Integer h f = record { kind = h; itself = refl; ordinal = refl }
  base_fine v.Cardinal h f = record { kind = h; itself = refl; ordinal = refl }
  base_fine v.LongInteger h f = no_lie f
  base_fine v.LongCardinal h f = no_lie f
  base_fine v.Boolean h f = record { kind = h; itself = refl; ordinal = refl }
  base_fine v.Character h f = record { kind = h; itself = refl; ordinal = refl }
  base_fine v.String h f = tt
  base_fine (v.Enumeration o xs) h f = record { kind = h; itself = refl; ordinal = refl }
  base_fine (v.Subrange k x y) h f = base_fine k (L.base k x y h) (ordinal_not_long k (L.ordinal_base k x y h))
  base_fine (v.Array i e) h f = tt
  base_fine (v.Record o ps) h f = tt

  pub bound_fine : (p : Place) (x : Typed) → OfSome (L.Worth x.kind) (constant x.value) → IfOk (bound p x) (WorthAt L x.kind)
  unfolding bound base_of
  bound_fine p x h = by x.kind x.value h
    where
      is_worth : (k : PlainType) (o : Option ℕ) → OfSome (L.Worth k) o → IfOk (or_refuse o NotConstant p) (WorthAt L k)
      is_worth k (Some n) h = λ b e. L.based k b n e h
      is_worth k None h = tt

      no_worth : (o : Option ℕ) → IfOk (or_refuse o NotConstant p) (WorthAt L v.String)
      no_worth (Some n) = λ b e. none_is_no b e
      no_worth None = tt

      by : (k : PlainType) (e : t.Expr) → OfSome (L.Worth k) (constant e) → IfOk (or_refuse (literal_word (is_text k) e) NotConstant p) (WorthAt L k)
      by v.String e h = no_worth (literal_word true e)
      by v.Integer e h = is_worth v.Integer (constant e) h
      by v.Cardinal e h = is_worth v.Cardinal (constant e) h
      by v.LongInteger e h = is_worth v.LongInteger (constant e) h
      by v.LongCardinal e h = is_worth v.LongCardinal (constant e) h
      by v.Boolean e h = is_worth v.Boolean (constant e) h
      by v.Character e h = is_worth v.Character (constant e) h
      by (v.Enumeration o xs) e h = is_worth (v.Enumeration o xs) (constant e) h
      by (v.Subrange k m n) e h = is_worth (v.Subrange k m n) (constant e) h
      by (v.Array i k) e h = is_worth (v.Array i k) (constant e) h
      by (v.Record o ps) e h = is_worth (v.Record o ps) (constant e) h

  -- the base that a word or a name says
  said_base : (k : PlainType) → L.Kept k → is_long k ≡ false → (x y : ℕ) → WorthAt L k x → WorthAt L k y → OfSome (BoundsFine L x y) (base_of k)
  said_base k h s x y i j = by (base_of k) refl (base_fine k h s)
    where
      by : (o : Option PlainType) → base_of k ≡ o → OfSome (BaseFine L) o → OfSome (BoundsFine L x y) o
      by None e f = tt
      by (Some b) e f = record { base = f; first = i b e; last = j b e }

  -- a word of a number
  number_word : (k : PlainType) (x : ℕ) → WorthAt L k x → (a : Base) → sort_of k ≡ Number a → L.Word x
  unfolding sort_of
  number_word k x h a e = by (base_of k) refl e
    where
      other_sort : {A : Type 0} → Other ≡ Number a → A
      other_sort e = absurd (no e)
        where
          no : Other ≡ Number a → ⊥
          no e = cc

      long_sort : {A : Type 0} (b : Base) → LongNumber b ≡ Number a → A
      long_sort b e = absurd (no e)
        where
          no : LongNumber b ≡ Number a → ⊥
          no e = cc

      by : (o : Option PlainType) → base_of k ≡ o → sort_of_base o ≡ Number a → L.Word x
      by (Some v.Integer) d e = L.word v.Integer x L.integer refl (h v.Integer d)
      by (Some v.Cardinal) d e = L.word v.Cardinal x L.cardinal refl (h v.Cardinal d)
      by (Some v.LongInteger) d e = long_sort Signed e
      by (Some v.LongCardinal) d e = long_sort Unsigned e
      by (Some v.Character) d e = absurd (no e)
        where
          no : Letter ≡ Number a → ⊥
          no e = cc
      by (Some v.Boolean) d e = absurd (no e)
        where
          no : Truth ≡ Number a → ⊥
          no e = cc
      by (Some v.String) d e = other_sort e
      by (Some (v.Enumeration o xs)) d e = other_sort e
      by (Some (v.Subrange b m n)) d e = other_sort e
      by (Some (v.Array i b)) d e = other_sort e
      by (Some (v.Record o ps)) d e = other_sort e
      by None d e = other_sort e

  integers : (x y : ℕ) → L.Word x → L.Word y → BoundsFine L x y v.Integer
  unfolding base_of is_ordinal
  integers x y h i = record { base = record { kind = L.integer; itself = refl; ordinal = refl }; first = L.number Signed x h; last = L.number Signed y i }

  cardinals : (x y : ℕ) → L.Word x → L.Word y → BoundsFine L x y v.Cardinal
  unfolding base_of is_ordinal
  cardinals x y h i = record { base = record { kind = L.cardinal; itself = refl; ordinal = refl }; first = L.number Unsigned x h; last = L.number Unsigned y i }

  numbers : (a b : Bool) (x y : ℕ) → L.Word x → L.Word y → OfSome (BoundsFine L x y) (number_base a b)
  numbers true b x y h i = integers x y h i
  numbers false true x y h i = cardinals x y h i
  numbers false false x y h i = tt

  -- the base of the bounds
  bounds_fine : (i j : PlainType) (x y : ℕ) → WorthAt L i x → WorthAt L j y → (a : Sort) → sort_of i ≡ a → (b : Sort) → sort_of j ≡ b
      → (other : Option PlainType) → OfSome (BoundsFine L x y) other
      → OfSome (BoundsFine L x y) (bounds_base a x b y other)
  bounds_fine i j x y h k (Number a) d (Number b) e other f = numbers (fits_integer a x && fits_integer b y) (fits_cardinal a x && fits_cardinal b y) x y
      (number_word i x h a d) (number_word j y k b e)
  bounds_fine i j x y h k (Number a) d (LongNumber b) e other f = f
  bounds_fine i j x y h k (Number a) d Letter e other f = f
  bounds_fine i j x y h k (Number a) d Truth e other f = f
  bounds_fine i j x y h k (Number a) d Other e other f = f
  bounds_fine i j x y h k (LongNumber a) d b e other f = f
  bounds_fine i j x y h k Letter d b e other f = f
  bounds_fine i j x y h k Truth d b e other f = f
  bounds_fine i j x y h k Other d b e other f = f

  one_base_fine : (i j : PlainType) → L.Kept i → is_long i ≡ false → (x y : ℕ) → WorthAt L i x → WorthAt L j y
      → OfSome (BoundsFine L x y) (same_base (base_of i) (base_of j))
  one_base_fine i j g s x y h k = by (base_of i) refl (base_fine i g s) (base_of j) refl
    where
      if_same : (a b : PlainType) → BaseFine L a → L.Worth a x → L.Worth b y → (c : Bool) → same a b ≡ c
          → OfSome (BoundsFine L x y) (if c then Some a else None)
      if_same a b f m n true e = record { base = f; first = m; last = subst (λ l. L.Worth l y) (sym (types_same a b e)) n }
      if_same a b f m n false e = tt

      by : (o : Option PlainType) → base_of i ≡ o → OfSome (BaseFine L) o → (p : Option PlainType) → base_of j ≡ p
          → OfSome (BoundsFine L x y) (same_base o p)
      by (Some a) d f (Some b) e = if_same a b f (h a d) (k b e) (same a b) refl
      by None d f p e = tt
      by (Some a) d f None e = tt

  -- of an interval: where its base is said, its bounds are of that type
  pub interval_base_fine : (base : Option PlainType) → OfSome (λ k. L.Kept k × (is_ordinal k ≡ true)) base → (i j : PlainType) → L.Kept i → is_long i ≡ false
      → OfSome (λ k. (i ≡ k) × (j ≡ k)) base → (x y : ℕ) → WorthAt L i x → WorthAt L j y
      → OfSome (BoundsFine L x y) (interval_base base i x j y)
  unfolding base_of_bounds
  interval_base_fine (Some k) f i j g s e x y h l =
      said_base k f.0 (ordinal_not_long k f.1) x y (subst (λ z. WorthAt L z x) e.0 h) (subst (λ z. WorthAt L z y) e.1 l)
  interval_base_fine None f i j g s e x y h l =
      bounds_fine i j x y h l (sort_of i) refl (sort_of j) refl (same_base (base_of i) (base_of j)) (one_base_fine i j g s x y h l)

  pub subrange_fine : (p : Place) (k : PlainType) (x y : ℕ) → BoundsFine L x y k → (open_low open_high : Bool)
      → IfOk (subrange p k open_low x y open_high) L.Kept
  unfolding subrange
  subrange_fine p k x y h open_low open_high = by (nat_le (shifted (sign_of k) x + truth open_low + truth open_high) (shifted (sign_of k) y)) refl
    where
      by : (b : Bool) → nat_le (shifted (sign_of k) x + truth open_low + truth open_high) (shifted (sign_of k) y) ≡ b
          → IfOk (subrange_if b p k open_low x y open_high) L.Kept
      by true e = L.subrange k open_low open_high x y h.base.kind h.base.itself h.base.ordinal h.first h.last e
      by false e = tt

  -- ---- arrays and records
  pub array_fine : (p : Place) (i e : PlainType) → L.Kept i → L.Kept e → is_index i ≡ true → Fine L L.Kept (lift (limited p (v.Array i e)))
  array_fine p i e h k d = lifted L.Kept (limited p (v.Array i e)) (limited_fine L p (v.Array i e) (λ w n. L.array i e h k d w n))

  pub record_fine : (a : Around) → AroundFine L a → (p : Place) (fs : List PlainField) → FieldsHave L.Kept fs → FieldsMade L.Written L.Named fs
      → Fine L L.Kept (lift (limited p (v.Record (origin a.known p) (parts_of fs))))
  record_fine a g p fs h k = lifted L.Kept (limited p (v.Record (origin a.known p) (parts_of fs)))
      (limited_fine L p (v.Record (origin a.known p) (parts_of fs)) (λ w n. L.fields (origin a.known p) fs (g.origins p) h k w n))
