-- Values keep a law on types: rules that look at no part of the text again, and what a name leads to.
use Rattle.std.specs.Prelude.{ℕ, ◌≡◌, ◌+◌, ◌≤◌, ◌<◌, Bool, true, false, not, Option, Some, None, Ok, Err, List, [], ◌∷◌, IfOk, nat_eq, nat_le, min, if◌then◌else◌}
use Rattle.std.proofs.Common.{refl, sym, subst, arith, ◌∙◌}
use Rattle.std.proofs.lemmas.Bool.{leb-true}
use Rattle.mesa_base.specs.declared.place.Place.{Place}
use Rattle.mesa_base.specs.declared.limits.TheConstants.{GREATEST_NUMBER}
use Rattle.mesa_base.specs.declared.identifier.Identifier.{Identifier}
use Rattle.mesa_types.specs.Constants.{constant}
use Rattle.mesa_types.specs.Operators as words
use Rattle.mesa_types.specs.declared.faces.ItemKind.{ItemKind}
use Rattle.syntax_trees.specs.declared.syntax.Operator.{Operator}
use Rattle.syntax_trees.specs.declared.syntax.Sign.{Sign}
use Rattle.syntax_trees.specs.declared.syntax.Sign.TheVariants.{Positive, Negative}
use Rattle.check_rules.specs.Typed as t
use Rattle.check_rules.specs.Typed.{Base, Signed, Unsigned, Every, Relation, Home}
use Rattle.interface_records.specs.PlainTypes as v
use Rattle.interface_records.specs.PlainTypes.{PlainType, PlainField, base_of, conforms, fields, array_parts, is_long, is_ordinal, is_text, one_ordinal_base, words_of}
use Rattle.check_rules.specs.Scopes.{Scope, nothing, outer}
use Rattle.check_rules.specs.Meanings as m
use Rattle.check_rules.specs.Meanings.{Meaning}
use Rattle.check_rules.specs.Steps.{State, Check, Checked, and_then, ◌>>=◌, pure, lift, only, in_scope, back, or_refuse, refuse}
use Rattle.check_rules.specs.Around.{Around, ArmLabel, in_constant}
use Rattle.check_rules.specs.Parts.{Found, found, has_name, field_named, kinds, kind_by, places_of, complete}
use Rattle.check_rules.specs.Operators.{Sort, Number, LongNumber, Letter, Truth, Other, Application, OfWords, OfLongs, Relating, Longs, Words, sort_of, operation, relating, number_type, long_type, fitted, beside, turned}
use Rattle.check_rules.specs.Ranges.{Typed, typed, Aim, Free, Into, Several, Arguments, finish, fitted_if, checked}
use Rattle.check_rules.specs.Values.{literal_of, number, letter, truth, string, number_in, is_truth, not_of, signed, signed_by, related_value, compared, negated_by, within_by, within, by_level, Level, Bare, Sums, Alls, Somes, Sum, closed, Done, done_by, step, summed, in_order, by_shape, by_aim, in_fields, by_keys, bound_aim, bound_of, made, Raises, is_kind, raises_by}
use Rattle.check_rules.specs.Reached.{Reached, Named, Value, Variable, Results, constant_value, reached, settled, results, value, is_length, length_of, field_of_fields, field, field_in, field_of_variable, field_of_value, part_of, Bracketed, InArray, InText, indexed_by, indexed, text_at, at_index, Shape, OfFields, OfElements, NoShape, shape_by, shape_of}
use Rattle.check_rules.specs.Statements.{Ends, bases, not_long, meets_bounds, is_long_interval, by_itself_of, enter_arm}
use Rattle.check_rules.specs.declared.fault.Cause.{Cause}
use Rattle.check_rules.specs.declared.fault.Cause.TheVariants.{GlobalsTooLarge, UnknownName, TypeMismatch, WrongCount}
use Rattle.typing_laws.proofs.Keeping.{OfSome, Keeps, Anything, Kept, From}
use Rattle.typing_laws.proofs.TypeLaws.{TypeLaw, FieldsHave}
use Rattle.typing_laws.proofs.FineTypes.{ItemFine, MeaningFine, ScopesFine, StateFine, Fine, AroundFine, Good, bind, done, wrong, lifted, any_ok, ensured, spending, then_fine, of_interface_fine}
use Rattle.typing_laws.proofs.FineConstants.{ApplicationFine, TypedFine, part_worth, none_of, relate_worth, relate_long_worth, within_worth, within_long_worth, not_worth, negated_worth, negated_long_worth, number_worth, long_worth, number_type_fine, long_type_fine, weaken, word_by_sort, fitted_long, operation_fine, word_step_worth, long_step_worth, given_worth}
use Rattle.check_rules.proofs.SoundTypes.{ordinal_not_long}
use Rattle.typing_laws.proofs.SoundOperators.{IsWord, GoodFor, operation_in}

-- ---- values
unfoldable pub AimFine : TypeLaw → Aim → Type 0
AimFine L (Into k p) = L.Kept k
AimFine L _ = Unit {0}

-- a value for a target has the target's type
unfoldable pub OfAim : Aim → Typed → Type 0
OfAim (Into k p) x = x.kind ≡ k
OfAim _ x = Unit {0}

pub record CheckedFine (L : TypeLaw) (aim : Aim) (x : Typed) : Type 0 where
  pub value : TypedFine L x
  pub aimed : OfAim aim x

unfoldable pub ReachedFine : TypeLaw → Reached → Type 0
ReachedFine L (Variable h ss k) = L.Kept k
ReachedFine L (Value n e k) = L.Kept k × OfSome (L.Worth k) (constant e)
ReachedFine L (Results e fs) = FieldsHave L.Kept fs × (constant e ≡ None)
ReachedFine L (Named x) = MeaningFine L x

unfoldable pub BracketedFine : TypeLaw → Bracketed → Type 0
BracketedFine L (InArray h ss i e) = L.Kept e
BracketedFine L (InText n e) = Unit {0}

abbrev pub PairFine : TypeLaw → PlainType × PlainType → Type 0
PairFine L p = L.Kept p.0 × L.Kept p.1

unfoldable pub ShapeFine : TypeLaw → Shape → Type 0
ShapeFine L (OfFields fs) = FieldsHave L.Kept fs
ShapeFine L (OfElements n k) = L.Kept k
ShapeFine L NoShape = Unit {0}

unfoldable pub KindsFine : TypeLaw → List PlainType → Type 0
KindsFine L [] = Unit {0}
KindsFine L (k ∷ ks) = L.Kept k × KindsFine L ks

pub record DoneFine (L : TypeLaw) (d : Done) : Type 0 where
  pub kind : L.Kept d.kind
  pub worth : OfSome (L.Worth d.kind) (constant (closed d.done))

-- a bound of a type, which is not LONG
pub record BoundFine (L : TypeLaw) (base : Option PlainType) (x : Typed) : Type 0 where
  pub value : TypedFine L x
  pub short : is_long x.kind ≡ false
  pub said : OfSome (λ k. x.kind ≡ k) base

pub record EndsFine (L : TypeLaw) (i : Ends) : Type 0 where
  pub low : L.Kept i.low.kind
  pub high : L.Kept i.high.kind

pub by_if : {A : Type 0} (P : A → Type 0) (b : Bool) (x y : Checked A) → IfOk x P → IfOk y P → IfOk (if b then x else y) P
by_if P true x y h k = h
by_if P false x y h k = k

pub or_ok : {A : Type 0} (P : A → Type 0) (o : Option A) (c : Cause) (p : Place) → OfSome P o → IfOk (or_refuse o c p) P
or_ok P (Some a) c p h = h
or_ok P None c p h = tt

module _ (L : TypeLaw) where
  -- ---- questions on types
  pub fields_fine : (k : PlainType) → L.Kept k → OfSome (FieldsHave L.Kept) (fields k)
  fields_fine (v.Record o ps) h = L.parts o ps h
  fields_fine _ h = tt

  pub elements_fine : (k : PlainType) → L.Kept k → OfSome (PairFine L) (array_parts k)
  elements_fine (v.Array i e) h = (L.index i e h, L.element i e h)
  elements_fine _ h = tt

  pub found_fine : (x : List ℕ) (n offset : ℕ) (fs : List PlainField) → FieldsHave L.Kept fs → OfSome (λ (f : Found). L.Kept f.kind) (found x n offset fs)
  unfolding found FieldsHave
  found_fine x n offset [] h = tt
  found_fine x n offset (f ∷ fs) h = either (has_name x f.name) (record { number = n; offset = offset; kind = f.kind })
      (found x (n + 1) (offset + words_of f.kind) fs) h.0 (found_fine x (n + 1) (offset + words_of f.kind) fs h.1)
    where
      either : (b : Bool) (g : Found) (o : Option Found) → L.Kept g.kind → OfSome (λ (f : Found). L.Kept f.kind) o
          → OfSome (λ (f : Found). L.Kept f.kind) (if b then Some g else o)
      either true g o i j = i
      either false g o i j = j

  pub kind_by_fine : (o : Option Found) → OfSome (λ (f : Found). L.Kept f.kind) o → L.Kept (kind_by o)
  kind_by_fine None h = L.integer
  kind_by_fine (Some f) h = h

  pub kinds_fine : (fs : List PlainField) → FieldsHave L.Kept fs → KindsFine L (kinds fs)
  unfolding FieldsHave KindsFine
  kinds_fine [] h = tt
  kinds_fine (f ∷ fs) h = (h.0, kinds_fine fs h.1)

  -- ---- values that go to their target
  pub finish_fine : (aim : Aim) → AimFine L aim → (x : Typed) → TypedFine L x → IfOk (finish aim x) (CheckedFine L aim)
  unfolding finish AimFine OfAim
  finish_fine (Free p) a x h = record { value = h; aimed = tt }
  finish_fine (Several p) a x h = record { value = h; aimed = tt }
  finish_fine (Into k p) a x h = fit (conforms x.kind k) refl
    where
      fit : (b : Bool) → conforms x.kind k ≡ b → IfOk (fitted_if b k p x) (CheckedFine L (Into k p))
      fit true e = record {
        value = record {
          kind = a;
          worth = given_worth L x.kind k x.value h.kind a e h.worth;
        };
        aimed = refl;
      }
      fit false e = tt

  pub finished : (aim : Aim) → AimFine L aim → (x : Typed) → TypedFine L x → Fine L (CheckedFine L aim) (lift (finish aim x))
  finished aim a x h = lifted (CheckedFine L aim) (finish aim x) (finish_fine aim a x h)

  pub truth_fine : (e : t.Expr) → OfSome (L.Worth v.Boolean) (constant e) → TypedFine L (truth e)
  truth_fine e h = record { kind = L.boolean; worth = h }

  pub literal_truth : (b : Bool) → TypedFine L (truth (t.Number (words.truth b)))
  unfolding constant
  literal_truth b = record { kind = L.boolean; worth = L.truths b }

  pub not_fine : (p : Place) (x : Typed) → IfOk (not_of p x) (TypedFine L)
  unfolding not_of
  not_fine p x = by_if (TypedFine L) (is_truth x.kind) (Ok (truth (t.Not x.value))) (refuse TypeMismatch p) (truth_fine (t.Not x.value) (not_worth L x.value)) tt

  pub signed_by_fine : (sign : Sign) (p : Place) (k : PlainType) → L.Kept k → (e : t.Expr) → OfSome (L.Worth k) (constant e) → (a : Sort) → sort_of k ≡ a
      → IfOk (signed_by sign p e a) (TypedFine L)
  signed_by_fine Positive p k h e w (Number b) d = record { kind = number_type_fine L b; worth = number_worth L k h (subst IsWord (sym d) tt) b e w }
  signed_by_fine Negative p k h e w (Number b) d = record { kind = number_type_fine L b; worth = negated_worth L b e }
  signed_by_fine Positive p k h e w (LongNumber b) d = record { kind = long_type_fine L b; worth = long_worth L k b d b e w }
  signed_by_fine Negative p k h e w (LongNumber b) d = record { kind = long_type_fine L b; worth = negated_long_worth L b e }
  signed_by_fine Positive p k h e w Letter d = tt
  signed_by_fine Positive p k h e w Truth d = tt
  signed_by_fine Positive p k h e w Other d = tt
  signed_by_fine Negative p k h e w Letter d = tt
  signed_by_fine Negative p k h e w Truth d = tt
  signed_by_fine Negative p k h e w Other d = tt

  pub signed_fine : (sign : Sign) (p : Place) (x : Typed) → TypedFine L x → IfOk (signed sign p x) (TypedFine L)
  unfolding signed
  signed_fine sign p x h = signed_by_fine sign p x.kind h.kind x.value h.worth (sort_of x.kind) refl

  related_fine : (o : Relation) (d e : t.Expr) (m : Relating) → TypedFine L (related_value o d e m)
  related_fine o d e (Words m) = truth_fine _ (relate_worth L m.base o (checked m.left d) (checked m.right e))
  related_fine o d e (Longs m) = truth_fine _ (relate_long_worth L m.base o (fitted m.left d) (fitted m.right e))

  pub compared_fine : (b : Bool) (o : Relation) (p l : Place) (x : Typed) (r : Place) (y : Typed) → IfOk (compared b o p l x r y) (TypedFine L)
  unfolding compared
  compared_fine b o p l x r y =
      then_fine Good (TypedFine L) (or_refuse (relating x.kind x.literal y.kind y.literal) TypeMismatch (beside p l (sort_of x.kind) r (sort_of y.kind))) _
      (any_ok (or_refuse (relating x.kind x.literal y.kind y.literal) TypeMismatch (beside p l (sort_of x.kind) r (sort_of y.kind))))
      (λ m u. related_fine (turned b o) x.value y.value m)

  pub within_fine : (b : Bool) (p l : Place) (x : Typed) (i : Ends) → IfOk (within b p l x i) (TypedFine L)
  unfolding within
  within_fine b p l x i = then_fine Good (TypedFine L) (meets_bounds p l x i) _ (any_ok (meets_bounds p l x i)) (λ m u. truth_fine _ (turn b (is_long_interval x i)))
    where
      lies : (l : Bool) → OfSome (L.Worth v.Boolean) (constant (within_by l x i))
      lies false = within_worth L (bases x.kind i) x.value i.low.value i.high.value i.open_low i.open_high
      lies true = within_long_worth L (bases x.kind i) (by_itself_of x) (by_itself_of i.low) (by_itself_of i.high) i.open_low i.open_high

      turn : (b l : Bool) → OfSome (L.Worth v.Boolean) (constant (negated_by b (within_by l x i)))
      turn true l = not_worth L (within_by l x i)
      turn false l = lies l

  word_literal_fine : (b : Base) (n : ℕ) → n < 65536 → TypedFine L (literal_of (number_type b) (t.Number n))
  unfolding constant
  word_literal_fine b n h = record { kind = number_type_fine L b; worth = L.number b n (L.small n h) }

  long_literal_fine : (b : Base) (n : ℕ) → n < 4294967296 → L.Kept (long_type b) × OfSome (L.Worth (long_type b)) (constant (t.LongNumber n))
  unfolding constant
  long_literal_fine b n h = (long_type_fine L b, L.long b n (L.long_small n h))

  pub number_fine : (n : ℕ) → TypedFine L (number n)
  unfolding number
  number_fine n = go (nat_le n 32767) (nat_le n 65535) (nat_le n 2147483647) refl refl refl
    where
      go : (a b c : Bool) → nat_le n 32767 ≡ a → nat_le n 65535 ≡ b → nat_le n 2147483647 ≡ c
          → TypedFine L (if a then literal_of v.Integer (t.Number n) else (if b then literal_of v.Cardinal (t.Number n)
          else (if c then literal_of v.LongInteger (t.LongNumber n) else typed v.LongCardinal (t.LongNumber (min n GREATEST_NUMBER)))))
      go true b c e f g = let few : n ≤ 32767 = leb-true n 32767 e in word_literal_fine Signed n (omega (arith, few))
      go false true c e f g = let few : n ≤ 65535 = leb-true n 65535 f in word_literal_fine Unsigned n (omega (arith, few))
      go false false true e f g =
          let few : n ≤ 2147483647 = leb-true n 2147483647 g in let h = long_literal_fine Signed n (omega (arith, few)) in record { kind = h.0; worth = h.1 }
      go false false false e f g = let h = long_literal_fine Unsigned (min n 4294967295) (omega arith) in record { kind = h.0; worth = h.1 }

  pub letter_fine : (n : ℕ) → TypedFine L (letter n)
  unfolding letter constant
  letter_fine n = record { kind = L.character; worth = L.letter (min n 255) (omega arith) }

  pub string_fine : (known : List (List ℕ)) (p : Place) (bytes : List ℕ) → IfOk (string known p bytes) (TypedFine L)
  unfolding string constant
  string_fine known p bytes = then_fine Good (TypedFine L) (or_refuse (number_in bytes 0 known) GlobalsTooLarge p) _
      (any_ok (or_refuse (number_in bytes 0 known) GlobalsTooLarge p)) (λ n u. record { kind = L.string; worth = tt })

  pub step_fine : (o : Operator) (p l : Place) (done : Sum) (k : PlainType) → L.Kept k → OfSome (L.Worth k) (constant (closed done)) → (literal : Bool) (q : Place)
      (r : Typed) → TypedFine L r
      → IfOk (step o p l done k literal q r) (DoneFine L)
  unfolding step
  step_fine o p l done k h w literal q r g =
      then_fine Both (DoneFine L) (or_refuse (operation o (sort_of k) literal (sort_of r.kind) r.literal) TypeMismatch (beside p l (sort_of k) q (sort_of r.kind))) _
      (or_ok Both (operation o (sort_of k) literal (sort_of r.kind) r.literal) TypeMismatch (beside p l (sort_of k) q (sort_of r.kind))
      (shown (operation o (sort_of k) literal (sort_of r.kind) r.literal) refl (operation_fine L o (sort_of k) literal (sort_of r.kind) r.literal))) by
    where
      Both : Application → Type 0
      Both x = ApplicationFine L x × GoodFor (sort_of k) literal (sort_of r.kind) r.literal x

      shown : (x : Option Application) → operation o (sort_of k) literal (sort_of r.kind) r.literal ≡ x → OfSome (ApplicationFine L) x → OfSome Both x
      shown None e h = tt
      shown (Some x) e h = (h, operation_in o (sort_of k) literal (sort_of r.kind) r.literal x e)

      word_before : IsWord (sort_of k) → OfSome L.Word (constant (closed done))
      word_before s = weaken L (L.Worth k) L.Word (constant (closed done)) w (λ n i. word_by_sort L k n h s i)

      by : (x : Application) → Both x → DoneFine L (done_by done r.value x)
      by (OfWords x) b = record {
        kind = b.0.kind;
        worth = word_step_worth L done x.kind x.left x.operator (checked x.right r.value) b.0.gives (word_before b.1.left);
      }
      by (OfLongs x) b = record {
        kind = b.0.kind;
        worth = long_step_worth L done x.left x.kind Every x.operator (fitted x.right r.value) b.0.gives
            (fitted_long L x.left k literal (closed done) h (b.1.met).left_number (b.1.met).left w);
      }

  -- ---- what a name leads to
  pub reached_fine : (x : Meaning) → MeaningFine L x → ReachedFine L (reached x)
  unfolding reached ReachedFine MeaningFine constant
  reached_fine (m.Variable h k) f = f
  reached_fine (m.Constant k n) f = (f.0, by (is_long k))
    where
      by : (l : Bool) → OfSome (L.Worth k) (constant (constant_value l n))
      by true = f.1
      by false = f.1
  reached_fine (m.TextConstant n) f = (L.string, tt)
  reached_fine (m.TypeName k) f = f
  reached_fine (m.Procedure c i) f = f
  reached_fine (m.Signal r i) f = f
  reached_fine _ f = tt

  pub settled_fine : (r : Reached) → ReachedFine L r → ReachedFine L (settled r)
  unfolding ReachedFine FieldsHave
  settled_fine (Results e (f ∷ [])) h = (h.0.0, none_of (L.Worth f.kind) (constant e) h.1)
  settled_fine (Results e []) h = h
  settled_fine (Results e (f ∷ (g ∷ fs))) h = h
  settled_fine (Variable x ss k) h = h
  settled_fine (Value n e k) h = h
  settled_fine (Named x) h = h

  pub several_fine : (e : t.Expr) → constant e ≡ None → (gave : Option (List PlainField))
      → TypedFine L (record { value = e; kind = v.Integer; literal = false; gave = gave })
  several_fine e h gave = record { kind = L.integer; worth = none_of (L.Worth v.Integer) (constant e) h }

  pub results_fine : (aim : Aim) (e : t.Expr) → constant e ≡ None → (fs : List PlainField) → FieldsHave L.Kept fs
      → IfOk (results aim e fs) (TypedFine L)
  unfolding FieldsHave
  results_fine aim e d (f ∷ []) h = record { kind = h.0; worth = none_of (L.Worth f.kind) (constant e) d }
  results_fine (Several p) e d [] h = several_fine e d (Some [])
  results_fine (Free p) e d [] h = tt
  results_fine (Into k p) e d [] h = tt
  results_fine (Several p) e d (f ∷ (g ∷ fs)) h = several_fine e d (Some (f ∷ (g ∷ fs)))
  results_fine (Free p) e d (f ∷ (g ∷ fs)) h = tt
  results_fine (Into k p) e d (f ∷ (g ∷ fs)) h = tt

  pub value_fine : (aim : Aim) (last : Place) (r : Reached) → ReachedFine L r → Fine L (TypedFine L) (value aim last r)
  unfolding value ReachedFine constant
  value_fine aim last (Variable x ss k) h =
      spending (words_of k) (λ u. pure (typed k (t.Variable x ss (words_of k)))) (done (record { kind = h; worth = tt }))
  value_fine aim last (Value n e k) h = spending n (λ u. pure (typed k e)) (done (record { kind = h.0; worth = h.1 }))
  value_fine aim last (Results e fs) h = lifted (TypedFine L) (results aim e fs) (results_fine aim e h.1 fs h.0)
  value_fine aim last (Named x) h = wrong

  pub length_fine : (x : Identifier) (n : ℕ) (e : t.Expr) → IfOk (length_of x n e) (ReachedFine L)
  unfolding ReachedFine constant
  length_fine x n e =
      by_if (ReachedFine L) (is_length x) (Ok (Value n (t.LengthOf e) v.Cardinal)) (refuse UnknownName x.place) (L.cardinal, tt) tt

  pub of_fields_fine : (make : Found → Reached) → ((f : Found) → L.Kept f.kind → ReachedFine L (make f)) → (x : Identifier) (fs : Option (List PlainField))
      → OfSome (FieldsHave L.Kept) fs → (other : Checked Reached) → IfOk other (ReachedFine L)
      → IfOk (field_of_fields make x fs other) (ReachedFine L)
  of_fields_fine make g x (Some fs) h other o =
      then_fine (λ (f : Found). L.Kept f.kind) (ReachedFine L) (or_refuse (field_named fs x) UnknownName x.place) _
      (or_ok (λ (f : Found). L.Kept f.kind) (field_named fs x) UnknownName x.place (found_fine x.name 0 0 fs h)) (λ f k. g f k)
  of_fields_fine make g x None h other o = o

  pub field_in_fine : (last : Place) (make : Found → Reached) (n : ℕ) (e : t.Expr) (k : PlainType) (x : Identifier)
      → ((f : Found) → L.Kept f.kind → ReachedFine L (make f)) → L.Kept k → IfOk (field_in last make n e k x) (ReachedFine L)
  unfolding field_in
  field_in_fine last make n e k x g h = of_fields_fine make g x (fields k) (fields_fine k h) (if is_text k then length_of x n e else refuse TypeMismatch last)
      (by_if (ReachedFine L) (is_text k) (length_of x n e) (refuse TypeMismatch last) (length_fine x n e) tt)

  pub field_fine : (a : Around) → AroundFine L a → (last : Place) (r : Reached) → ReachedFine L r → (x : Identifier) → Fine L (ReachedFine L) (field a last r x)
  unfolding field ReachedFine
  field_fine a g last (Variable y ss k) h x =
      lifted (ReachedFine L) (field_in last (field_of_variable y ss) 1 (t.Variable y ss (words_of k)) k x)
      (field_in_fine last (field_of_variable y ss) 1 (t.Variable y ss (words_of k)) k x (λ f i. i) h)
  field_fine a g last (Value n e k) h x =
      lifted (ReachedFine L) (field_in last (field_of_value n e) (min n 1) e k x)
      (field_in_fine last (field_of_value n e) (min n 1) e k x (λ f i. (i, part_worth (L.Worth f.kind) e (part_of f))) h.0)
  field_fine a g last (Named (m.Interface n)) h x = bind (of_interface_fine a g n x) (λ y i. done (reached_fine y i))
  field_fine a g last _ h x = wrong

  pub text_fine : (last : Place) (k : PlainType) (n : ℕ) (e : t.Expr) → IfOk (text_at last k n e) (BracketedFine L)
  unfolding BracketedFine
  text_fine last k n e = by_if (BracketedFine L) (is_text k) (Ok (InText (min n 1) e)) (refuse TypeMismatch last) tt tt

  pub indexed_by_fine : (last : Place) (h : Home) (ss : t.Suffixes) (k : PlainType) (o : Option (PlainType × PlainType)) → OfSome (PairFine L) o
      → IfOk (indexed_by last h ss k o) (BracketedFine L)
  unfolding BracketedFine
  indexed_by_fine last h ss k (Some p) f = f.1
  indexed_by_fine last h ss k None f = text_fine last k 1 (t.Variable h ss (words_of k))

  pub indexed_fine : (last : Place) (h : Home) (ss : t.Suffixes) (k : PlainType) → L.Kept k → IfOk (indexed last h ss k) (BracketedFine L)
  unfolding indexed
  indexed_fine last h ss k f = indexed_by_fine last h ss k (array_parts k) (elements_fine k f)

  pub at_index_fine : (b : Bracketed) → BracketedFine L b → (start : Place) (i : Typed) → IfOk (at_index b start i) (ReachedFine L)
  unfolding at_index BracketedFine ReachedFine constant
  at_index_fine (InArray h ss index element) f start i =
      then_fine Good (ReachedFine L) (only (one_ordinal_base (base_of i.kind) (base_of index)) TypeMismatch start) _
      (any_ok (only (one_ordinal_base (base_of i.kind) (base_of index)) TypeMismatch start)) (λ u w. f)
  at_index_fine (InText n e) f start i = then_fine Good (ReachedFine L) (only (one_ordinal_base (base_of i.kind) (Some v.Integer)) TypeMismatch start) _
      (any_ok (only (one_ordinal_base (base_of i.kind) (Some v.Integer)) TypeMismatch start)) (λ u w. (L.character, tt))

  pub shape_by_fine : (o : Option (List PlainField)) (p : Option (PlainType × PlainType)) → OfSome (FieldsHave L.Kept) o → OfSome (PairFine L) p
      → ShapeFine L (shape_by o p)
  unfolding ShapeFine
  shape_by_fine (Some fs) p h k = h
  shape_by_fine None (Some q) h k = k.1
  shape_by_fine None None h k = tt

  pub shape_of_fine : (k : PlainType) → L.Kept k → ShapeFine L (shape_of k)
  unfolding shape_of
  shape_of_fine k h = shape_by_fine (fields k) (array_parts k) (fields_fine k h) (elements_fine k h)

  pub shapes : {A : Type 0} {P : A → Type 0} (sh : Shape) → ShapeFine L sh → {x : List PlainField → Check A} {y : ℕ → PlainType → Check A} {z : Check A}
      → ((fs : List PlainField) → FieldsHave L.Kept fs → Fine L P (x fs)) → ((n : ℕ) (k : PlainType) → L.Kept k → Fine L P (y n k)) → Fine L P z
      → Fine L P (by_shape sh x y z)
  unfolding ShapeFine
  shapes (OfFields fs) i f g h = f fs i
  shapes (OfElements n k) i f g h = g n k i
  shapes NoShape i f g h = h

  -- what is constructed is of its type, and no constant
  pub made_fine : (k : PlainType) → L.Kept k → (p : Place) (x : Arguments) → CheckedFine L (Into k p) (made k x)
  unfolding OfAim constant
  made_fine k h p x = record { value = record { kind = h; worth = tt }; aimed = refl }

  pub in_fields_fine : (k : PlainType) → L.Kept k → (q p : Place) (given wanted : ℕ) {c : Check t.Exprs} → Fine L Good c
      → Fine L (CheckedFine L (Into k q)) (in_fields k p given wanted c)
  in_fields_fine k f q p given wanted {c} g = bind (ensured (nat_eq given wanted) WrongCount p) (λ u w.
      spending (words_of k) (λ u. c >>= (λ vs. pure (made k (in_order vs)))) (bind g (λ es w. done (made_fine k f q (in_order es)))))

  pub by_keys_fine : (k : PlainType) → L.Kept k → (q p : Place) (fs : List PlainField) (xs : List Identifier) {c : Check t.Exprs} → Fine L Good c
      → Fine L (CheckedFine L (Into k q)) (by_keys k p fs xs c)
  by_keys_fine k f q p fs xs {c} g = bind (ensured (complete fs xs) WrongCount p) (λ u w.
      spending (words_of k) (λ u. c >>= (λ vs. pure (made k (record { places = places_of fs xs; values = vs }))))
      (bind g (λ es w. done (made_fine k f q (record { places = places_of fs xs; values = es })))))

  pub raises_fine : (kind : ItemKind) (p : Place) (x : Meaning) → MeaningFine L x → IfOk (raises_by kind p x) (λ (r : Raises). ItemFine L r.head)
  unfolding MeaningFine
  raises_fine kind p (m.Signal r i) h = by_if (λ (r : Raises). ItemFine L r.head) (is_kind kind i.kind) (Ok (record { raised = r; head = i }))
      (refuse TypeMismatch p) h tt
  raises_fine kind p _ h = tt

  pub levels : {A : Type 0} {P : A → Type 0} (l : Level) {w x y z : Check A} → Fine L P w → Fine L P x → Fine L P y → Fine L P z → Fine L P (by_level l w x y z)
  levels Bare h i j k = h
  levels Sums h i j k = i
  levels Alls h i j k = j
  levels Somes h i j k = k

  pub aims : {A : Type 0} {P : A → Type 0} (aim : Aim) → AimFine L aim → {x : Place → Check A} {y : PlainType → Place → Check A}
      → ((p : Place) → Fine L P (x p)) → ((k : PlainType) (p : Place) → aim ≡ Into k p → L.Kept k → Fine L P (y k p)) → Fine L P (by_aim aim x y)
  unfolding AimFine
  aims (Free p) g h k = h p
  aims (Several p) g h k = h p
  aims (Into j p) g h k = k j p refl g

  -- statements in a scope of their own leave the scopes
  pub scoped : {A : Type 0} {P : A → Type 0} (scope : Scope Meaning) {c : Check A} → Keeps Anything P c → Fine L Good (in_scope scope c)
  scoped {A} {P} scope {c} h = record {
    in_state =
        λ σ g. go σ g (record σ { scopes = scope ∷ σ.scopes; coming = nothing }) refl (c (record σ { scopes = scope ∷ σ.scopes; coming = nothing }))
        (h.in_state (record σ { scopes = scope ∷ σ.scopes; coming = nothing }));
  }
    where
      go : (σ : State) → StateFine L σ → (τ : State) → outer τ.scopes ≡ σ.scopes → (r : Checked (A × State)) → Kept Anything (From P τ) r
          → IfOk (and_then r (back σ)) (λ (x : A × State). Good x.0 × StateFine L x.1)
      go σ g τ e (Ok x) p = (tt, record { scopes = subst (ScopesFine L) (sym (p.1.around ∙ e)) g.scopes; coming = g.coming })
      go σ g τ e (Err f) p = tt

  -- around a constant
  pub constant_around : (a : Around) → AroundFine L a → (p : Place) → AroundFine L (in_constant p a)
  constant_around a g p = record { further = g.further; interfaces = g.interfaces; origins = g.origins }

  pub entered : (a : Around) (ls : List ArmLabel) → Fine L Good (enter_arm a ls)
  unfolding enter_arm
  entered a ls = record { in_state = λ σ g. (tt, record { scopes = g.scopes; coming = g.coming }) }

  pub bound_aim_fine : (k : Option PlainType) → OfSome L.Kept k → (p : Place) → AimFine L (bound_aim k p)
  unfolding AimFine
  bound_aim_fine (Some k) h p = h
  bound_aim_fine None h p = tt

  -- a bound is not LONG, and of the type that is said before its interval
  pub bound_of_fine : (base : Option PlainType) → OfSome (λ k. L.Kept k × (is_ordinal k ≡ true)) base → (p : Place) (x : Typed) → TypedFine L x
      → IfOk (bound_of base p x) (BoundFine L base)
  unfolding bound_of not_long finish
  bound_of_fine base f p x h = by (is_long x.kind) refl base f
    where
      by : (l : Bool) → is_long x.kind ≡ l → (base : Option PlainType) → OfSome (λ k. L.Kept k × (is_ordinal k ≡ true)) base
          → IfOk (and_then (only (not l) TypeMismatch p) (λ _. finish (bound_aim base p) x)) (BoundFine L base)
      by true e base f = tt
      by false e None f = record { value = h; short = e; said = tt }
      by false e (Some k) f = fit (conforms x.kind k) refl
        where
          fit : (b : Bool) → conforms x.kind k ≡ b → IfOk (fitted_if b k p x) (BoundFine L (Some k))
          fit true c = record {
            value = record { kind = f.0; worth = given_worth L x.kind k x.value h.kind f.0 c h.worth };
            short = ordinal_not_long k f.1;
            said = refl;
          }
          fit false c = tt

  pub bound_kinds : (base : Option PlainType) (x y : Typed) → BoundFine L base x → BoundFine L base y → OfSome (λ k. (x.kind ≡ k) × (y.kind ≡ k)) base
  bound_kinds (Some k) x y h i = (h.said, i.said)
  bound_kinds None x y h i = tt

  pub into_fine : (k : PlainType) → L.Kept k → (p : Place) → AimFine L (Into k p)
  unfolding AimFine
  into_fine k h p = h

  pub free_fine : (p : Place) → AimFine L (Free p)
  unfolding AimFine
  free_fine p = tt

  pub call_none : (c : t.Callee) (ns : List ℕ) (es : t.Exprs) (n : ℕ) (ph : t.Phrase) → constant (t.Call c ns es n ph) ≡ None
  unfolding constant
  call_none c ns es n ph = refl

  pub raise_none : (r : t.Raised) (ns : List ℕ) (es : t.Exprs) (n : ℕ) (ph : t.Phrase) → constant (t.Raise r ns es n ph) ≡ None
  unfolding constant
  raise_none r ns es n ph = refl

  -- a run of sums, and the operands of AND and OR
  pub summed_fine : (r : t.Expr × PlainType) → L.Kept r.1 × OfSome (L.Worth r.1) (constant r.0) → TypedFine L (summed r)
  summed_fine r q = record { kind = q.0; worth = q.1 }
