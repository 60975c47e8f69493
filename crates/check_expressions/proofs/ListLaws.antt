-- Lists of values, part by part.
use Rattle.std.proofs.Common.{◌≡◌, ◌≢◌, ◌<◌, drop, get_or, ℕ, suc, ◌+◌, Bool, true, false, ◌&&◌, List, [], ◌∷◌, ◌++◌, length, map, Option, Some, None, is_some, Ok, Err, refl, sym, ap, ◌∙◌, arith, zero-add}
use Rattle.std.specs.Prelude.{nat_eq, if◌then◌else◌}
use Rattle.std.proofs.lemmas.Bool.{ne_eqb}
use Rattle.std.proofs.lemmas.List.{length-append, length-map}
use Rattle.mesa_base.specs.declared.identifier.Identifier.{Identifier}
use Rattle.mesa_base.specs.declared.place.Place.{Place}
use Rattle.mesa_types.specs.Plain as tree
use Rattle.syntax_trees.specs.PlainSyntax as plain
use Rattle.syntax_trees.specs.Syntax as s
use Rattle.mesa_types.specs.Typed as t
use Rattle.syntax_trees.specs.declared.syntax.Expr.{Expr}
use Rattle.syntax_trees.specs.declared.syntax.Keyed.{Keyed}
use Rattle.mesa_types.specs.declared.types.FieldType.{FieldType}
use Rattle.check_rules.specs.Around.{Around}
use Rattle.check_rules.specs.Checking as spec
use Rattle.check_rules.specs.Parts.{Found, first, count, keys, kinds, kind_by, number_by, has_name, found, field_named, are_fields, complete, places_of}
use Rattle.check_rules.specs.interface_records.specs.PlainTypes.{PlainField, PlainType, plain_field, words_of}
use Rattle.check_rules.specs.Ranges.{Arguments, Typed, Into}
use Rattle.check_rules.specs.Reached.{Shape, OfFields, OfElements, NoShape, shape_of}
use Rattle.check_rules.specs.declared.fault.Cause.TheVariants.{TypeMismatch, WrongCount}
use Rattle.check_rules.specs.Steps.{Check, Checked, State, and_then, ◌>>=◌, pure, lift, fail, refuse, or_refuse, ensure, spend}
use Rattle.check_rules.specs.Values.{by_keys, by_shape, in_fields, in_order, made}
use Rattle.check_operands.specs.check_selectors.specs.Keys.{places, places_if}
use Rattle.check_operands.specs.Folds.{folded}
use Rattle.check_operands.specs.Lists as lists
use Rattle.check_operands.specs.Lists.{kind_in, kind_placed, value_for, value_turn}
use Rattle.mesa_types.specs.declared.typed_tree.TypedExpr.{TypedExpr}
use Rattle.check_expressions.proofs.Folding.{folded_view_at, in_turn}
use Rattle.check_expressions.proofs.RunLaws.{onto, onto_none, onto_rest, onto_at, and_expr}

-- ---- values in order, by one rule

-- the types by number from here on
unfoldable pub Kinds : (ℕ → Option PlainType) → ℕ → List PlainType → Type 0
Kinds f n [] = Unit {0}
Kinds f n (k ∷ ks) = (f n ≡ Some k) × Kinds f (suc n) ks

abbrev listed_at : List t.Expr × State → Checked (t.Exprs × State)
listed_at r = Ok (tree.exprs r.0, r.1)

abbrev pushed : List t.Expr → t.Expr × State → Checked (List t.Expr × State)
pushed done x = Ok (done ++ x.0 ∷ [], x.1)

one_more : (a : Around) (f : ℕ → Option PlainType) (ks : List PlainType) (es : List s.Expr) (done : List t.Expr) (m : Checked (Typed × State))
    → ((x : t.Expr) (σ : State) → and_then (spec.values a ks (plain.join_exprs es) σ) (onto_at (done ++ x ∷ [])) ≡ and_then (folded (value_turn a f) (done ++ x ∷ []) es σ) listed_at)
    → and_then (and_then m (λ x. and_then (spec.values a ks (plain.join_exprs es) x.1) (λ vs. Ok (t.AndExpr x.0.value vs.0, vs.1)))) (onto_at done)
    ≡ and_then (and_then (and_then (and_then m (λ x. Ok (x.0.value, x.1))) (pushed done)) (λ r. folded (value_turn a f) r.0 es r.1)) listed_at
one_more a f ks es done (Ok x) h = onto_rest done x.0.value (spec.values a ks (plain.join_exprs es) x.1) ∙ h x.0.value x.1
one_more a f ks es done (Err e) h = refl

values_go : (a : Around) (f : ℕ → Option PlainType) (ks : List PlainType) (es : List s.Expr) (done : List t.Expr) (σ : State) → length es ≡ length ks → Kinds f (length done) ks
    → and_then (spec.values a ks (plain.join_exprs es) σ) (onto_at done) ≡ and_then (folded (value_turn a f) done es σ) listed_at
unfolding spec.check folded value_turn value_for Kinds
values_go a f [] [] done σ n h = ap (λ l. Ok (l, σ)) (onto_none done)
values_go a f [] (e ∷ es) done σ n h = absurd (omega (arith, n))
values_go a f (k ∷ ks) [] done σ n h = absurd (omega (arith, n))
values_go a f (k ∷ ks) (e ∷ es) done σ n h =
    let next : (x : t.Expr) → length (done ++ x ∷ []) ≡ suc (length done) = λ x. length-append done (x ∷ []) ∙ omega arith in
    rw (h.0) (one_more a f ks es done (spec.check a (Into k (first e)) e σ)
    (λ x σ. values_go a f ks es (done ++ x ∷ []) σ (omega (arith, n)) (rw (next x) h.1)))

-- the rule, from its beginning
pub values_folded : (a : Around) (f : ℕ → Option PlainType) (ks : List PlainType) (es : List s.Expr) (σ : State) → length es ≡ length ks → Kinds f 0 ks
    → spec.values a ks (plain.join_exprs es) σ ≡ and_then (folded (value_turn a f) [] es σ) listed_at
unfolding onto
values_folded a f ks es σ n h = sym (as_it_is (spec.values a ks (plain.join_exprs es) σ)) ∙ values_go a f ks es [] σ n h
  where
    as_it_is : (m : Checked (t.Exprs × State)) → and_then m (onto_at []) ≡ m
    as_it_is (Ok r) = refl
    as_it_is (Err e) = refl

-- ---- the types of fields in order, one type for all, and those of keys

later : (f g : ℕ → Option PlainType) → ((n : ℕ) → f (suc n) ≡ g n) → (n : ℕ) (ks : List PlainType) → Kinds g n ks → Kinds f (suc n) ks
unfolding Kinds
later f g e n [] h = tt
later f g e n (k ∷ ks) h = (e n ∙ h.0, later f g e (suc n) ks h.1)

each_kind : (fs : List PlainField) → Kinds (kind_in fs) 0 (kinds fs)
unfolding Kinds
each_kind [] = tt
each_kind (f ∷ fs) = (refl, later (kind_in (f ∷ fs)) (kind_in fs) (λ n. refl) 0 (kinds fs) (each_kind fs))

many_kinds : (fs : List PlainField) → length (kinds fs) ≡ length fs
many_kinds [] = refl
many_kinds (f ∷ fs) = omega (arith, many_kinds fs)

pub values_each : (a : Around) (fs : List PlainField) (es : List Expr) → length es ≡ length fs → spec.values a (kinds fs) (plain.exprs es) ≡ lists.values a (kind_in fs) es
unfolding lists.values
values_each a fs es n = λ i σ. values_folded a (kind_in fs) (kinds fs) (map plain.expr es) σ (length-map es plain.expr ∙ n ∙ sym (many_kinds fs)) (each_kind fs) i

unfoldable repeated : PlainType → List s.Expr → List PlainType
repeated k [] = []
repeated k (e ∷ es) = k ∷ repeated k es

many_repeated : (k : PlainType) (es : List s.Expr) → length es ≡ length (repeated k es)
unfolding repeated
many_repeated k [] = refl
many_repeated k (e ∷ es) = omega (arith, many_repeated k es)

all_kinds : (k : PlainType) (n : ℕ) (es : List s.Expr) → Kinds (λ n. Some k) n (repeated k es)
unfolding Kinds repeated
all_kinds k n [] = tt
all_kinds k n (e ∷ es) = (refl, all_kinds k (suc n) es)

alike_values : (a : Around) (k : PlainType) (es : List s.Expr) (σ : State) → spec.alike a k (plain.join_exprs es) σ ≡ spec.values a (repeated k es) (plain.join_exprs es) σ
unfolding spec.check repeated
alike_values a k [] σ = refl
alike_values a k (e ∷ es) σ = ap (and_then (spec.check a (Into k (first e)) e σ)) (λ i x. and_then (alike_values a k es x.1 i) (and_expr x.0.value))

pub alike_all : (a : Around) (k : PlainType) (es : List Expr) → spec.alike a k (plain.exprs es) ≡ lists.values a (λ n. Some k) es
unfolding lists.values
alike_all a k es = λ i σ. (alike_values a k (map plain.expr es) σ
    ∙ values_folded a (λ n. Some k) (repeated k (map plain.expr es)) (map plain.expr es) σ (many_repeated k (map plain.expr es)) (all_kinds k 0 (map plain.expr es))) i

abbrev plain_keyed : List (Keyed Expr) → List (Keyed s.Expr)
plain_keyed = map (λ x. record { key = x.key; item = plain.expr x.item })

abbrev items : List (Keyed s.Expr) → List s.Expr
items = map (λ (x : Keyed s.Expr). x.item)

abbrev key_kinds : List PlainField → List (Keyed s.Expr) → List PlainType
key_kinds fs = map (λ (x : Keyed s.Expr). kind_by (field_named fs x.key))

keyed_values : (a : Around) (fs : List PlainField) (es : List (Keyed s.Expr)) (σ : State)
    → spec.keyed a fs (plain.join_keyed_exprs es) σ ≡ spec.values a (key_kinds fs es) (plain.join_exprs (items es)) σ
unfolding spec.check
keyed_values a fs [] σ = refl
keyed_values a fs (x ∷ es) σ = ap (and_then (spec.check a (Into (kind_by (field_named fs x.key)) (first x.item)) x.item σ)) (λ i y. and_then (keyed_values a fs es y.1 i) (and_expr y.0.value))

-- a field that is found stands where its number says
none_some : {A B : Type 0} {a : A} → None ≡ Some a → B
none_some e = cc

inner : {A : Type 0} {a b : A} → Some a ≡ Some b → a ≡ b
inner e = cc

false_true : {B : Type 0} → false ≡ true → B
false_true e = cc

abbrev Stands : ℕ → List PlainField → Found → Type 0
Stands n fs r = (i : ℕ) × (r.number ≡ n + i) × (kind_in fs i ≡ Some r.kind)

stands_by : (b : Bool) (n o : ℕ) (f : PlainField) (fs : List PlainField) (rest : Option Found) (r : Found) → (if b then Some (record { number = n; offset = o; kind = f.kind }) else rest) ≡ Some r
    → (rest ≡ Some r → Stands (n + 1) fs r) → Stands n (f ∷ fs) r
stands_by true n o f fs rest r h below =
    let same : record { number = n; offset = o; kind = f.kind } ≡ r = inner h in
    (0, ap (λ (r : Found). r.number) (sym same) ∙ omega arith, ap (λ (r : Found). Some r.kind) same)
stands_by false n o f fs rest r h below = let x = below h in (suc x.0, x.1 ∙ omega arith, x.2)

stands : (x : List ℕ) (n o : ℕ) (fs : List PlainField) (r : Found) → found x n o fs ≡ Some r → Stands n fs r
unfolding found
stands x n o [] r h = none_some h
stands x n o (f ∷ fs) r h = stands_by (has_name x f.name) n o f fs (found x (n + 1) (o + words_of f.kind) fs) r h (stands x (n + 1) (o + words_of f.kind) fs r)

stands_at : (fs : List PlainField) (x : Identifier) (r : Option Found) → field_named fs x ≡ r → is_some r ≡ true → kind_in fs (number_by r) ≡ Some (kind_by r)
stands_at fs x None e h = false_true h
stands_at fs x (Some r) e h = let at = stands x.name 0 0 fs r e in let here : r.number ≡ at.0 = at.1 ∙ zero-add at.0 in ap (kind_in fs) here ∙ at.2

both_true : (b c : Bool) → (b && c) ≡ true → (b ≡ true) × (c ≡ true)
both_true true c h = (refl, h)
both_true false c h = false_true h

abbrev keys_in : List (Keyed s.Expr) → List Identifier
keys_in = map (λ (x : Keyed s.Expr). x.key)

placed_kinds : (fs : List PlainField) (es : List (Keyed s.Expr)) → are_fields fs (keys_in es) ≡ true → Kinds (kind_placed fs (places_of fs (keys_in es))) 0 (key_kinds fs es)
unfolding Kinds are_fields
placed_kinds fs [] h = tt
placed_kinds fs (x ∷ es) h =
    let fits = both_true (is_some (field_named fs x.key)) _ h in
    let ns = places_of fs (keys_in es) in (
      stands_at fs x.key (field_named fs x.key) refl fits.0,
      later (kind_placed fs (number_by (field_named fs x.key) ∷ ns)) (kind_placed fs ns) (λ n. refl) 0 (key_kinds fs es) (placed_kinds fs es fits.1),
    )

pub plain_keys : (es : List (Keyed s.Expr)) → keys (plain.join_keyed_exprs es) ≡ map (λ (x : Keyed s.Expr). x.key) es
unfolding keys
plain_keys [] = refl
plain_keys (x ∷ es) = ap (λ xs. x.key ∷ xs) (plain_keys es)

same_keys : (es : List (Keyed Expr)) → map (λ (x : Keyed s.Expr). x.key) (plain_keyed es) ≡ map (λ (x : Keyed Expr). x.key) es
same_keys [] = refl
same_keys (x ∷ es) = ap (λ xs. x.key ∷ xs) (same_keys es)

same_items : (es : List (Keyed Expr)) → items (plain_keyed es) ≡ map (λ (x : Keyed Expr). plain.expr x.item) es
same_items [] = refl
same_items (x ∷ es) = ap (λ xs. plain.expr x.item ∷ xs) (same_items es)

pub keys_are : (es : List (Keyed Expr)) → keys (plain.keyed_exprs es) ≡ map (λ (x : Keyed Expr). x.key) es
keys_are es = plain_keys (plain_keyed es) ∙ same_keys es

complete_fields : (fs : List PlainField) (xs : List Identifier) → complete fs xs ≡ true → are_fields fs xs ≡ true
complete_fields fs xs h = (both_true (are_fields fs xs) _ (both_true (nat_eq (length xs) (length fs)) _ h).1).0

abbrev keys_of : List (Keyed Expr) → List Identifier
keys_of = map (λ (x : Keyed Expr). x.key)

keyed_placed : (a : Around) (fs : List PlainField) (es : List (Keyed Expr)) → complete fs (keys_of es) ≡ true
    → spec.keyed a fs (plain.keyed_exprs es) ≡ lists.keyed a (kind_placed fs (places_of fs (keys_of es))) es
unfolding lists.keyed
keyed_placed a fs es h = λ i σ. (keyed_values a fs (plain_keyed es) σ
    ∙ values_folded a (kind_placed fs (places_of fs (keys_in (plain_keyed es)))) (key_kinds fs (plain_keyed es)) (items (plain_keyed es)) σ
    (length-map (plain_keyed es) (λ (x : Keyed s.Expr). x.item) ∙ sym (length-map (plain_keyed es) (λ (x : Keyed s.Expr). kind_by (field_named fs x.key))))
    (placed_kinds fs (plain_keyed es) (ap (are_fields fs) (same_keys es) ∙ complete_fields fs (keys_of es) h))
    ∙ ap (λ xs. and_then (folded (value_turn a (kind_placed fs (places_of fs xs))) [] (items (plain_keyed es)) σ) listed_at) (same_keys es)
    ∙ ap (λ xs. and_then (folded (value_turn a (kind_placed fs (places_of fs (keys_of es)))) [] xs σ) listed_at) (same_items es)) i

pub count_is : (es : List Expr) → count (plain.exprs es) ≡ length es
unfolding count
count_is [] = refl
count_is (e ∷ es) = omega (arith, count_is es)

-- ---- a loop over values

pub values_are : (a : Around) (f : ℕ → Option PlainType) (es : List Expr) (σ : State) → lists.values a f es σ ≡ and_then (folded (value_turn a f) [] (map plain.expr es) σ) listed_at
unfolding lists.values
values_are a f es σ = refl

pub keyed_are : (a : Around) (f : ℕ → Option PlainType) (es : List (Keyed Expr)) (σ : State)
    → lists.keyed a f es σ ≡ and_then (folded (value_turn a f) [] (map (λ (x : Keyed Expr). plain.expr x.item) es) σ) listed_at
unfolding lists.keyed
keyed_are a f es σ = refl

-- the value in hand
pub value_at : {X : Type 0} (view : X → s.Expr) (a : Around) (f : ℕ → Option PlainType) (done : List TypedExpr) (all : List X) (i : ℕ) (x : X) (σ : State) → i < length all → x ≡ get_or all i x
    → folded (value_turn a f) (map tree.expr done) (map view (drop i all)) σ
    ≡ and_then (value_for a (f (length done)) (view x) σ) (λ r. folded (value_turn a f) (map tree.expr done ++ r.0 ∷ []) (map view (drop (i + 1) all)) r.1)
unfolding value_turn
value_at view a f done all i x σ inside here =
    folded_view_at view (value_turn a f) (map tree.expr done) all i x σ inside here
    ∙ ap (λ n. and_then (and_then (value_for a (f n) (view x) σ) (pushed (map tree.expr done))) (λ r. folded (value_turn a f) r.0 (map view (drop (i + 1) all)) r.1)) (length-map done tree.expr)
    ∙ in_turn (value_for a (f (length done)) (view x) σ) (pushed (map tree.expr done)) (λ r. folded (value_turn a f) r.0 (map view (drop (i + 1) all)) r.1)

-- ---- constructors and the values of calls

same_count : (n m : ℕ) → nat_eq n m ≡ true → n ≡ m
same_count n m h = grind arith

count_by : (b : Bool) (p : Place) (f g : Check t.Exprs) → (b ≡ true → f ≡ g) → (h : Check t.Exprs → Check Typed)
    → ensure b WrongCount p >>= (λ _. h f) ≡ ensure b WrongCount p >>= (λ _. h g)
count_by true p f g e h = ap (λ f. h f) (e refl)
count_by false p f g e h = refl

abbrev made_by : PlainType → List ℕ → Check t.Exprs → Check Typed
made_by k ns vs = spend (words_of k) >>= (λ _. vs >>= (λ vs. pure (made k (record { places = ns; values = vs }))))

abbrev shaped : Shape → Place → Checked (ℕ × (ℕ → Option PlainType))
shaped x q = by_shape x (λ fs. Ok (length fs, kind_in fs)) (λ n j. Ok (n, λ m. Some j)) (refuse TypeMismatch q)

ordered_by : (a : Around) (k : PlainType) (q p : Place) (es : List Expr) (x : Shape)
    → by_shape x (λ fs. in_fields k p (count (plain.exprs es)) (length fs) (spec.values a (kinds fs) (plain.exprs es)))
    (λ n j. in_fields k p (count (plain.exprs es)) n (spec.alike a j (plain.exprs es))) (fail TypeMismatch q)
    ≡ lift (shaped x q) >>= (λ w. ensure (nat_eq (length es) w.0) WrongCount p >>= (λ _. made_by k [] (lists.values a w.1 es)))
ordered_by a k q p es (OfFields fs) =
    ap (λ n. in_fields k p n (length fs) (spec.values a (kinds fs) (plain.exprs es))) (count_is es)
    ∙ count_by (nat_eq (length es) (length fs)) p (spec.values a (kinds fs) (plain.exprs es)) (lists.values a (kind_in fs) es) (λ h. values_each a fs es (same_count (length es) (length fs) h)) (made_by k [])
ordered_by a k q p es (OfElements n j) =
    ap (λ m. in_fields k p m n (spec.alike a j (plain.exprs es))) (count_is es)
    ∙ ap (λ vs. ensure (nat_eq (length es) n) WrongCount p >>= (λ _. made_by k [] vs)) (alike_all a j es)
ordered_by a k q p es NoShape = refl

regrouped : (a : Around) (k : PlainType) (p : Place) (es : List Expr) (b : Bool) (w : ℕ × (ℕ → Option PlainType)) → ensure b WrongCount p >>= (λ _. made_by k [] (lists.values a w.1 es))
    ≡ (ensure b WrongCount p >>= (λ _. spend (words_of k))) >>= (λ _. lists.values a w.1 es >>= (λ vs. pure (made k (in_order vs))))
regrouped a k p es true w = refl
regrouped a k p es false w = refl

pub construct_ordered : (a : Around) (k : PlainType) (q p : Place) (es : List Expr) → spec.construct a k q p (s.InOrder (plain.exprs es)) ≡ (do
  w ← lift (lists.ordered k q)
  _ ← lists.counted k p (length es) w.0
  vs ← lists.values a w.1 es
  pure (made k (in_order vs)))
unfolding spec.check
construct_ordered a k q p es = ordered_by a k q p es (shape_of k) ∙ (λ i. lift (lists.ordered k q) >>= (λ w. regrouped a k p es (nat_eq (length es) w.0) w i))

keyed_if : (a : Around) (p : Place) (fs : List PlainField) (es : List (Keyed Expr)) (b : Bool) → complete fs (keys_of es) ≡ b → {A : Type 0} (h : List ℕ → Check t.Exprs → Check A)
    → ensure b WrongCount p >>= (λ _. h (places_of fs (keys_of es)) (spec.keyed a fs (plain.keyed_exprs es)))
    ≡ lift (or_refuse (places_if b (places_of fs (keys_of es))) WrongCount p) >>= (λ ns. h ns (lists.keyed a (kind_placed fs ns) es))
keyed_if a p fs es true e h = ap (h (places_of fs (keys_of es))) (keyed_placed a fs es e)
keyed_if a p fs es false e h = refl

keyed_all : (a : Around) (p : Place) (fs : List PlainField) (es : List (Keyed Expr)) {A : Type 0} (h : List ℕ → Check t.Exprs → Check A)
    → ensure (complete fs (keys (plain.keyed_exprs es))) WrongCount p >>= (λ _. h (places_of fs (keys (plain.keyed_exprs es))) (spec.keyed a fs (plain.keyed_exprs es)))
    ≡ lift (or_refuse (places fs (keys_of es)) WrongCount p) >>= (λ ns. h ns (lists.keyed a (kind_placed fs ns) es))
keyed_all a p fs es h =
    ap (λ xs. ensure (complete fs xs) WrongCount p >>= (λ _. h (places_of fs xs) (spec.keyed a fs (plain.keyed_exprs es)))) (keys_are es)
    ∙ keyed_if a p fs es (complete fs (keys_of es)) refl h

keyed_by : (a : Around) (k : PlainType) (q p : Place) (es : List (Keyed Expr)) (x : Shape)
    → by_shape x (λ fs. by_keys k p fs (keys (plain.keyed_exprs es)) (spec.keyed a fs (plain.keyed_exprs es))) (λ n j. fail WrongCount p) (fail TypeMismatch q)
    ≡ lift (by_shape x (λ fs. Ok fs) (λ n j. refuse WrongCount p) (refuse TypeMismatch q))
    >>= (λ fs. lift (or_refuse (places fs (keys_of es)) WrongCount p) >>= (λ ns. made_by k ns (lists.keyed a (kind_placed fs ns) es)))
keyed_by a k q p es (OfFields fs) = keyed_all a p fs es (made_by k)
keyed_by a k q p es (OfElements n j) = refl
keyed_by a k q p es NoShape = refl

pub construct_keyed : (a : Around) (k : PlainType) (q p : Place) (es : List (Keyed Expr)) → spec.construct a k q p (s.ByKey (plain.keyed_exprs es)) ≡ (do
  fs ← lift (lists.keyed_fields k q p)
  ns ← lift (or_refuse (places fs (map (λ (x : Keyed Expr). x.key) es)) WrongCount p)
  _ ← spend (words_of k)
  vs ← lists.keyed a (kind_placed fs ns) es
  pure (made k (record { places = ns; values = vs })))
unfolding spec.check
construct_keyed a k q p es = keyed_by a k q p es (shape_of k)

pub arguments_ordered : (a : Around) (fs : List PlainField) (p : Place) (es : List Expr) → length es ≡ length fs
    → spec.arguments a fs p (s.InOrder (plain.exprs es)) ≡ lists.values a (kind_in fs) es >>= (λ vs. pure (in_order vs))
unfolding spec.check
arguments_ordered a fs p es h =
    ap (λ n. ensure (nat_eq n (length fs)) WrongCount p >>= (λ _. spec.values a (kinds fs) (plain.exprs es) >>= (λ vs. pure (in_order vs)))) (count_is es ∙ h)
    ∙ ap (λ b. ensure b WrongCount p >>= (λ _. spec.values a (kinds fs) (plain.exprs es) >>= (λ vs. pure (in_order vs)))) (same (length fs))
    ∙ ap (λ vs. vs >>= (λ vs. pure (in_order vs))) (values_each a fs es h)
  where
    same : (n : ℕ) → nat_eq n n ≡ true
    same n = grind arith

pub arguments_many : (a : Around) (fs : List PlainField) (p : Place) (es : List Expr) → length es ≢ length fs → spec.arguments a fs p (s.InOrder (plain.exprs es)) ≡ fail WrongCount p
unfolding spec.check
arguments_many a fs p es h =
    ap (λ n. ensure (nat_eq n (length fs)) WrongCount p >>= (λ _. spec.values a (kinds fs) (plain.exprs es) >>= (λ vs. pure (in_order vs)))) (count_is es)
    ∙ ap (λ b. ensure b WrongCount p >>= (λ _. spec.values a (kinds fs) (plain.exprs es) >>= (λ vs. pure (in_order vs)))) (ne_eqb (length es) (length fs) h)

-- the same over the code's fields
pub arguments_fit : (a : Around) (fields : List FieldType) (p : Place) (es : List Expr) (σ : State) → length es ≡ length fields
    → spec.arguments a (map plain_field fields) p (s.InOrder (plain.exprs es)) σ ≡ and_then (lists.values a (kind_in (map plain_field fields)) es σ) (λ r. Ok (in_order r.0, r.1))
arguments_fit a fields p es σ h = ap (λ (f : Check Arguments). f σ) (arguments_ordered a (map plain_field fields) p es (h ∙ sym (length-map fields plain_field)))

pub arguments_other : (a : Around) (fields : List FieldType) (p : Place) (es : List Expr) (σ : State) → length es ≢ length fields
    → spec.arguments a (map plain_field fields) p (s.InOrder (plain.exprs es)) σ ≡ Err (record { cause = WrongCount; place = p })
arguments_other a fields p es σ h = ap (λ (f : Check Arguments). f σ) (arguments_many a (map plain_field fields) p es (λ e. h (e ∙ length-map fields plain_field)))

pub arguments_keyed : (a : Around) (fs : List PlainField) (p : Place) (es : List (Keyed Expr)) → spec.arguments a fs p (s.ByKey (plain.keyed_exprs es)) ≡ (do
  ns ← lift (or_refuse (places fs (map (λ (x : Keyed Expr). x.key) es)) WrongCount p)
  vs ← lists.keyed a (kind_placed fs ns) es
  pure (record { places = ns; values = vs }))
unfolding spec.check
arguments_keyed a fs p es = keyed_all a p fs es (λ ns vs. vs >>= (λ vs. pure (record { places = ns; values = vs })))
