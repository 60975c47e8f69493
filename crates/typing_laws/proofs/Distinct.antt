-- The names of an interface are distinct: each is new in the module's scope where it is declared, and stays there.
use Rattle.std.specs.Option.{option_or}
use Rattle.std.specs.Prelude.{ℕ, ◌≡◌, ◌+◌, ◌≤◌, Bool, true, false, not, ◌||◌, Option, Some, None, Ok, Err, List, [], ◌∷◌, ◌++◌, length, map, is_some, cond, bytes_eq, IfOk, nat_le}
use Rattle.std.proofs.Common.{refl, sym, ap, subst, ◌∙◌, arith}
use Rattle.std.proofs.lemmas.Slice.Eq.{bytes_eq-Decides}
use Rattle.mesa_base.specs.declared.limits.TheConstants.{OPERAND_WORDS}
use Rattle.mesa_base.specs.declared.place.Place.{Place}
use Rattle.mesa_base.specs.declared.identifier.Identifier.{Identifier}
use Rattle.syntax_trees.specs.Syntax as s
use Rattle.mesa_types.specs.declared.faces.Item.{Item}
use Rattle.mesa_types.specs.declared.faces.ItemKind.{ItemKind}
use Rattle.mesa_types.specs.declared.faces.ItemKind.TheVariants as item
use Rattle.interface_records.specs.declared.interface.Interface.{Interface}
use Rattle.interface_records.specs.declared.interface.Constant.{Constant}
use Rattle.interface_records.specs.declared.interface.NamedType.{NamedType}
use Rattle.interface_records.specs.PlainTypes.{PlainType, PlainItem, PlainConstant, PlainName, PlainInterface, item_of, constant_of, named_of, interface_of, plain_interface}
use Rattle.check_rules.specs.Scopes.{innermost, has}
use Rattle.check_rules.specs.Meanings as meaning
use Rattle.check_rules.specs.Meanings.{Meaning, Later}
use Rattle.check_rules.specs.Steps.{State, Check, Checked, ◌>>=◌, pure, only, lift, within_operands, measured, ensure}
use Rattle.check_rules.specs.Around.{Around, Known, in_constant, body_of}
use Rattle.check_rules.specs.Parts.{names_of, first, first_name}
use Rattle.check_rules.specs.Ranges.{Into}
use Rattle.check_rules.specs.Names.{announce, settle, each_means, shown, coming, is_declared}
use Rattle.check_rules.specs.Statements.{constant_meaning}
use Rattle.check_rules.specs.Checking.{check, type_exp}
use Rattle.check_rules.specs.Programs.{before_others, Heading, heading, named_item, outermost}
use Rattle.check_rules.specs.Definitions as d
use Rattle.check_rules.specs.CheckedModule.{checked_definitions, interface_by, definitions, known_of, start, defined_as, lists}
use Rattle.check_rules.specs.declared.fault.Cause.TheVariants.{TwiceDeclared, FrameTooLarge}
use Rattle.check_rules.specs.Laws.{names_of_interface, NamesStandOnce}
use Rattle.interface_records.specs.Lists.{NoneTwice}
use Rattle.check_rules.specs.Places as places
use Rattle.typing_laws.proofs.Coming.{bit}
use Rattle.typing_laws.proofs.Keeping.{Kept, Anything, From, Later as LaterState}
use Rattle.typing_laws.proofs.KeptNames.{ConstantStands}
use Rattle.typing_laws.proofs.KeptModule.{defined_kept, anywhere}
use Rattle.typing_laws.proofs.Outcomes.{then_ok, any_ok, ok_as, both_ok, ok_only, ok_bind, told_ok, length_of_map, map_append, map_twice}

-- how often a name stands in a list
abbrev pub times : List ℕ → List (List ℕ) → ℕ
times n [] = 0
times n (x ∷ xs) = bit (bytes_eq x n) + times n xs

abbrev in_top : State → List ℕ → ℕ
in_top σ n = bit (is_some (innermost σ.scopes n))

abbrev names : d.Defined → List (List ℕ)
names y = map (λ (i : PlainItem). i.name) y.items ++ (map (λ (c : PlainConstant). c.name) y.constants ++ map (λ (x : PlainName). x.name) y.types)

pub bit_small : (b : Bool) → bit b ≤ 1
bit_small true = omega arith
bit_small false = omega arith

pub times_append : (n : List ℕ) (xs ys : List (List ℕ)) → times n (xs ++ ys) ≡ times n xs + times n ys
times_append n [] ys = omega arith
times_append n (x ∷ xs) ys = let h : times n (xs ++ ys) ≡ times n xs + times n ys = times_append n xs ys in omega arith

times_map : {A : Type 0} (n : List ℕ) (f : A → List ℕ) (xs ys : List A) → times n (map f (xs ++ ys)) ≡ times n (map f xs) + times n (map f ys)
times_map n f xs ys = ap (times n) (map_append f xs ys) ∙ times_append n (map f xs) (map f ys)

times_names : (n : List ℕ) (y : d.Defined) → times n (names y)
    ≡ times n (map (λ (i : PlainItem). i.name) y.items) + times n (map (λ (c : PlainConstant). c.name) y.constants) + times n
    (map (λ (x : PlainName). x.name) y.types)
times_names n y = omega (
  arith,
  times_append n (map (λ (i : PlainItem). i.name) y.items) (map (λ (c : PlainConstant). c.name) y.constants ++ map (λ (x : PlainName). x.name) y.types),
  times_append n (map (λ (c : PlainConstant). c.name) y.constants) (map (λ (x : PlainName). x.name) y.types),
)

both_names : (n : List ℕ) (y z : d.Defined) → times n (names (d.and_defined y z)) ≡ times n (names y) + times n (names z)
both_names n y z = omega (
  arith,
  times_names n y,
  times_names n z,
  times_names n (d.and_defined y z),
  times_map n (λ (i : PlainItem). i.name) y.items z.items,
  times_map n (λ (c : PlainConstant). c.name) y.constants z.constants,
  times_map n
      (λ (x : PlainName). x.name) y.types z.types,
)

ok_kept : {A : Type 0} (Stands : Place → Type 0) (P : A → Type 0) (r : Checked A) → Kept Stands P r → IfOk r P
ok_kept Stands P (Ok a) h = h
ok_kept Stands P (Err e) h = tt

-- names that are announced are new, and each stands once
Announced : List Identifier → State → Unit {0} × State → Type 0
Announced xs σ r = (r.1.scopes ≡ σ.scopes) × ((n : List ℕ) → times n (names_of xs) + bit (is_declared n σ) ≤ 1)

pub same_name : (x n : List ℕ) → bytes_eq x n ≡ true → x ≡ n
same_name x n e = (bytes_eq-Decides x n).0 e

pub turned_false : (b : Bool) → not b ≡ true → b ≡ false
turned_false true e = sym e
turned_false false e = refl

declared_more : (x n : List ℕ) (σ : State) → is_declared x σ ≡ false → bit (bytes_eq x n) + bit (is_declared n σ) ≤ bit (is_declared n (coming x Later σ))
declared_more x n σ e = go (bytes_eq x n) refl
  where
    go : (b : Bool) → bytes_eq x n ≡ b → bit b + bit (is_declared n σ) ≤ bit (is_some (cond b (Some Later) (σ.coming n)) || is_some (innermost σ.scopes n))
    go true h = omega (arith, ap bit (subst (λ y. is_declared y σ ≡ false) (same_name x n h) e))
    go false h = omega arith

announce_new : (xs : List Identifier) (σ : State) → IfOk (announce xs σ) (Announced xs σ)
unfolding announce Announced
announce_new [] σ = (refl, λ n. omega (arith, bit_small (is_declared n σ)))
announce_new (x ∷ xs) σ = then_ok (λ _. not (is_declared x.name σ) ≡ true) (Announced (x ∷ xs) σ) (only (not (is_declared x.name σ)) TwiceDeclared x.place)
    (λ _. announce xs (coming x.name Later σ))
    (ok_only (not (is_declared x.name σ)) TwiceDeclared x.place) (λ u e.
    ok_as (Announced xs (coming x.name Later σ)) (Announced (x ∷ xs) σ) (announce xs (coming x.name Later σ)) (announce_new xs (coming x.name Later σ)) (λ r p.
    (p.0, λ n. omega (arith, p.1 n, declared_more x.name n σ (turned_false (is_declared x.name σ) e)))))

-- a name that is declared
coming_grows : (xs : List Identifier) (ms : List Meaning) (σ : State) (n : List ℕ) → bit (is_some (σ.coming n)) ≤ bit (is_some ((each_means xs ms σ).coming n))
unfolding each_means
coming_grows [] ms σ n = omega arith
coming_grows (x ∷ xs) [] σ n = omega arith
coming_grows (x ∷ xs) (m ∷ ms) σ n = omega (arith, coming_grows xs ms (coming x.name m σ) n, one_more (bytes_eq x.name n))
  where
    one_more : (b : Bool) → bit (is_some (σ.coming n)) ≤ bit (is_some (cond b (Some m) (σ.coming n)))
    one_more true = bit_small (is_some (σ.coming n))
    one_more false = omega arith

by_name : (b : Bool) (m : Meaning) (o : Option Meaning) (k t : ℕ) → bit b + k ≤ 1 → bit (is_some (cond b (Some m) o)) ≤ t → k ≤ t → bit b + k ≤ t
by_name true m o k t h i j = omega arith
by_name false m o k t h i j = omega arith

in_coming : (xs : List Identifier) (ms : List Meaning) → length xs ≡ length ms → (σ : State) (n : List ℕ) → times n (names_of xs) ≤ 1
    → times n (names_of xs) ≤ bit (is_some ((each_means xs ms σ).coming n))
unfolding each_means
in_coming [] ms e σ n h = omega arith
in_coming (x ∷ xs) [] e σ n h = absurd (omega (arith, e))
in_coming (x ∷ xs) (m ∷ ms) e σ n h = by_name (bytes_eq x.name n) m (σ.coming n) (times n (names_of xs))
    (bit (is_some ((each_means xs ms (coming x.name m σ)).coming n))) h
    (coming_grows xs ms (coming x.name m σ) n) (in_coming xs ms (omega (arith, e)) (coming x.name m σ) n (omega (arith, h)))

settled_names : (xs : List Identifier) (ms : List Meaning) → length xs ≡ length ms → (σ : State) (n : List ℕ) → times n (names_of xs) ≤ 1
    → times n (names_of xs) ≤ in_top (shown (each_means xs ms σ)) n
settled_names xs ms e σ n h = omega (arith, in_coming xs ms e σ n h, or_more ((each_means xs ms σ).coming n) (innermost (each_means xs ms σ).scopes n))
  where
    or_more : (a b : Option Meaning) → bit (is_some a) ≤ bit (is_some (option_or a b))
    or_more (Some a) b = omega arith
    or_more None b = omega arith

-- what a declaration declares has its names alone, and they are names of the scope from then on
EndsIn : List Identifier → d.Defined × State → Type 0
EndsIn xs r = (n : List ℕ) → times n (names_of xs) ≤ 1 → (times n (names r.0) ≤ times n (names_of xs)) × (times n (names_of xs) ≤ in_top r.1 n)

record Ends (xs : List Identifier) (c : Check d.Defined) : Type 0 where
  in_state : (σ : State) → IfOk (c σ) (EndsIn xs)

ends_bind : {A : Type 0} (xs : List Identifier) (c : Check A) {f : A → Check d.Defined} → ((a : A) → Ends xs (f a)) → Ends xs (c >>= f)
ends_bind {A} xs c {f} h = record { in_state = λ σ. then_ok (λ _. Unit {0}) (EndsIn xs) (c σ) (λ r. f r.0 r.1) (any_ok (c σ)) (λ r u. (h r.0).in_state r.1) }

settles : (xs : List Identifier) (ms : List Meaning) (y : d.Defined) → length xs ≡ length ms → ((n : List ℕ) → times n (names y) ≤ times n (names_of xs))
    → Ends xs (settle xs ms >>= (λ _. pure y))
unfolding settle EndsIn
settles xs ms y e h = record { in_state = λ σ n k. (h n, settled_names xs ms e σ n k) }

item_names : (kind : ItemKind) (h : Heading) (xs : List Identifier) → map (λ (i : PlainItem). i.name) (map (named_item kind h) xs) ≡ names_of xs
item_names kind h [] = refl
item_names kind h (x ∷ xs) = ap (λ ns. x.name ∷ ns) (item_names kind h xs)

type_names : (k : PlainType) (xs : List Identifier) → map (λ (x : PlainName). x.name) (map (d.named_type k) xs) ≡ names_of xs
type_names k [] = refl
type_names k (x ∷ xs) = ap (λ ns. x.name ∷ ns) (type_names k xs)

constant_names : (n : List ℕ) (xs : List Identifier) (m : Meaning) → times n (map (λ (c : PlainConstant). c.name) (d.constants_by xs m)) ≤ times n (names_of xs)
constant_names n xs (meaning.Constant k w) = omega (arith, ap (times n) (named_constants xs))
  where
    named_constants : (xs : List Identifier) → map (λ (c : PlainConstant). c.name) (d.constants_by xs (meaning.Constant k w)) ≡ names_of xs
    named_constants [] = refl
    named_constants (x ∷ xs) = ap (λ ns. x.name ∷ ns) (named_constants xs)
constant_names n xs _ = omega arith

defined_items_end : (kind : ItemKind) (xs : List Identifier) (h : Heading) → Ends xs (d.defined_items kind xs h)
defined_items_end kind xs h = settles xs (map (d.item_meaning kind) (map (named_item kind h) xs))
    (record d.nothing_defined { items = map (named_item kind h) xs })
    (omega (arith, length_of_map (d.item_meaning kind) (map (named_item kind h) xs), length_of_map (named_item kind h) xs))
    (λ n. omega (arith, times_names n (record d.nothing_defined { items = map (named_item kind h) xs }), ap (times n) (item_names kind h xs)))

defined_end : (a : Around) (xs : List Identifier) (x : s.Defined) → Ends xs (d.defined a xs x)
unfolding d.defined
defined_end a xs (s.ProcedureItem h) = ends_bind xs (heading a h.takes h.gives) (λ y. defined_items_end item.Procedure xs y)
defined_end a xs (s.SignalItem h) = ends_bind xs (heading a h.takes h.gives) (λ y. defined_items_end item.Signal xs y)
defined_end a xs (s.ErrorItem takes) = ends_bind xs (heading a takes None) (λ y. defined_items_end item.Error xs y)
defined_end a xs (s.TypeItem e) = ends_bind xs (type_exp a e)
    (λ k. settles xs (map (λ x. meaning.TypeName k) xs) (record d.nothing_defined { types = map (d.named_type k) xs })
    (omega (arith, length_of_map (λ (x : Identifier). meaning.TypeName k) xs))
    (λ n. omega (arith, times_names n (record d.nothing_defined { types = map (d.named_type k) xs }), ap (times n) (type_names k xs))))
defined_end a xs (s.ConstantItem e x) = ends_bind xs (type_exp a e) (λ k. ends_bind xs (check (in_constant (first x) a) (Into k (first x)) x) (λ y.
    ends_bind xs (lift (constant_meaning a k x (first x) y.value))
    (λ c. settles xs (map (λ x. c) xs) (record d.nothing_defined { constants = d.constants_by xs c })
    (omega (arith, length_of_map (λ (x : Identifier). c) xs))
    (λ n. omega (arith, times_names n (record d.nothing_defined { constants = d.constants_by xs c }), constant_names n xs c)))))

-- the names of an interface are new in its scope, and in it from then on
New : State → d.Defined × State → Type 0
New σ r = (n : List ℕ) → times n (names r.0) + in_top σ n ≤ in_top r.1 n

top_of : (σ : State) (n : List ℕ) → in_top σ n ≤ bit (is_declared n σ)
top_of σ n = go (is_some (σ.coming n)) (is_some (innermost σ.scopes n))
  where
    go : (a b : Bool) → bit b ≤ bit (a || b)
    go true b = bit_small b
    go false b = omega arith

top_grows : (σ τ : State) → LaterState σ τ → (n : List ℕ) → in_top σ n ≤ in_top τ n
top_grows σ τ l n = go (is_some (innermost σ.scopes n)) (is_some (innermost τ.scopes n)) (l.more n)
  where
    go : (a b : Bool) → (a ≡ true → b ≡ true) → bit a ≤ bit b
    go true b h = omega (arith, ap bit (h refl))
    go false b h = omega arith

same_top : (σ τ : State) → τ.scopes ≡ σ.scopes → (n : List ℕ) → in_top τ n ≡ in_top σ n
same_top σ τ e n = ap (λ ss. bit (is_some (innermost ss n))) e

new_name : (k t b c : ℕ) → k + b ≤ 1 → t ≤ k → k ≤ c → b ≤ c → b ≤ 1 → t + b ≤ c
new_name k t b c h i j l m = omega arith

module _ (a : Around) (c : ConstantStands Anything a.constant) where
  declared_new : (xs : List Identifier) (x : s.Defined) (σ : State) → IfOk ((announce xs >>= (λ _. d.defined a xs x)) σ) (New σ)
  unfolding New Announced EndsIn
  declared_new xs x σ = ok_bind (Announced xs σ) (New σ) (announce xs) (λ _. d.defined a xs x) σ (announce_new xs σ) (λ r p.
      both_ok (EndsIn xs) (From Anything r.1) (New σ) (d.defined a xs x r.1) ((defined_end a xs x).in_state r.1)
      (ok_kept Anything (From Anything r.1) (d.defined a xs x r.1) ((defined_kept Anything a c xs x (anywhere (places.of_defined x))).in_state r.1))
      (λ y e l n. new_name (times n (names_of xs)) (times n (names y.0)) (in_top σ n) (in_top y.1 n) (omega (arith, p.1 n, top_of σ n))
      (e n (omega (arith, p.1 n))).0 (e n (omega (arith, p.1 n))).1 (omega (arith, same_top σ r.1 p.0 n, top_grows r.1 y.1 l.1 n))
      (bit_small (is_some (innermost σ.scopes n)))))

  one_new : (xs : List Identifier) (x : s.Defined) (σ : State) → IfOk (within_operands 0 (first_name xs) (announce xs >>= (λ _. d.defined a xs x)) σ) (New σ)
  unfolding New
  one_new xs x σ = ok_bind {A = d.Defined × ℕ} (λ r. New σ (r.0.0, r.1)) (New σ) (measured (announce xs >>= (λ _. d.defined a xs x)))
      (λ r. ensure (nat_le (0 + r.1) OPERAND_WORDS) FrameTooLarge (first_name xs) >>= (λ _. pure r.0)) σ
      (then_ok (New (record σ { operands = 0 })) (λ r. New σ (r.0.0, r.1)) ((announce xs >>= (λ _. d.defined a xs x)) (record σ { operands = 0 }))
      (λ r. Ok ((r.0, r.1.operands), record r.1 { operands = σ.operands }))
      (declared_new xs x (record σ { operands = 0 })) (λ r p. p))
      (λ r p. ok_bind (λ y. New σ (r.0.0, y.1)) (New σ) (ensure (nat_le (0 + r.0.1) OPERAND_WORDS) FrameTooLarge (first_name xs)) (λ _. pure r.0.0) r.1
      (then_ok (λ _. Unit {0}) (λ y. New σ (r.0.0, y.1)) (only (nat_le (0 + r.0.1) OPERAND_WORDS) FrameTooLarge (first_name xs)) (λ u. Ok (u, r.1))
      (any_ok (only (nat_le (0 + r.0.1) OPERAND_WORDS) FrameTooLarge (first_name xs))) (λ u w. p)) (λ y q. q))

  all_new : (ds : List s.Definition) (σ : State) → IfOk (d.all_defined a ds σ) (New σ)
  unfolding New d.all_defined
  all_new [] σ = λ n. omega arith
  all_new (x ∷ ds) σ = ok_bind (New σ) (New σ) (before_others (λ (e : s.Definition). e.names) d.definition a x ds)
      (λ y. d.all_defined a ds >>= (λ more. pure (d.and_defined y more))) σ (told_ok (New σ) (d.definition a x σ) _ (one_new x.names x.defined σ)) (λ r p.
      then_ok (New r.1) (New σ) (d.all_defined a ds r.1) (λ q. Ok (d.and_defined r.0 q.0, q.1)) (all_new ds r.1)
      (λ q h n. omega (arith, p n, h n, both_names n r.0 q.0)))

-- a list in which no name stands twice
bytes_eq_turns : (x y : List ℕ) → bytes_eq x y ≡ bytes_eq y x
bytes_eq_turns x y = go (bytes_eq x y) (bytes_eq y x) refl refl
  where
    go : (a b : Bool) → bytes_eq x y ≡ a → bytes_eq y x ≡ b → a ≡ b
    go true true e f = refl
    go false false e f = refl
    go true false e f = sym ((bytes_eq-Decides y x).1 (sym (same_name x y e))) ∙ f
    go false true e f = sym e ∙ (bytes_eq-Decides x y).1 (sym (same_name y x f))

bit_zero : (b : Bool) → bit b ≡ 0 → b ≡ false
bit_zero true e = absurd (omega (arith, e))
bit_zero false e = refl

neither : (a b : Bool) → a ≡ false → b ≡ false → (a || b) ≡ false
neither true b e f = e
neither false b e f = f

has_none : (x : List ℕ) (xs : List (List ℕ)) → times x xs ≡ 0 → has x xs ≡ false
unfolding has
has_none x [] e = refl
has_none x (y ∷ ys) e = neither (bytes_eq x y) (has x ys) (bytes_eq_turns x y ∙ bit_zero (bytes_eq y x) (omega (arith, e))) (has_none x ys (omega (arith, e)))

pub none_twice : (xs : List (List ℕ)) → ((n : List ℕ) → times n xs ≤ 1) → NoneTwice xs
unfolding NoneTwice
none_twice [] h = tt
none_twice (x ∷ xs) h = (has_none x xs (omega (arith, h x, ap bit ((bytes_eq-Decides x x).1 refl))), none_twice xs (λ n. omega (arith, h n)))

plain_names : (y : d.Defined) (m : s.Module) (stamp : ℕ) → names_of_interface (interface_of (defined_as m stamp y)) ≡ names y
plain_names y m stamp =
    ap (λ ns. ns ++ (map (λ (c : Constant). c.name) (map constant_of y.constants) ++ map (λ (x : NamedType). x.name) (map named_of y.types)))
    (map_twice item_of (λ (x : Item). x.name) (λ (x : PlainItem). x.name) (λ x. refl) y.items)
    ∙ ap (λ ns. map (λ (x : PlainItem). x.name) y.items ++ (ns ++ map (λ (x : NamedType). x.name) (map named_of y.types)))
    (map_twice constant_of (λ (c : Constant). c.name) (λ (c : PlainConstant). c.name) (λ x. refl) y.constants)
    ∙ ap (λ ns. map (λ (x : PlainItem). x.name) y.items ++ (map (λ (c : PlainConstant). c.name) y.constants ++ ns))
    (map_twice named_of (λ (x : NamedType). x.name) (λ (x : PlainName). x.name) (λ x. refl) y.types)

NamesOnce : PlainInterface → Type 0
NamesOnce i = NoneTwice (names_of_interface (interface_of i))

module _ (m : s.Module) (stamp : ℕ) (is : List PlainInterface) where
  definitions_once : (opens : List Identifier) (defs : List s.Definition) → IfOk (definitions m stamp is opens defs) NamesOnce
  unfolding NamesOnce New
  definitions_once opens defs = then_ok (λ _. Unit {0}) NamesOnce (lists m is [] [] opens) _ (any_ok (lists m is [] [] opens)) (λ u w.
      let known : Known = known_of m (Some stamp) false [] is in
      let σ : State = start m known (d.ahead defs) opens [] in
      then_ok (New σ) NamesOnce (d.all_defined (outermost (body_of known [] [])) defs σ) (λ r. Ok (defined_as m stamp r.0))
      (all_new (outermost (body_of known [] [])) tt defs σ) (λ r p.
      subst NoneTwice (sym (plain_names r.0 m stamp)) (none_twice (names r.0) (λ n. omega (arith, p n, bit_small (is_some (innermost r.1.scopes n)))))))

  interface_once : (k : s.ModuleKind) → IfOk (interface_by m stamp is k) NamesOnce
  interface_once (s.Program p imports exports opens inner) = tt
  interface_once (s.Interface p opens defs) = definitions_once opens defs

pub names_once : NamesStandOnce
unfolding checked_definitions NamesOnce
names_once m stamp is = then_ok NamesOnce (λ (i : Interface). NoneTwice (names_of_interface i)) (interface_by m stamp (map plain_interface is) m.kind)
    (λ i. Ok (interface_of i)) (interface_once m stamp (map plain_interface is) m.kind) (λ i h. h)
