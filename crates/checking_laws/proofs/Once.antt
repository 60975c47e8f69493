-- A list that names no interface twice names as many as are given at most, whatever each of them counts for.
use Rattle.std.specs.Prelude.{ℕ, suc, ◌≡◌, ◌+◌, ◌≤◌, Bool, true, false, not, ◌||◌, Option, Some, None, List, [], ◌∷◌, bytes_eq, if◌then◌else◌}
use Rattle.std.proofs.Common.{refl, sym, ap, subst, ◌∙◌, arith}
use Rattle.mesa_base.specs.declared.identifier.Identifier.{Identifier}
use Rattle.syntax_trees.specs.declared.syntax.DirectoryItem.{DirectoryItem}
use Rattle.interface_records.specs.PlainTypes.{PlainInterface}
use Rattle.check_rules.specs.Scopes.{has}
use Rattle.check_rules.specs.Directory.{listed, interface_at, place_in, put_some, those_of, names_in}
use Rattle.check_rules.specs.declared.fault.Cause.TheVariants.{UnknownName, TwiceDeclared}
use Rattle.check_rules.proofs.SoundSame.{bytes_itself, bytes_same}
use Rattle.checking_laws.proofs.Using.{Gives, all_right, and_gives, only_if, only_holds, gives_as}

-- no name stands twice, or among these
abbrev pub Apart : List (List ℕ) → List Identifier → Type 0
Apart before [] = Unit {0}
Apart before (x ∷ xs) = (has x.name before ≡ false) × Apart (x.name ∷ before) xs

is_false : (b : Bool) → not b ≡ true → b ≡ false
is_false true h = sym h
is_false false h = refl

pub listed_apart : (known before : List (List ℕ)) (xs : List Identifier) → Gives (λ v. Apart before xs) (listed known before xs)
unfolding listed
listed_apart known before [] = all_right tt
listed_apart known before (x ∷ xs) = and_gives (only_if (has x.name known) UnknownName x.place tt) (λ v w.
    and_gives (only_holds (not (has x.name before)) TwiceDeclared x.place tt) (λ v h.
    gives_as (listed known (x.name ∷ before) xs) (listed_apart known (x.name ∷ before) xs) (λ v k. (is_false _ h, k))))

module _ (g : PlainInterface → ℕ) where
  -- what interfaces count for together
  unfoldable pub total : List PlainInterface → ℕ
  total [] = 0
  total (i ∷ is) = g i + total is

  -- what the one of a name counts for, and those of names
  unfoldable at : List Identifier → List PlainInterface → List ℕ → ℕ
  at [] is x = 0
  at (y ∷ ys) [] x = 0
  at (y ∷ ys) (i ∷ is) x = if bytes_eq x y.name then g i else at ys is x

  unfoldable sum_at : List Identifier → List PlainInterface → List Identifier → ℕ
  sum_at ys is [] = 0
  sum_at ys is (x ∷ xs) = at ys is x.name + sum_at ys is xs

  -- the first interface of a list counts once, and not again where its name stood before
  abbrev spare : PlainInterface → Bool → ℕ
  spare i true = 0
  spare i false = g i

  spare_less : (i : PlainInterface) (b c : Bool) → spare i (b || c) ≤ spare i c
  spare_less i true true = omega arith
  spare_less i true false = omega arith
  spare_less i false c = omega arith

  one_by_one : (y x : List ℕ) (i : PlainInterface) (before : List (List ℕ)) (b : Bool) → bytes_eq x y ≡ b → has x before ≡ false → (here all rest : ℕ)
      → all ≤ spare i (has y (x ∷ before)) + rest → (if b then g i else here) + all ≤ spare i (has y before) + (here + rest)
  unfolding has
  one_by_one y x i before true e h here all rest k =
      let same : x ≡ y = bytes_same x y e in
      let none : spare i (has y before) ≡ g i = ap (spare i) (subst (λ z. has z before ≡ false) same h) in
      let again : bytes_eq y x ≡ true = subst (λ z. bytes_eq y z ≡ true) (sym same) (bytes_itself y) in
      let gone : spare i (bytes_eq y x || has y before) ≡ 0 = ap (λ c. spare i (c || has y before)) again in
      omega arith
  one_by_one y x i before false e h here all rest k = omega (arith, spare_less i (bytes_eq y x) (has y before))

  first_counts : (y : Identifier) (ys : List Identifier) (i : PlainInterface) (is : List PlainInterface) (before : List (List ℕ)) (xs : List Identifier)
      → Apart before xs → sum_at (y ∷ ys) (i ∷ is) xs ≤ spare i (has y.name before) + sum_at ys is xs
  unfolding sum_at at
  first_counts y ys i is before [] h = omega arith
  first_counts y ys i is before (x ∷ xs) h =
      one_by_one y.name x.name i before (bytes_eq x.name y.name) refl h.0 (at ys is x.name) (sum_at (y ∷ ys) (i ∷ is) xs) (sum_at ys is xs)
      (first_counts y ys i is (x.name ∷ before) xs h.1)

  none_there : (ys : List Identifier) (xs : List Identifier) → sum_at ys [] xs ≡ 0
  unfolding sum_at at
  none_there ys [] = refl
  none_there [] (x ∷ xs) = omega (arith, none_there [] xs)
  none_there (y ∷ ys) (x ∷ xs) = omega (arith, none_there (y ∷ ys) xs)

  no_names : (is : List PlainInterface) (xs : List Identifier) → sum_at [] is xs ≡ 0
  unfolding sum_at at
  no_names is [] = refl
  no_names is (x ∷ xs) = omega (arith, no_names is xs)

  once : (ys : List Identifier) (is : List PlainInterface) (xs : List Identifier) → Apart [] xs → sum_at ys is xs ≤ total is
  unfolding total has
  once [] is xs h = omega (arith, no_names is xs)
  once (y ∷ ys) [] xs h = omega (arith, none_there (y ∷ ys) xs)
  once (y ∷ ys) (i ∷ is) xs h = omega (arith, first_counts y ys i is [] xs h, once ys is xs h)

  -- the interface of a name, by its place among the names
  abbrev next : Option ℕ → Option ℕ
  next (Some n) = Some (suc n)
  next None = None

  shifted_if : (b : Bool) (n : ℕ) (o p : Option ℕ) → p ≡ next o → (if b then Some (suc n) else p) ≡ next (if b then Some n else o)
  shifted_if true n o p h = refl
  shifted_if false n o p h = h

  shifted : (n : ℕ) (ys : List Identifier) (x : List ℕ) → place_in (suc n) ys x ≡ next (place_in n ys x)
  unfolding place_in
  shifted n [] x = refl
  shifted n (y ∷ ys) x =
      let e : suc n + 1 ≡ suc (n + 1) = omega arith in
      shifted_if (bytes_eq x y.name) n (place_in (n + 1) ys x) (place_in (suc n + 1) ys x) (ap (λ k. place_in k ys x) e ∙ shifted (n + 1) ys x)

  behind_first : (i : PlainInterface) (is : List PlainInterface) (o : Option ℕ) → interface_at (i ∷ is) (next o) ≡ interface_at is o
  behind_first i is (Some n) = refl
  behind_first i is None = refl

  nothing_at : (o : Option ℕ) (rest : List PlainInterface) → total (put_some (interface_at [] o) rest) ≡ total rest
  nothing_at (Some n) rest = refl
  nothing_at None rest = refl

  found_if : (b : Bool) (i : PlainInterface) (is : List PlainInterface) (o : Option ℕ) (here : ℕ) (rest : List PlainInterface)
      → total (put_some (interface_at (i ∷ is) o) rest) ≡ here + total rest
      → total (put_some (interface_at (i ∷ is) (if b then Some 0 else o)) rest) ≡ (if b then g i else here) + total rest
  unfolding total
  found_if true i is o here rest h = refl
  found_if false i is o here rest h = h

  found : (ys : List Identifier) (is : List PlainInterface) (x : List ℕ) (rest : List PlainInterface)
      → total (put_some (interface_at is (place_in 0 ys x)) rest) ≡ at ys is x + total rest
  unfolding at place_in
  found [] is x rest = omega arith
  found (y ∷ ys) [] x rest = omega (arith, nothing_at (place_in 0 (y ∷ ys) x) rest)
  found (y ∷ ys) (i ∷ is) x rest =
      found_if (bytes_eq x y.name) i is (place_in 1 ys x) (at ys is x) rest
      (ap (λ o. total (put_some o rest)) (ap (interface_at (i ∷ is)) (shifted 0 ys x) ∙ behind_first i is (place_in 0 ys x)) ∙ found ys is x rest)

  those_count : (ds : List DirectoryItem) (is : List PlainInterface) (xs : List Identifier) → total (those_of ds is xs) ≡ sum_at (names_in ds) is xs
  unfolding total sum_at those_of
  those_count ds is [] = refl
  those_count ds is (x ∷ xs) = omega (arith, found (names_in ds) is x.name (those_of ds is xs), those_count ds is xs)

  pub those_once : (ds : List DirectoryItem) (is : List PlainInterface) (xs : List Identifier) → Apart [] xs → total (those_of ds is xs) ≤ total is
  those_once ds is xs h = omega (arith, those_count ds is xs, once (names_in ds) is xs h)
