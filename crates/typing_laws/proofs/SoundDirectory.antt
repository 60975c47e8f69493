-- The DIRECTORY: each of its items has its interface at its own number, and a list of its names names their interfaces.
use Rattle.std.proofs.Common.{◌≡◌, ℕ, zero, suc, ◌+◌, List, [], ◌∷◌, refl, sym, ◌∙◌, ap, subst, arith}
use Rattle.std.specs.Prelude.{Bool, true, false, ◌||◌, not, Some, None, Ok, Err, IfOk, bytes_eq, slice_get, if◌then◌else◌}
use Rattle.mesa_base.specs.declared.place.Place.{Place}
use Rattle.mesa_base.specs.declared.identifier.Identifier.{Identifier}
use Rattle.syntax_trees.specs.declared.syntax.DirectoryItem.{DirectoryItem}
use Rattle.check_rules.specs.Scopes.{has}
use Rattle.check_rules.specs.Parts.{names_of}
use Rattle.interface_records.specs.PlainTypes.{PlainInterface}
use Rattle.check_rules.specs.Steps.{Checked, and_then, only}
use Rattle.check_rules.specs.Directory.{place_in, names_in, directory, listed, using, first_entry, entries, interface_at, those_of}
use Rattle.check_rules.specs.declared.fault.Cause.{Cause}
use Rattle.check_rules.proofs.SoundTypes.{no_truth, none_is_no}
use Rattle.typing_laws.proofs.SoundSteps.{weaker}
use Rattle.check_rules.proofs.SoundSame.{bytes_same, bytes_itself}

-- each item has an interface, and a name that stands neither before nor again
unfoldable pub Aligned : List (List ℕ) → List DirectoryItem → List PlainInterface → Type 0
Aligned before [] is = Unit {0}
Aligned before (d ∷ ds) [] = ⊥
Aligned before (d ∷ ds) (i ∷ is) = (has d.name.name before ≡ false) × Aligned (d.name.name ∷ before) ds is

holds : {A : Type 0} (b : Bool) (cause : Cause) (place : Place) (f : Unit {0} → Checked A) (Q : A → Type 0) → (b ≡ true → IfOk (f tt) Q)
    → IfOk (and_then (only b cause place) f) Q
holds true cause place f Q h = h refl
holds false cause place f Q h = tt

any_way : {A B : Type 0} (r : Checked A) (f : A → Checked B) (Q : B → Type 0) → ((x : A) → IfOk (f x) Q) → IfOk (and_then r f) Q
any_way (Ok x) f Q h = h x
any_way (Err e) f Q h = tt

is_not : (b : Bool) → not b ≡ true → b ≡ false
is_not true e = no_truth e
is_not false e = refl

pub directory_aligned : (before : List (List ℕ)) (ds : List DirectoryItem) (is : List PlainInterface) → IfOk (directory before ds is) (λ u. Aligned before ds is)
unfolding directory Aligned
directory_aligned before [] is = tt
directory_aligned before (d ∷ ds) [] = tt
directory_aligned before (d ∷ ds) (i ∷ is) =
    holds (bytes_eq d.name.name i.name) _ _ _ (λ u. Aligned before (d ∷ ds) (i ∷ is)) (λ e.
    holds (not (has d.name.name before)) _ _ _ (λ u. Aligned before (d ∷ ds) (i ∷ is)) (λ k.
    any_way (using (first_entry (entries None i)) d.used) _ (λ u. Aligned before (d ∷ ds) (i ∷ is)) (λ v.
    weaker (directory (d.name.name ∷ before) ds is) (λ u. Aligned (d.name.name ∷ before) ds is) (λ u. Aligned before (d ∷ ds) (i ∷ is))
    (λ u h. (is_not (has d.name.name before) k, h)) (directory_aligned (d.name.name ∷ before) ds is))))

neither_left : (a b : Bool) → (a || b) ≡ false → a ≡ false
neither_left true b e = e
neither_left false b e = refl

neither_right : (a b : Bool) → (a || b) ≡ false → b ≡ false
neither_right true b e = no_truth (sym e)
neither_right false b e = e

-- a name further on stands not before
not_before : (before : List (List ℕ)) (ds : List DirectoryItem) (is : List PlainInterface) (j : ℕ) (d : DirectoryItem) → Aligned before ds is
    → slice_get ds j ≡ Some d → has d.name.name before ≡ false
unfolding Aligned has
not_before before [] is j d h e = none_is_no d e
not_before before (x ∷ ds) [] j d h e = absurd h
not_before before (x ∷ ds) (i ∷ is) zero d h e = subst (λ (y : DirectoryItem). has y.name.name before ≡ false) (same_item x d e) h.0
  where
    same_item : (a b : DirectoryItem) → Some a ≡ Some b → a ≡ b
    same_item a b e = cc
not_before before (x ∷ ds) (i ∷ is) (suc j) d h e =
    neither_right (bytes_eq d.name.name x.name.name) (has d.name.name before) (not_before (x.name.name ∷ before) ds is j d h.1 e)

-- the first item of a name is the only one
pub place_of_item : (before : List (List ℕ)) (ds : List DirectoryItem) (is : List PlainInterface) (n j : ℕ) (d : DirectoryItem) → Aligned before ds is
    → slice_get ds j ≡ Some d → place_in n (names_in ds) d.name.name ≡ Some (n + j)
unfolding Aligned place_in has
place_of_item before [] is n j d h e = none_is_no d e
place_of_item before (x ∷ ds) [] n j d h e = absurd h
place_of_item before (x ∷ ds) (i ∷ is) n zero d h e =
    let same : d ≡ x = sym (same_item x d e) in
    let here : bytes_eq d.name.name x.name.name ≡ true = subst (λ (y : DirectoryItem). bytes_eq d.name.name y.name.name ≡ true) same
    (bytes_itself d.name.name) in
    let number : n ≡ n + 0 = omega arith in
    rw here (ap Some number)
  where
    same_item : (a b : DirectoryItem) → Some a ≡ Some b → a ≡ b
    same_item a b e = cc
place_of_item before (x ∷ ds) (i ∷ is) n (suc j) d h e =
    let apart : bytes_eq d.name.name x.name.name ≡ false = neither_left (bytes_eq d.name.name x.name.name) (has d.name.name before)
    (not_before (x.name.name ∷ before) ds is j d h.1 e) in
    let number : n + 1 + j ≡ n + suc j = omega arith in
    rw apart (place_of_item (x.name.name ∷ before) ds is (n + 1) j d h.1 e ∙ ap Some number)

-- a list of names of the DIRECTORY names an interface with each
unfoldable pub AllKnown : List (List ℕ) → List Identifier → Type 0
AllKnown known [] = Unit {0}
AllKnown known (x ∷ xs) = (has x.name known ≡ true) × AllKnown known xs

pub listed_known : (known before : List (List ℕ)) (xs : List Identifier) → IfOk (listed known before xs) (λ u. AllKnown known xs)
unfolding listed AllKnown
listed_known known before [] = tt
listed_known known before (x ∷ xs) =
    holds (has x.name known) _ _ _ (λ u. AllKnown known (x ∷ xs)) (λ e.
    holds (not (has x.name before)) _ _ _ (λ u. AllKnown known (x ∷ xs)) (λ k.
    weaker (listed known (x.name ∷ before) xs) (λ u. AllKnown known xs) (λ u. AllKnown known (x ∷ xs)) (λ u h. (e, h))
    (listed_known known (x.name ∷ before) xs)))

found_by : (before : List (List ℕ)) (ds : List DirectoryItem) (is : List PlainInterface) (n : ℕ) (x : List ℕ) → Aligned before ds is
    → has x (names_of (names_in ds)) ≡ true
    → (j : ℕ) × (f : PlainInterface) × (place_in n (names_in ds) x ≡ Some (n + j)) × (slice_get is j ≡ Some f)
unfolding Aligned has place_in
found_by before [] is n x h e = no_truth e
found_by before (d ∷ ds) [] n x h e = absurd h
found_by before (d ∷ ds) (i ∷ is) n x h e = by (bytes_eq x d.name.name) refl e (found_by (d.name.name ∷ before) ds is (n + 1) x h.1)
  where
    by : (b : Bool) → bytes_eq x d.name.name ≡ b → (b || has x (names_of (names_in ds))) ≡ true
        → (has x (names_of (names_in ds)) ≡ true → (j : ℕ) × (f : PlainInterface) × (place_in (n + 1) (names_in ds) x ≡ Some (n + 1 + j)) × (slice_get is j
        ≡ Some f))
        → (j : ℕ) × (f : PlainInterface) × (place_in n (d.name ∷ names_in ds) x ≡ Some (n + j)) × (slice_get (i ∷ is) j ≡ Some f)
    by true c k more = let number : n ≡ n + 0 = omega arith in (0, i, rw c (ap Some number), refl)
    by false c k more =
        let r = more k in
        let number : n + 1 + r.0 ≡ n + suc r.0 = omega arith in
        (suc r.0, r.1, rw c (r.2 ∙ ap Some number), r.3)

-- the interface of a name, by its place in the list
pub interface_there : (ds : List DirectoryItem) (is : List PlainInterface) (xs : List Identifier) (n k j : ℕ) (d : DirectoryItem) (f : PlainInterface)
    → Aligned [] ds is → AllKnown (names_of (names_in ds)) xs → slice_get ds j ≡ Some d → slice_get is j ≡ Some f
    → place_in n xs d.name.name ≡ Some k
    → (m : ℕ) × (k ≡ n + m) × (slice_get (those_of ds is xs) m ≡ Some f)
unfolding place_in AllKnown those_of
interface_there ds is [] n k j d f h a e g p = none_is_no k p
interface_there ds is (x ∷ xs) n k j d f h a e g p = by (bytes_eq d.name.name x.name) refl p (interface_there ds is xs (n + 1) k j d f h a.1 e g)
  where
    same_number : (a b : ℕ) → Some a ≡ Some b → a ≡ b
    same_number a b e = cc

    by : (b : Bool) → bytes_eq d.name.name x.name ≡ b → (if b then Some n else place_in (n + 1) xs d.name.name) ≡ Some k
        → (place_in (n + 1) xs d.name.name ≡ Some k → (m : ℕ) × (k ≡ n + 1 + m) × (slice_get (those_of ds is xs) m ≡ Some f))
        → (m : ℕ) × (k ≡ n + m) × (slice_get (those_of ds is (x ∷ xs)) m ≡ Some f)
    by true c q more =
        let at' : place_in 0 (names_in ds) x.name ≡ Some (0 + j) = subst (λ y. place_in 0 (names_in ds) y ≡ Some (0 + j)) (bytes_same d.name.name x.name c)
        (place_of_item [] ds is 0 j d h e) in
        let number : 0 + j ≡ j = omega arith in
        let there : interface_at is (place_in 0 (names_in ds) x.name) ≡ Some f = ap (interface_at is) (at' ∙ ap Some number) ∙ g in
        (0, omega (arith, same_number n k q), rw there refl)
    by false c q more =
        let r = more q in
        let o = found_by [] ds is 0 x.name h a.0 in
        let number : 0 + o.0 ≡ o.0 = omega arith in
        let there : interface_at is (place_in 0 (names_in ds) x.name) ≡ Some o.1 = ap (interface_at is) (o.2 ∙ ap Some number) ∙ o.3 in
        (suc r.0, omega (arith, r.1), rw there r.2)
