-- Lists that are too long to be written: enumerations of 65,536 and of 65,537 elements, and 65,536 string literals.
use Rattle.std.proofs.Common.{◌≡◌, ℕ, zero, suc, ◌+◌, ◌-◌, ◌*◌, ◌/◌, ◌%◌, ◌≤◌, Bool, true, false, ◌||◌, List, [], ◌∷◌, length, Option, Some, None, Ok, Err, cond, refl, sym, ap, ◌∙◌, arith}
use Rattle.std.specs.Prelude.{codes, option_map, bytes_eq, is_some, nat_le, not, if◌then◌else◌}
use Rattle.std.proofs.Math.Nat.{div-add-mod}
use Rattle.std.proofs.lemmas.Slice.Eq.{bytes_eq-Decides}
use Rattle.mesa_base.specs.declared.limits.TheConstants.{DISTINCT_STRINGS, ENUMERATION_ELEMENTS}
use Rattle.mesa_base.specs.declared.place.Place.{Place}
use Rattle.mesa_base.specs.declared.identifier.Identifier.{Identifier}
use Rattle.syntax_trees.specs.Syntax as syntax
use Rattle.interface_records.specs.PlainTypes as v
use Rattle.interface_records.specs.PlainTypes.{PlainType, PlainInterface}
use Rattle.check_rules.specs.Scopes.{innermost, nothing}
use Rattle.check_rules.specs.Meanings.{Meaning, Constant, Later}
use Rattle.check_rules.specs.Around.{Around, Known, body_of}
use Rattle.check_rules.specs.Steps.{State, Fault, Checked, and_then, only, or_refuse, refuse}
use Rattle.check_rules.specs.Typed as t
use Rattle.check_rules.specs.Ranges.{typed, Free}
use Rattle.check_rules.specs.Names.{is_declared, at_once, coming, element_in, announce, settle, each_means}
use Rattle.check_rules.specs.Definitions.{Defined, definition, defined, nothing_defined, and_defined, all_defined}
use Rattle.check_rules.specs.Programs.{outermost, told}
use Rattle.check_rules.specs.CheckedModule.{defined_as, interface_by, known_of, start}
use Rattle.check_rules.specs.Mentions as mentions
use Rattle.check_rules.specs.Directory as directory
use Rattle.check_rules.specs.Definitions as definitions
use Rattle.check_rules.specs.Parts.{names_of}
use Rattle.check_rules.specs.TypeRules.{elements, few, origin}
use Rattle.check_rules.specs.Checking.{type_exp, check}
use Rattle.check_rules.specs.Values.{number_in, string}
use Rattle.check_rules.specs.declared.fault.Cause.TheVariants.{TwiceDeclared, TypeTooLarge, GlobalsTooLarge}

-- names of five letters from a to p, one for each number that is small enough
name : ℕ → List ℕ
name k =
    (97 + k / 65536) ∷ (97 + k % 65536 / 4096) ∷ (97 + k % 65536 % 4096 / 256) ∷ (97 + k % 65536 % 4096 % 256 / 16)
    ∷ (97 + k % 65536 % 4096 % 256 % 16) ∷ []

number : List ℕ → ℕ
number (a ∷ b ∷ c ∷ d ∷ e ∷ []) = 65536 * (a - 97) + (4096 * (b - 97) + (256 * (c - 97) + (16 * (d - 97) + (e - 97))))
number _ = 0

number_of_name : (k : ℕ) → number (name k) ≡ k
unfolding name number
number_of_name k = omega (
  arith,
  div-add-mod k 65536,
  div-add-mod (k % 65536) 4096,
  div-add-mod (k % 65536 % 4096) 256,
  div-add-mod (k % 65536 % 4096 % 256) 16,
)

decided : {P : Type 0} (b : Bool) → (b ≡ true → P) → (b ≡ false → P) → P
decided true given other = given refl
decided false given other = other refl

differ : (j k : ℕ) → (j ≡ k → ⊥) → bytes_eq (name j) (name k) ≡ false
differ j k other = decided (bytes_eq (name j) (name k)) (λ same.
    let e : number (name j) ≡ number (name k) = ap number ((bytes_eq-Decides (name j) (name k)).0 same) in
    absurd (other (sym (number_of_name j) ∙ e ∙ number_of_name k)))
    (λ is. is)

-- Enumerations.
names : Place → (n k : ℕ) → List Identifier
names p zero k = []
names p (suc n) k = record { name = name k; place = p } ∷ names p n (suc k)

length_of_names : (p : Place) (n k : ℕ) → length (names p n k) ≡ n
unfolding names
length_of_names p zero k = refl
length_of_names p (suc n) k = ap suc (length_of_names p n (suc k))

abbrev is_fine : {A : Type 0} → Checked A → Bool
is_fine (Ok a) = true
is_fine (Err f) = false

-- no name from this one on stands in the scope
New : ℕ → State → Type 0
New k s = (j : ℕ) → k ≤ j → is_declared (name j) s ≡ false

-- as at the start of a scope
new_at_start : (s : State) → New 0 (record s { scopes = nothing ∷ s.scopes; coming = nothing })
unfolding New
new_at_start s j above = refl

still_new_at_once : (k : ℕ) (m : Meaning) (s : State) → New k s → New (suc k) (at_once (name k) m s)
unfolding New
still_new_at_once k m s new j above =
    ap (λ b. is_some (s.coming (name j)) || is_some (cond b (Some m) (innermost s.scopes (name j)))) (differ k j (λ e. omega (arith, above, e)))
    ∙ new j (omega (arith, above))

still_new_coming : (k : ℕ) (m : Meaning) (s : State) → New k s → New (suc k) (coming (name k) m s)
unfolding New
still_new_coming k m s new j above =
    ap (λ b. is_some (cond b (Some m) (s.coming (name j))) || is_some (innermost s.scopes (name j))) (differ k j (λ e. omega (arith, above, e)))
    ∙ new j (omega (arith, above))

still_new : (b : Bool) (k : ℕ) (m : Meaning) (s : State) → New k s → New (suc k) (element_in b (name k) m s)
still_new true k m s new = still_new_at_once k m s new
still_new false k m s new = still_new_coming k m s new

-- the scope with so many elements more
filled : Around → PlainType → (m n k : ℕ) → State → State
filled a t m zero k s = s
filled a t m (suc n) k s = filled a t (m + 1) n (suc k) (element_in a.is_outermost (name k) (Constant t m) s)

new_elements : (a : Around) (t : PlainType) (p : Place) (n k m : ℕ) (s : State) → New k s
    → elements a t m (names p n k) s ≡ Ok (tt {0}, filled a t m n k s)
unfolding elements names New filled
new_elements a t p zero k m s new = refl
new_elements a t p (suc n) k m s new =
    ap (λ b. and_then (only (not b) TwiceDeclared p) (λ u. elements a t (m + 1) (names p n (suc k)) (after s))) (new k (omega arith))
    ∙ new_elements a t p n (suc k) (m + 1) (after s) (still_new a.is_outermost k (Constant t m) s new)
  where
    after : State → State
    after s = element_in a.is_outermost (name k) (Constant t m) s

element_counts_nothing : (b : Bool) (x : List ℕ) (m : Meaning) (s : State) → (element_in b x m s).operands ≡ s.operands
element_counts_nothing true x m s = refl
element_counts_nothing false x m s = refl

elements_count_nothing : (a : Around) (t : PlainType) (m n k : ℕ) (s : State) → (filled a t m n k s).operands ≡ s.operands
unfolding filled
elements_count_nothing a t m zero k s = refl
elements_count_nothing a t m (suc n) k s =
    elements_count_nothing a t (m + 1) n (suc k) (element_in a.is_outermost (name k) (Constant t m) s)
    ∙ element_counts_nothing a.is_outermost (name k) (Constant t m) s

-- of an enumeration of so many new names only their number is asked
few_names : (p : Place) (n : ℕ) → few p (names p n 0) ≡ only (nat_le n ENUMERATION_ELEMENTS) TypeTooLarge p
unfolding few
few_names p n = ap (λ m. only (nat_le m ENUMERATION_ELEMENTS) TypeTooLarge p) (length_of_names p n 0)

abbrev made : Around → Place → ℕ → PlainType
made a p n = v.Enumeration (origin a.known p) (names_of (names p n 0))

longest_enumeration : (a : Around) (p : Place) (s : State) → New 0 s
    → type_exp a (syntax.Enumeration p (names p 65536 0)) s ≡ Ok (made a p 65536, filled a (made a p 65536) 0 65536 0 s)
unfolding type_exp
longest_enumeration a p s new = rw (new_elements a (made a p 65536) p 65536 0 0 s new) (rw (few_names p 65536) refl)

longer_enumeration : (a : Around) (p : Place) (s : State) → New 0 s
    → type_exp a (syntax.Enumeration p (names p 65537 0)) s ≡ refuse TypeTooLarge p
unfolding type_exp
longer_enumeration a p s new = rw (new_elements a (made a p 65537) p 65537 0 0 s new) (rw (few_names p 65537) refl)

-- An interface with one enumeration of so many elements.
abbrev here : Place
here = record { token = 5; line = 1; column = 5 }

abbrev defined_name : Identifier
defined_name = record { name = codes "T"; place = here }

abbrev enumeration : ℕ → syntax.Definition
enumeration n = record { names = defined_name ∷ []; defined = syntax.TypeItem (syntax.Enumeration here (names here n 0)) }

abbrev announced : State → State
announced now = coming (codes "T") Later (record now { operands = 0 })

abbrev some_or : {A : Type 0} → A → Option A → A
some_or a (Some b) = b
some_or a None = a

abbrev got : {A : Type 0} → Checked (A × State) → Option A
got (Ok r) = Some r.0
got (Err f) = None

definition_comes : (a : Around) (now : State) → is_declared (codes "T") (record now { operands = 0 }) ≡ false → New 0 (announced now)
    → got (definition a (enumeration 65536) now)
    ≡ Some (record nothing_defined { types = record { name = codes "T"; kind = made a here 65536 } ∷ [] })
unfolding announce defined settle each_means
definition_comes a now fresh new =
    rw fresh (rw (longest_enumeration a here (announced now) new)
    (rw (elements_count_nothing a (made a here 65536) 0 65536 0 (announced now)) refl))

definition_fails : (a : Around) (now : State) → is_declared (codes "T") (record now { operands = 0 }) ≡ false → New 0 (announced now)
    → definition a (enumeration 65537) now ≡ refuse TypeTooLarge here
unfolding announce defined
definition_fails a now fresh new = rw fresh (rw (longer_enumeration a here (announced now) new) refl)

one_definition : (r : Checked (Defined × State)) (again : Unit {0} → Checked (Defined × State)) (x : Defined) → got r ≡ Some x
    → got (and_then {A = Defined × State} {B = Defined × State} (told r again) (λ q. Ok (and_defined q.0 nothing_defined, q.1)))
    ≡ Some (and_defined x nothing_defined)
one_definition (Ok q) again x e = ap (option_map (λ y. and_defined y nothing_defined)) e
one_definition (Err f) again x e = absurd (omega (arith, ap {B = ℕ} (λ o. cond (is_some o) 1 0) e))

no_definition : (r : Checked (Defined × State)) (again : Unit {0} → Checked (Defined × State)) (f : Fault) → r ≡ Err f → again tt ≡ Err f
    → told r again ≡ Err f
no_definition r again f e d = rw e (rw d refl)

as_interface : (m : syntax.Module) (r : Checked (Defined × State)) (x : Defined) → got r ≡ Some x
    → and_then {A = Defined × State} {B = PlainInterface} r (λ q. Ok (defined_as m 10 q.0)) ≡ Ok (defined_as m 10 x)
as_interface m (Ok q) x e = ap (λ o. Ok (defined_as m 10 (some_or q.0 o))) e
as_interface m (Err f) x e = absurd (omega (arith, ap {B = ℕ} (λ o. cond (is_some o) 1 0) e))

abbrev with_enumeration : ℕ → syntax.Module
with_enumeration n = record {
  directory = [];
  name = record { name = codes "D"; place = here };
  kind = syntax.Interface here [] (enumeration n ∷ []);
}

short_differs : (j : ℕ) → bytes_eq (codes "T") (name j) ≡ false
unfolding name
short_differs j = decided (bytes_eq (codes "T") (name j)) (λ same.
    absurd (omega (arith, ap length ((bytes_eq-Decides (codes "T") (name j)).0 same))))
    (λ is. is)

module _ (a : Around) (now : State) (fresh : is_declared (codes "T") (record now { operands = 0 }) ≡ false) (new : New 0 (announced now)) where
  all_of_one : got (all_defined a (enumeration 65536 ∷ []) now)
      ≡ Some (record nothing_defined { types = record { name = codes "T"; kind = made a here 65536 } ∷ [] })
  unfolding all_defined
  all_of_one = one_definition (definition a (enumeration 65536) now) _ _ (definition_comes a now fresh new)

  none_of_one : all_defined a (enumeration 65537 ∷ []) now ≡ refuse TypeTooLarge here
  unfolding all_defined
  none_of_one = rw (no_definition (definition a (enumeration 65537) now) _ _ (definition_fails a now fresh new) (definition_fails _ now fresh new)) refl

module _ (n : ℕ) where
  known : Known
  unfolding directory.offered mentions.texts mentions.origins mentions.of_kind mentions.of_definitions mentions.of_type
  known = known_of (with_enumeration n) (Some 10) false [] []

  at_start : State
  unfolding directory.opened directory.directory_scope definitions.ahead known
  at_start = start (with_enumeration n) known (definitions.ahead (enumeration n ∷ [])) [] []

  new_names : New 0 (announced at_start)
  unfolding New at_start
  new_names j above = ap (λ b. is_some (cond b (Some Later) None) || false) (short_differs j)

-- an interface with an enumeration of 65,536 elements is checked, and one of 65,537 is refused at its brace
longest : interface_by (with_enumeration 65536) 10 [] (with_enumeration 65536).kind ≡ Ok (record {
  name = codes "D";
  stamp = 10;
  items = [];
  constants = [];
  types = record {
    name = codes "T";
    kind = v.Enumeration (record { «module» = codes "D"; stamp = Some 10; number = 0 }) (names_of (names here 65536 0));
  } ∷ [];
})
unfolding directory.directory directory.listed directory.offered mentions.texts mentions.origins mentions.of_kind mentions.of_definitions mentions.of_type
    directory.opened directory.directory_scope definitions.ahead known at_start
longest = as_interface (with_enumeration 65536) _ _ (all_of_one (outermost (body_of (known 65536) [] [])) (at_start 65536) refl (new_names 65536))

longer : interface_by (with_enumeration 65537) 10 [] (with_enumeration 65537).kind ≡ refuse TypeTooLarge here
unfolding directory.directory directory.listed directory.offered mentions.texts mentions.origins mentions.of_kind mentions.of_definitions mentions.of_type
    directory.opened directory.directory_scope definitions.ahead known at_start
longer = rw (none_of_one (outermost (body_of (known 65537) [] [])) (at_start 65537) refl (new_names 65537)) refl

-- String literals.
texts : (n k : ℕ) → List (List ℕ)
texts zero k = []
texts (suc n) k = name k ∷ texts n (suc k)

same_name : (k : ℕ) → bytes_eq (name k) (name k) ≡ true
same_name k = (bytes_eq-Decides (name k) (name k)).1 refl

here_it_is : (x y : List ℕ) (m : ℕ) (xs : List (List ℕ)) → bytes_eq x y ≡ true
    → number_in x m (y ∷ xs) ≡ (if nat_le (suc m) DISTINCT_STRINGS then Some m else None)
unfolding number_in
here_it_is x y m xs same = rw same refl

further_on : (x y : List ℕ) (m : ℕ) (xs : List (List ℕ)) → bytes_eq x y ≡ false → number_in x m (y ∷ xs) ≡ number_in x (suc m) xs
unfolding number_in
further_on x y m xs other = rw other refl

-- the number of a literal with so many others before it, and some behind it
numbered : (n j k m : ℕ) → number_in (name (k + n)) m (texts (suc (n + j)) k) ≡ (if nat_le (suc (m + n)) DISTINCT_STRINGS then Some (m + n) else None)
unfolding texts
numbered zero j k m =
    let e : k + 0 ≡ k = omega arith in let d : m ≡ m + 0 = omega arith in
    ap (λ i. number_in (name i) m (name k ∷ texts (0 + j) (suc k))) e ∙ here_it_is (name k) (name k) m _ (same_name k)
    ∙ ap (λ i. if nat_le (suc i) DISTINCT_STRINGS then Some i else None) d
numbered (suc n) j k m =
    let e : k + suc n ≡ suc k + n = omega arith in let d : suc m + n ≡ m + suc n = omega arith in let l : suc n + j ≡ suc (n + j) = omega arith in
    further_on (name (k + suc n)) (name k) m (texts (suc n + j) (suc k)) (differ (k + suc n) k (λ same. omega (arith, same)))
    ∙ ap (λ i. number_in (name i) (suc m) (texts (suc n + j) (suc k))) e ∙ ap (λ i. number_in (name (suc k + n)) (suc m) (texts i (suc k))) l
    ∙ numbered n j (suc k) (suc m) ∙ ap (λ i. if nat_le (suc i) DISTINCT_STRINGS then Some i else None) d

-- of 65,536 literals the last but one has a number, and the last none
last_but_one : (p : Place) → string (texts 65536 0) p (name 65534) ≡ Ok (typed v.String (t.Literal 65534))
unfolding string
last_but_one p = ap (λ o. and_then (or_refuse o GlobalsTooLarge p) (λ n. Ok (typed v.String (t.Literal n)))) (numbered 65534 1 0 0)

last : (p : Place) → string (texts 65536 0) p (name 65535) ≡ refuse GlobalsTooLarge p
unfolding string
last p = ap (λ o. and_then (or_refuse o GlobalsTooLarge p) (λ n. Ok (typed v.String (t.Literal n)))) (numbered 65535 0 0 0)

a_literal_too_many : (a : Around) (p q : Place) (s : State) → a.known.strings ≡ texts 65536 0
    → check a (Free q) (syntax.StringLiteral p (name 65535)) s ≡ refuse GlobalsTooLarge p
unfolding check
a_literal_too_many a p q s all = rw all (rw (last p) refl)
