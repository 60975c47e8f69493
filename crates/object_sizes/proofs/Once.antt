-- A DIRECTORY names the built-in interface once at most: no two of its items have one name.
use Rattle.std.specs.Prelude.{◌≡◌, ℕ, ◌+◌, ◌≤◌, Bool, true, false, not, ◌||◌, None, List, [], ◌∷◌, map, Ok, Err, bytes_eq}
use Rattle.std.proofs.Common.{refl, sym, ap, subst, arith}
use Rattle.mesa_base.specs.declared.identifier.Identifier.{Identifier}
use Rattle.mesa_base.specs.declared.place.Place.{Place}
use Rattle.syntax_trees.specs.Syntax as s
use Rattle.syntax_trees.specs.declared.syntax.DirectoryItem.{DirectoryItem}
use Rattle.interface_records.specs.Faces.{iodefs}
use Rattle.interface_records.specs.PlainTypes.{PlainInterface, plain_interface}
use Rattle.interface_records.specs.declared.interface.Interface.{Interface}
use Rattle.check_rules.specs.Scopes.{has}
use Rattle.check_rules.specs.Directory.{directory, entries, first_entry, using, listed, names_in}
use Rattle.check_rules.specs.Parts.{names_of}
use Rattle.check_rules.specs.Steps.{Checked, and_then, only}
use Rattle.check_rules.specs.CheckedModule.{checked, program, program_by, lists, whole_of, module_of}
use Rattle.check_rules.specs.Typed as t
use Rattle.check_rules.specs.declared.fault.Cause.{Cause}
use Rattle.check_rules.specs.declared.fault.Cause.TheVariants.{TwiceDeclared, UnknownName}
use Rattle.check_rules.proofs.SoundSame.{bytes_itself, bytes_same}
use Rattle.object_sizes.specs.TextSizes.{is_built_in}

-- a step that gives a value, before another that does
first_gives : {A B : Type 0} (r : Checked A) (f : A → Checked B) (b : B) → and_then r f ≡ Ok b → (a : A) × (r ≡ Ok a) × (f a ≡ Ok b)
first_gives (Ok a) f b h = (a, refl, h)
first_gives (Err e) f b h = absurd cc

holds : (test : Bool) (cause : Cause) (place : Place) (u : Unit {0}) → only test cause place ≡ Ok u → test ≡ true
holds true cause place u h = refl
holds false cause place u h = absurd cc

is_false : (b : Bool) → not b ≡ true → b ≡ false
is_false true h = sym h
is_false false h = refl

abbrev pub one_if : Bool → ℕ
one_if true = 1
one_if false = 0

-- how many items take the built-in interface
unfoldable pub built_ins : List DirectoryItem → ℕ
built_ins [] = 0
built_ins (d ∷ ds) = one_if (is_built_in d) + built_ins ds

or_more : (a b : Bool) → one_if b ≤ one_if (a || b)
or_more true true = omega arith
or_more true false = omega arith
or_more false b = omega arith

-- the name of the built-in interface, among those before
abbrev stands_before : List (List ℕ) → ℕ
stands_before before = one_if (has iodefs.face.name before)

one_more : (x : List ℕ) (before : List (List ℕ)) (b : Bool) → bytes_eq x iodefs.face.name ≡ b → has x before ≡ false → (rest : ℕ)
    → rest + stands_before (x ∷ before) ≤ 1 → one_if b + rest + stands_before before ≤ 1
unfolding has
one_more x before true e apart rest h =
    let same : x ≡ iodefs.face.name = bytes_same x iodefs.face.name e in
    let none : has iodefs.face.name before ≡ false = subst (λ z. has z before ≡ false) same apart in
    let again : bytes_eq iodefs.face.name x ≡ true = subst (λ z. bytes_eq iodefs.face.name z ≡ true) (sym same) (bytes_itself iodefs.face.name) in
    let here : one_if (bytes_eq iodefs.face.name x || has iodefs.face.name before) ≡ 1 = ap (λ c. one_if (c || has iodefs.face.name before)) again in
    let gone : one_if (has iodefs.face.name before) ≡ 0 = ap one_if none in
    omega (arith, h, here, gone)
one_more x before false e apart rest h = omega (arith, h, or_more (bytes_eq iodefs.face.name x) (has iodefs.face.name before))

named_once : (before : List (List ℕ)) (ds : List DirectoryItem) (is : List PlainInterface) (u : Unit {0}) → directory before ds is ≡ Ok u
    → built_ins ds + stands_before before ≤ 1
unfolding directory built_ins
named_once before [] is u h = at_most (has iodefs.face.name before)
  where
    at_most : (b : Bool) → 0 + one_if b ≤ 1
    at_most true = omega arith
    at_most false = omega arith
named_once before (d ∷ ds) [] u h = absurd cc
named_once before (d ∷ ds) (i ∷ is) u h =
    let one = first_gives (only (bytes_eq d.name.name i.name) UnknownName d.name.place)
    (λ _. and_then (only (not (has d.name.name before)) TwiceDeclared d.name.place) (λ _.
    and_then (using (first_entry (entries None i)) d.used) (λ _. directory (d.name.name ∷ before) ds is))) u h in
    let two = first_gives (only (not (has d.name.name before)) TwiceDeclared d.name.place)
    (λ _. and_then (using (first_entry (entries None i)) d.used) (λ _. directory (d.name.name ∷ before) ds is)) u one.2 in
    let three = first_gives (using (first_entry (entries None i)) d.used) (λ _. directory (d.name.name ∷ before) ds is) u two.2 in
    one_more d.name.name before (is_built_in d) refl (is_false (has d.name.name before) (holds (not (has d.name.name before)) TwiceDeclared d.name.place two.0 two.1))
    (built_ins ds) (named_once (d.name.name ∷ before) ds is u three.2)

module _ (x : s.Module) (is : List PlainInterface) where
  program_once : (imports exports opens : List Identifier) (inner : s.Inner) (m : t.Module) → program x is imports exports opens inner ≡ Ok m
      → built_ins x.directory ≤ 1
  unfolding has
  program_once imports exports opens inner m h =
      let one = first_gives (lists x is imports exports opens) (λ _. and_then (whole_of x is imports opens inner) (module_of x is imports exports)) m h in
      let two = first_gives (directory [] x.directory is) (λ _.
      and_then (listed (names_of (names_in x.directory)) [] imports) (λ _.
      and_then (listed (names_of (names_in x.directory)) [] exports) (λ _.
      listed (names_of (names_in x.directory)) [] opens))) one.0 one.1 in
      let few = named_once [] x.directory is two.0 two.1 in
      omega (arith, few)

  by_kind : (k : s.ModuleKind) (m : t.Module) → program_by x is k ≡ Ok m → built_ins x.directory ≤ 1
  by_kind (s.Program p imports exports opens inner) m h = program_once imports exports opens inner m h
  by_kind (s.Interface p opens defs) m h = absurd cc

pub built_in_once : (x : s.Module) (is : List Interface) (m : t.Module) → checked x is ≡ Ok m → built_ins x.directory ≤ 1
unfolding checked
built_in_once x is m h = by_kind x (map plain_interface is) x.kind m h
