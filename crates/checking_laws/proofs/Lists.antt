-- The lists of a module: its DIRECTORY, the lists that name its interfaces, and what comes of them.
use Rattle.std.specs.Prelude.{ℕ, suc, ◌≡◌, ◌≤◌, Bool, not, Option, Some, None, List, [], ◌∷◌, length, map, is_some, bytes_eq}
use Rattle.std.proofs.Common.{refl, ap, arith}
use Rattle.mesa_base.specs.declared.identifier.Identifier.{Identifier}
use Rattle.syntax_trees.specs.Syntax as s
use Rattle.syntax_trees.specs.declared.syntax.DirectoryItem.{DirectoryItem}
use Rattle.mesa_types.specs.declared.faces.Pair.{Pair}
use Rattle.mesa_types.specs.declared.faces.Export.{Export}
use Rattle.mesa_types.specs.declared.faces.Face.{Face}
use Rattle.interface_records.specs.declared.interface.Interface.{Interface}
use Rattle.interface_records.specs.PlainTypes.{PlainItem, PlainInterface, face_of, plain_interface}
use Rattle.check_rules.specs.Scopes.{Scope, has}
use Rattle.check_rules.specs.Meanings.{Meaning}
use Rattle.check_rules.specs.Parts.{names_of}
use Rattle.check_rules.specs.Programs.{Offer, offer_named, is_for, pair_for, fits_item, pairs, exported, imported, other_rows}
use Rattle.check_rules.specs.Directory.{used_names, using, directory, listed, first_entry, entries, those_of, names_in, put_some, interface_at, place_in}
use Rattle.check_rules.specs.CheckedModule.{lists}
use Rattle.check_rules.specs.declared.fault.Cause.TheVariants.{UnknownName, TwiceDeclared, ExportDiffers}
use Rattle.checking_laws.proofs.FacesBack.{face_back}
use Rattle.checking_laws.specs.Sizes.{imports_count, exports_count, interfaces_count}
use Rattle.checking_laws.specs.Weights as tree
use Rattle.checking_laws.specs.Weights.{one_each}
use Rattle.checking_laws.proofs.Once.{Apart, listed_apart, total}
use Rattle.checking_laws.proofs.Using.{Gives, Anything, all_right, refused, and_gives, gives_as, only_if}

-- The lists that name interfaces.
used_names_given : (scope : Scope Meaning) (taken : List (List ℕ)) (xs : List Identifier) → Gives Anything (used_names scope taken xs)
unfolding used_names
used_names_given scope taken [] = all_right tt
used_names_given scope taken (x ∷ xs) = and_gives (only_if (is_some (scope x.name)) UnknownName x.place tt) (λ v w.
    and_gives (only_if (not (has x.name taken)) TwiceDeclared x.place tt) (λ v w. used_names_given scope (x.name ∷ taken) xs))

using_given : (scope : Scope Meaning) (xs : Option (List Identifier)) → Gives Anything (using scope xs)
using_given scope None = all_right tt
using_given scope (Some xs) = used_names_given scope [] xs

directory_given : (taken : List (List ℕ)) (ds : List DirectoryItem) (is : List PlainInterface) → Gives Anything (directory taken ds is)
unfolding directory
directory_given taken [] [] = all_right tt
directory_given taken [] (i ∷ is) = all_right tt
directory_given taken (d ∷ ds) [] = refused tt
directory_given taken (d ∷ ds) (i ∷ is) =
    and_gives (only_if (bytes_eq d.name.name i.name) UnknownName d.name.place tt) (λ v w.
    and_gives (only_if (not (has d.name.name taken)) TwiceDeclared d.name.place tt) (λ v w.
    and_gives (using_given (first_entry (entries None i)) d.used) (λ v w. directory_given (d.name.name ∷ taken) ds is)))

-- where these lists name interfaces, each names none twice
pub lists_given : (m : s.Module) (is : List PlainInterface) (imports exports opens : List Identifier)
    → Gives (λ v. Apart [] imports × Apart [] exports) (lists m is imports exports opens)
lists_given m is imports exports opens =
    and_gives (directory_given [] m.directory is) (λ v w.
    and_gives (listed_apart (names_of (names_in m.directory)) [] imports) (λ v h.
    and_gives (listed_apart (names_of (names_in m.directory)) [] exports) (λ v k.
    gives_as (listed (names_of (names_in m.directory)) [] opens) (listed_apart (names_of (names_in m.directory)) [] opens) (λ v w. (h, k)))))

-- Exports: one for each interface of the list.
fits_given : (i : PlainItem) (o : Option Offer) → Gives Anything (fits_item i o)
fits_given i None = all_right tt
fits_given i (Some o) = only_if (is_for o.item i) ExportDiffers o.name.place tt

pair_given : (n : ℕ) (i : PlainItem) (o : Option Offer) (rest : List Pair) → Gives Anything (pair_for n i o rest)
pair_given n i None rest = all_right tt
pair_given n i (Some o) rest = all_right tt

pairs_given : (os : List Offer) (n : ℕ) (is : List PlainItem) → Gives Anything (pairs os n is)
unfolding pairs
pairs_given os n [] = all_right tt
pairs_given os n (i ∷ is) = and_gives (fits_given i (offer_named i.name os)) (λ v w.
    and_gives (pairs_given os (suc n) is) (λ ps w. pair_given n i (offer_named i.name os) ps))

-- the exports, one for each interface
pub record AreOf (is : List PlainInterface) (es : List Export) : Type 0 where
  pub many : length es ≡ length is
  pub faces : (f : Face → ℕ) → exports_count f es ≡ total (λ i. f (face_of i)) is

pub exported_given : (os : List Offer) (is : List PlainInterface) → Gives (AreOf is) (exported os is)
unfolding exported exports_count total
exported_given os [] = all_right (record { many = refl; faces = λ f. refl })
exported_given os (i ∷ is) = and_gives (pairs_given os 0 i.items) (λ ps w. and_gives (exported_given os is) (λ es h.
    all_right (record { many = ap suc h.many; faces = λ f. omega (arith, h.faces f) })))

put_length : (o : Option PlainInterface) (is : List PlainInterface) → length (put_some o is) ≤ suc (length is)
put_length None is = omega arith
put_length (Some i) is = omega arith

pub those_length : (ds : List DirectoryItem) (is : List PlainInterface) (xs : List Identifier) → length (those_of ds is xs) ≤ length xs
unfolding those_of
those_length ds is [] = omega arith
those_length ds is (x ∷ xs) =
    let h : length (those_of ds is xs) ≤ length xs = those_length ds is xs in
    omega (arith, put_length (interface_at is (place_in 0 (names_in ds) x.name)) (those_of ds is xs))

pub each_counted : (xs : List Identifier) → tree.each_name one_each xs ≡ length xs
unfolding tree.each_name
each_counted [] = refl
each_counted (x ∷ xs) = omega (arith, each_counted xs)

pub imported_length : (is : List PlainInterface) (rows : List (List Bool)) → length (imported is rows) ≡ length is
unfolding imported
imported_length [] rows = refl
imported_length (i ∷ is) rows = ap suc (imported_length is _)

pub imported_faces : (f : Face → ℕ) (is : List PlainInterface) (rows : List (List Bool))
    → imports_count f (imported is rows) ≡ total (λ i. f (face_of i)) is
unfolding imported imports_count total
imported_faces f [] rows = refl
imported_faces f (i ∷ is) rows = omega (arith, imported_faces f is (other_rows rows))

pub given_faces : (f : Face → ℕ) (is : List Interface) → total (λ i. f (face_of i)) (map plain_interface is) ≡ interfaces_count f is
unfolding interfaces_count total
given_faces f [] = refl
given_faces f (i ∷ is) = omega (arith, ap f (face_back i), given_faces f is)
