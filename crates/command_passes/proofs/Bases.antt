-- What is asked for is named by plain bytes.
use Rattle.std.proofs.Common.{◌≡◌, ℕ, zero, suc, ◌<◌, List, [], ◌∷◌, map, Bool, true, false, ◌||◌, ◌&&◌, Some, None, slice_get, Ok, Err, if◌then◌else◌, refl, subst, arith}
use Rattle.std.proofs.lemmas.Bool.Decides.{nat_tests}
use Rattle.std.proofs.lemmas.Grind.{common_steps}
use Rattle.std.proofs.lemmas.Option.{slice_get_within, get_or_from_slice_get}
use Rattle.std.specs.List.{All, list_all}
use Rattle.std.specs.Str.{IsAscii}
use Rattle.syntax_trees.specs.declared.syntax.DirectoryItem.{DirectoryItem}
use Rattle.syntax_trees.specs.Syntax as s
use Rattle.mesa_base.specs.declared.place.Place.{Place}
use Rattle.check_rules.specs.Steps.{Checked, and_then, only}
use Rattle.check_rules.specs.declared.fault.Cause.{Cause}
use Rattle.check_rules.specs.declared.fault.Cause.TheVariants.{UnknownName}
use Rattle.command_rules.specs.config_rules.specs.Components.{is_file_byte, is_file_base}
use Rattle.command_rules.specs.checked_texts.specs.declared.purpose.Purpose.{Purpose}
use Rattle.command_rules.specs.checked_texts.specs.Asked.{asks, asked, is_built_in, names_file, name_files, fits, before_files}
use Rattle.command_passes.specs.Asking.{AsksPlainly, IsPlain}

file_byte_small : (b : ℕ) → is_file_byte b ≡ true → b < 128
file_byte_small b is = grind (arith, nat_tests)

both_true : (a b : Bool) → (a && b) ≡ true → (a ≡ true) × (b ≡ true)
both_true true b e = (refl, e)
both_true false b e = absurd cc

all_ascii : (bs : List ℕ) → list_all is_file_byte bs ≡ true → IsAscii bs
all_ascii [] e i = omega arith
all_ascii (b ∷ bs) e zero = file_byte_small b (both_true (is_file_byte b) (list_all is_file_byte bs) e).0
all_ascii (b ∷ bs) e (suc i) = all_ascii bs (both_true (is_file_byte b) (list_all is_file_byte bs) e).1 i

pub base_ascii : (base : List ℕ) → is_file_base base ≡ true → IsAscii base
base_ascii base e = all_ascii base (grind (arith, common_steps))

-- ---- from what is looked at before any file is read

by_kind : (b : Bool) (base : List ℕ) → (b || is_file_base base) ≡ true → IsPlain (if b then None else Some base)
by_kind true base e = tt
by_kind false base e = base_ascii base e

well_named : (d : DirectoryItem) → names_file d ≡ true → IsPlain (asked d)
well_named d e = by_kind (is_built_in d) d.file e

only_ok : (b : Bool) (cause : Cause) (place : Place) (rest : Checked (Unit {0})) → and_then (only b cause place) (λ _. rest) ≡ Ok tt
    → (b ≡ true) × (rest ≡ Ok tt)
only_ok true cause place rest e = (refl, e)
only_ok false cause place rest e = absurd cc

then_ok : (r rest : Checked (Unit {0})) → and_then r (λ _. rest) ≡ Ok tt → rest ≡ Ok tt
then_ok (Ok _) rest e = e
then_ok (Err why) rest e = absurd cc

bases_plain : (ds : List DirectoryItem) → name_files ds ≡ Ok tt → All IsPlain (map asked ds)
unfolding name_files
bases_plain [] e k d less = absurd (omega (arith, less))
bases_plain (x ∷ xs) e zero d less = well_named x (only_ok (names_file x) UnknownName x.file_place (name_files xs) e).0
bases_plain (x ∷ xs) e (suc k) d less =
    bases_plain xs (only_ok (names_file x) UnknownName x.file_place (name_files xs) e).1 k d (omega (arith, less))

pub asks_plainly : (purpose : Purpose) (m : s.Module) → before_files purpose m ≡ Ok tt → AsksPlainly m
asks_plainly purpose m e = bases_plain m.directory (then_ok (fits purpose m.kind) (name_files m.directory) e)

pub asked_plain : (m : s.Module) (i : ℕ) (base : List ℕ) → AsksPlainly m → slice_get (asks m) i ≡ Some (Some base) → IsAscii base
asked_plain m i base all is =
    subst IsPlain (get_or_from_slice_get (asks m) i (Some base) (Some base) is) (all i (Some base) (slice_get_within (asks m) i (Some base) is))
