-- The phrases that a search asks are those of the table; where an activation waits there is a table, an index and a search.
use Rattle.std.proofs.Common.{◌≡◌, ℕ, zero, suc, ◌<◌, ◌≤◌, List, [], ◌∷◌, length, Bool, true, false, Option, Some, None, refl, sym, subst, arith}
use Rattle.std.specs.Prelude.{slice_get, ◌&&◌, IfSome, if◌then◌else◌}
use Rattle.std.specs.List.{list_any}
use Rattle.std.proofs.lemmas.Option.{none-some, same_Some, slice_get_within}
use Rattle.code_forms.specs.declared.module_code.CodeProcedure.{CodeProcedure}
use Rattle.code_forms.specs.declared.module_code.Phrase.{Phrase}
use Rattle.object_files.specs.declared.image.Image.{Image}
use Rattle.signaller.specs.declared.search.Found.TheVariants.{Arm as FoundArm}
use Rattle.signaller.specs.declared.search.Links.{Links}
use Rattle.signaller.specs.declared.search.Search.{Search}
use Rattle.signaller.specs.declared.signal_id.SignalId.{SignalId}
use Rattle.signaller.specs.Search.{covers, has, first_of, from_of, around_at, around, beyond, search_from, search_at, next_arm, fits_signal}
use Rattle.machine_rules.specs.LookUps.{procedure_of}
use Rattle.machine_rules.proofs.Searching.{found_arm}
use Rattle.machine_activations.specs.declared.row.Row.{Row}
use Rattle.machine_activations.specs.Frames.{row_at}
use Rattle.machine_signals.specs.Indexed.{AsksIn}
use Rattle.machine_signals.specs.Seeking.{IsLanding}

first_if : (n k : ℕ) (numbers : List ℕ) (b c : Bool) (from offset : ℕ) (before : ℕ → List ℕ) → ((o j : ℕ) → first_of (before o) ≡ Some j → j < n)
    → first_of (if b then n ∷ before from else before (if c then from else offset)) ≡ Some k → k < suc n
first_if n k numbers true c from offset before lower e = let s = same_Some n k e in omega (arith, s)
first_if n k numbers false true from offset before lower e = let l = lower from k e in omega (arith, l)
first_if n k numbers false false from offset before lower e = let l = lower offset k e in omega (arith, l)

first_at : (outward : Bool) (n k offset : ℕ) (before : ℕ → List ℕ) (o : Option Phrase) → ((o j : ℕ) → first_of (before o) ≡ Some j → j < n)
    → first_of (around_at outward n offset before o) ≡ Some k → k < suc n
unfolding around_at
first_at outward n k offset before None lower e = let l = lower offset k e in omega (arith, l)
first_at outward n k offset before (Some p) lower e =
    first_if n k [] (covers p offset) (outward && list_any (λ a. has a offset) p.arms) p.from offset before lower e

first_low : (outward : Bool) (table : List Phrase) (n offset k : ℕ) → first_of (around outward table n offset) ≡ Some k → k < n
unfolding around
first_low outward table zero offset k e = absurd (none-some k e)
first_low outward table (suc n) offset k e =
    first_at outward n k offset (around outward table n) (slice_get table n) (λ o j is. first_low outward table n o j is) e

if_low : (n : ℕ) (o : Option ℕ) → ((k : ℕ) → o ≡ Some k → k < n) → IfSome o (λ k. k < n)
if_low n None h = tt
if_low n (Some k) h = h k refl

-- of the phrases around an offset, and beyond a phrase
pub search_within : (outward : Bool) (p : CodeProcedure) (offset : ℕ) → AsksIn p (search_at outward p.phrases offset)
search_within outward p offset =
    if_low (length p.phrases) (first_of (around outward p.phrases (length p.phrases) offset)) (λ k e. first_low outward p.phrases (length p.phrases) offset k e)

pub beyond_within : (outward : Bool) (p : CodeProcedure) (n : ℕ) → n < length p.phrases → AsksIn p (search_from (beyond outward p.phrases n))
beyond_within outward p n less =
    if_low (length p.phrases) (first_of (beyond outward p.phrases n))
    (λ k e. let l = first_low outward p.phrases n (from_of (slice_get p.phrases n)) k e in omega (arith, l, less))

-- what is found is an arm of the table, and a search there
pub found_there : (image : Image) (table : List Row) (from place : ℕ) → place ≤ from → (p : CodeProcedure)
    → procedure_of image (row_at table place).instance (row_at table place).procedure ≡ Some p
    → (search : Search) (links : Links) (signal : SignalId) (arm : ℕ) (after : Search) → next_arm p.phrases search links signal ≡ FoundArm arm after
    → IsLanding image table from (record { place = place; arm = arm; beyond = after })
found_there image table from place low p is search links signal arm after found =
    let f = found_arm true (fits_signal links signal) p.phrases search arm after found in
    record {
      procedure = p;
      is = is;
      low = low;
      has = record { place = f.place; is = f.is; numbered = f.number };
      asks = subst (λ (x : Search). AsksIn p x) (sym f.rest) (beyond_within true p f.place.phrase (slice_get_within p.phrases f.place.phrase f.is.phrase f.is.is));
    }
