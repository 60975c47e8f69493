-- Where a name stands first in a list: an index that was made from it in order, and what stands there.
use Rattle.std.proofs.Common.{◌≡◌, ℕ, suc, ◌+◌, Bool, true, false, List, [], ◌∷◌, Option, Some, None, slice_get, refl, sym, ap, ◌∙◌, zero-add, add-zero, arith}
use Rattle.std.specs.Prelude.{cond, bytes_eq, option_map}
use Rattle.std.specs.Option.{option_or}
use Rattle.check_scopes.specs.Scopes.{Scope, nothing, over, with_name}
use Rattle.cmesa_grammar.specs.declared.syntax.ComponentFile.{ComponentFile}
use Rattle.config_rules.specs.Components.{file_of, is_file_base, no_file_base}
use Rattle.config_templates.specs.Places.{place_in, names_of_files}

-- places that are counted from another number
abbrev pub from : ℕ → Scope ℕ → Scope ℕ
from n s x = option_map (λ k. n + k) (s x)

from_none : (o : Option ℕ) → option_map (λ k. 0 + k) o ≡ o
from_none None = refl
from_none (Some k) = ap Some (zero-add k)

pub begun : (s : Scope ℕ) (ys : List (List ℕ)) → s ≡ nothing → over s (from 0 (place_in ys)) ≡ place_in ys
begun s ys e = ap (λ t. over t (from 0 (place_in ys))) e ∙ (λ i x. from_none (place_in ys x) i)

or_or : {X : Type 0} (o p q : Option X) → option_or (option_or o p) q ≡ option_or o (option_or p q)
or_or None p q = refl
or_or (Some x) p q = refl

one_more : (n k : ℕ) → (n + 1) + k ≡ n + suc k
one_more n k = omega arith

shifted : (n : ℕ) (o : Option ℕ) → option_map (λ k. (n + 1) + k) o ≡ option_map (λ k. n + k) (option_map suc o)
shifted n None = refl
shifted n (Some k) = ap Some (one_more n k)

here_or_later : (b : Bool) (n : ℕ) (o : Option ℕ) → option_or (cond b (Some n) None) (option_map (λ k. (n + 1) + k) o) ≡ option_map (λ k. n + k) (cond b (Some 0) (option_map suc o))
here_or_later true n o = ap Some (sym (add-zero n))
here_or_later false n o = shifted n o

pub next : (old new : Scope ℕ) (n : ℕ) (y : List ℕ) (ys : List (List ℕ)) → new ≡ over old (with_name y n nothing)
    → over old (from n (place_in (y ∷ ys))) ≡ over new (from (n + 1) (place_in ys))
unfolding place_in
next old new n y ys e =
    (λ i x. (ap (option_or (old x)) (sym (here_or_later (bytes_eq y x) n (place_in ys x)))
    ∙ sym (or_or (old x) (cond (bytes_eq y x) (Some n) None) (option_map (λ k. (n + 1) + k) (place_in ys x)))) i)
    ∙ ap (λ s. over s (from (n + 1) (place_in ys))) (sym e)

or_none : (o : Option ℕ) → option_or o None ≡ o
or_none None = refl
or_none (Some k) = refl

pub ended : (s : Scope ℕ) (n : ℕ) → over s (from n (place_in [])) ≡ s
unfolding place_in
ended s n = λ i x. or_none (s x) i

-- ---- files

abbrev pub file_in : List ℕ → Option ComponentFile → List ℕ
file_in name None = name
file_in name (Some f) = f.file

abbrev pub file_at : List ComponentFile → List ℕ → Option ℕ → List ℕ
file_at fs name None = name
file_at fs name (Some k) = file_in name (slice_get fs k)

later : (f : ComponentFile) (fs : List ComponentFile) (name : List ℕ) (o : Option ℕ) → file_at (f ∷ fs) name (option_map suc o) ≡ file_at fs name o
later f fs name None = refl
later f fs name (Some k) = refl

by_test : (b : Bool) (f : ComponentFile) (fs : List ComponentFile) (name : List ℕ) (o : Option ℕ)
    → file_at (f ∷ fs) name (cond b (Some 0) (option_map suc o)) ≡ cond b f.file (file_at fs name o)
by_test true f fs name o = refl
by_test false f fs name o = later f fs name o

pub file_by_place : (fs : List ComponentFile) (name : List ℕ) → file_of fs name ≡ file_at fs name (place_in (names_of_files fs) name)
unfolding file_of place_in
file_by_place [] name = refl
file_by_place (f ∷ fs) name =
    ap (cond (bytes_eq f.name.name name) f.file) (file_by_place fs name) ∙ sym (by_test (bytes_eq f.name.name name) f fs name (place_in (names_of_files fs) name))

pub no_base_here : (f : ComponentFile) (fs : List ComponentFile) → is_file_base f.file ≡ false → no_file_base (f ∷ fs) ≡ Some f.file_place
unfolding no_file_base
no_base_here f fs e = rw e refl

pub base_here : (f : ComponentFile) (fs : List ComponentFile) → is_file_base f.file ≡ true → no_file_base (f ∷ fs) ≡ no_file_base fs
unfolding no_file_base
base_here f fs e = rw e refl

pub no_base_left : no_file_base [] ≡ None
unfolding no_file_base
no_base_left = refl
