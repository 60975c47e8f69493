-- A hundred ranges one behind the other, apart.
use Rattle.std.specs.Prelude.{◌≡◌, refl, ℕ, zero, suc, ◌+◌, ◌^◌, ◌<◌, ◌≤◌, List, [], ◌∷◌, ◌++◌, length, take, map, sum_by, Some, None}
use Rattle.std.specs.List.{range_with_len}
use Rattle.std.proofs.Common.{ap, arith}
use Rattle.std.proofs.lemmas.List.FromFn.{get_or-map-range_with_len, length-map-range_with_len, map-range_with_len_more}
use Rattle.std.proofs.lemmas.List.Sums.{sum_by-cons}
use Rattle.code_forms.specs.declared.module_code.Phrase.{Phrase}
use Rattle.signaller.specs.declared.catch_index.Segment.{Segment}
use Rattle.signaller.specs.Index.{Indexes}
use Rattle.signaller.specs.Search.{innermost_of}
use Rattle.signaller.specs.Tables.{IsCatchTable}
use Rattle.signaller_examples.specs.Apart.{range_at, apart}

innermost : map (innermost_of (apart 100)) (0 ∷ 1 ∷ 2 ∷ 7 ∷ 8 ∷ 11 ∷ 12 ∷ 501 ∷ 502 ∷ 507 ∷ 508 ∷ 992 ∷ 997 ∷ 998 ∷ 5000 ∷ [])
    ≡ None ∷ None ∷ Some 0 ∷ Some 0 ∷ None ∷ None ∷ Some 1 ∷ None ∷ Some 50 ∷ Some 50 ∷ None ∷ Some 99 ∷ Some 99 ∷ None ∷ None ∷ []
innermost = refl

-- an index of them has at most 201 segments, so a look-up counts at most 8 steps
few : (segments : List Segment) → Indexes (apart 100) segments → (length segments ≤ 201) × (length segments < 2 ^ 8)
few segments i = let f = i.few in (omega (arith, f), omega (arith, f))

-- they are a table as the calls ask for it
no_arms : (n a k : ℕ) → sum_by (λ (p : Phrase). length p.arms) (take k (map range_at (range_with_len a n))) ≡ 0
no_arms zero a zero = refl
no_arms zero a (suc k) = refl
no_arms (suc n) a zero = refl
no_arms (suc n) a (suc k) =
    let e = sum_by-cons (λ (p : Phrase). length p.arms) (range_at a) (take k (map range_at (range_with_len (a + 1) n))) in
    let r = no_arms n (a + 1) k in omega (arith, e, r)

pub apart_table : (count : ℕ) → count ≤ 1000 → IsCatchTable (apart count)
apart_table count l = record {
  few = (let e = length-map-range_with_len range_at 0 count in omega (arith, e, l));
  few_arms = (let e = no_arms count 0 (length (apart count)) in omega (arith, e));
  sorted = λ i j d m n. (
      let e = length-map-range_with_len range_at 0 count in
      let a = ap (λ (p : Phrase). p.from) (get_or-map-range_with_len range_at 0 count i i d (omega (arith, e, m, n)) (omega arith)) in
      let b = ap (λ (p : Phrase). p.from) (get_or-map-range_with_len range_at 0 count j j d (omega (arith, e, n)) (omega arith)) in
      omega (arith, a, b, m));
}

-- one range more
pub apart_more : (k : ℕ) → apart (k + 1) ≡ apart k ++ range_at k ∷ []
apart_more k = map-range_with_len_more range_at 0 k k (omega arith)
