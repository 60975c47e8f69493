-- A search by halving.
use Rattle.std.proofs.Common.{◌≡◌, ℕ, suc, ◌+◌, ◌-◌, ◌*◌, ◌^◌, ◌<◌, ◌≤◌, ◌⊎◌, inl, inr, ⊎_elim, List, length, get_or, Option, Some, None, refl, sym, ap, subst, ◌∙◌, arith}
use Rattle.std.specs.Prelude.{slice_get}
use Rattle.std.proofs.Math.Nat.{pow-suc, mul-le-mul_right, mul_assoc, mul_comm}
use Rattle.std.proofs.lemmas.Bool.{cases_lt}
use Rattle.std.proofs.Math.Pow.{pow_mono}
use Rattle.std.proofs.lemmas.Option.{slice_get-get_or, slice_get_within}
use Rattle.code_forms.specs.declared.module_code.Phrase.{Phrase}
use Rattle.signaller.specs.declared.catch_index.Segment.{Segment}
use Rattle.signaller.specs.Index.{Indexes}
use Rattle.signaller.specs.Search.{innermost_of}

-- a size that was halved so many times, from n
pub record Halved (n size count : ℕ) : Type 0 where
  pub room : size * 2 ^ count ≤ n
  pub last : (count ≡ 0) ⊎ ((b : ℕ) × (count ≡ b + 1) × (2 ^ b ≤ n))

pub halved_start : (n c : ℕ) → c ≡ 0 → Halved n n c
halved_start n c e = subst (λ c. Halved n n c) (sym e) (record { room = omega arith; last = inl refl })

power_more : (c : ℕ) → 2 ^ (c + 1) ≡ 2 ^ c * 2
power_more c = let e : c + 1 ≡ suc c = omega arith in ap (λ k. 2 ^ k) e ∙ pow-suc 2 c

pub halved_more : (n size size' c c' : ℕ) → 0 < size → size' * 2 ≤ size → c' ≡ c + 1 → Halved n size c → Halved n size' c'
halved_more n size size' c c' some half e h =
    let more = power_more c in
    let p = 2 ^ c in
    let a : size' * 2 * 2 ^ c ≤ size * 2 ^ c = mul-le-mul_right (2 ^ c) half in
    let b : 1 * 2 ^ c ≤ size * 2 ^ c = mul-le-mul_right (2 ^ c) some in
    let same : size' * (2 ^ c * 2) ≡ size' * 2 * 2 ^ c = ap (λ x. size' * x) (mul_comm (2 ^ c) 2) ∙ sym (mul_assoc size' 2 (2 ^ c)) in
    let r = h.room in
    subst (λ k. Halved n size' k) (sym e) (record {
      room = (let z = ap (λ x. size' * x) more in omega (arith, z, same, a, r));
      last = inr (c, refl, omega (arith, b, r));
    })

pub halved_end : (n size c digits : ℕ) → Halved n size c → n < 2 ^ digits → c ≤ digits
halved_end n size c digits h less = ⊎_elim
    (λ (d : c ≡ 0). let e = d in omega arith)
    (λ (d : (b : ℕ) × (c ≡ b + 1) × (2 ^ b ≤ n)). ⊎_elim
    (λ (k : d.0 < digits). let e = d.1 in omega arith)
    (λ (k : digits ≤ d.0). absurd (let m = pow_mono k in let e = d.2 in omega (arith, m)))
    (cases_lt d.0 digits))
    h.last

-- where a segment begins
unfoldable pub start_in : Option Segment → ℕ
start_in None = 0
start_in (Some s) = s.start

abbrev pub start_at : List Segment → ℕ → ℕ
start_at segments i = start_in (slice_get segments i)

pub start_read : (segments : List Segment) (i : ℕ) (s : Segment) → i < length segments → start_at segments i ≡ (get_or segments i s).start
unfolding start_in
start_read segments i s h = ap start_in (slice_get-get_or segments i s h)

pub start_some : (segments : List Segment) (i : ℕ) (s : Segment) → slice_get segments i ≡ Some s → start_at segments i ≡ s.start
unfolding start_in
start_some segments i s h = ap start_in h

-- the segment that the search comes to tells the phrase
pub told : (phrases : List Phrase) (segments : List Segment) (low at : ℕ) (s : Segment) → Indexes phrases segments → 0 < low → low ≤ length segments → start_at segments (low - 1) ≤ at → (low < length segments → at < start_at segments low) → (get_or segments (low - 1) s).phrase ≡ innermost_of phrases at
told phrases segments low at s ix some within lower upper =
    let here : slice_get segments (low - 1) ≡ Some (get_or segments (low - 1) s) = slice_get-get_or segments (low - 1) s (omega arith) in
    let next : low - 1 + 1 ≡ low = omega arith in
    sym (ix.tells (low - 1) (get_or segments (low - 1) s) here at
    (let e = start_some segments (low - 1) (get_or segments (low - 1) s) here in omega (arith, e))
    (λ t h. let h1 : slice_get segments low ≡ Some t = ap (λ k. slice_get segments k) (sym next) ∙ h in
    let e = start_some segments low t h1 in let u = upper (slice_get_within segments low t h1) in omega (arith, e, u)))

pub none_told : (phrases : List Phrase) (segments : List Segment) (low at : ℕ) → Indexes phrases segments → low ≡ 0 → (low < length segments → at < start_at segments low) → None ≡ innermost_of phrases at
none_told phrases segments low at ix e upper =
    let some : low < length segments = let s = ix.some in omega arith in
    let d : Segment = record { start = 0; phrase = None } in
    let here : slice_get segments 0 ≡ Some (get_or segments 0 (record { start = 0; phrase = None })) = slice_get-get_or segments 0 (record { start = 0; phrase = None }) ix.some in
    let zero_start = ix.first (get_or segments 0 (record { start = 0; phrase = None })) here in
    let st = start_some segments 0 (get_or segments 0 (record { start = 0; phrase = None })) here in
    let u = upper some in
    let eq : start_at segments low ≡ start_at segments 0 = ap (λ k. start_at segments k) e in
    absurd (omega (arith, u, eq, st, zero_start))
