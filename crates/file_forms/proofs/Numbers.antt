-- Numbers as bytes, of which the highest stands first, and back.
use Rattle.std.proofs.Common.{◌≡◌, ℕ, zero, suc, ◌+◌, ◌-◌, ◌*◌, ◌/◌, ◌%◌, ◌^◌, ◌<◌, ◌≤◌, List, [], ◌∷◌, ◌++◌, length, get_or, take, drop, drop-cons, add-one, length-drop, refl, sym, ap, ◌∙◌, arith, inl, inr}
use Rattle.std.proofs.Math.Nat.{pow-suc, pow-le-pow_right, mul-add-div_right}
use Rattle.std.proofs.Math.Arith.{mod-mul}
use Rattle.std.proofs.lemmas.Nat.{mul-add-lt}
use Rattle.std.proofs.lemmas.Bool.{cases_lt}
use Rattle.std.proofs.lemmas.List.{get_or-drop, get_or-take, get_or_past, length-take}
use Rattle.std.specs.Int.{bytes_high_first, byte_at}
use Rattle.file_forms.specs.Forms.{AreBytes, number_in}

pub bytes-drop : (n : ℕ) (bytes : List ℕ) → AreBytes bytes → AreBytes (drop n bytes)
bytes-drop n bytes h i = rw get_or-drop (h (n + i))

pub bytes-take : (n : ℕ) (bytes : List ℕ) → AreBytes bytes → AreBytes (take n bytes)
bytes-take n bytes h i =
    elim (cases_lt i n) [
      | inl lt ↦ rw (get_or-take n bytes i 0 lt) (h i)
      | inr le ↦ rw (get_or_past (take n bytes) i 0 (omega (arith, length-take n bytes))) (omega arith)
    ]

pub bytes-tail : (b : ℕ) (bytes : List ℕ) → AreBytes (b ∷ bytes) → AreBytes bytes
bytes-tail b bytes h i = h (suc i)

pub bytes-behind : (front rest : List ℕ) → AreBytes (front ++ rest) → AreBytes rest
bytes-behind [] rest h = h
bytes-behind (b ∷ front) rest h = bytes-behind front rest (bytes-tail b (front ++ rest) h)

positive : (k : ℕ) → 0 < 256 ^ k
positive zero = omega arith
positive (suc k) = rw (pow-suc 256 k) (omega (arith, positive k))

byte_at_is : (k n : ℕ) → byte_at k n ≡ n / 256 ^ k % 256
byte_at_is zero n = grind arith
byte_at_is (suc k) n = refl

pub length-number : (k n : ℕ) → length (bytes_high_first k n) ≡ k
length-number zero n = refl
length-number (suc k) n = ap suc (length-number k n)

-- the bytes of a number are worth what is left of it below their weight
number-again-mod : (k n : ℕ) → number_in (bytes_high_first k n) ≡ n % 256 ^ k
number-again-mod zero n = grind arith
number-again-mod (suc k) n =
    let more : n % (256 * 256 ^ k) ≡ (n / 256 ^ k % 256) * 256 ^ k + n % 256 ^ k = mod-mul n (omega arith) (positive k) in
    let power : 256 ^ suc k ≡ 256 * 256 ^ k = rw (pow-suc 256 k) (grind arith) in
    rw (length-number k n, number-again-mod k n, byte_at_is k n, power) (sym more)

pub number-again : (k n : ℕ) → n < 256 ^ k → number_in (bytes_high_first k n) ≡ n
number-again k n h = number-again-mod k n ∙ small (256 ^ k) h
  where
    small : (m : ℕ) → n < m → n % m ≡ n
    small m lt = grind arith

pub number-below : (bytes : List ℕ) → AreBytes bytes → number_in bytes < 256 ^ length bytes
number-below [] h = omega arith
number-below (b ∷ bytes) h =
    let lower = number-below bytes (bytes-tail b bytes h) in
    let first : b < 256 = h 0 in
    rw (pow-suc 256 (length bytes)) (at (256 ^ length bytes) lower first)
  where
    at : (w : ℕ) → number_in bytes < w → b < 256 → b * w + number_in bytes < w * 256
    at w low lt = mul-add-lt b w (number_in bytes) 256 lt low

-- what stands above the weight of the bytes changes none of them
bytes-low : (k x m : ℕ) → bytes_high_first k (x * 256 ^ k + m) ≡ bytes_high_first k m
bytes-low zero x m = refl
bytes-low (suc k) x m =
    let weight : x * 256 ^ suc k ≡ (x * 256) * 256 ^ k = rw (pow-suc 256 k) (grind arith) in
    let quotient : ((x * 256) * 256 ^ k + m) / 256 ^ k ≡ x * 256 + m / 256 ^ k = mul-add-div_right (positive k) (x * 256) m in
    let same : byte_at k ((x * 256) * 256 ^ k + m) ≡ byte_at k m = rw (byte_at_is k _, byte_at_is k m, quotient) (low x (m / 256 ^ k)) in
    rw weight (ap (λ (b : ℕ). b ∷ bytes_high_first k ((x * 256) * 256 ^ k + m)) same ∙ ap (λ (bs : List ℕ). byte_at k m ∷ bs) (bytes-low k (x * 256) m))
  where
    low : (x q : ℕ) → (x * 256 + q) % 256 ≡ q % 256
    low x q = omega arith

pub number-bytes : (bytes : List ℕ) → AreBytes bytes → bytes_high_first (length bytes) (number_in bytes) ≡ bytes
number-bytes [] h = refl
number-bytes (b ∷ bytes) h =
    let lower = number-below bytes (bytes-tail b bytes h) in
    let quotient : (b * 256 ^ length bytes + number_in bytes) / 256 ^ length bytes ≡ b + number_in bytes / 256 ^ length bytes = mul-add-div_right (positive (length bytes)) b (number_in bytes) in
    let head : byte_at (length bytes) (b * 256 ^ length bytes + number_in bytes) ≡ b = rw (byte_at_is (length bytes) _, quotient) (first (256 ^ length bytes) lower (h 0)) in
    ap (λ (x : ℕ). x ∷ bytes_high_first (length bytes) (b * 256 ^ length bytes + number_in bytes)) head
    ∙ ap (λ (bs : List ℕ). b ∷ bs) (bytes-low (length bytes) b (number_in bytes) ∙ number-bytes bytes (bytes-tail b bytes h))
  where
    none : (m w : ℕ) → m < w → m / w ≡ 0
    none m w lt = grind arith

    first : (w : ℕ) → number_in bytes < w → b < 256 → (b + number_in bytes / w) % 256 ≡ b
    first w lt small = rw (none (number_in bytes) w lt) (omega arith)

-- ---- reading a number byte by byte

low_weight : (i : ℕ) → i < 7 → 256 ^ i ≤ 256 ^ 6
low_weight i h = pow-le-pow_right {n = 256} (omega arith) {i = i} {j = 6} (omega arith)

-- there is room for one byte more
pub value_fits : (v i b n : ℕ) → v < 256 ^ i → i < n → n ≤ 7 → b < 256 → v * 256 + b < 2 ^ 64
value_fits v i b n h lt few small = let w : 256 ^ i ≤ 256 ^ 6 = low_weight i (omega arith) in omega (arith, w)

pub value_room : (v i n : ℕ) → v < 256 ^ i → i < n → n ≤ 7 → v * 256 < 2 ^ 64
value_room v i n h lt few = let w : 256 ^ i ≤ 256 ^ 6 = low_weight i (omega arith) in omega (arith, w)

pub value_below : (v i b : ℕ) → v < 256 ^ i → b < 256 → v * 256 + b < 256 ^ (i + 1)
value_below v i b h small = rw (add-one, pow-suc 256 i) (at (256 ^ i) h)
  where
    at : (w : ℕ) → v < w → v * 256 + b < w * 256
    at w lt = omega arith

pub value_more : (bytes : List ℕ) (v i n : ℕ) → i < length bytes
    → n ≡ v * 256 ^ (length bytes - i) + number_in (drop i bytes)
    → n ≡ (v * 256 + get_or bytes i 0) * 256 ^ (length bytes - (i + 1)) + number_in (drop (i + 1) bytes)
value_more bytes v i n h e =
    let k : ℕ = length bytes - suc i in
    let more : length bytes - i ≡ suc k = omega arith in
    let long : length (drop (suc i) bytes) ≡ k = omega (arith, length-drop (suc i) bytes) in
    e ∙ rw (more, pow-suc 256 k, add-one, drop-cons bytes i 0 h, long) (spread v (get_or bytes i 0) (256 ^ k) (number_in (drop (suc i) bytes)))
  where
    spread : (v b w m : ℕ) → v * (w * 256) + (b * w + m) ≡ (v * 256 + b) * w + m
    spread v b w m = grind arith
