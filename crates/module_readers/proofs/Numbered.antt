-- Which instructions have operands of these sizes, and that each has the bytes that they take.
use Rattle.std.proofs.Common.{◌≡◌, ◌≢◌, ℕ, zero, suc, ◌<◌, ◌≤◌, ◌⊎◌, inl, inr, Bool, true, false, List, [], ◌∷◌, refl, sym, ap, subst, ◌∙◌, arith}
use Rattle.std.specs.Prelude.{◌&&◌, ◌||◌, ◌==◌, not, bytes_eq}
use Rattle.std.proofs.lemmas.Bool.{eqb-true}
use Rattle.code_forms.specs.Instructions.{bytes_of}
use Rattle.code_forms.specs.declared.instruction.Instruction.TheVariants.{ArmEnd, Pop, ZeroG, StoreGX, RaiseLink, CheckD}
use Rattle.module_readers.specs.Behind.{IsNumber}
use Rattle.object_rules.specs.Instructions.{sizes_of, size_of, with_operands}

-- the test holds of each number below this one
unfoldable up_to : (ℕ → Bool) → ℕ → Bool
up_to test zero = true
up_to test (suc n) = test n && up_to test n

split : (op n : ℕ) → op < suc n → (op ≡ n) ⊎ (op < n)
split zero zero h = inl refl
split zero (suc n) h = inr (omega arith)
split (suc op) zero h = absurd (omega (arith, h))
split (suc op) (suc n) h = elim (split op n (omega (arith, h))) [ inl e ↦ inl (ap suc e) | inr l ↦ inr (omega (arith, l)) ]

both_hold : (a b : Bool) → (a && b) ≡ true → (a ≡ true) × (b ≡ true)
both_hold true b e = (refl, e)
both_hold false b e = absurd cc

holds_at : (test : ℕ → Bool) (n op : ℕ) → up_to test n ≡ true → op < n → test op ≡ true
unfolding up_to
holds_at test zero op all less = absurd (omega (arith, less))
holds_at test (suc n) op all less =
    let h = both_hold (test n) (up_to test n) all in
    elim (split op n less) [ inl e ↦ ap test e ∙ h.0 | inr l ↦ holds_at test n op h.1 l ]

-- ---- by the sizes of the operands

unfoldable has : List ℕ → ℕ → (ℕ → Bool) → Bool
has sizes op others = not (bytes_eq (sizes_of op) sizes) || others op

-- a number below this one with these sizes is one of those
among : (end : ℕ) (sizes : List ℕ) (others : ℕ → Bool) (op : ℕ) → bytes_eq sizes sizes ≡ true → up_to (λ n. has sizes n others) end ≡ true → op < end → sizes_of op ≡ sizes → others op ≡ true
unfolding has
among end sizes others op same all less e =
    let h : has sizes op others ≡ true = holds_at (λ n. has sizes n others) end op all less in
    sym (ap (λ (b : Bool). not b || others op) (ap (λ (l : List ℕ). bytes_eq l sizes) e ∙ same)) ∙ h

-- those of the instructions over words
abbrev is_plain : ℕ → Bool
is_plain op = (op == 0x0C) || ((op == 0x0D) || ((op == 0x0E) || ((op == 0x0F) || ((op == 0x10) || ((op == 0x11) || ((op == 0x12) || ((op == 0x13) || ((op == 0x14) || ((op == 0x15) || ((op == 0x16) || ((op == 0x17) || ((op == 0x1E) || ((op == 0x1F) || ((op == 0x22) || (op == 0x26)))))))))))))))

all_plain_among : up_to (λ n. has [] n is_plain) 46 ≡ true
unfolding up_to has sizes_of
all_plain_among = refl

pub plain_among : (op : ℕ) → op < 46 → sizes_of op ≡ [] → is_plain op ≡ true
plain_among op less e = among 46 [] is_plain op refl all_plain_among less e

abbrev is_word : ℕ → Bool
is_word op = (op == 0) || ((op == 0x01) || ((op == 0x02) || ((op == 0x27) || ((op == 0x29) || (op == 0x2A)))))

all_word_among : up_to (λ n. has (2 ∷ []) n is_word) 62 ≡ true
unfolding up_to has sizes_of
all_word_among = refl

pub word_among : (op : ℕ) → IsNumber op → sizes_of op ≡ 2 ∷ [] → is_word op ≡ true
word_among op there e = among 62 (2 ∷ []) is_word op refl all_word_among (omega (arith, there.1)) e

abbrev is_words : ℕ → Bool
is_words op = (op == 0x03) || ((op == 0x04) || ((op == 0x05) || ((op == 0x06) || ((op == 0x0B) || ((op == 0x18) || ((op == 0x19) || ((op == 0x2B) || ((op == 0x2C) || (op == 0x2D)))))))))

all_words_among : up_to (λ n. has (2 ∷ 2 ∷ []) n is_words) 62 ≡ true
unfolding up_to has sizes_of
all_words_among = refl

pub words_among : (op : ℕ) → IsNumber op → sizes_of op ≡ 2 ∷ 2 ∷ [] → is_words op ≡ true
words_among op there e = among 62 (2 ∷ 2 ∷ []) is_words op refl all_words_among (omega (arith, there.1)) e

abbrev is_three : ℕ → Bool
is_three op = (op == 0x07) || ((op == 0x08) || ((op == 0x09) || (op == 0x0A)))

all_three_among : up_to (λ n. has (2 ∷ 2 ∷ 2 ∷ []) n is_three) 62 ≡ true
unfolding up_to has sizes_of
all_three_among = refl

pub three_among : (op : ℕ) → IsNumber op → sizes_of op ≡ 2 ∷ 2 ∷ 2 ∷ [] → is_three op ≡ true
three_among op there e = among 62 (2 ∷ 2 ∷ 2 ∷ []) is_three op refl all_three_among (omega (arith, there.1)) e

abbrev is_four : ℕ → Bool
is_four op = (op == 0x1A) || ((op == 0x1B) || ((op == 0x1C) || ((op == 0x1D) || ((op == 0x20) || ((op == 0x21) || ((op == 0x23) || (op == 0x24)))))))

all_four_among : up_to (λ n. has (4 ∷ []) n is_four) 62 ≡ true
unfolding up_to has sizes_of
all_four_among = refl

pub four_among : (op : ℕ) → IsNumber op → sizes_of op ≡ 4 ∷ [] → is_four op ≡ true
four_among op there e = among 62 (4 ∷ []) is_four op refl all_four_among (omega (arith, there.1)) e

all_byte_is : up_to (λ n. has (1 ∷ []) n (λ n. n == 37)) 62 ≡ true
unfolding up_to has sizes_of
all_byte_is = refl

pub byte_is : (op : ℕ) → IsNumber op → sizes_of op ≡ 1 ∷ [] → (op == 37) ≡ true
byte_is op there e = among 62 (1 ∷ []) (λ n. n == 37) op refl all_byte_is (omega (arith, there.1)) e

all_leave_is : up_to (λ n. has (2 ∷ 4 ∷ []) n (λ n. n == 40)) 62 ≡ true
unfolding up_to has sizes_of
all_leave_is = refl

pub leave_is : (op : ℕ) → IsNumber op → sizes_of op ≡ 2 ∷ 4 ∷ [] → (op == 40) ≡ true
leave_is op there e = among 62 (2 ∷ 4 ∷ []) (λ n. n == 40) op refl all_leave_is (omega (arith, there.1)) e

-- ---- the last of those with these sizes

skip : (k op : ℕ) (b : Bool) → ((op == k) || b) ≡ true → op ≢ k → b ≡ true
skip k op b h ne = past (op == k) (λ e. ne (eqb-true op k e)) h
  where
    past : (t : Bool) → (t ≡ true → ⊥) → (t || b) ≡ true → b ≡ true
    past true differs h = absurd (differs refl)
    past false differs h = h

pub plain_last : (op : ℕ) → op < 46 → sizes_of op ≡ [] → op ≢ 12 → op ≢ 13 → op ≢ 14 → op ≢ 15 → op ≢ 16 → op ≢ 17 → op ≢ 18 → op ≢ 19 → op ≢ 20 → op ≢ 21 → op ≢ 22 → op ≢ 23 → op ≢ 30 → op ≢ 31 → op ≢ 34 → ArmEnd ≡ with_operands op 0 0 0
unfolding with_operands
plain_last op less e n0 n1 n2 n3 n4 n5 n6 n7 n8 n9 n10 n11 n12 n13 n14 =
    let is : op ≡ 38 = eqb-true op 38 (skip 34 op _ (skip 31 op _ (skip 30 op _ (skip 23 op _ (skip 22 op _ (skip 21 op _ (skip 20 op _ (skip 19 op _ (skip 18 op _ (skip 17 op _ (skip 16 op _ (skip 15 op _ (skip 14 op _ (skip 13 op _ (skip 12 op _ (plain_among op less e) n0) n1) n2) n3) n4) n5) n6) n7) n8) n9) n10) n11) n12) n13) n14) in
    subst (λ k. ArmEnd ≡ with_operands k 0 0 0) (sym is) refl

pub longs_last : (op : ℕ) → op ≡ 61 → CheckD ≡ with_operands op 0 0 0
unfolding with_operands
longs_last op is = subst (λ k. CheckD ≡ with_operands k 0 0 0) (sym is) refl

pub word_last : (op : ℕ) (a : ℕ) → IsNumber op → sizes_of op ≡ 2 ∷ [] → op ≢ 0 → op ≢ 1 → op ≢ 2 → op ≢ 39 → op ≢ 41 → Pop a ≡ with_operands op a 0 0
unfolding with_operands
word_last op a there e n0 n1 n2 n3 n4 =
    let is : op ≡ 42 = eqb-true op 42 (skip 41 op _ (skip 39 op _ (skip 2 op _ (skip 1 op _ (skip 0 op _ (word_among op there e) n0) n1) n2) n3) n4) in
    subst (λ k. Pop a ≡ with_operands k a 0 0) (sym is) refl

pub words_last : (op : ℕ) (a b : ℕ) → IsNumber op → sizes_of op ≡ 2 ∷ 2 ∷ [] → op ≢ 3 → op ≢ 4 → op ≢ 5 → op ≢ 6 → op ≢ 11 → op ≢ 24 → op ≢ 25 → op ≢ 43 → op ≢ 44 → ZeroG a b ≡ with_operands op a b 0
unfolding with_operands
words_last op a b there e n0 n1 n2 n3 n4 n5 n6 n7 n8 =
    let is : op ≡ 45 = eqb-true op 45 (skip 44 op _ (skip 43 op _ (skip 25 op _ (skip 24 op _ (skip 11 op _ (skip 6 op _ (skip 5 op _ (skip 4 op _ (skip 3 op _ (words_among op there e) n0) n1) n2) n3) n4) n5) n6) n7) n8) in
    subst (λ k. ZeroG a b ≡ with_operands k a b 0) (sym is) refl

pub three_last : (op : ℕ) (a b c : ℕ) → IsNumber op → sizes_of op ≡ 2 ∷ 2 ∷ 2 ∷ [] → op ≢ 7 → op ≢ 8 → op ≢ 9 → StoreGX a b c ≡ with_operands op a b c
unfolding with_operands
three_last op a b c there e n0 n1 n2 =
    let is : op ≡ 10 = eqb-true op 10 (skip 9 op _ (skip 8 op _ (skip 7 op _ (three_among op there e) n0) n1) n2) in
    subst (λ k. StoreGX a b c ≡ with_operands k a b c) (sym is) refl

pub four_last : (op : ℕ) (a : ℕ) → IsNumber op → sizes_of op ≡ 4 ∷ [] → op ≢ 26 → op ≢ 27 → op ≢ 28 → op ≢ 29 → op ≢ 32 → op ≢ 33 → op ≢ 35 → RaiseLink a ≡ with_operands op a 0 0
unfolding with_operands
four_last op a there e n0 n1 n2 n3 n4 n5 n6 =
    let is : op ≡ 36 = eqb-true op 36 (skip 35 op _ (skip 33 op _ (skip 32 op _ (skip 29 op _ (skip 28 op _ (skip 27 op _ (skip 26 op _ (four_among op there e) n0) n1) n2) n3) n4) n5) n6) in
    subst (λ k. RaiseLink a ≡ with_operands k a 0 0) (sym is) refl

pub byte_number : (op : ℕ) → IsNumber op → sizes_of op ≡ 1 ∷ [] → op ≡ 37
byte_number op there e = eqb-true op 37 (byte_is op there e)

pub leave_number : (op : ℕ) → IsNumber op → sizes_of op ≡ 2 ∷ 4 ∷ [] → op ≡ 40
leave_number op there e = eqb-true op 40 (leave_is op there e)

-- ---- the bytes of an instruction

unfoldable Sized : ℕ → Type 0
Sized op = (a b c : ℕ) → bytes_of (with_operands op a b c) ≡ size_of op

unfoldable AllSized : ℕ → Type 0
AllSized zero = Unit {0}
AllSized (suc n) = Sized (suc n) × AllSized n

sized_at : (n op : ℕ) → AllSized n → 1 ≤ op → op ≤ n → Sized op
unfolding AllSized
sized_at zero op all first last = absurd (omega (arith, first, last))
sized_at (suc n) op all first last =
    elim (split op (suc n) (omega (arith, last))) [ inl e ↦ subst Sized (sym e) all.0 | inr l ↦ sized_at n op all.1 first (omega (arith, l)) ]

all_sized : AllSized 61
unfolding AllSized Sized with_operands sizes_of
all_sized = ((λ a b c. refl), ((λ a b c. refl), ((λ a b c. refl), ((λ a b c. refl), ((λ a b c. refl), ((λ a b c. refl), ((λ a b c. refl), ((λ a b c. refl), ((λ a b c. refl), ((λ a b c. refl), ((λ a b c. refl), ((λ a b c. refl), ((λ a b c. refl), ((λ a b c. refl), ((λ a b c. refl), ((λ a b c. refl), ((λ a b c. refl), ((λ a b c. refl), ((λ a b c. refl), ((λ a b c. refl), ((λ a b c. refl), ((λ a b c. refl), ((λ a b c. refl), ((λ a b c. refl), ((λ a b c. refl), ((λ a b c. refl), ((λ a b c. refl), ((λ a b c. refl), ((λ a b c. refl), ((λ a b c. refl), ((λ a b c. refl), ((λ a b c. refl), ((λ a b c. refl), ((λ a b c. refl), ((λ a b c. refl), ((λ a b c. refl), ((λ a b c. refl), ((λ a b c. refl), ((λ a b c. refl), ((λ a b c. refl), ((λ a b c. refl), ((λ a b c. refl), ((λ a b c. refl), ((λ a b c. refl), ((λ a b c. refl), ((λ a b c. refl), ((λ a b c. refl), ((λ a b c. refl), ((λ a b c. refl), ((λ a b c. refl), ((λ a b c. refl), ((λ a b c. refl), ((λ a b c. refl), ((λ a b c. refl), ((λ a b c. refl), ((λ a b c. refl), ((λ a b c. refl), ((λ a b c. refl), ((λ a b c. refl), ((λ a b c. refl), ((λ a b c. refl), tt)))))))))))))))))))))))))))))))))))))))))))))))))))))))))))))

pub sized : (op a b c : ℕ) → IsNumber op → bytes_of (with_operands op a b c) ≡ size_of op
unfolding Sized
sized op a b c there = sized_at 61 op all_sized there.0 there.1 a b c
