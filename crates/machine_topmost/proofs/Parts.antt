-- Parts of a region, of which another part is replaced; and operands, which a list has the other way round.
use Rattle.std.proofs.Common.{◌≡◌, ℕ, suc, ◌+◌, ◌-◌, ◌<◌, ◌≤◌, List, [], ◌∷◌, ◌++◌, length, take, drop, reverse, get_or, set, refl, sym, ap, ◌∙◌, append_assoc, drop-cons, arith}
use Rattle.std.specs.Prelude.{slice_set}
use Rattle.std.proofs.lemmas.List.{length-append, length-take-le, length-drop, length-reverse, reverse-append, reverse-reverse, take-append-drop, take-append-le, drop-append-le, take_at, drop_at, take-take, drop-take, drop-drop, set_split}
use Rattle.std.proofs.lemmas.List.Edits.{paste-paste}
use Rattle.std.proofs.lemmas.Grind.{reverse_onto}
use Rattle.std.proofs.Math.ListN.{length-set}
use Rattle.machine_rules.specs.Words.{zeros, words_at, put_words, push}
use Rattle.machine_topmost.specs.Flat.{part, with_part}
use Rattle.machine_topmost.proofs.Copied.{length-part, part_end, part_front}

-- a part in two
pub part_in_two : (region : List ℕ) (at a b : ℕ) → part region at (a + b) ≡ part region at a ++ part region (at + a) b
part_in_two region at a b =
    sym (take-append-drop a (part region at (a + b)))
    ∙ ap (λ x. x ++ drop a (part region at (a + b))) (part_front region at a (a + b) (omega arith))
    ∙ ap (λ x. part region at a ++ x) (part_end region at a b)

-- before what is replaced
pub part_before : (region : List ℕ) (at : ℕ) (new : List ℕ) (p n : ℕ) → at ≤ length region → p + n ≤ at → part (with_part region at new) p n ≡ part region p n
part_before region at new p n there before =
    let front : length (take at region) ≡ at = length-take-le at region there in
    let left : length (drop p (take at region)) ≡ at - p = (let all = length-drop p (take at region) in omega (arith, all, front)) in
    let up : p + (at - p) ≡ at = omega arith in
    ap (λ x. take n (drop p x)) (append_assoc (take at region) new (drop (at + length new) region))
    ∙ ap (λ x. take n x) (drop-append-le p (take at region) (new ++ drop (at + length new) region) (omega (arith, front)))
    ∙ take-append-le n (drop p (take at region)) (new ++ drop (at + length new) region) (omega (arith, left))
    ∙ ap (λ k. take n (drop p (take k region))) (sym up)
    ∙ ap (λ x. take n x) (drop-take p (at - p) region)
    ∙ take-take n (at - p) (drop p region) (omega arith)

-- behind it
pub part_past : (region : List ℕ) (at : ℕ) (new : List ℕ) (p n : ℕ) → at ≤ length region → at + length new ≤ p → part (with_part region at new) p n ≡ part region p n
part_past region at new p n there past =
    let front : length (take at region) ≡ at = length-take-le at region there in
    let both = length-append (take at region) new in
    let up : at + length new + (p - (at + length new)) ≡ p = omega arith in
    let rest : drop (at + length new) (with_part region at new) ≡ drop (at + length new) region = drop_at (take at region ++ new) (drop (at + length new) region) (at + length new) (omega (arith, both, front)) in
    let beyond : (xs : List ℕ) → drop p xs ≡ drop (p - (at + length new)) (drop (at + length new) xs) = λ (xs : List ℕ).
    (sym (drop-drop (p - (at + length new)) (at + length new) xs ∙ ap (λ k. drop k xs) up)) in
    ap (λ x. take n x) (beyond (with_part region at new) ∙ ap (λ x. drop (p - (at + length new)) x) rest ∙ sym (beyond region))

-- and there
pub part_there : (region : List ℕ) (at : ℕ) (new : List ℕ) → at ≤ length region → part (with_part region at new) at (length new) ≡ new
part_there region at new there =
    let front : length (take at region) ≡ at = length-take-le at region there in
    ap (λ x. take (length new) (drop at x)) (append_assoc (take at region) new (drop (at + length new) region))
    ∙ ap (λ x. take (length new) x) (drop_at (take at region) (new ++ drop (at + length new) region) at front)
    ∙ take_at new (drop (at + length new) region) (length new) refl

-- what stands before it, with it behind
pub part_with_end : (region : List ℕ) (p k : ℕ) (new : List ℕ) → p + k ≤ length region → part (with_part region (p + k) new) p (k + length new) ≡ part region p k ++ new
part_with_end region p k new there =
    part_in_two (with_part region (p + k) new) p k (length new)
    ∙ ap (λ x. x ++ part (with_part region (p + k) new) (p + k) (length new)) (part_before region (p + k) new p k there (omega arith))
    ∙ ap (λ x. part region p k ++ x) (part_there region (p + k) new there)

-- a part in which a part is replaced
pub part_around : (region : List ℕ) (p s n : ℕ) (new : List ℕ) → s + length new ≤ n → p + n ≤ length region → part (with_part region (p + s) new) p n ≡ with_part (part region p n) s new
part_around region p s n new inside room =
    let up : s + length new + (n - (s + length new)) ≡ n = omega arith in
    let left = n - (s + length new) in
    let whole : part region p (s + length new + left) ≡ part region p n = ap (λ k. part region p k) up in
    ap (λ k. part (with_part region (p + s) new) p k) (sym up)
    ∙ part_in_two (with_part region (p + s) new) p (s + length new) left
    ∙ ap (λ x. x ++ part (with_part region (p + s) new) (p + (s + length new)) left) (part_with_end region p s new (omega arith))
    ∙ ap (λ x. part region p s ++ new ++ x) (part_past region (p + s) new (p + (s + length new)) left (omega arith) (omega arith))
    ∙ ap (λ x. x ++ new ++ part region (p + (s + length new)) left) (sym (part_front region p s n (omega arith)))
    ∙ ap (λ x. take s (part region p n) ++ new ++ x) (sym (part_end region p (s + length new) left))
    ∙ ap (λ x. take s (part region p n) ++ new ++ drop (s + length new) x) whole

-- a part of a part
pub part_inside : (region : List ℕ) (p n s k : ℕ) → s + k ≤ n → part (part region p n) s k ≡ part region (p + s) k
part_inside region p n s k inside =
    let up : s + (n - s) ≡ n = omega arith in
    ap (λ m. take k (drop s (part region p m))) (sym up)
    ∙ ap (λ x. take k x) (part_end region p s (n - s))
    ∙ part_front region (p + s) k (n - s) (omega arith)

-- one word that is set is one that is replaced
pub set_is_replaced : (region : List ℕ) (at word : ℕ) → at < length region → set region at word ≡ with_part region at (word ∷ [])
set_is_replaced region at word there =
    let next : suc at ≡ at + 1 = omega arith in
    set_split region at word there
    ∙ ap (λ k. take at region ++ word ∷ drop k region) next
    ∙ sym (append_assoc (take at region) (word ∷ []) (drop (at + 1) region))

-- two words that are set, one behind the other
pub two_set : (region : List ℕ) (at a b : ℕ) → at + 2 ≤ length region → slice_set (slice_set region at a) (at + 1) b ≡ with_part region at (a ∷ b ∷ [])
two_set region at a b room =
    let size = length-set region at a in
    set_is_replaced (slice_set region at a) (at + 1) b (omega (arith, size))
    ∙ ap (λ r. with_part r (at + 1) (b ∷ [])) (set_is_replaced region at a (omega arith))
    ∙ paste-paste region at (a ∷ []) (b ∷ []) 1 1 refl refl (omega arith)

-- one word is a part
pub one_word : (region : List ℕ) (at : ℕ) → at < length region → part region at 1 ≡ get_or region at 0 ∷ []
one_word region at there = ap (λ x. take 1 x) (drop-cons region at 0 there)

-- where nothing is past the last slot, words of variables are a part
pub words_are_part : (words : List ℕ) (slot n : ℕ) → slot + n ≤ length words → words_at words slot n ≡ part words slot n
words_are_part words slot n room = let left = length-drop slot words in take-append-le n (drop slot words) (zeros n) (omega (arith, left))

pub put_is_replaced : (words : List ℕ) (slot : ℕ) (new : List ℕ) → slot ≤ length words → put_words words slot new ≡ with_part words slot new
put_is_replaced words slot new room = ap (λ x. x ++ new ++ drop (slot + length new) words) (take-append-le slot words (zeros slot) room)

-- Operands, the topmost one first.

abbrev pub operands_at : List ℕ → ℕ → ℕ → List ℕ
operands_at region floor depth = reverse (part region floor depth)

pub push_is : (words operands : List ℕ) → push words operands ≡ reverse words ++ operands
push_is [] operands = refl
push_is (w ∷ words) operands =
    push_is words (w ∷ operands) ∙ sym (ap (λ x. x ++ operands) (reverse_onto words w []) ∙ append_assoc (reverse words) (w ∷ []) operands)

-- words that are pushed stand behind
pub pushed : (below words : List ℕ) → push words (reverse below) ≡ reverse (below ++ words)
pushed below words = push_is words (reverse below) ∙ sym (reverse-append below words)

module _ (region : List ℕ) (floor depth n : ℕ) (less : n ≤ depth) (room : floor + depth ≤ length region) where
  halves : operands_at region floor depth ≡ reverse (part region (floor + (depth - n)) n) ++ operands_at region floor (depth - n)
  halves =
      let up : depth - n + n ≡ depth = omega arith in
      ap (λ k. operands_at region floor k) (sym up)
      ∙ ap (λ x. reverse x) (part_in_two region floor (depth - n) n)
      ∙ reverse-append (part region floor (depth - n)) (part region (floor + (depth - n)) n)

  size : length (reverse (part region (floor + (depth - n)) n)) ≡ n
  size = length-reverse (part region (floor + (depth - n)) n) ∙ length-part region (floor + (depth - n)) n (omega arith)

  -- those under so many
  pub under_is : drop n (operands_at region floor depth) ≡ operands_at region floor (depth - n)
  under_is = ap (λ x. drop n x) halves ∙ drop_at (reverse (part region (floor + (depth - n)) n)) (operands_at region floor (depth - n)) n size

  -- so many, in the order in which they were pushed
  pub popped_is : reverse (take n (operands_at region floor depth)) ≡ part region (floor + (depth - n)) n
  popped_is =
      ap (λ x. reverse (take n x)) halves
      ∙ ap (λ x. reverse x) (take_at (reverse (part region (floor + (depth - n)) n)) (operands_at region floor (depth - n)) n size)
      ∙ reverse-reverse (part region (floor + (depth - n)) n)

-- the topmost one
pub topmost_is : (region : List ℕ) (floor depth : ℕ) → 1 ≤ depth → floor + depth ≤ length region → operands_at region floor depth ≡ get_or region (floor + (depth - 1)) 0 ∷ operands_at region floor (depth - 1)
topmost_is region floor depth some room =
    halves region floor depth 1 some room
    ∙ ap (λ x. reverse x ++ operands_at region floor (depth - 1)) (one_word region (floor + (depth - 1)) (omega arith))
