-- Words of lists by their slots: what is joined, read and written.
use Rattle.std.proofs.Common.{◌≡◌, ℕ, zero, suc, ◌+◌, ◌-◌, ◌<◌, ◌≤◌, List, [], ◌∷◌, ◌++◌, length, refl, sym, ap, ◌∙◌, arith}
use Rattle.std.specs.Prelude.{slice_index, take, drop, reverse}
use Rattle.std.proofs.lemmas.List.{reverse-reverse}
use Rattle.machine_rules.specs.Words.{zeros, words_at, put_words, push, popped, under}
use Rattle.agreement_rules.specs.Layout.{slots_of}

pub slots_left : (ws xs : List ℕ) (n : ℕ) → n < length ws → slots_of (ws ++ xs) n ≡ slots_of ws n
unfolding slots_of
slots_left [] xs n lt = absurd (omega arith)
slots_left (w ∷ ws) xs zero lt = refl
slots_left (w ∷ ws) xs (suc n) lt = slots_left ws xs n (omega arith)

pub slots_right : (ws xs : List ℕ) (n : ℕ) → slots_of (ws ++ xs) (length ws + n) ≡ slots_of xs n
unfolding slots_of
slots_right [] xs n = ap (λ k. slice_index xs k) (omega arith)
slots_right (w ∷ ws) xs n =
    let e : suc (length ws) + n ≡ suc (length ws + n) = omega arith in
    ap (λ k. slice_index (w ∷ (ws ++ xs)) k) e ∙ slots_right ws xs n

pub append_nil : (ws : List ℕ) → ws ++ [] ≡ ws
append_nil [] = refl
append_nil (w ∷ ws) = ap (λ l. w ∷ l) (append_nil ws)

pub append_more : (a b c : List ℕ) → (a ++ b) ++ c ≡ a ++ (b ++ c)
append_more [] b c = refl
append_more (x ∷ a) b c = ap (λ l. x ∷ l) (append_more a b c)

pub length_both : (ws xs : List ℕ) → length (ws ++ xs) ≡ length ws + length xs
length_both [] xs = omega arith
length_both (w ∷ ws) xs = omega (arith, length_both ws xs)

pub no_slot : (n : ℕ) → slots_of [] n ≡ 0
unfolding slots_of
no_slot zero = refl
no_slot (suc n) = refl

pub zero_slots : (k n : ℕ) → slots_of (zeros k) n ≡ 0
unfolding slots_of
zero_slots zero n = no_slot n
zero_slots (suc k) zero = refl
zero_slots (suc k) (suc n) = zero_slots k n

-- zeros behind some words are as none
pub zeros_behind : (ws : List ℕ) (k n : ℕ) → slots_of (ws ++ zeros k) n ≡ slots_of ws n
unfolding slots_of
zeros_behind [] k n = zero_slots k n ∙ sym (no_slot n)
zeros_behind (w ∷ ws) k zero = refl
zeros_behind (w ∷ ws) k (suc n) = zeros_behind ws k n

pub zeros_long : (k : ℕ) → length (zeros k) ≡ k
zeros_long zero = refl
zeros_long (suc k) = ap suc (zeros_long k)

pub take_slots : (k : ℕ) (ws : List ℕ) (n : ℕ) → n < k → slots_of (take k ws) n ≡ slots_of ws n
unfolding slots_of
take_slots zero ws n lt = absurd (omega arith)
take_slots (suc k) [] n lt = refl
take_slots (suc k) (w ∷ ws) zero lt = refl
take_slots (suc k) (w ∷ ws) (suc n) lt = take_slots k ws n (omega arith)

pub take_long : (k : ℕ) (ws : List ℕ) → k ≤ length ws → length (take k ws) ≡ k
take_long zero ws le = refl
take_long (suc k) [] le = absurd (omega arith)
take_long (suc k) (w ∷ ws) le = ap suc (take_long k ws (omega arith))

pub drop_slots : (k : ℕ) (ws : List ℕ) (n : ℕ) → slots_of (drop k ws) n ≡ slots_of ws (k + n)
unfolding slots_of
drop_slots zero ws n = ap (λ j. slice_index ws j) (omega arith)
drop_slots (suc k) [] n = no_slot n ∙ sym (no_slot (suc k + n))
drop_slots (suc k) (w ∷ ws) n =
    let e : suc k + n ≡ suc (k + n) = omega arith in
    drop_slots k ws n ∙ sym (ap (λ j. slice_index (w ∷ ws) j) e)

-- two lists of one length with the same words are one
pub same_list : (ws xs : List ℕ) → length ws ≡ length xs → ((n : ℕ) → n < length ws → slots_of ws n ≡ slots_of xs n) → ws ≡ xs
unfolding slots_of
same_list [] [] e h = refl
same_list [] (x ∷ xs) e h = absurd (omega arith)
same_list (w ∷ ws) [] e h = absurd (omega arith)
same_list (w ∷ ws) (x ∷ xs) e h =
    let a : w ≡ x = h 0 (omega arith) in
    let b : ws ≡ xs = same_list ws xs (omega arith) (λ n lt. h (suc n) (omega arith)) in cc

-- Read and written.

pub read_long : (ws : List ℕ) (s k : ℕ) → length (words_at ws s k) ≡ k
read_long ws s k = take_long k (drop s ws ++ zeros k) (omega (arith, length_both (drop s ws) (zeros k), zeros_long k))

pub read_slots : (ws : List ℕ) (s k n : ℕ) → n < k → slots_of (words_at ws s k) n ≡ slots_of ws (s + n)
read_slots ws s k n lt = take_slots k (drop s ws ++ zeros k) n lt ∙ zeros_behind (drop s ws) k n ∙ drop_slots s ws n

front_long : (ws : List ℕ) (s : ℕ) → length (take s (ws ++ zeros s)) ≡ s
front_long ws s = take_long s (ws ++ zeros s) (omega (arith, length_both ws (zeros s), zeros_long s))

put_is : (ws : List ℕ) (s : ℕ) (new : List ℕ) → put_words ws s new ≡ take s (ws ++ zeros s) ++ (new ++ drop (s + length new) ws)
put_is ws s new = append_more (take s (ws ++ zeros s)) new (drop (s + length new) ws)

pub put_below : (ws : List ℕ) (s : ℕ) (new : List ℕ) (n : ℕ) → n < s → slots_of (put_words ws s new) n ≡ slots_of ws n
put_below ws s new n lt =
    ap (λ l. slots_of l n) (put_is ws s new)
    ∙ slots_left (take s (ws ++ zeros s)) (new ++ drop (s + length new) ws) n (omega (arith, front_long ws s))
    ∙ take_slots s (ws ++ zeros s) n lt ∙ zeros_behind ws s n

behind_front : (ws : List ℕ) (s : ℕ) (new : List ℕ) (n : ℕ) → slots_of (put_words ws s new) (s + n) ≡ slots_of (new ++ drop (s + length new) ws) n
behind_front ws s new n =
    let f = take s (ws ++ zeros s) in
    let e : s + n ≡ length f + n = omega (arith, front_long ws s) in
    ap (λ l. slots_of l (s + n)) (put_is ws s new)
    ∙ ap (λ j. slots_of (f ++ (new ++ drop (s + length new) ws)) j) e ∙ slots_right f (new ++ drop (s + length new) ws) n

pub put_here : (ws : List ℕ) (s : ℕ) (new : List ℕ) (n : ℕ) → n < length new → slots_of (put_words ws s new) (s + n) ≡ slots_of new n
put_here ws s new n lt = behind_front ws s new n ∙ slots_left new (drop (s + length new) ws) n lt

pub put_beyond : (ws : List ℕ) (s : ℕ) (new : List ℕ) (n : ℕ) → s + length new ≤ n → slots_of (put_words ws s new) n ≡ slots_of ws n
put_beyond ws s new n le =
    let k = n - (s + length new) in
    let e : n ≡ s + (length new + k) = omega arith in
    let d : (s + length new) + k ≡ n = omega arith in
    ap (λ j. slots_of (put_words ws s new) j) e ∙ behind_front ws s new (length new + k) ∙ slots_right new (drop (s + length new) ws) k
    ∙ drop_slots (s + length new) ws k ∙ ap (λ j. slots_of ws j) d

-- what was written is read, also a part of it
pub read_back : (ws : List ℕ) (s : ℕ) (before part after : List ℕ)
    → words_at (put_words ws s (before ++ (part ++ after))) (s + length before) (length part) ≡ part
read_back ws s before part after =
    let new = before ++ (part ++ after) in
    same_list _ _ (read_long (put_words ws s new) (s + length before) (length part)) (λ n lt.
    let k : n < length part = omega (arith, read_long (put_words ws s new) (s + length before) (length part), lt) in
    let e : (s + length before) + n ≡ s + (length before + n) = omega arith in
    let l : length before + n < length new = omega (arith, length_both before (part ++ after), length_both part after, k) in
    read_slots (put_words ws s new) (s + length before) (length part) n k ∙ ap (λ j. slots_of (put_words ws s new) j) e
    ∙ put_here ws s new (length before + n) l ∙ slots_right before (part ++ after) n ∙ slots_left part after n k)

-- Pushed and popped.

pub push_both : (ws xs rest : List ℕ) → push (ws ++ xs) rest ≡ push xs (push ws rest)
push_both [] xs rest = refl
push_both (w ∷ ws) xs rest = push_both ws xs (w ∷ rest)

under_more : (ws rest : List ℕ) (n : ℕ) → drop (length ws + n) (push ws rest) ≡ drop n rest
under_more [] rest n = let e : 0 + n ≡ n = omega arith in ap (λ k. drop k rest) e
under_more (w ∷ ws) rest n =
    let e : suc (length ws) + n ≡ length ws + suc n = omega arith in
    ap (λ k. drop k (push ws (w ∷ rest))) e ∙ under_more ws (w ∷ rest) (suc n)

pub under_all : (ws rest : List ℕ) → under (length ws) (push ws rest) ≡ rest
under_all ws rest = let e : length ws ≡ length ws + 0 = omega arith in ap (λ k. drop k (push ws rest)) e ∙ under_more ws rest 0

push_behind : (ws a b : List ℕ) → push ws a ++ b ≡ push ws (a ++ b)
push_behind [] a b = refl
push_behind (w ∷ ws) a b = push_behind ws (w ∷ a) b

popped_more : (ws rest : List ℕ) (n : ℕ) → take (length ws + n) (push ws rest) ≡ reverse ws ++ take n rest
popped_more [] rest n = ap (λ k. take k rest) (omega arith)
popped_more (w ∷ ws) rest n =
    let e : suc (length ws) + n ≡ length ws + suc n = omega arith in
    ap (λ k. take k (push ws (w ∷ rest))) e ∙ popped_more ws (w ∷ rest) (suc n)
    ∙ push_behind ws [] (w ∷ take n rest) ∙ sym (push_behind ws (w ∷ []) (take n rest))

pub popped_all : (ws rest : List ℕ) → popped (length ws) (push ws rest) ≡ ws
popped_all ws rest =
    let e : length ws ≡ length ws + 0 = omega arith in
    ap (λ k. reverse (take k (push ws rest))) e ∙ ap (λ l. reverse l) (popped_more ws rest 0) ∙ ap (λ l. reverse l) (append_nil (reverse ws))
    ∙ reverse-reverse ws
