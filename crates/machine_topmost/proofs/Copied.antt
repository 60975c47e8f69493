-- Words that were copied, cleared or turned stand as the definitions say.
use Rattle.std.proofs.Common.{◌≡◌, refl, ℕ, ◌+◌, ◌-◌, ◌<◌, ◌≤◌, ◌⊎◌, ⊎_elim, List, ◌++◌, length, take, drop, get_or, set, replicate, sym, ap, ◌∙◌, arith}
use Rattle.std.proofs.lemmas.List.{length-append, length-take-le, length-drop, get_or-append_right, get_or_append_left, get_or-take, get_or-drop, take_all, take-take, drop-take, drop-drop}
use Rattle.std.proofs.lemmas.List.Edits.{paste_more}
use Rattle.std.proofs.lemmas.Slice.{put_mid-paste}
use Rattle.std.proofs.Math.ListN.{length-replicate}
use Rattle.std.proofs.Math.Seq.{paste}
use borrow.Rule.Slice.PartMut.{put_mid}
use Rattle.machine_topmost.specs.Flat.{part, with_part}

pub length-part : (region : List ℕ) (at count : ℕ) → at + count ≤ length region → length (part region at count) ≡ count
length-part region at count room = let behind = length-drop at region in length-take-le count (drop at region) (omega (arith, behind))

pub length-with_part : (region : List ℕ) (at : ℕ) (new : List ℕ) → at + length new ≤ length region → length (with_part region at new) ≡ length region
length-with_part region at new room =
    let whole = length-append (take at region ++ new) (drop (at + length new) region) in
    let front = length-append (take at region) new in
    let before = length-take-le at region (omega arith) in
    let behind = length-drop (at + length new) region in
    omega (arith, whole, front, before, behind)

pub pasted : (region : List ℕ) (at : ℕ) (words : List ℕ) (count : ℕ) → count ≤ length words → paste region at words count ≡ with_part region at (take count words)
pasted region at words count room =
    let same : length (take count words) ≡ count = length-take-le count words room in
    ap (λ n. take at region ++ take count words ++ drop (at + n) region) (sym same)

pub brought : (region words : List ℕ) (from to count i : ℕ) → from + count ≤ length words → i ≡ count → paste region to (drop from words) i ≡ with_part region to (part words from count)
brought region words from to count i room all =
    let behind = length-drop from words in
    ap (λ n. paste region to (drop from words) n) all ∙ pasted region to (drop from words) count (omega (arith, behind))

pub bring_more : (region words : List ℕ) (from to count i : ℕ) → from + count ≤ length words → to + count ≤ length region → i < count
    → set (paste region to (drop from words) i) (to + i) (get_or words (from + i) 0) ≡ paste region to (drop from words) (i + 1)
bring_more region words from to count i source room more =
    let behind = length-drop from words in
    ap (λ x. set (paste region to (drop from words) i) (to + i) x) (sym (get_or-drop from words i 0))
    ∙ paste_more region to (drop from words) i 0 (omega arith) (omega (arith, behind))

-- a word that stands apart from what is copied
read_apart : (region : List ℕ) (from to count i : ℕ) → (from + count ≤ to) ⊎ (to + count ≤ from) → from + count ≤ length region → to + count ≤ length region → i < count
    → get_or (paste region to (drop from region) i) (from + i) 0 ≡ get_or region (from + i) 0
read_apart region from to count i apart source room more =
    let behind = length-drop from region in
    let before : length (take to region) ≡ to = length-take-le to region (omega arith) in
    let copied : length (take i (drop from region)) ≡ i = length-take-le i (drop from region) (omega (arith, behind)) in
    let front = length-append (take to region) (take i (drop from region)) in
    let same : (to + i ≤ from + i) → to + i + (from + i - (to + i)) ≡ from + i = λ (h : to + i ≤ from + i). omega arith in
    ⊎_elim
    (λ (below : from + count ≤ to).
    get_or_append_left (take to region ++ take i (drop from region)) (drop (to + i) region) 0 (from + i) (omega (arith, front, before, copied))
    ∙ get_or_append_left (take to region) (take i (drop from region)) 0 (from + i) (omega (arith, before))
    ∙ get_or-take to region (from + i) 0 (omega arith))
    (λ (above : to + count ≤ from).
    get_or-append_right (take to region ++ take i (drop from region)) (drop (to + i) region) (to + i) (from + i) 0 (omega (arith, front, before, copied)) (omega arith)
    ∙ get_or-drop (to + i) region (from + i - (to + i)) 0
    ∙ ap (λ n. get_or region n 0) (same (omega arith)))
    apart

pub copy_more : (region : List ℕ) (from to count i : ℕ) → (from + count ≤ to) ⊎ (to + count ≤ from) → from + count ≤ length region → to + count ≤ length region → i < count
    → set (paste region to (drop from region) i) (to + i) (get_or (paste region to (drop from region) i) (from + i) 0) ≡ paste region to (drop from region) (i + 1)
copy_more region from to count i apart source room more =
    ap (λ x. set (paste region to (drop from region) i) (to + i) x) (read_apart region from to count i apart source room more)
    ∙ bring_more region region from to count i source room more

pub cleared : (region : List ℕ) (at count i : ℕ) → i ≡ count → paste region at (replicate i 0) i ≡ with_part region at (replicate count 0)
cleared region at count i all =
    let zeros : length {A = ℕ} (replicate count 0) ≡ count = length-replicate count 0 in
    ap (λ n. paste region at (replicate n 0) n) all
    ∙ pasted region at (replicate count 0) count (omega (arith, zeros))
    ∙ ap (λ new. with_part region at new) (take_all count (replicate count 0) (omega (arith, zeros)))

-- the end of a part, and its front
pub part_end : (region : List ℕ) (at n k : ℕ) → drop n (part region at (n + k)) ≡ part region (at + n) k
part_end region at n k = drop-take n k (drop at region) ∙ ap (λ x. take k x) (drop-drop n at region)

pub part_front : (region : List ℕ) (at n count : ℕ) → n ≤ count → take n (part region at count) ≡ part region at n
part_front region at n count less = take-take n count (drop at region) less

-- `width` words from `at` on are turned, so that the first `n` come last
pub rolled : (region turned : List ℕ) (at n k width sp : ℕ) → width ≡ n + k → at + width ≡ sp → sp ≤ length region
    → turned ≡ drop n (part region at width) ++ take n (part region at width)
    → put_mid at width region turned ≡ with_part region at (part region (sp - k) k ++ part region at n)
rolled region turned at n k width sp wide up room turn =
    let there : at + n ≡ sp - k = omega arith in
    let later : drop n (part region at width) ≡ part region (sp - k) k = ap (λ m. drop n (part region at m)) wide ∙ part_end region at n k ∙ ap (λ m. part region m k) there in
    let now : take n (part region at width) ≡ part region at n = part_front region at n width (omega arith) in
    let is : turned ≡ part region (sp - k) k ++ part region at n = turn ∙ ap (λ x. x ++ take n (part region at width)) later ∙ ap (λ x. part region (sp - k) k ++ x) now in
    let both = length-append (part region (sp - k) k) (part region at n) in
    let one = length-part region (sp - k) k (omega arith) in
    let other = length-part region at n (omega arith) in
    let size : width ≡ length (part region (sp - k) k ++ part region at n) = omega (arith, both, one, other) in
    let all : take width (part region (sp - k) k ++ part region at n) ≡ part region (sp - k) k ++ part region at n = take_all width (part region (sp - k) k ++ part region at n) (omega arith) in
    put_mid-paste at width region turned (part region (sp - k) k ++ part region at n) width is refl size
    ∙ pasted region at (part region (sp - k) k ++ part region at n) width (omega arith)
    ∙ ap (λ new. with_part region at new) all
