-- Phrases that stand rightly rise, and where they nest.
use Rattle.std.proofs.Common.{◌≡◌, ℕ, ◌+◌, ◌-◌, ◌<◌, ◌≤◌, inl, inr, ⊎_elim, List, [], ◌∷◌, length, get_or, take, sym, ap, subst, ◌∙◌, arith}
use Rattle.std.specs.Prelude.{All}
use Rattle.std.specs.List.{AllAdjacentBelow, AllWithin}
use Rattle.std.specs.List.Sorted.{IsNonDecreasingBy}
use Rattle.std.proofs.Math.Seq.{take-length}
use Rattle.std.proofs.lemmas.Bool.{cases_lt}
use Rattle.std.proofs.lemmas.List.{get_or-take, length-take-le}
use Rattle.std.proofs.lemmas.List.Sorted.{IsNonDecreasingBy-from_all_adjacent}
use Rattle.std.proofs.lemmas.Option.{slice_get-get_or, get_or_from_slice_get}
use Rattle.code_forms.specs.declared.module_code.Arm.{Arm}
use Rattle.code_forms.specs.declared.module_code.Phrase.{Phrase}
use Rattle.code_forms.specs.Nesting.{AllStand, NestWith, NestUpTo, Crosses}
use Rattle.code_forms.specs.Phrases.{arm_start, arm_end, first_start, last_end, phrase_end, regions_end, ArmsFollow, RegionsFollow, Stands, Nests, PhraseIsRight, PhrasesAreRight, EndsWithCode, PhrasesFill}
use Rattle.code_forms.specs.Rising.{ArmsRise, RegionsRise, FromsFirst}
use Rattle.code_forms.specs.Routine.{Spot}
use Rattle.code_forms.specs.Valid.{FirstBadPhrase, at_phrase, at_last}

-- an arm and a phrase, where one is asked for
abbrev pub no_arm : Arm
no_arm = record { labels = []; slot = 0; words = 0; start = 0; end = 0 }

abbrev pub no_phrase : Phrase
no_phrase = record { from = 0; to = 0; arms = [] }

-- an element that is there is the same whatever stands for one that is not
pub same_default : {X : Type 0} (xs : List X) (i : ℕ) (d e : X) → i < length xs → get_or xs i d ≡ get_or xs i e
same_default xs i d e l = get_or_from_slice_get xs i (get_or xs i e) d (slice_get-get_or xs i e l)

pub last_end_is : (arms : List Arm) (d : Arm) → 0 < length arms → (get_or arms (length arms - 1) d).end ≡ last_end arms
last_end_is arms d l = sym (ap arm_end (slice_get-get_or arms (length arms - 1) d (omega arith)))

pub first_start_is : (arms : List Arm) (d : Arm) → 0 < length arms → (get_or arms 0 d).start ≡ first_start arms
first_start_is arms d l = sym (ap arm_start (slice_get-get_or arms 0 d l))

pub adjacent_more : {X : Type 0} (R : X → X → Type 0) (xs : List X) (i : ℕ) → AllAdjacentBelow R xs i → ((d : X) → 0 < i → R (get_or xs (i - 1) d) (get_or xs i d)) → AllAdjacentBelow R xs (i + 1)
adjacent_more R xs i h here k d l = ⊎_elim (λ (m : k + 1 < i). h k d m)
    (λ (m : i ≤ k + 1). let e : i ≡ k + 1 = omega arith in let f : i - 1 ≡ k = omega arith in
    subst (λ j. R (get_or xs k d) (get_or xs j d)) e (subst (λ j. R (get_or xs j d) (get_or xs i d)) f (here d (omega arith))))
    (cases_lt (k + 1) i)

-- arms that follow each other rise
pub arms_rise : (code : List Spot) (arms : List Arm) → 0 < length arms → ArmsFollow code arms → ArmsRise arms
arms_rise code arms some f = record {
  some = some;
  starts = IsNonDecreasingBy-from_all_adjacent (λ a. a.start) arms (λ k d l. let e = (f.each k d (omega arith)).1 in let j = f.joined k d l in omega (arith, e, j));
}

-- the last arm of them ends behind the start of the first one
pub first_before_last : (code : List Spot) (arms : List Arm) → 0 < length arms → ArmsFollow code arms → first_start arms ≤ last_end arms
first_before_last code arms some f =
    let up = (arms_rise code arms some f).starts 0 (length arms - 1) no_arm (omega arith) (omega arith) in
    let e = (f.each (length arms - 1) no_arm (omega arith)).1 in
    let a = first_start_is arms no_arm some in let b = last_end_is arms no_arm some in
    omega (arith, up, e, a, b)

pub follows_end : (before : List Phrase) (start : ℕ) → 0 < length before → RegionsFollow before start → regions_end before ≡ start
follows_end [] start l f = absurd (omega arith)
follows_end (p ∷ before) start l f = f

pub end_of_last : (before : List Phrase) (d : Phrase) → 0 < length before → last_end (get_or before (length before - 1) d).arms ≡ regions_end before
end_of_last before d l = sym (ap phrase_end (slice_get-get_or before (length before - 1) d (omega arith)))

-- where the first so many phrases end
pub end_of_taken : (phrases : List Phrase) (n : ℕ) (d : Phrase) → n < length phrases → regions_end (take (n + 1) phrases) ≡ last_end (get_or phrases n d).arms
end_of_taken phrases n d l =
    let len : length (take (n + 1) phrases) ≡ n + 1 = length-take-le (n + 1) phrases (omega arith) in
    let k : length (take (n + 1) phrases) - 1 ≡ n = omega (arith, len) in
    sym (end_of_last (take (n + 1) phrases) d (omega (arith, len)))
    ∙ (ap (λ i. last_end (get_or (take (n + 1) phrases) i d).arms) k ∙ ap (λ p. last_end p.arms) (get_or-take (n + 1) phrases n d (omega arith)))

-- phrases that stand rightly rise
pub stand_firsts : (code : List Spot) (phrases : List Phrase) (count : ℕ) → All (λ p. 0 < length p.arms) phrases → count ≤ length phrases → AllStand code phrases count
    → (k : ℕ) (d : Phrase) → k + 1 < count → first_start (get_or phrases k d).arms ≤ first_start (get_or phrases (k + 1) d).arms
stand_firsts code phrases count armed bound h k d l =
    let len : length (take (k + 1) phrases) ≡ k + 1 = length-take-le (k + 1) phrases (omega arith) in
    let f = follows_end (take (k + 1) phrases) (first_start (get_or phrases (k + 1) d).arms) (omega (arith, len)) (h (k + 1) d l).regions in
    let e = end_of_taken phrases k d (omega arith) in
    let b = first_before_last code (get_or phrases k d).arms (armed k d (omega arith)) (h k d (omega arith)).arms in
    omega (arith, f, e, b)

pub stand_rise : (code : List Spot) (phrases : List Phrase) (count : ℕ) → All (λ p. 0 < length p.arms) phrases → count ≤ length phrases → AllStand code phrases count → RegionsRise (take count phrases)
stand_rise code phrases count armed bound h =
    let len : length (take count phrases) ≡ count = length-take-le count phrases bound in
    record {
      each = λ k d l. (let m : k < count = omega (arith, len) in
          subst (λ (p : Phrase). ArmsRise p.arms) (sym (get_or-take count phrases k d m)) (arms_rise code (get_or phrases k d).arms (armed k d (omega arith)) (h k d m).arms));
      firsts = IsNonDecreasingBy-from_all_adjacent (λ p. first_start p.arms) (take count phrases)
          (λ k d l. let a = get_or-take count phrases k d (omega (arith, len)) in let b = get_or-take count phrases (k + 1) d (omega (arith, len)) in
          let s = stand_firsts code phrases count armed bound h k d (omega (arith, len)) in
          let a' = ap (λ p. first_start p.arms) a in let b' = ap (λ p. first_start p.arms) b in omega (arith, a', b', s));
    }

pub stand_sorted : (code : List Spot) (phrases : List Phrase) (count : ℕ) → count ≤ length phrases → AllStand code phrases count → IsNonDecreasingBy (λ p. p.from) (take count phrases)
stand_sorted code phrases count bound h =
    let len : length (take count phrases) ≡ count = length-take-le count phrases bound in
    IsNonDecreasingBy-from_all_adjacent (λ p. p.from) (take count phrases)
    (λ k d l. let a = ap (λ p. p.from) (get_or-take count phrases k d (omega (arith, len))) in let b = ap (λ p. p.from) (get_or-take count phrases (k + 1) d (omega (arith, len))) in
    let lk : length (take (k + 1) phrases) ≡ k + 1 = length-take-le (k + 1) phrases (omega (arith, len)) in
    let s = (h (k + 1) d (omega (arith, len))).listed k d (omega (arith, lk)) in
    let c = ap (λ p. p.from) (get_or-take (k + 1) phrases k d (omega arith)) in
    omega (arith, a, b, s, c))

pub stand_filled : (code : List Spot) (phrases : List Phrase) (count : ℕ) → count ≤ length phrases → AllStand code phrases count → All (λ p. p.from < p.to) (take count phrases)
stand_filled code phrases count bound h k d l =
    let len : length (take count phrases) ≡ count = length-take-le count phrases bound in
    let m : k < count = omega (arith, len) in
    subst (λ (p : Phrase). p.from < p.to) (sym (get_or-take count phrases k d m)) (h k d m).filled

-- the last phrase tells whether all before begin before an offset
pub listed_last : (before : List Phrase) (from : ℕ) (d : Phrase) → IsNonDecreasingBy (λ p. p.from) before → (get_or before (length before - 1) d).from ≤ from → All (λ q. q.from ≤ from) before
listed_last before from d sorted h k e l =
    let up = sorted k (length before - 1) e (omega arith) (omega arith) in
    let same = ap (λ p. p.from) (same_default before (length before - 1) d e (omega arith)) in
    omega (arith, up, same, h)

-- phrases in a child that nests are in its outer one too
pub nest_more : (phrases : List Phrase) (outer limit inner next : ℕ) (d : Phrase) → IsNonDecreasingBy (λ p. p.from) phrases → All (λ p. p.from < p.to) phrases
    → NestUpTo phrases (outer + 1) limit → outer < inner → inner < limit → limit ≤ length phrases
    → (get_or phrases inner d).to ≤ (get_or phrases outer d).to
    → AllWithin (λ p. p.from < (get_or phrases inner d).to) phrases 0 next
    → ((n : ℕ) (d : Phrase) → outer < n → n < inner → n < limit → Nests (get_or phrases n d) (get_or phrases outer d))
    → (n : ℕ) (e : Phrase) → outer < n → n < next → n < limit → Nests (get_or phrases n e) (get_or phrases outer e)
nest_more phrases outer limit inner next d sorted filled later o i most within before sofar n e on nn nl =
    let so = ap (λ p. p.to) (same_default phrases outer d e (omega arith)) in
    let si = ap (λ p. p.to) (same_default phrases inner d e (omega arith)) in
    ⊎_elim (λ (l : n < inner). sofar n e on l nl)
    (λ (l : inner ≤ n). ⊎_elim
    (λ (m : inner < n). ⊎_elim
    (λ (q : (get_or phrases inner e).to ≤ (get_or phrases n e).from). absurd (let b = before n e (omega arith) nn in omega (arith, q, b, si)))
    (λ (q : (get_or phrases n e).to ≤ (get_or phrases inner e).to). inr (omega (arith, q, within, so, si)))
    (later inner (omega arith) n e m nl))
    (λ (m : n ≤ inner). let same : n ≡ inner = omega arith in inr (let s = ap (λ k. (get_or phrases k e).to) same in omega (arith, s, within, so, si)))
    (cases_lt inner n))
    (cases_lt n inner)

-- behind the end of an outer one all nest with it
pub nest_rest : (phrases : List Phrase) (outer limit inner : ℕ) (d : Phrase) → IsNonDecreasingBy (λ p. p.from) phrases → outer < inner → inner < limit → limit ≤ length phrases
    → (get_or phrases outer d).to ≤ (get_or phrases inner d).from
    → ((n : ℕ) (d : Phrase) → outer < n → n < inner → n < limit → Nests (get_or phrases n d) (get_or phrases outer d))
    → NestWith phrases outer limit
nest_rest phrases outer limit inner d sorted o i most behind sofar n e on nl =
    let so = ap (λ p. p.to) (same_default phrases outer d e (omega arith)) in
    let si = ap (λ p. p.from) (same_default phrases inner d e (omega arith)) in
    ⊎_elim (λ (l : n < inner). sofar n e on l nl)
    (λ (l : inner ≤ n). inl (let up = sorted inner n e l (omega arith) in omega (arith, up, behind, so, si)))
    (cases_lt n inner)

-- one turn of the search among the phrases in one
pub turn : (phrases : List Phrase) (outer limit inner next : ℕ) (p q s : Phrase) → IsNonDecreasingBy (λ p. p.from) phrases → All (λ p. p.from < p.to) phrases
    → NestUpTo phrases (outer + 1) limit → outer < inner → inner < limit → limit ≤ length phrases
    → (get_or phrases inner p).to ≤ (get_or phrases outer q).to
    → AllWithin (λ x. x.from < (get_or phrases inner s).to) phrases 0 next → AllWithin (λ x. (get_or phrases inner s).to ≤ x.from) phrases next (length phrases)
    → ((n : ℕ) (d : Phrase) → outer < n → n < inner → n < limit → Nests (get_or phrases n d) (get_or phrases outer d))
    → (outer < next) × ((n : ℕ) (d : Phrase) → outer < n → n < next → n < limit → Nests (get_or phrases n d) (get_or phrases outer d))
turn phrases outer limit inner next p q s sorted filled later o i most within before rest sofar =
    let ip = ap (λ x. x.to) (same_default phrases inner p s (omega arith)) in
    let oq = ap (λ x. x.to) (same_default phrases outer q s (omega arith)) in
    let f = filled inner s (omega arith) in
    let further : inner < next = ⊎_elim (λ (l : inner < next). l) (λ (l : next ≤ inner). absurd (let r = rest inner s l (omega arith) in omega (arith, r, f))) (cases_lt inner next) in
    (omega arith, nest_more phrases outer limit inner next s sorted filled later o i most (omega (arith, ip, oq, within)) before sofar)

pub nest_behind : (phrases : List Phrase) (outer limit inner : ℕ) (p q : Phrase) → IsNonDecreasingBy (λ p. p.from) phrases → outer < inner → limit ≤ length phrases
    → (inner < limit → (get_or phrases outer q).to ≤ (get_or phrases inner p).from)
    → ((n : ℕ) (d : Phrase) → outer < n → n < inner → n < limit → Nests (get_or phrases n d) (get_or phrases outer d))
    → NestWith phrases outer limit
nest_behind phrases outer limit inner p q sorted o most behind sofar n d on nl =
    ⊎_elim
    (λ (l : inner < limit).
    let oq = ap (λ x. x.to) (same_default phrases outer q p (omega arith)) in let b = behind l in
    nest_rest phrases outer limit inner p sorted o l most (omega (arith, oq, b)) sofar n d on nl)
    (λ (l : limit ≤ inner). sofar n d on (omega arith) nl)
    (cases_lt inner limit)

pub does_not_nest : (phrases : List Phrase) (outer inner : ℕ) (d : Phrase) → outer < length phrases → inner < length phrases
    → (get_or phrases inner d).from < (get_or phrases outer d).to → (get_or phrases outer d).to < (get_or phrases inner d).to
    → (e : Phrase) → Nests (get_or phrases inner e) (get_or phrases outer e) → ⊥
does_not_nest phrases outer inner d lo li starts ends e n =
    let so = ap (λ p. p.to) (same_default phrases outer d e lo) in
    let si = ap (λ p. p.to) (same_default phrases inner d e li) in
    let sf = ap (λ p. p.from) (same_default phrases inner d e li) in
    ⊎_elim (λ (q : (get_or phrases outer e).to ≤ (get_or phrases inner e).from). omega (arith, q, so, si, sf, starts, ends))
    (λ (q : (get_or phrases inner e).to ≤ (get_or phrases outer e).to). omega (arith, q, so, si, sf, starts, ends)) n

-- what one more outer phrase tells
pub nest_up : (phrases : List Phrase) (first limit limit' : ℕ) → limit' ≤ limit → NestUpTo phrases (first + 1) limit → NestWith phrases first limit' → NestUpTo phrases first limit'
nest_up phrases first limit limit' l h w q fq n d qn nl =
    ⊎_elim (λ (m : first < q). h q (omega arith) n d qn (omega arith))
    (λ (m : q ≤ first). let e : first ≡ q = omega arith in subst (λ (k : ℕ). Nests (get_or phrases n d) (get_or phrases k d)) e (w n d (omega arith) nl))
    (cases_lt first q)

-- the first so many phrases are right
pub right_upto : (code : List Spot) (phrases : List Phrase) (standing count : ℕ) → count ≤ standing → standing ≤ length phrases → AllStand code phrases standing → NestUpTo (take standing phrases) 0 count → PhrasesAreRight code phrases count
right_upto code phrases standing count cs sl stand nest n p l e =
    let ln : n < length phrases = omega arith in
    let here : get_or phrases n no_phrase ≡ p = get_or_from_slice_get phrases n p no_phrase e in
    let tn : length (take n phrases) ≡ n = length-take-le n phrases (omega arith) in
    record {
      stands = subst (λ (q : Phrase). Stands code (take n phrases) q) here (stand n no_phrase (omega arith));
      nests = λ k d m. (let k' : k < n = omega (arith, tn) in
          let w = nest k (omega arith) n d k' l in
          let a = get_or-take standing phrases n d (omega arith) in
          let b = get_or-take standing phrases k d (omega arith) in
          let c = get_or-take n phrases k d k' in
          let p' : get_or phrases n d ≡ p = get_or_from_slice_get phrases n p d e in
          subst (λ (x : Phrase). Nests x (get_or (take n phrases) k d)) (a ∙ p')
          (subst (λ (y : Phrase). Nests (get_or (take standing phrases) n d) y) (b ∙ sym c) w));
    }

-- a phrase that does not stand rightly is not right; nor is one that does not nest
pub not_right_standing : (code : List Spot) (phrases : List Phrase) (n : ℕ) (d : Phrase) → (Stands code (take n phrases) (get_or phrases n d) → ⊥) → PhraseIsRight code (take n phrases) (get_or phrases n d) → ⊥
not_right_standing code phrases n d h r = h r.stands

pub not_right_nesting : (code : List Spot) (phrases : List Phrase) (standing n : ℕ) (d : Phrase) → n < standing → standing ≤ length phrases → Crosses (take standing phrases) n → PhraseIsRight code (take n phrases) (get_or phrases n d) → ⊥
not_right_nesting code phrases standing n d ns sl c r =
    let tn : length (take n phrases) ≡ n = length-take-le n phrases (omega arith) in
    let o = c.earlier in
    let w = r.nests c.outer d (omega (arith, tn, o)) in
    let a = get_or-take standing phrases n d ns in
    let b = get_or-take standing phrases c.outer d (omega (arith, o)) in
    let k = get_or-take n phrases c.outer d o in
    c.crosses d (subst (λ (x : Phrase). Nests x (get_or (take standing phrases) c.outer d)) (sym a)
    (subst (λ (y : Phrase). Nests (get_or phrases n d) y) (k ∙ sym b) w))

pub bad_at : (code : List Spot) (phrases : List Phrase) (standing n : ℕ) (d : Phrase) → standing ≤ length phrases → n ≤ standing → n < length phrases → AllStand code phrases standing
    → (standing < length phrases → (d : Phrase) → Stands code (take standing phrases) (get_or phrases standing d) → ⊥)
    → NestUpTo (take standing phrases) 0 n → (n < length (take standing phrases) → Crosses (take standing phrases) n)
    → FirstBadPhrase code phrases (get_or phrases n d).from
bad_at code phrases standing n d sl ns nl stand fallen nest crosses =
    let len : length (take standing phrases) ≡ standing = length-take-le standing phrases sl in
    at_phrase n (get_or phrases n d) (slice_get-get_or phrases n d nl) (right_upto code phrases standing n ns sl stand nest)
    (⊎_elim (λ (l : n < standing). not_right_nesting code phrases standing n d l sl (crosses (omega (arith, len))))
    (λ (l : standing ≤ n). let e : standing ≡ n = omega arith in
    not_right_standing code phrases n d (subst (λ k. Stands code (take k phrases) (get_or phrases k d) → ⊥) e (fallen (omega arith) d)))
    (cases_lt n standing))

pub some_phrases : (code : List Spot) (phrases : List Phrase) → (EndsWithCode code phrases → ⊥) → 0 < length phrases
some_phrases code [] h = absurd (h tt)
some_phrases code (p ∷ phrases) h = omega arith

pub bad_end : (code : List Spot) (phrases : List Phrase) (standing n : ℕ) (d : Phrase) → standing ≤ length phrases → n ≤ standing → length phrases ≤ n → AllStand code phrases standing
    → NestUpTo (take standing phrases) 0 n → (EndsWithCode code phrases → ⊥) → (0 < n) × FirstBadPhrase code phrases (get_or phrases (n - 1) d).from
bad_end code phrases standing n d sl ns nl stand nest ends =
    let some = some_phrases code phrases ends in
    let m : n - 1 + 1 ≡ n = omega arith in (
      omega arith,
      at_last (n - 1) (get_or phrases (n - 1) d) (omega arith) (slice_get-get_or phrases (n - 1) d (omega arith))
          (right_upto code phrases standing (n - 1 + 1) (omega arith) sl stand (subst (λ k. NestUpTo (take standing phrases) 0 k) (sym m) nest)) ends,
    )

pub fill : (code : List Spot) (phrases : List Phrase) (standing n : ℕ) → standing ≤ length phrases → n ≤ standing → length phrases ≤ n → AllStand code phrases standing
    → NestUpTo (take standing phrases) 0 n → EndsWithCode code phrases → PhrasesFill code phrases
fill code phrases standing n sl ns nl stand nest ends =
    let e : n ≡ length phrases = omega arith in
    record { right = right_upto code phrases standing (length phrases) (omega arith) sl stand (subst (λ k. NestUpTo (take standing phrases) 0 k) e nest); filled = ends }

-- one more outer phrase, from the last one down
pub crossing_more : (phrases : List Phrase) (back limit limit' : ℕ) → back < length phrases → limit ≤ length phrases → limit' ≤ limit
    → NestUpTo phrases (length phrases - back) limit → (limit < length phrases → Crosses phrases limit)
    → NestWith phrases (length phrases - 1 - back) limit'
    → (limit' < limit → (length phrases - 1 - back < limit') × ((d : Phrase) → Nests (get_or phrases limit' d) (get_or phrases (length phrases - 1 - back) d) → ⊥))
    → (limit' ≤ length phrases) × NestUpTo phrases (length phrases - (back + 1)) limit' × (limit' < length phrases → Crosses phrases limit')
crossing_more phrases back limit limit' lb ll l h c w k =
    let e : length phrases - 1 - back + 1 ≡ length phrases - back = omega arith in
    let f : length phrases - 1 - back ≡ length phrases - (back + 1) = omega arith in (
      omega arith,
      subst (λ n. NestUpTo phrases n limit') f (nest_up phrases (length phrases - 1 - back) limit limit' l (subst (λ n. NestUpTo phrases n limit) (sym e) h) w),
      λ less. ⊎_elim
          (λ (m : limit' < limit). record { outer = length phrases - 1 - back; earlier = (k m).0; crosses = (k m).1 })
          (λ (m : limit ≤ limit'). let same : limit ≡ limit' = omega arith in subst (λ n. Crosses phrases n) same (c (omega arith)))
          (cases_lt limit' limit),
    )

-- where phrases fill the code they rise, and each begins before its arms
pub fill_stand : (code : List Spot) (phrases : List Phrase) → PhrasesFill code phrases → AllStand code phrases (length phrases)
fill_stand code phrases f n d l = (f.right n (get_or phrases n d) l (slice_get-get_or phrases n d l)).stands

pub fill_rise : (code : List Spot) (phrases : List Phrase) → All (λ p. 0 < length p.arms) phrases → PhrasesFill code phrases → RegionsRise phrases
fill_rise code phrases armed f =
    subst (λ l. RegionsRise l) (take-length phrases) (stand_rise code phrases (length phrases) armed (omega arith) (fill_stand code phrases f))

pub fill_froms : (code : List Spot) (phrases : List Phrase) → PhrasesFill code phrases → FromsFirst phrases
fill_froms code phrases f n d l =
    let s = fill_stand code phrases f n d l in
    let a = s.filled in let b = s.earlier in omega (arith, a, b)
