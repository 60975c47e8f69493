-- Segments that tell the innermost phrase, as the sweep makes them.
use Rattle.std.proofs.Common.{◌≡◌, ℕ, ◌+◌, ◌-◌, ◌*◌, ◌<◌, ◌≤◌, ◌⊎◌, inl, inr, ⊎_elim, List, [], ◌∷◌, ◌++◌, length, get_or, Option, Some, refl, sym, ap, subst, ◌∙◌, arith}
use Rattle.std.specs.Prelude.{Contains, slice_get}
use Rattle.std.specs.List.Sorted.{IsNonDecreasingBy}
use Rattle.std.proofs.Math.Seq.{get_or-append_seam}
use Rattle.std.proofs.lemmas.Bool.{cases_lt}
use Rattle.std.proofs.lemmas.List.{length-append, get_or_append_left}
use Rattle.std.proofs.lemmas.List.Sorted.{IsNonDecreasingBy-from_all_adjacent}
use Rattle.std.proofs.lemmas.Option.{slice_get-get_or, slice_get_within, get_or_from_slice_get}
use Rattle.code_forms.specs.declared.module_code.Phrase.{Phrase}
use Rattle.signaller.specs.declared.catch_index.Segment.{Segment}
use Rattle.signaller.specs.Index.{Indexes}
use Rattle.signaller.specs.Search.{innermost_of}
use Rattle.signaller.specs.Sweep.{AreEdges, AreTold, HasStart}
use Rattle.signaller.proofs.Sweeping.{no_phrase, same_default, steady}

abbrev pub segment : ℕ → Option ℕ → Segment
segment start phrase = record { start = start; phrase = phrase }

read_old : (segments : List Segment) (x : Segment) (k : ℕ) (d : Segment) → k < length segments → get_or (segments ++ x ∷ []) k d ≡ get_or segments k d
read_old segments x k d l = get_or_append_left segments (x ∷ []) d k l

read_new : (segments : List Segment) (x : Segment) (k : ℕ) (d : Segment) → k ≡ length segments → get_or (segments ++ x ∷ []) k d ≡ x
read_new segments x k d e = ap (λ i. get_or (segments ++ x ∷ []) i d) e ∙ get_or-append_seam segments x [] d

-- the first segment
pub first_told : (table : List Phrase) (segments : List Segment) → segments ≡ [] ++ segment 0 (innermost_of table 0) ∷ [] → AreTold table segments 0
first_told table segments e = subst (λ l. AreTold table l 0) (sym e) (record {
  some = omega arith;
  first = λ d. refl;
  last = λ d. refl;
  rising = λ k d l. absurd (omega arith);
  tells = λ k d l. (let z : k ≡ 0 = omega arith in
      ap (λ i. innermost_of table (get_or (segment 0 (innermost_of table 0) ∷ []) i d).start) z ∙ sym (ap (λ i. (get_or (segment 0 (innermost_of table 0) ∷ []) i d).phrase) z));
})

-- one segment more
pub more_told : (table : List Phrase) (segments new : List Segment) (before at : ℕ) → AreTold table segments before → before < at
    → new ≡ segments ++ segment at (innermost_of table at) ∷ [] → AreTold table new at
more_told table segments new before at t l e = subst (λ l. AreTold table l at) (sym e) (
    let x = segment at (innermost_of table at) in
    let len = length-append segments (x ∷ []) in
    let some = t.some in
    record {
      some = omega (arith, len);
      first = λ d. ap (λ s. s.start) (read_old segments x 0 d some) ∙ t.first d;
      last = λ d. ap (λ s. s.start) (read_new segments x (length (segments ++ x ∷ []) - 1) d (omega (arith, len)));
      rising = λ k d m. ⊎_elim
          (λ (a : k + 1 < length segments).
          let p = ap (λ s. s.start) (read_old segments x k d (omega arith)) in let q = ap (λ s. s.start) (read_old segments x (k + 1) d a) in
          let r = t.rising k d a in omega (arith, p, q, r))
          (λ (a : length segments ≤ k + 1).
          let p = ap (λ s. s.start) (read_old segments x k d (omega (arith, len, m))) in let q = ap (λ s. s.start) (read_new segments x (k + 1) d (omega (arith, len, m, a))) in
          let z : length segments - 1 ≡ k = omega (arith, len, m, a) in
          let r = ap (λ i. (get_or segments i d).start) (sym z) ∙ t.last d in omega (arith, p, q, r, l))
          (cases_lt (k + 1) (length segments));
      tells = λ k d m. ⊎_elim
          (λ (a : k < length segments). let p = read_old segments x k d a in
          ap (λ s. innermost_of table s.start) p ∙ (t.tells k d a ∙ sym (ap (λ s. s.phrase) p)))
          (λ (a : length segments ≤ k). let q = read_new segments x k d (omega (arith, len, m, a)) in
          ap (λ s. innermost_of table s.start) q ∙ sym (ap (λ s. s.phrase) q))
          (cases_lt k (length segments));
    })

pub start_new : (segments new : List Segment) (x : Segment) → new ≡ segments ++ x ∷ [] → HasStart new x.start
start_new segments new x e = subst (λ l. HasStart l x.start) (sym e) (record {
  number = length segments;
  there = (let len = length-append segments (x ∷ []) in omega (arith, len));
  start = λ d. ap (λ s. s.start) (read_new segments x (length segments) d refl);
})

pub start_kept : (segments new : List Segment) (x : Segment) (edge : ℕ) → new ≡ segments ++ x ∷ [] → HasStart segments edge → HasStart new edge
start_kept segments new x edge e h = subst (λ l. HasStart l edge) (sym e) (record {
  number = h.number;
  there = (let len = length-append segments (x ∷ []) in let t = h.there in omega (arith, len, t));
  start = λ d. ap (λ s. s.start) (read_old segments x h.number d h.there) ∙ h.start d;
})

pub last_start : (table : List Phrase) (segments : List Segment) (at : ℕ) → AreTold table segments at → HasStart segments at
last_start table segments at t = record { number = length segments - 1; there = (let s = t.some in omega (arith, s)); start = t.last }

starts_far : (table : List Phrase) (segments : List Segment) (at : ℕ) → AreTold table segments at → IsNonDecreasingBy (λ s. s.start) segments
starts_far table segments at t = IsNonDecreasingBy-from_all_adjacent (λ s. s.start) segments (λ k d l. let r = t.rising k d l in omega (arith, r))

-- each edge is at a segment's start or before it, or beyond what the segment tells of
edge_apart : (table : List Phrase) (segments : List Segment) (at i o edge : ℕ) (s : Segment) → AreTold table segments at → slice_get segments i ≡ Some s
    → ((t : Segment) → slice_get segments (i + 1) ≡ Some t → o < t.start) → HasStart segments edge → (edge ≤ s.start) ⊎ (o < edge)
edge_apart table segments at i o edge s t is next h =
    let far = starts_far table segments at t in
    let li = slice_get_within segments i s is in
    let here : get_or segments i s ≡ s = get_or_from_slice_get segments i s s is in
    let st = h.start s in let th = h.there in
    ⊎_elim
    (λ (a : i < h.number). inr (
    let lt = next (get_or segments (i + 1) s) (slice_get-get_or segments (i + 1) s (omega (arith, a, th))) in
    let f = far (i + 1) h.number s (omega arith) th in omega (arith, lt, f, st)))
    (λ (a : h.number ≤ i). inl (let f = far h.number i s a li in let e = ap (λ x. x.start) here in omega (arith, f, e, st)))
    (cases_lt i h.number)

has_edge : (segments : List Segment) (edges : List ℕ) (edge : ℕ) → ((j : ℕ) → j < length edges → HasStart segments (get_or edges j 0)) → Contains edges edge → HasStart segments edge
has_edge segments edges edge h c = subst (λ e. HasStart segments e) (same_default edges c.0 0 edge c.1 ∙ c.2) (h c.0 c.1)

-- the segments are an index
pub indexes : (table : List Phrase) (segments : List Segment) (edges : List ℕ) (at : ℕ) → AreTold table segments at → AreEdges table edges → length segments ≤ 2 * length table + 1
    → ((j : ℕ) → j < length edges → HasStart segments (get_or edges j 0)) → Indexes table segments
indexes table segments edges at t e few h = record {
  some = t.some;
  few = few;
  first = λ s is. (let here = ap (λ x. x.start) (get_or_from_slice_get segments 0 s s is) in sym here ∙ t.first s);
  ordered = λ i s n is in'. (
      let a = ap (λ x. x.start) (get_or_from_slice_get segments i s s is) in let b = ap (λ x. x.start) (get_or_from_slice_get segments (i + 1) n s in') in
      let r = t.rising i s (slice_get_within segments (i + 1) n in') in omega (arith, a, b, r));
  tells = λ i s is o so next. (
      let here : get_or segments i s ≡ s = get_or_from_slice_get segments i s s is in
      let li = slice_get_within segments i s is in
      steady table s.start o no_phrase so
      (λ k l. (
        edge_apart table segments at i o (get_or table k no_phrase).from s t is next (has_edge segments edges _ h (e.ends k no_phrase l).0),
        edge_apart table segments at i o (get_or table k no_phrase).to s t is next (has_edge segments edges _ h (e.ends k no_phrase l).1),
      ))
      ∙ (ap (λ x. innermost_of table x.start) (sym here) ∙ (t.tells i s li ∙ ap (λ x. x.phrase) here)));
}
