-- The depth before an instruction is one, and how the places beside the instructions come to hold it.
use Rattle.std.proofs.Common.{◌≡◌, ℕ, zero, suc, ◌+◌, ◌<◌, ◌≤◌, ◌⊎◌, inl, inr, ⊎_elim, List, [], ◌∷◌, length, get_or, Option, Some, None, refl, sym, ap, subst, ◌∙◌, arith}
use Rattle.std.specs.Prelude.{slice_get, slice_set, true, false, cond, nat_eq}
use Rattle.std.proofs.lemmas.Bool.{cases_lt, cases_eq, eq-eqb, ne_eqb}
use Rattle.std.proofs.lemmas.List.{get_or-set_other, get_or-set_same}
use Rattle.std.proofs.lemmas.Option.{slice_get-get_or, slice_get_within, get_or_from_slice_get, same_Some, none-some}
use Rattle.code_forms.specs.declared.module_code.CodeEntry.{CodeEntry}
use Rattle.code_forms.specs.Depths.{depth_after, Reaches, Leads, Settled, at_none, at_first, AgreesOnward, AgreesAt}
use Rattle.code_forms.specs.Marks.{unsettled, IsMarked, Marked, LeadsTo, settled_entry, settled_at}
use Rattle.code_forms.specs.Routine.{Routine, Spot, spot_of, spots}
use Rattle.code_forms.proofs.Ordered.{spots_length}

-- the first of two that lead first
first_once : (r : Routine) (i j k : ℕ) → Leads r j i → Leads r k i → ((l : ℕ) → l < j → Leads r l i → ⊥) → ((l : ℕ) → l < k → Leads r l i → ⊥) → j ≡ k
first_once r i j k a b f g =
    ⊎_elim (λ (l : j < k). absurd (g j l a))
    (λ (l : k ≤ j). ⊎_elim (λ (m : k < j). absurd (f k m b)) (λ (m : j ≤ k). omega arith) (cases_lt k j))
    (cases_lt j k)

-- the depth before an instruction is one
pub settled_once : (r : Routine) (i a b : ℕ) → Settled r i a → Settled r i b → a ≡ b
settled_once r _ _ _ (at_none i h) (at_none _ g) = refl
settled_once r _ _ _ (at_none i h) (at_first _ j depth spot is leads first d) = absurd (h j leads)
settled_once r _ _ _ (at_first i j depth spot is leads first d) (at_none _ g) = absurd (g j leads)
settled_once r _ _ _ (at_first i j depth spot is leads first d) (at_first _ k depth' spot' is' leads' first' d') =
    let e : j ≡ k = first_once r i j k leads leads' first first' in
    let s : spot ≡ spot' = same_Some spot spot' (sym is ∙ (ap (λ n. slice_get r.code n) e ∙ is')) in
    let t : depth ≡ depth' = settled_once r j depth depth' d (subst (λ n. Settled r n depth') (sym e) d') in
    ap (λ (x : Spot). depth_after r x.instruction depth) s ∙ ap (λ n. depth_after r spot'.instruction n) t

-- beside an instruction to which the pass comes: its depth, or that none leads to it
pub depth_here : (r : Routine) (i place : ℕ) → IsMarked r i i i place → (place ≡ unsettled → Settled r i 0) × ((place ≡ unsettled → ⊥) → Settled r i place)
depth_here r i place m = ⊎_elim
    (λ (u : (place ≡ unsettled) × ((j : ℕ) → j < i → Leads r j i → ⊥)). (λ e. at_none i (λ j l. u.1 j l.later l), λ n. absurd (n u.0)))
    (λ (s : (place < unsettled) × Settled r i place). (λ e. absurd (let l = s.0 in omega arith), λ n. s.1))
    (m.ahead (omega arith))

-- a depth is written beside one instruction, if none stands there
abbrev pub place : List CodeEntry → ℕ → CodeEntry → ℕ
place code k d = (get_or code k d).depth

entry_with : CodeEntry → ℕ → CodeEntry
entry_with e depth = record { at = e.at; depth = depth; instruction = e.instruction }

written : (code : List CodeEntry) (j depth : ℕ) (e : CodeEntry) → e.depth ≡ unsettled → settled_entry code j depth (Some e) ≡ slice_set code j (record { at = e.at; depth = depth; instruction = e.instruction })
written code j depth e h = let t : nat_eq e.depth unsettled ≡ true = eq-eqb e.depth unsettled h in ap (λ b. cond b (slice_set code j (record { at = e.at; depth = depth; instruction = e.instruction })) code) t

kept : (code : List CodeEntry) (j depth : ℕ) (e : CodeEntry) → (e.depth ≡ unsettled → ⊥) → settled_entry code j depth (Some e) ≡ code
kept code j depth e h = let t : nat_eq e.depth unsettled ≡ false = ne_eqb e.depth unsettled h in ap (λ b. cond b (slice_set code j (record { at = e.at; depth = depth; instruction = e.instruction })) code) t

pub same_spots : (code : List CodeEntry) (j : ℕ) (e f : CodeEntry) → slice_get code j ≡ Some e → spot_of f ≡ spot_of e → spots (slice_set code j f) ≡ spots code
same_spots [] j e f h s = refl
same_spots (x ∷ code) zero e f h s = ap (λ t. t ∷ spots code) (s ∙ ap spot_of (sym (same_Some x e h)))
same_spots (x ∷ code) (suc j) e f h s = ap (λ t. spot_of x ∷ t) (same_spots code j e f h s)

entry_spots : (code : List CodeEntry) (j depth : ℕ) (o : Option CodeEntry) → slice_get code j ≡ o → spots (settled_entry code j depth o) ≡ spots code
entry_spots code j depth None h = refl
entry_spots code j depth (Some e) h =
    ⊎_elim (λ (y : e.depth ≡ unsettled). ap spots (written code j depth e y) ∙ same_spots code j e _ h refl) (λ (n : e.depth ≡ unsettled → ⊥). ap spots (kept code j depth e n)) (cases_eq e.depth unsettled)

-- the instructions stay
pub settled_spots : (code : List CodeEntry) (o : Option ℕ) (depth : ℕ) → spots (settled_at code o depth) ≡ spots code
settled_spots code None depth = refl
settled_spots code (Some j) depth = entry_spots code j depth (slice_get code j) refl

pub settled_length : (code : List CodeEntry) (o : Option ℕ) (depth : ℕ) → length (settled_at code o depth) ≡ length code
settled_length code o depth = sym (spots_length (settled_at code o depth)) ∙ (ap length (settled_spots code o depth) ∙ spots_length code)

-- other places stay
entry_other : (code : List CodeEntry) (j depth k : ℕ) (d : CodeEntry) (o : Option CodeEntry) → slice_get code j ≡ o → (j ≡ k → ⊥) → get_or (settled_entry code j depth o) k d ≡ get_or code k d
entry_other code j depth k d None h n = refl
entry_other code j depth k d (Some e) h n =
    ⊎_elim (λ (y : e.depth ≡ unsettled). ap (λ l. get_or l k d) (written code j depth e y) ∙ get_or-set_other code j k _ d (λ q. n (sym q)))
    (λ (m : e.depth ≡ unsettled → ⊥). ap (λ l. get_or l k d) (kept code j depth e m)) (cases_eq e.depth unsettled)

pub at_other : (code : List CodeEntry) (o : Option ℕ) (depth k : ℕ) (d : CodeEntry) → (o ≡ Some k → ⊥) → get_or (settled_at code o depth) k d ≡ get_or code k d
at_other code None depth k d n = refl
at_other code (Some j) depth k d n = entry_other code j depth k d (slice_get code j) refl (λ e. n (ap Some e))

-- a depth that is there stays
pub at_settled : (code : List CodeEntry) (o : Option ℕ) (depth k : ℕ) (d : CodeEntry) → k < length code → (place code k d ≡ unsettled → ⊥) → get_or (settled_at code o depth) k d ≡ get_or code k d
at_settled code None depth k d l n = refl
at_settled code (Some j) depth k d l n =
    ⊎_elim (λ (y : j ≡ k).
    let here : slice_get code j ≡ Some (get_or code k d) = ap (λ i. slice_get code i) y ∙ slice_get-get_or code k d l in
    ap (λ l. get_or l k d) (ap (settled_entry code j depth) here ∙ kept code j depth (get_or code k d) n))
    (λ (m : j ≡ k → ⊥). entry_other code j depth k d (slice_get code j) refl m) (cases_eq j k)

-- where none is there it is written
pub at_unsettled : (code : List CodeEntry) (o : Option ℕ) (depth k : ℕ) (d : CodeEntry) → k < length code → o ≡ Some k → place code k d ≡ unsettled → place (settled_at code o depth) k d ≡ depth
at_unsettled code o depth k d l e u =
    let here : slice_get code k ≡ Some (get_or code k d) = slice_get-get_or code k d l in
    ap (λ o. place (settled_at code o depth) k d) e
    ∙ (ap (λ l. place l k d) (ap (settled_entry code k depth) here ∙ written code k depth (get_or code k d) u)
    ∙ ap (λ e. e.depth) (get_or-set_same code k _ d l))

hit : (o : Option ℕ) (k : ℕ) → (o ≡ Some k) ⊎ (o ≡ Some k → ⊥)
hit None k = inr (λ e. none-some k e)
hit (Some j) k = ⊎_elim (λ (y : j ≡ k). inl (ap Some y)) (λ (n : j ≡ k → ⊥). inr (λ e. n (same_Some j k e))) (cases_eq j k)

-- the pass writes the depth of the instruction to which it comes
pub own_mark : (r : Routine) (i : ℕ) (code : List CodeEntry) → i < length code → Marked r i i code → Marked r (i + 1) i (settled_at code (Some i) 0)
own_mark r i code li m k d l =
    let len = settled_length code (Some i) 0 in
    let lk : k < length code = omega (arith, len) in
    let old = m k d lk in
    ⊎_elim
    (λ (y : i ≡ k). let oldi = m i d li in
    record {
      done = λ q. ⊎_elim
          (λ (u : place code k d ≡ unsettled). subst (λ n. Settled r k n) (sym (at_unsettled code (Some i) 0 k d lk (ap Some y) u)) (subst (λ n. Settled r n 0) y ((depth_here r i (place code i d) oldi).0 (ap (λ n. place code n d) y ∙ u))))
          (λ (n : place code k d ≡ unsettled → ⊥). subst (λ e. Settled r k e.depth) (sym (at_settled code (Some i) 0 k d lk n))
          (subst (λ n. Settled r n (place code n d)) y ((depth_here r i (place code i d) oldi).1 (λ q. n (sym (ap (λ n. place code n d) y) ∙ q)))))
          (cases_eq (place code k d) unsettled);
      ahead = λ q. absurd (omega arith);
    })
    (λ (n : i ≡ k → ⊥). subst (λ (e : CodeEntry). IsMarked r (i + 1) i k e.depth) (sym (at_other code (Some i) 0 k d (λ e. n (same_Some i k e))))
    (record { done = λ q. old.done (omega arith); ahead = λ q. old.ahead (omega arith) }))
    (cases_eq i k)

-- then that of those to which it leads
pub onward_mark : (r : Routine) (i : ℕ) (code : List CodeEntry) (next target : Option ℕ) (spot : Spot) (depth after : ℕ) → length code ≡ length r.code
    → slice_get r.code i ≡ Some spot → Settled r i depth → after ≡ depth_after r spot.instruction depth → after < unsettled
    → Marked r (i + 1) i code → LeadsTo r i next target → Marked r (i + 1) (i + 1) (settled_at (settled_at code next after) target after)
onward_mark r i code next target spot depth after len is st ea small m leads k d l =
    let one = settled_at code next after in
    let l1 = settled_length code next after in
    let l2 = settled_length one target after in
    let lk : k < length code = omega (arith, l1, l2) in
    let lk1 : k < length one = omega (arith, l1, l2) in
    let old = m k d lk in
    record {
      done = λ q. (
          let a = at_other code next after k d (λ e. let f = (leads.next_led k e).0.later in omega (arith, f)) in
          let b = at_other one target after k d (λ e. let f = (leads.target_led k e).0.later in omega (arith, f)) in
          subst (λ (e : CodeEntry). Settled r k e.depth) (sym (b ∙ a)) (old.done q));
      ahead = λ q. ⊎_elim
          (λ (u : (place code k d ≡ unsettled) × ((j : ℕ) → j < i → Leads r j k → ⊥)).
          let first : Leads r i k → Settled r k after = λ f. subst (λ n. Settled r k n) (sym ea) (at_first k i depth spot is f u.1 st) in
          let told : Settled r k after → place (settled_at one target after) k d ≡ after → ((place (settled_at one target after) k d ≡ unsettled) × ((j : ℕ) → j < i + 1 → Leads r j k → ⊥)) ⊎ ((place (settled_at one target after) k d < unsettled) × Settled r k (place (settled_at one target after) k d))
          = λ s e. inr (omega (arith, e, small), subst (λ n. Settled r k n) (sym e) s) in
          ⊎_elim
          (λ (y : next ≡ Some k).
          let p1 = at_unsettled code next after k d lk y u.0 in
          let p2 = at_settled one target after k d lk1 (λ e. omega (arith, e, p1, small)) in
          told (first (leads.next_led k y).0) (ap (λ e. e.depth) p2 ∙ p1))
          (λ (n : next ≡ Some k → ⊥).
          let p1 = ap (λ e. e.depth) (at_other code next after k d n) ∙ u.0 in
          ⊎_elim
          (λ (y : target ≡ Some k). told (first (leads.target_led k y).0) (at_unsettled one target after k d lk1 y p1))
          (λ (n2 : target ≡ Some k → ⊥).
          inl (
            ap (λ e. e.depth) (at_other one target after k d n2) ∙ p1,
            λ j lj f. ⊎_elim (λ (a : j < i). u.1 j a f)
                (λ (a : i ≤ j). let e : j ≡ i = omega arith in
                ⊎_elim (λ (y : next ≡ Some k). n y) (λ (y : target ≡ Some k). n2 y) (leads.all k (subst (λ n. Leads r n k) e f)))
                (cases_lt j i),
          ))
          (hit target k))
          (hit next k))
          (λ (s : (place code k d < unsettled) × Settled r k (place code k d)).
          let small' = s.0 in
          let p1 = at_settled code next after k d lk (λ e. omega (arith, e, small')) in
          let p2 = at_settled one target after k d lk1 (λ e. let z = ap (λ e. e.depth) p1 in omega (arith, e, z, small')) in
          subst (λ (e : CodeEntry). ((e.depth ≡ unsettled) × ((j : ℕ) → j < i + 1 → Leads r j k → ⊥)) ⊎ ((e.depth < unsettled) × Settled r k e.depth)) (sym (p2 ∙ p1)) (inr s))
          (old.ahead q);
    }

-- the places agree exactly where the depths do
pub agree_onward : (r : Routine) (i : ℕ) (code : List CodeEntry) (next target : Option ℕ) (spot : Spot) (depth after : ℕ) (d : CodeEntry) → length code ≡ length r.code
    → slice_get r.code i ≡ Some spot → Settled r i depth → after ≡ depth_after r spot.instruction depth
    → Marked r (i + 1) i code → LeadsTo r i next target
    → ((j : ℕ) (d : CodeEntry) → next ≡ Some j → (place code j d ≡ unsettled → ⊥) → after ≡ place code j d)
    → ((j : ℕ) (d : CodeEntry) → target ≡ Some j → (place code j d ≡ unsettled → ⊥) → after ≡ place code j d)
    → AgreesOnward r i (depth_after r spot.instruction depth)
agree_onward r i code next target spot depth after d len is st ea m leads an at' j s f sj =
    let lj : j < length code = ⊎_elim (λ (y : next ≡ Some j). let b = (leads.next_led j y).1 in omega (arith, b, len)) (λ (y : target ≡ Some j). let b = (leads.target_led j y).1 in omega (arith, b, len)) (leads.all j f) in
    let later = f.later in
    ⊎_elim
    (λ (u : (place code j d ≡ unsettled) × ((k : ℕ) → k < i → Leads r k j → ⊥)). settled_once r j _ s (at_first j i depth spot is f u.1 st) sj)
    (λ (t : (place code j d < unsettled) × Settled r j (place code j d)).
    let small = t.0 in
    let e : after ≡ place code j d = ⊎_elim (λ (y : next ≡ Some j). an j d y (λ z. omega (arith, z, small))) (λ (y : target ≡ Some j). at' j d y (λ z. omega (arith, z, small))) (leads.all j f) in
    sym ea ∙ (e ∙ settled_once r j _ s t.1 sj))
    ((m j d lj).ahead (omega (arith, later)))

pub places_agree : (r : Routine) (i : ℕ) (code : List CodeEntry) (o : Option ℕ) (after : ℕ) → length code ≡ length r.code → Marked r (i + 1) i code
    → ((j : ℕ) → o ≡ Some j → Leads r i j × (j < length r.code)) → AgreesOnward r i after
    → (j : ℕ) (d : CodeEntry) → o ≡ Some j → (place code j d ≡ unsettled → ⊥) → after ≡ place code j d
places_agree r i code o after len m led agrees j d e n =
    let f = led j e in let b = f.1 in let later = f.0.later in
    ⊎_elim (λ (u : (place code j d ≡ unsettled) × ((k : ℕ) → k < i → Leads r k j → ⊥)). absurd (n u.0))
    (λ (t : (place code j d < unsettled) × Settled r j (place code j d)). agrees j (place code j d) f.0 t.1)
    ((m j d (omega (arith, b, len))).ahead (omega (arith, later)))

-- so do they at an earlier instruction
pub agree_at : (r : Routine) (i : ℕ) (code : List CodeEntry) (target : Option ℕ) (depth : ℕ) (d : CodeEntry) → spots code ≡ r.code → Marked r (i + 1) i code
    → ((j : ℕ) → Reaches r.code target j → j ≤ i) → i < length code
    → ((j : ℕ) (d : CodeEntry) → Reaches r.code target j → depth ≡ place code j d) → AgreesAt r target depth
agree_at r i code target depth d same m low li places j s f sj =
    let lj = low j f in
    places j d f ∙ settled_once r j _ s ((m j d (omega (arith, lj))).done (omega (arith, lj))) sj

pub places_at : (r : Routine) (i : ℕ) (code : List CodeEntry) (target : Option ℕ) (depth : ℕ) → Marked r (i + 1) i code
    → ((j : ℕ) → Reaches r.code target j → j ≤ i) → i < length code → AgreesAt r target depth
    → (j : ℕ) (d : CodeEntry) → Reaches r.code target j → depth ≡ place code j d
places_at r i code target depth m low li agrees j d f =
    let lj = low j f in
    agrees j (place code j d) f ((m j d (omega (arith, lj))).done (omega (arith, lj)))

-- the depth beside an instruction that has been looked at
pub own_settled : (r : Routine) (i : ℕ) (code : List CodeEntry) (e : CodeEntry) → Marked r (i + 1) i code → slice_get code i ≡ Some e → Settled r i e.depth
own_settled r i code e m is =
    subst (λ (x : CodeEntry). Settled r i x.depth) (get_or_from_slice_get code i e e is) ((m i e (slice_get_within code i e is)).done (omega arith))
