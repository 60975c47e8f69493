-- Each used item of an import has its link.
use Rattle.std.proofs.Common.{◌≡◌, refl, sym, ap, ◌∙◌, subst, ℕ, zero, suc, ◌+◌, ◌<◌, List, [], ◌∷◌, ◌++◌, length, All, Contains, Some, Bool, true, false, nat_eq, eq-eqb, eqb-true, if◌then◌else◌, arith}
use Rattle.std.proofs.lemmas.List.Elements.{All-append}
use Rattle.std.specs.Prelude.{slice_get}
use Rattle.mesa_types.specs.declared.faces.Import.{Import}
use Rattle.mesa_types.specs.declared.faces.Item.{Item}
use Rattle.mesa_types.specs.Links.{item_in, imported, UsedIn, IsUsed, items_used, links_of}
use Rattle.mesa_types.specs.Sound.{HeadIn, FaceIn, ImportIn}
use Rattle.code_rules.specs.Links.{rank, link_number}
use Rattle.code_blocks.proofs.Lists.{all_get, get_there, get_front}

abbrev Each : List Item → List ℕ → Type 0
Each items used = All (λ n. n < length items) used

each_behind : (items : List Item) (n : ℕ) (ns : List ℕ) → Each items (n ∷ ns) → Each items ns
each_behind items n ns h k d lt = h (suc k) d (omega (arith, lt))

pub used_first : (items : List Item) (n : ℕ) (ns : List ℕ) (i : Item) → slice_get items n ≡ Some i → items_used items (n ∷ ns) ≡ i ∷ items_used items ns
unfolding items_used
used_first items n ns i e = rw e

as_many : (items : List Item) (ns : List ℕ) → Each items ns → length (items_used items ns) ≡ length ns
unfolding items_used
as_many items [] h = refl
as_many items (n ∷ ns) h =
    let x = get_there items n (h 0 n (omega arith)) in
    ap length (used_first items n ns x.0 x.1) ∙ ap suc (as_many items ns (each_behind items n ns h))

used_there : (items : List Item) (ns : List ℕ) (n : ℕ) (i : Item) → Each items ns → Contains ns n → slice_get items n ≡ Some i
    → slice_get (items_used items ns) (rank n ns) ≡ Some i
used_there items [] n i h c e = absurd (omega (arith, c.1))
used_there items (m ∷ ns) n i h c e =
    let x = get_there items m (h 0 m (omega arith)) in
    ap (λ l. slice_get l (rank n (m ∷ ns))) (used_first items m ns x.0 x.1)
    ∙ go (λ d. used_there items ns n i (each_behind items m ns h) d e) (nat_eq m n) refl x.0 x.1
  where
    later : Contains (m ∷ ns) n → nat_eq m n ≡ false → Contains ns n
    later (zero, lt, same) differ = cc (sym differ ∙ eq-eqb m n same)
    later (suc k, lt, same) differ = (k, omega (arith, lt), same)

    go : (Contains ns n → slice_get (items_used items ns) (rank n ns) ≡ Some i) → (b : Bool) → nat_eq m n ≡ b → (x : Item) → slice_get items m ≡ Some x
        → slice_get (x ∷ items_used items ns) (if b then 0 else suc (rank n ns)) ≡ Some i
    go f true is x there = sym there ∙ ap (λ k. slice_get items k) (eqb-true m n is) ∙ e
    go f false is x there = f (later c is)

behind_front : {X : Type 0} (xs ys : List X) (k : ℕ) → slice_get (xs ++ ys) (length xs + k) ≡ slice_get ys k
behind_front [] ys k = ap (λ n. slice_get ys n) {x = 0 + k} {y = k} (omega arith)
behind_front (x ∷ xs) ys k = ap (λ n. slice_get (x ∷ (xs ++ ys)) n) {x = length (x ∷ xs) + k} {y = suc (length xs + k)} (omega arith) ∙ behind_front xs ys k

each_used : (m : Import) → ImportIn m → Each m.face.items m.used
unfolding ImportIn
each_used m h = h.2

pub linked_there : (imports : List Import) → All ImportIn imports → (k n : ℕ) (i : Item) → imported imports k n ≡ Some i → IsUsed imports k n
    → slice_get (links_of imports) (link_number imports k n) ≡ Some i
unfolding imported item_in IsUsed UsedIn links_of
linked_there [] h k n i e u = absurd u
linked_there (m ∷ ms) h zero n i e u =
    get_front (items_used m.face.items m.used) (links_of ms) (rank n m.used) i
    (used_there m.face.items m.used n i (each_used m (h 0 m (omega arith))) u e)
linked_there (m ∷ ms) h (suc k) n i e u =
    let ns = items_used m.face.items m.used in
    ap (λ x. slice_get (ns ++ links_of ms) (x + link_number ms k n)) (sym (as_many m.face.items m.used (each_used m (h 0 m (omega arith)))))
    ∙ (behind_front ns (links_of ms) (link_number ms k n)
    ∙ linked_there ms (λ j d lt. h (suc j) d (omega (arith, lt))) k n i e u)

items_in : (m : Import) → ImportIn m → All HeadIn m.face.items
unfolding ImportIn FaceIn
items_in m h = h.0

-- and the head of each is sound
pub head_there : (imports : List Import) → All ImportIn imports → (k n : ℕ) (i : Item) → imported imports k n ≡ Some i → HeadIn i
unfolding imported item_in
head_there [] h k n i e = cc
head_there (m ∷ ms) h zero n i e = all_get HeadIn m.face.items n i e (items_in m (h 0 m (omega arith)))
head_there (m ∷ ms) h (suc k) n i e = head_there ms (λ j d lt. h (suc j) d (omega (arith, lt))) k n i e

heads_used : (items : List Item) (ns : List ℕ) → Each items ns → All HeadIn items → All HeadIn (items_used items ns)
unfolding items_used
heads_used items [] e h = λ k d lt. absurd (omega (arith, lt))
heads_used items (n ∷ ns) e h =
    let x = get_there items n (e 0 n (omega arith)) in
    subst (λ is. All HeadIn is) (sym (used_first items n ns x.0 x.1)) (first x.0 x.1 (heads_used items ns (each_behind items n ns e) h))
  where
    first : (i : Item) → slice_get items n ≡ Some i → All HeadIn (items_used items ns) → All HeadIn (i ∷ items_used items ns)
    first i at rest zero d lt = all_get HeadIn items n i at h
    first i at rest (suc k) d lt = rest k d (omega (arith, lt))

-- so is that of each link
pub heads_linked : (imports : List Import) → All ImportIn imports → All HeadIn (links_of imports)
unfolding links_of
heads_linked [] h = λ k d lt. absurd (omega (arith, lt))
heads_linked (m ∷ ms) h =
    All-append HeadIn (items_used m.face.items m.used) (links_of ms)
    (heads_used m.face.items m.used (each_used m (h 0 m (omega arith))) (items_in m (h 0 m (omega arith))))
    (heads_linked ms (λ j d lt. h (suc j) d (omega (arith, lt))))
