-- Values in the order of the text have as many words as in the order of their places: each place is taken once, so each is.
use Rattle.std.proofs.Common.{◌≡◌, ℕ, zero, suc, ◌+◌, ◌<◌, List, [], ◌∷◌, length, refl, sym, ap, ◌∙◌, arith}
use Rattle.std.specs.Prelude.{Contains}
use Rattle.mesa_types.specs.Typed.{Kind, Kinds, NoKinds, AndKind}
use Rattle.mesa_types.specs.Shapes.{words_in, words_in_all, count_in, KindAt}
use Rattle.mesa_types.specs.Sound.{AllDiffer, Placed, Arranged}
use Rattle.mesa_types.specs.Laws.{ArrangedValuesKeepTheirWords}

abbrev total : List ℕ → ℕ
total [] = 0
total (w ∷ ws) = w + total ws

abbrev weights : Kinds → List ℕ
weights NoKinds = []
weights (AndKind k ks) = words_in k ∷ weights ks

abbrev ones : Kinds → List ℕ
ones NoKinds = []
ones (AndKind k ks) = 1 ∷ ones ks

-- the number at a place is set to 0
abbrev blank : ℕ → List ℕ → List ℕ
blank n [] = []
blank zero (w ∷ ws) = 0 ∷ ws
blank (suc n) (w ∷ ws) = w ∷ blank n ws

abbrev At : List ℕ → ℕ → ℕ → Type 0
At [] n x = ⊥
At (w ∷ ws) zero x = w ≡ x
At (w ∷ ws) (suc n) x = At ws n x

abbrev AllAt : List ℕ → List ℕ → List ℕ → Type 0
AllAt [] [] ws = Unit {0}
AllAt (p ∷ ps) (n ∷ ns) ws = At ws p n × AllAt ps ns ws
AllAt _ _ ws = ⊥

abbrev OnesAt : List ℕ → List ℕ → Type 0
OnesAt [] os = Unit {0}
OnesAt (p ∷ ps) os = At os p 1 × OnesAt ps os

-- where the one is 0, so is the other
abbrev Under : List ℕ → List ℕ → Type 0
Under [] [] = Unit {0}
Under (w ∷ ws) (o ∷ os) = (o ≡ 0 → w ≡ 0) × Under ws os
Under _ _ = ⊥

taken_out : (ws : List ℕ) (p x : ℕ) → At ws p x → total ws ≡ x + total (blank p ws)
taken_out [] p x h = absurd h
taken_out (w ∷ ws) zero x h = omega (arith, h)
taken_out (w ∷ ws) (suc p) x h = omega (arith, taken_out ws p x h)

still_at : (ws : List ℕ) (p q x : ℕ) → (q ≡ p → ⊥) → At ws q x → At (blank p ws) q x
still_at [] p q x d h = h
still_at (w ∷ ws) zero zero x d h = absurd (d refl)
still_at (w ∷ ws) zero (suc q) x d h = h
still_at (w ∷ ws) (suc p) zero x d h = h
still_at (w ∷ ws) (suc p) (suc q) x d h = still_at ws p q x (λ e. d (ap suc e)) h

blank_under : (p : ℕ) (ws os : List ℕ) → Under ws os → Under (blank p ws) (blank p os)
blank_under p [] [] u = tt
blank_under zero (w ∷ ws) (o ∷ os) u = (λ e. refl, u.1)
blank_under (suc p) (w ∷ ws) (o ∷ os) u = (u.0, blank_under p ws os u.1)
blank_under p [] (o ∷ os) u = absurd u
blank_under p (w ∷ ws) [] u = absurd u

none_left : (ws os : List ℕ) → Under ws os → total os ≡ 0 → total ws ≡ 0
none_left [] [] u e = refl
none_left (w ∷ ws) (o ∷ os) u e = omega (arith, u.0 (omega (arith, e)), none_left ws os u.1 (omega (arith, e)))
none_left [] (o ∷ os) u e = absurd u
none_left (w ∷ ws) [] u e = absurd u

differs : (p q : ℕ) (ps : List ℕ) → (Contains (q ∷ ps) p → ⊥) → q ≡ p → ⊥
differs p q ps free e = free (0, omega arith, e)

differs_later : (p q : ℕ) (ps : List ℕ) → (Contains (q ∷ ps) p → ⊥) → Contains ps p → ⊥
differs_later p q ps free c = free (suc c.0, omega (arith, c.1), c.2)

all_still : (p : ℕ) (ps ns ws : List ℕ) → (Contains ps p → ⊥) → AllAt ps ns ws → AllAt ps ns (blank p ws)
all_still p [] [] ws free h = tt
all_still p (q ∷ ps) (n ∷ ns) ws free h = (still_at ws p q n (differs p q ps free) h.0, all_still p ps ns ws (differs_later p q ps free) h.1)
all_still p [] (n ∷ ns) ws free h = absurd h
all_still p (q ∷ ps) [] ws free h = absurd h

ones_still : (p : ℕ) (ps os : List ℕ) → (Contains ps p → ⊥) → OnesAt ps os → OnesAt ps (blank p os)
ones_still p [] os free h = tt
ones_still p (q ∷ ps) os free h = (still_at os p q 1 (differs p q ps free) h.0, ones_still p ps os (differs_later p q ps free) h.1)

-- so many places are taken as there are: nothing is left
all_taken : (ps ns ws os : List ℕ) → AllDiffer ps → AllAt ps ns ws → OnesAt ps os → Under ws os → total os ≡ length ps → total ws ≡ total ns
unfolding AllDiffer
all_taken [] [] ws os d h o u e = none_left ws os u e
all_taken (p ∷ ps) (n ∷ ns) ws os d h o u e =
    let rest = all_taken ps ns (blank p ws) (blank p os) d.1 (all_still p ps ns ws d.0 h.1) (ones_still p ps os d.0 o.1) (blank_under p ws os u) (omega (arith, e, taken_out os p 1 o.0)) in
    omega (arith, rest, taken_out ws p n h.0)
all_taken [] (n ∷ ns) ws os d h o u e = absurd h
all_taken (p ∷ ps) [] ws os d h o u e = absurd h

weight_at : (all : Kinds) (p : ℕ) (k : Kind) → KindAt all p k → At (weights all) p (words_in k)
unfolding KindAt
weight_at NoKinds p k h = absurd h
weight_at (AndKind j js) zero k h = ap words_in h
weight_at (AndKind j js) (suc p) k h = weight_at js p k h

one_at : (all : Kinds) (p : ℕ) (k : Kind) → KindAt all p k → At (ones all) p 1
unfolding KindAt
one_at NoKinds p k h = absurd h
one_at (AndKind j js) zero k h = refl
one_at (AndKind j js) (suc p) k h = one_at js p k h

weights_at : (ps : List ℕ) (js all : Kinds) → Placed ps js all → AllAt ps (weights js) (weights all)
unfolding Placed
weights_at [] NoKinds all h = tt
weights_at (p ∷ ps) (AndKind j js) all h = (weight_at all p j h.0, weights_at ps js all h.1)
weights_at [] (AndKind j js) all h = absurd h
weights_at (p ∷ ps) NoKinds all h = absurd h

ones_at : (ps : List ℕ) (js all : Kinds) → Placed ps js all → OnesAt ps (ones all)
unfolding Placed
ones_at [] NoKinds all h = tt
ones_at (p ∷ ps) (AndKind j js) all h = (one_at all p j h.0, ones_at ps js all h.1)
ones_at [] (AndKind j js) all h = absurd h
ones_at (p ∷ ps) NoKinds all h = absurd h

placed_count : (ps : List ℕ) (js all : Kinds) → Placed ps js all → length ps ≡ count_in js
unfolding Placed count_in
placed_count [] NoKinds all h = refl
placed_count (p ∷ ps) (AndKind j js) all h = omega (arith, placed_count ps js all h.1)
placed_count [] (AndKind j js) all h = absurd h
placed_count (p ∷ ps) NoKinds all h = absurd h

each_under : (ks : Kinds) → Under (weights ks) (ones ks)
each_under NoKinds = tt
each_under (AndKind k ks) = (λ e. absurd (omega (arith, e)), each_under ks)

total_weights : (ks : Kinds) → total (weights ks) ≡ words_in_all ks
unfolding words_in_all
total_weights NoKinds = refl
total_weights (AndKind k ks) = omega (arith, total_weights ks)

total_ones : (ks : Kinds) → total (ones ks) ≡ count_in ks
unfolding count_in
total_ones NoKinds = refl
total_ones (AndKind k ks) = omega (arith, total_ones ks)

pub arranged_words : ArrangedValuesKeepTheirWords
unfolding Arranged
arranged_words [] js all h = ap words_in_all h
arranged_words (p ∷ ps) js all h =
    let counted : total (ones all) ≡ length (p ∷ ps) = total_ones all ∙ sym h.2 ∙ sym (placed_count (p ∷ ps) js all h.0) in
    let same = all_taken (p ∷ ps) (weights js) (weights all) (ones all) h.1 (weights_at (p ∷ ps) js all h.0) (ones_at (p ∷ ps) js all h.0) (each_under all) counted in
    sym (total_weights js) ∙ sym same ∙ total_weights all
