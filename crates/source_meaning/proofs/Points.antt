-- The points to which the answers of a sound construct jump: those that are visible where it stands, or where a phrase of
-- the chain stands.
use Rattle.std.specs.Prelude.{◌≡◌, ◌≢◌, refl, ℕ, zero, suc, ◌<◌, List, [], ◌∷◌, ◌++◌, length, map, Bool, true, false, ◌&&◌, ◌||◌, slice_index_or, nat_eq, ◌⊎◌}
use Rattle.std.specs.Prelude.{T}
use Rattle.std.proofs.Math.Dec.{eqb_refl}
use Rattle.std.proofs.Math.Facts.{eqb_yes}
use Rattle.std.proofs.Common.{inl, inr, arith}
use mathlib.Core.Path.{◌∙◌, sym, subst, ap}
use Rattle.mesa_types.specs.Typed.{Point, Start, After, At, Leave, Phrase, NoPhrase, Catch}
use Rattle.mesa_types.specs.Sound.{Seen, Scope, Reaches, PhraseIn}
use Rattle.source_meaning.specs.Variables.{Enabled, Where}
use Rattle.source_meaning.specs.Signals.{catching}
use Rattle.source_meaning.specs.Meaning.{has_label}

-- the point is one of these
abbrev pub Among : Point → List Seen → Type 0
Among p [] = ⊥
Among p (q ∷ qs) = (p ≡ q.point) ⊎ Among p qs

at_place : (p : Point) (d : ℕ) (qs : List Seen) (k : ℕ) (x : Seen) → k < length qs → x ≡ record { point = p; depth = d } → slice_index_or qs k x ≡ x → Among p qs
at_place p d [] k x lt e h = absurd (omega (arith, lt))
at_place p d (q ∷ qs) zero x lt e h = inl (sym (ap (λ (s : Seen). s.point) (h ∙ e)))
at_place p d (q ∷ qs) (suc k) x lt e h = inr (at_place p d qs k x (omega (arith, lt)) e h)

pub among_of : (Γ : Scope) (arms : ℕ) (p : Point) → Reaches Γ arms p → Among p Γ.points
unfolding Reaches
among_of Γ arms p h = at_place p h.0 Γ.points (h.1).0 (record { point = p; depth = h.0 }) (h.1).1 refl (h.1).2

-- which jumps
abbrev pub Jumps : Type 1
Jumps = ℕ → Point → Type 0

-- to the points that are visible at the phrases of a chain, where these are the scopes in which they stand
unfoldable pub Beyond : List Enabled → List Scope → Jumps
Beyond [] cs f p = ⊥
Beyond (l ∷ c) [] f p = ⊥
Beyond (l ∷ c) (Γ ∷ cs) f p = ((f ≡ l.owner) × Among p Γ.points) ⊎ Beyond c cs f p

-- and to the points that are visible here
unfoldable pub Here : List Seen → Where → List Scope → Jumps
Here pts w cs f p = ((f ≡ w.frame) × Among p pts) ⊎ Beyond w.chain cs f p

abbrev pub ChainIn : List Enabled → List Scope → Type 0
ChainIn [] [] = Unit {0}
ChainIn [] (Γ ∷ cs) = ⊥
ChainIn (l ∷ c) [] = ⊥
ChainIn (l ∷ c) (Γ ∷ cs) = PhraseIn Γ l.phrase × ChainIn c cs

-- the scopes of the phrases of a chain with this phrase before it
abbrev pub chain_scopes : Phrase → Scope → List Scope → List Scope
chain_scopes NoPhrase Γ cs = cs
chain_scopes (Catch n arms) Γ cs = Γ ∷ cs

pub caught_chain : (ph : Phrase) (w : Where) (Γ : Scope) (cs : List Scope) → PhraseIn Γ ph → ChainIn w.chain cs → ChainIn (catching ph w).chain (chain_scopes ph Γ cs)
unfolding catching
caught_chain NoPhrase w Γ cs h c = c
caught_chain (Catch n arms) w Γ cs h c = (h, c)

pub beyond_caught : (ph : Phrase) (w : Where) (Γ : Scope) (cs : List Scope) (f : ℕ) (p : Point) → Beyond (catching ph w).chain (chain_scopes ph Γ cs) f p → Here Γ.points w cs f p
unfolding catching Beyond Here
beyond_caught NoPhrase w Γ cs f p h = inr h
beyond_caught (Catch n arms) w Γ cs f p h = h

here_or : {A B : Type 0} → A ⊎ (A ⊎ B) → A ⊎ B
here_or (inl a) = inl a
here_or (inr h) = h

pub here_caught : (ph : Phrase) (w : Where) (Γ : Scope) (cs : List Scope) (f : ℕ) (p : Point) → Here Γ.points (catching ph w) (chain_scopes ph Γ cs) f p → Here Γ.points w cs f p
unfolding catching Beyond Here
here_caught NoPhrase w Γ cs f p h = h
here_caught (Catch n arms) w Γ cs f p h = here_or h

pub beyond_here : (w : Where) (pts : List Seen) (cs : List Scope) (f : ℕ) (p : Point) → Beyond w.chain cs f p → Here pts w cs f p
unfolding Here
beyond_here w pts cs f p h = inr h

-- Numbers.

pub true≢false : true ≢ false
true≢false e = cc

is_true_of : (b : Bool) → T b → b ≡ true
is_true_of true h = refl
is_true_of false h = absurd h

T_of : (t : Bool) → t ≡ true → T t
T_of true e = tt
T_of false e = absurd (true≢false (sym e))

pub nat_eq_same : (n : ℕ) → nat_eq n n ≡ true
nat_eq_same n = is_true_of _ (eqb_refl n)

pub eq_of : (l x : ℕ) → nat_eq l x ≡ true → l ≡ x
eq_of l x e = eqb_yes (T_of _ e)

nat_eq_of : (l x : ℕ) → l ≡ x → nat_eq l x ≡ true
nat_eq_of l x e = rw (e, nat_eq_same x) refl

both_same : (f g n k : ℕ) → g ≡ f → k ≡ n → nat_eq f g && nat_eq n k ≡ true
both_same f g n k d e = rw (d, e, nat_eq_same f, nat_eq_same n) refl

-- Points that differ.

pub at≢start : (l n : ℕ) → At l ≢ Start n
at≢start l n e = cc

pub at≢after : (l n : ℕ) → At l ≢ After n
at≢after l n e = cc

pub leave≢at : (l : ℕ) → Leave ≢ At l
leave≢at l e = cc

pub leave≢start : (l : ℕ) → Leave ≢ Start l
leave≢start l e = cc

pub leave≢after : (l : ℕ) → Leave ≢ After l
leave≢after l e = cc

start≢after : (k n : ℕ) → Start k ≢ After n
start≢after k n e = cc

start_same : (k n : ℕ) → Start k ≡ Start n → k ≡ n
start_same k n e = cc

after_same : (k n : ℕ) → After k ≡ After n → k ≡ n
after_same k n e = cc

at_same : (k n : ℕ) → At k ≡ At n → k ≡ n
at_same k n e = cc

-- Marks.

-- the points of a marked statement, and those that are visible around it
abbrev pub mark_points : ℕ → ℕ → List Seen → List Seen
mark_points n d pts = record { point = Start n; depth = d } ∷ record { point = After n; depth = d } ∷ pts

pub seen_start : (k n d : ℕ) (pts : List Seen) → Among (Start k) (mark_points n d pts) → (k ≡ n) ⊎ Among (Start k) pts
seen_start k n d pts (inl e) = inl (start_same k n e)
seen_start k n d pts (inr (inl e)) = absurd (start≢after k n e)
seen_start k n d pts (inr (inr h)) = inr h

pub seen_after : (k n d : ℕ) (pts : List Seen) → Among (After k) (mark_points n d pts) → (k ≡ n) ⊎ Among (After k) pts
seen_after k n d pts (inl e) = absurd (start≢after n k (sym e))
seen_after k n d pts (inr (inl e)) = inl (after_same k n e)
seen_after k n d pts (inr (inr h)) = inr h

pub seen_at : (k n d : ℕ) (pts : List Seen) → Among (At k) (mark_points n d pts) → Among (At k) pts
seen_at k n d pts (inl e) = absurd (at≢start k n e)
seen_at k n d pts (inr (inl e)) = absurd (at≢after k n e)
seen_at k n d pts (inr (inr h)) = h

pub seen_leave : (n d : ℕ) (pts : List Seen) → Among Leave (mark_points n d pts) → Among Leave pts
seen_leave n d pts (inl e) = absurd (leave≢start n e)
seen_leave n d pts (inr (inl e)) = absurd (leave≢after n e)
seen_leave n d pts (inr (inr h)) = h

-- either this very point of this frame, or a point that is visible without the mark
pub unmark : (w : Where) (pts : List Seen) (cs : List Scope) (n d k g : ℕ) (p : Point) → (Among p (mark_points n d pts) → (k ≡ n) ⊎ Among p pts) →
    Here (mark_points n d pts) w cs g p → ((g ≡ w.frame) × (k ≡ n)) ⊎ Here pts w cs g p
unfolding Here
unmark w pts cs n d k g p s (inl h) = aside (s h.1)
  where
    aside : (k ≡ n) ⊎ Among p pts → ((g ≡ w.frame) × (k ≡ n)) ⊎ (((g ≡ w.frame) × Among p pts) ⊎ Beyond w.chain cs g p)
    aside (inl e) = inl (h.0, e)
    aside (inr x) = inr (inl (h.0, x))
unmark w pts cs n d k g p s (inr h) = inr (inr h)

pub unmark_plain : (w : Where) (pts : List Seen) (cs : List Scope) (n d g : ℕ) (p : Point) → (Among p (mark_points n d pts) → Among p pts) →
    Here (mark_points n d pts) w cs g p → Here pts w cs g p
unfolding Here
unmark_plain w pts cs n d g p s (inl h) = inl (h.0, s h.1)
unmark_plain w pts cs n d g p s (inr h) = inr h

-- where the test fails, it is not this very point
pub still : {A : Type 0} (f g n k : ℕ) → nat_eq f g && nat_eq n k ≡ false → ((g ≡ f) × (k ≡ n)) ⊎ A → A
still f g n k e (inl h) = absurd (true≢false (sym (both_same f g n k h.0 h.1) ∙ e))
still f g n k e (inr a) = a

-- Labels.

abbrev pub label_points : List ℕ → ℕ → List Seen → List Seen
label_points ls d pts = map (λ l. record { point = At l; depth = d }) ls ++ pts

unlabelled : (p : Point) (ls : List ℕ) (d : ℕ) (pts : List Seen) → ((l : ℕ) → p ≢ At l) → Among p (label_points ls d pts) → Among p pts
unlabelled p [] d pts n h = h
unlabelled p (l ∷ ls) d pts n (inl e) = absurd (n l e)
unlabelled p (l ∷ ls) d pts n (inr h) = unlabelled p ls d pts n h

pub labels_only : (w : Where) (ls : List ℕ) (d : ℕ) (pts : List Seen) (cs : List Scope) (g : ℕ) (p : Point) → ((l : ℕ) → p ≢ At l) →
    Here (label_points ls d pts) w cs g p → Here pts w cs g p
unfolding Here
labels_only w ls d pts cs g p n (inl h) = inl (h.0, unlabelled p ls d pts n h.1)
labels_only w ls d pts cs g p n (inr h) = inr h

more_points : (p : Point) (ls : List ℕ) (d : ℕ) (pts : List Seen) → Among p pts → Among p (label_points ls d pts)
more_points p [] d pts h = h
more_points p (l ∷ ls) d pts h = inr (more_points p ls d pts h)

pub here_labels : (w : Where) (ls : List ℕ) (d : ℕ) (pts : List Seen) (cs : List Scope) (f : ℕ) (p : Point) → Here pts w cs f p → Here (label_points ls d pts) w cs f p
unfolding Here
here_labels w ls d pts cs f p (inl h) = inl (h.0, more_points p ls d pts h.1)
here_labels w ls d pts cs f p (inr h) = inr h

-- a label that is none of these is one of the others, or visible around
has_not_first : (l x : ℕ) (xs ls : List ℕ) (d : ℕ) (pts : List Seen) (t : Bool) → nat_eq l x ≡ t →
    (has_label l xs ≡ false → Among (At l) (label_points (xs ++ ls) d pts) → Among (At l) (label_points ls d pts)) →
    t || has_label l xs ≡ false → Among (At l) (label_points (x ∷ (xs ++ ls)) d pts) → Among (At l) (label_points ls d pts)
has_not_first l x xs ls d pts true q k e h = absurd (true≢false e)
has_not_first l x xs ls d pts false q k e (inl c) = absurd (true≢false (sym (nat_eq_of l x (at_same l x c)) ∙ q))
has_not_first l x xs ls d pts false q k e (inr h) = k e h

has_not : (l : ℕ) (xs ls : List ℕ) (d : ℕ) (pts : List Seen) → has_label l xs ≡ false → Among (At l) (label_points (xs ++ ls) d pts) → Among (At l) (label_points ls d pts)
unfolding has_label
has_not l [] ls d pts e h = h
has_not l (x ∷ xs) ls d pts e h = has_not_first l x xs ls d pts _ refl (λ c i. has_not l xs ls d pts c i) e h

pub not_these : (w : Where) (xs ls : List ℕ) (d : ℕ) (pts : List Seen) (cs : List Scope) (l : ℕ) → has_label l xs ≡ false →
    Here (label_points (xs ++ ls) d pts) w cs w.frame (At l) → Here (label_points ls d pts) w cs w.frame (At l)
unfolding Here
not_these w xs ls d pts cs l e (inl h) = inl (h.0, has_not l xs ls d pts e h.1)
not_these w xs ls d pts cs l e (inr h) = inr h

pub elsewhere : (w : Where) (pts qts : List Seen) (cs : List Scope) (g : ℕ) (p : Point) → nat_eq w.frame g ≡ false → Here pts w cs g p → Here qts w cs g p
unfolding Here
elsewhere w pts qts cs g p e (inl h) = absurd (true≢false (sym (nat_eq_of w.frame g (sym h.0)) ∙ e))
elsewhere w pts qts cs g p e (inr h) = inr h

pub same_frame : (w : Where) (pts : List Seen) (cs : List Scope) (g : ℕ) (p : Point) → nat_eq w.frame g ≡ true → Here pts w cs g p → Here pts w cs w.frame p
same_frame w pts cs g p e h = subst (λ f. Here pts w cs f p) (sym (eq_of w.frame g e)) h
