-- Images that differ in depths alone have one survey.
use Rattle.std.proofs.Common.{◌≡◌, ◌⊎◌, ℕ, ◌<◌, zero, suc, List, [], ◌∷◌, refl, sym, ◌∙◌, subst, inl, inr, arith}
use Rattle.std.specs.Prelude.{Contains, AllPairs}
use Rattle.signaller.specs.declared.signal_id.SignalId.{SignalId}
use Rattle.survey_rules.specs.Survey.{Precedes, group_of, instance_of, number_of}
use Rattle.depth_laws.specs.Laws.{SurveysAreOne}
use Rattle.depth_laws.proofs.Escaping.{same_escapes, same_escapes_back}

-- ---- the order of signals

-- of three numbers each, the first that differs is less
abbrev Less : (a b c x y z : ℕ) → Type 0
Less a b c x y z = (a < x) ⊎ ((a ≡ x) × ((b < y) ⊎ ((b ≡ y) × (c < z))))

less_once : (a b c x y z : ℕ) → Less a b c x y z → Less x y z a b c → ⊥
less_once a b c x y z (inl p) (inl q) = omega (arith, p, q)
less_once a b c x y z (inl p) (inr (q, r)) = omega (arith, p, q)
less_once a b c x y z (inr (p, r)) (inl q) = omega (arith, p, q)
less_once a b c x y z (inr (p, inl r)) (inr (q, inl t)) = omega (arith, r, t)
less_once a b c x y z (inr (p, inl r)) (inr (q, inr (t, u))) = omega (arith, r, t)
less_once a b c x y z (inr (p, inr (r, u))) (inr (q, inl t)) = omega (arith, r, t)
less_once a b c x y z (inr (p, inr (r, u))) (inr (q, inr (t, v))) = omega (arith, u, v)

once : (s t : SignalId) → Precedes s t → Precedes t s → ⊥
once s t p q = less_once (group_of s) (instance_of s) (number_of s) (group_of t) (instance_of t) (number_of t) p q

-- ---- ordered lists of the same signals

in_none : (s : SignalId) → Contains [] s → ⊥
in_none s (k, less, e) = omega (arith, less)

at_head : (x : SignalId) (xs : List SignalId) → Contains (x ∷ xs) x
at_head x xs = (0, omega arith, refl)

behind : (x : SignalId) (xs : List SignalId) (s : SignalId) → Contains xs s → Contains (x ∷ xs) s
behind x xs s (k, less, e) = (suc k, omega (arith, less), e)

head_or_behind : (x : SignalId) (xs : List SignalId) (s : SignalId) → Contains (x ∷ xs) s → (x ≡ s) ⊎ Contains xs s
head_or_behind x xs s (zero, less, e) = inl e
head_or_behind x xs s (suc k, less, e) = inr (k, omega (arith, less), e)

ordered_behind : (x : SignalId) (xs : List SignalId) → AllPairs Precedes (x ∷ xs) → AllPairs Precedes xs
ordered_behind x xs all i j d less below = all (suc i) (suc j) d (omega (arith, less)) (omega (arith, below))

-- the first precedes each behind it
ahead : (x : SignalId) (xs : List SignalId) (s : SignalId) → AllPairs Precedes (x ∷ xs) → Contains xs s → Precedes x s
ahead x xs s all (k, less, e) = subst (λ z. Precedes x z) e (all 0 (suc k) s (omega arith) (omega (arith, less)))

of_heads : (x y : SignalId) (xs ys : List SignalId) → AllPairs Precedes (x ∷ xs) → AllPairs Precedes (y ∷ ys) → (y ≡ x) ⊎ Contains ys x → (x ≡ y) ⊎ Contains xs y
    → x ≡ y
of_heads x y xs ys p q (inl e) h = sym e
of_heads x y xs ys p q (inr a) (inl e) = e
of_heads x y xs ys p q (inr a) (inr b) = absurd (once x y (ahead x xs y p b) (ahead y ys x q a))

of_rest : (x y : SignalId) (xs ys : List SignalId) (s : SignalId) → x ≡ y → AllPairs Precedes (x ∷ xs) → Contains xs s → (y ≡ s) ⊎ Contains ys s → Contains ys s
of_rest x y xs ys s same p h (inl e) =
    let itself = subst (λ z. Precedes z s) (same ∙ e) (ahead x xs s p h) in absurd (once s s itself itself)
of_rest x y xs ys s same p h (inr a) = a

same_list : (xs ys : List SignalId) → AllPairs Precedes xs → AllPairs Precedes ys → ((s : SignalId) → Contains xs s → Contains ys s)
    → ((s : SignalId) → Contains ys s → Contains xs s) → xs ≡ ys
same_list [] [] p q f g = refl
same_list [] (y ∷ ys) p q f g = absurd (in_none y (g y (at_head y ys)))
same_list (x ∷ xs) [] p q f g = absurd (in_none x (f x (at_head x xs)))
same_list (x ∷ xs) (y ∷ ys) p q f g =
    let e = of_heads x y xs ys p q (head_or_behind y ys x (f x (at_head x xs))) (head_or_behind x xs y (g y (at_head y ys))) in
    let rest = same_list xs ys (ordered_behind x xs p) (ordered_behind y ys q)
    (λ s h. of_rest x y xs ys s e p h (head_or_behind y ys s (f s (behind x xs s h))))
    (λ s h. of_rest y x ys xs s (sym e) q h (head_or_behind x xs s (g s (behind y ys s h)))) in
    λ i. e i ∷ rest i

pub one_survey : SurveysAreOne
one_survey a b same xs ys x y =
    same_list xs ys x.in_order y.in_order (λ s h. y.all s (same_escapes a b same s (x.escape s h))) (λ s h. x.all s (same_escapes_back a b same s (y.escape s h)))
