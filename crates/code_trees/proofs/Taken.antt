-- The rolls of keyed values that stay in their list are those of the definition, which takes each out.
use Rattle.std.proofs.Common.{◌≡◌, refl, sym, ap, ◌∙◌, subst, ℕ, zero, suc, ◌+◌, ◌<◌, ◌≤◌, List, [], ◌∷◌, ◌++◌, eqb-true, if◌then◌else◌, Bool, true, false, arith}
use Rattle.std.proofs.lemmas.Bool.{ne_eqb}
use Rattle.std.specs.Prelude.{nat_eq}
use Rattle.code_rules.specs.OwnCode.{lift_code, rolls, size_after, size_for, total, without}
use Rattle.code_trees.specs.Taken.{blanked, rolls_in_place}

-- the places and sizes of all, beside those that are left: places before q were taken out
data Kept : ℕ → List ℕ → List ℕ → List ℕ → List ℕ → Type 0 where
  behind : {q : ℕ} {zs ss : List ℕ} → total zs ≡ total ss → Kept q [] zs [] ss
  out : {q : ℕ} {ps qs : List ℕ} → Kept q ps [] qs []
  kept : {q p s : ℕ} {ps zs qs ss : List ℕ} → Kept q ps zs qs ss → Kept q (p ∷ ps) (s ∷ zs) (p ∷ qs) (s ∷ ss)
  taken : {q p : ℕ} {ps zs qs ss : List ℕ} → p < q → Kept q ps zs qs ss → Kept q (p ∷ ps) (0 ∷ zs) qs ss

later : {q : ℕ} {ps zs qs ss : List ℕ} → Kept q ps zs qs ss → Kept (suc q) ps zs qs ss
later (behind e) = behind e
later out = out
later (kept k) = kept (later k)
later (taken lt k) = taken (omega (arith, lt)) (later k)

totals : {q : ℕ} {ps zs qs ss : List ℕ} → Kept q ps zs qs ss → total zs ≡ total ss
totals (behind e) = e
totals out = refl
totals (kept {q} {p} {s} k) = ap (λ n. s + n) (totals k)
totals (taken {q} {p} {ps} {zs} lt k) = ap (λ n. n) {x = 0 + total zs} {y = total zs} (omega arith) ∙ totals k

no_sizes : (r : ℕ) (ps : List ℕ) → size_for r ps [] ≡ 0
no_sizes r [] = refl
no_sizes r (p ∷ ps) = refl

none_after : (r : ℕ) (ps : List ℕ) → size_after r ps [] ≡ 0
none_after r [] = refl
none_after r (p ∷ ps) = refl

same_size : {q : ℕ} {ps zs qs ss : List ℕ} (r : ℕ) → q ≤ r → Kept q ps zs qs ss → size_for r qs ss ≡ size_for r ps zs
same_size r le (behind e) = refl
same_size r le (out {q} {ps} {qs}) = no_sizes r qs ∙ sym (no_sizes r ps)
same_size r le (kept {q} {p} {s} k) = ap (λ n. if nat_eq p r then s else n) (same_size r le k)
same_size r le (taken {q} {p} {ps} {zs} lt k) =
    same_size r le k ∙ sym (ap (λ b. if b then 0 else size_for r ps zs) (ne_eqb p r (λ e. omega (arith, e, lt, le))))

same_after : {q : ℕ} {ps zs qs ss : List ℕ} (r : ℕ) → q ≤ r → Kept q ps zs qs ss → size_after r qs ss ≡ size_after r ps zs
same_after r le (behind e) = refl
same_after r le (out {q} {ps} {qs}) = none_after r qs ∙ sym (none_after r ps)
same_after r le (kept {q} {p} {s} {ps} {zs} {qs} {ss} k) =
    ap (λ n. if nat_eq p r then total ss else n) (same_after r le k)
    ∙ ap (λ n. if nat_eq p r then n else size_after r ps zs) (sym (totals k))
same_after r le (taken {q} {p} {ps} {zs} lt k) =
    same_after r le k ∙ sym (ap (λ b. if b then total zs else size_after r ps zs) (ne_eqb p r (λ e. omega (arith, e, lt, le))))

none_blanked : (q : ℕ) (ps : List ℕ) → blanked q ps [] ≡ []
none_blanked q [] = refl
none_blanked q (p ∷ ps) = refl

none_without : (q : ℕ) (ps : List ℕ) → without q ps [] ≡ []
none_without q [] = refl
none_without q (p ∷ ps) = refl

one_taken : {q : ℕ} {ps zs qs ss : List ℕ} → Kept q ps zs qs ss → Kept (suc q) ps (blanked q ps zs) (without q qs qs) (without q qs ss)
one_taken (behind e) = behind refl
one_taken (out {q} {ps} {qs}) =
    subst (λ l. Kept (suc q) ps l (without q qs qs) (without q qs [])) (sym (none_blanked q ps))
    (subst (λ l. Kept (suc q) ps [] (without q qs qs) l) (sym (none_without q qs)) out)
one_taken (kept {q} {p} {s} {ps} {zs} {qs} {ss} k) = go (nat_eq p q) refl (one_taken k)
  where
    go : (b : Bool) → nat_eq p q ≡ b → Kept (suc q) ps (blanked q ps zs) (without q qs qs) (without q qs ss)
        → Kept (suc q) (p ∷ ps) (if nat_eq p q then 0 ∷ zs else s ∷ blanked q ps zs) (if nat_eq p q then qs else p ∷ without q qs qs) (if nat_eq p q then ss else s ∷ without q qs ss)
    go true is f = let lt : p < suc q = omega (arith, eqb-true p q is) in rw is (taken lt (later k))
    go false is f = rw is (kept f)
one_taken (taken {q} {p} {ps} {zs} {qs} {ss} lt k) =
    subst (λ b. Kept (suc q) (p ∷ ps) (if b then 0 ∷ zs else 0 ∷ blanked q ps zs) (without q qs qs) (without q qs ss)) (sym (ne_eqb p q (λ e. omega (arith, e, lt))))
    (taken (omega (arith, lt)) (one_taken k))

all_kept : (q : ℕ) (ps ss : List ℕ) → Kept q ps ss ps ss
all_kept q [] ss = behind refl
all_kept q (p ∷ ps) [] = out
all_kept q (p ∷ ps) (s ∷ ss) = kept (all_kept q ps ss)

same_rolls : (q count moved : ℕ) {ps zs qs ss : List ℕ} → Kept q ps zs qs ss → rolls q count qs ss moved ≡ rolls_in_place q count ps zs moved
same_rolls q zero moved k = refl
same_rolls q (suc count) moved {ps} {zs} {qs} {ss} k =
    let size = same_size q (omega arith) k in
    let after = same_after q (omega arith) k in
    ap (λ n. lift_code n (size_after q qs ss + moved) ++ rolls (suc q) count (without q qs qs) (without q qs ss) (moved + n)) size
    ∙ ap (λ n. lift_code (size_for q ps zs) (n + moved) ++ rolls (suc q) count (without q qs qs) (without q qs ss) (moved + size_for q ps zs)) after
    ∙ ap (λ l. lift_code (size_for q ps zs) (size_after q ps zs + moved) ++ l) (same_rolls (suc q) count (moved + size_for q ps zs) (one_taken k))

pub rolls_stay : (q count : ℕ) (ps ss : List ℕ) (moved : ℕ) → rolls q count ps ss moved ≡ rolls_in_place q count ps ss moved
rolls_stay q count ps ss moved = same_rolls q count moved (all_kept q ps ss)
