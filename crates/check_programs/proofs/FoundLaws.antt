-- What is found with one declaration more.
use Rattle.std.proofs.Common.{◌≡◌, ◌+◌, ℕ, List, [], ◌∷◌, ◌++◌, refl, ap, arith}
use Rattle.interface_records.specs.PlainTypes.{PlainItem}
use Rattle.check_rules.specs.Programs.{Stated, Offer}
use Rattle.check_programs.specs.Found.{Found, with_one}

pub append_nil : {A : Type 0} (xs : List A) → xs ++ [] ≡ xs
append_nil [] = refl
append_nil (x ∷ xs) = ap (λ ys. x ∷ ys) (append_nil xs)

add_none : (n : ℕ) → n + 0 ≡ n
add_none n = omega arith

pub found_like : (hs hs' : List Stated) (n n' : ℕ) (is is' : List PlainItem) (os os' : List Offer) → hs ≡ hs' → n ≡ n' → is ≡ is' → os ≡ os'
    → (let f : Found = record { heads = hs; procedures = n; signals = is; offers = os } in f) ≡ record { heads = hs'; procedures = n'; signals = is'; offers = os' }
found_like hs hs' n n' is is' os os' h e i o = λ k. record { heads = h k; procedures = e k; signals = i k; offers = o k }

pub data_more : (f : Found) (h : Stated) → with_one f (record { head = h; procedures = 0; signals = []; offers = [] }) ≡ record f { heads = f.heads ++ h ∷ [] }
data_more f h = found_like _ _ _ _ _ _ _ _ refl (add_none f.procedures) (append_nil f.signals) (append_nil f.offers)

pub procedure_more : (f : Found) (h : Stated) (os : List Offer) → with_one f (record { head = h; procedures = 1; signals = []; offers = os })
    ≡ record { heads = f.heads ++ h ∷ []; procedures = f.procedures + 1; signals = f.signals; offers = f.offers ++ os }
procedure_more f h os = found_like _ _ _ _ _ _ _ _ refl refl (append_nil f.signals) refl

pub signals_more : (f : Found) (h : Stated) (is : List PlainItem) (os : List Offer) → with_one f (record { head = h; procedures = 0; signals = is; offers = os })
    ≡ record { heads = f.heads ++ h ∷ []; procedures = f.procedures; signals = f.signals ++ is; offers = f.offers ++ os }
signals_more f h is os = found_like _ _ _ _ _ _ _ _ refl (add_none f.procedures) refl refl
