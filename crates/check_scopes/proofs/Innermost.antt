-- Scopes in one another after the innermost one, which stands last in the code, has changed.
use Rattle.std.proofs.Common.{◌≡◌, ℕ, ◌+◌, ◌-◌, ◌<◌, List, [], ◌∷◌, ◌++◌, length, map, reverse, get_or, Result, Ok, Err, IfOk, OnOk, OnErr, refl, sym, ap, subst, ◌∙◌, arith}
use Rattle.std.proofs.Math.ListN.{set}
use Rattle.std.proofs.Math.Seq.{set-append_seam, get_or-append_seam}
use Rattle.std.proofs.lemmas.List.{reverse-append, length-append}
use Rattle.check_scopes.specs.Scopes.{Scope, innermost, outer}
use Rattle.check_scopes.specs.Shows.{means}
use Rattle.check_scopes.specs.declared.names.Names.{Names}

-- a list that has an element has a last one
ending : {X : Type 0} (x : X) (xs : List X) → (rest : List X) × (y : X) × (x ∷ xs ≡ rest ++ y ∷ [])
ending x [] = ([], x, refl)
ending x (y ∷ ys) = let r = ending y ys in (x ∷ r.0, r.1, ap (λ l. x ∷ l) r.2)

last_place : {X : Type 0} (rest : List X) (y : X) → length (rest ++ y ∷ []) - 1 ≡ length rest
last_place rest y = let e : length (rest ++ y ∷ []) ≡ length rest + 1 = length-append rest (y ∷ []) in omega arith

module _ {T : Type 0} where
  abbrev pub shown : List (Names T) → List (Scope T)
  shown all = map means (reverse all)

  innermost_first : (rest : List (Names T)) (y : Names T) → shown (rest ++ y ∷ []) ≡ means y ∷ shown rest
  innermost_first rest y = ap (map means) (reverse-append rest (y ∷ []))

  -- what is shown where the last of these, of which there are so many, has become another
  abbrev Changed : List (Names T) → ℕ → Names T → Names T → Type 0
  Changed all n now new = now ≡ get_or all (n - 1) now
      → (shown (set all (n - 1) new) ≡ means new ∷ outer (shown all)) × (shown all ≡ means now ∷ outer (shown all))

  last_changed : (rest : List (Names T)) (y now new : Names T) → Changed (rest ++ y ∷ []) (length (rest ++ y ∷ [])) now new
  last_changed rest y now new h =
      let is_last : now ≡ y = h ∙ ap (λ n. get_or (rest ++ y ∷ []) n now) (last_place rest y) ∙ get_or-append_seam rest y [] now in (
        ap (λ n. shown (set (rest ++ y ∷ []) n new)) (last_place rest y) ∙ ap shown (set-append_seam rest y [] new)
            ∙ innermost_first rest new ∙ ap (λ l. means new ∷ outer l) (sym (innermost_first rest y)),
        innermost_first rest y ∙ ap (λ z. means z ∷ shown rest) (sym is_last) ∙ ap (λ l. means now ∷ outer l) (sym (innermost_first rest y)),
      )

  of_some : (all : List (Names T)) (now new : Names T) → 0 < length all → Changed all (length all) now new
  of_some [] now new h = absurd (omega arith)
  of_some (x ∷ xs) now new h = let r = ending x xs in subst (λ l. Changed l (length l) now new) (sym r.2) (last_changed r.0 r.1 now new)

  changed : (all : List (Names T)) (n : ℕ) (now new : Names T) → n ≡ length all → 0 < n → Changed all n now new
  changed all n now new e = subst (λ k. 0 < k → Changed all k now new) (sym e) (of_some all now new)

  pub changed_in_last : (all : List (Names T)) (n : ℕ) (now new : Names T) (change : Scope T → Scope T) → n ≡ length all → 0 < n
      → now ≡ get_or all (n - 1) now → means new ≡ change (means now)
      → shown (set all (n - 1) new) ≡ change (innermost (shown all)) ∷ outer (shown all)
  changed_in_last all n now new change many some h e = let c = changed all n now new many some h in
      c.0 ∙ ap (λ s. s ∷ outer (shown all)) (e ∙ ap change (sym (ap innermost c.1)))

  pub last_as_before : (all : List (Names T)) (n : ℕ) (now new : Names T) → n ≡ length all → 0 < n
      → now ≡ get_or all (n - 1) now → means new ≡ means now → shown (set all (n - 1) new) ≡ shown all
  last_as_before all n now new many some h e = let c = changed all n now new many some h in c.0 ∙ ap (λ s. s ∷ outer (shown all)) e ∙ sym c.1

pub innermost_last : {T : Type 0} (all : List (Names T)) (n : ℕ) (now : Names T) → n ≡ length all → 0 < n → now ≡ get_or all (n - 1) now
    → means now ≡ innermost (shown all)
innermost_last all n now many some h = sym (ap innermost (changed all n now now many some h).1)

pub ok_also : {A E P Q : Type 0} (r : Result A E) → (P → Q) → OnOk r P → OnOk r Q
ok_also (Ok a) f p = f p
ok_also (Err e) f p = p

pub err_also : {A E P Q : Type 0} (r : Result A E) → (P → Q) → OnErr r P → OnErr r Q
err_also (Ok a) f p = p
err_also (Err e) f p = f p

pub if_ok_also : {A E : Type 0} {P Q : A → Type 0} (r : Result A E) → ((a : A) → P a → Q a) → IfOk r P → IfOk r Q
if_ok_also (Ok a) f p = f a p
if_ok_also (Err e) f p = p
