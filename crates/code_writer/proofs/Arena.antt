-- Scopes in an arena.
use Rattle.std.proofs.Common.{◌≡◌, refl, sym, ap, ◌∙◌, subst, ℕ, zero, suc, ◌-◌, ◌<◌, ◌≤◌, List, [], ◌∷◌, ◌++◌, length, length-append, Option, Some, None, arith}
use Rattle.std.specs.Prelude.{slice_get}
use Rattle.code_writer.specs.declared.scope.Level.{Level}
use Rattle.code_writer.specs.declared.scope.Scope.{Scope}
use Rattle.code_writer.specs.Scopes.{inside, inside_if, outer_of, env_within, env_at, Grows}
use Rattle.mesa_types.specs.Typed.{Point, Start, After, At, Leave}
use Rattle.code_blocks.specs.Writing.{Env, in_procedure, end_at, offset_of}

get_front : {A : Type 0} (xs ys : List A) (n : ℕ) → n < length xs → slice_get (xs ++ ys) n ≡ slice_get xs n
get_front [] ys n lt = absurd (omega (arith, lt))
get_front (x ∷ xs) ys zero lt = refl
get_front (x ∷ xs) ys (suc n) lt = get_front xs ys n (omega (arith, lt))

get_seam : {A : Type 0} (xs : List A) (y : A) (ys : List A) → slice_get (xs ++ y ∷ ys) (length xs) ≡ Some y
get_seam [] y ys = refl
get_seam (x ∷ xs) y ys = get_seam xs y ys

outer_le : (s : Option Scope) (n : ℕ) → outer_of s n ≤ n
outer_le None n = omega arith
outer_le (Some s) n = omega arith

enough : (k l : ℕ) (scopes : List Scope) (n : ℕ) → n ≤ k → n ≤ l → env_within k scopes n ≡ env_within l scopes n
enough k l scopes zero p q = refl
enough zero l scopes (suc n) p q = absurd (omega (arith, p))
enough (suc k) zero scopes (suc n) p q = absurd (omega (arith, q))
enough (suc k) (suc l) scopes (suc n) p q =
    ap (inside_if (slice_get scopes n)) (enough k l scopes (outer_of (slice_get scopes n) n) (omega (arith, outer_le (slice_get scopes n) n, p))
    (omega (arith, outer_le (slice_get scopes n) n, q)))

-- the scope with a number, in what is around it
pub env_step : (scopes : List Scope) (n : ℕ) → env_at scopes (suc n) ≡ inside_if (slice_get scopes n) (env_at scopes (outer_of (slice_get scopes n) n))
unfolding env_at
env_step scopes n =
    ap (inside_if (slice_get scopes n)) (enough n (outer_of (slice_get scopes n) n) scopes (outer_of (slice_get scopes n) n)
    (outer_le (slice_get scopes n) n) (omega arith))

pub env_none : (scopes : List Scope) → env_at scopes 0 ≡ in_procedure
unfolding env_at
env_none scopes = refl

same_within : (k : ℕ) (scopes more : List Scope) (n : ℕ) → n ≤ length scopes → env_within k (scopes ++ more) n ≡ env_within k scopes n
same_within k scopes more zero le = refl
same_within zero scopes more (suc n) le = refl
same_within (suc k) scopes more (suc n) le =
    ap (λ s. inside_if s (env_within k (scopes ++ more) (outer_of s n))) (get_front scopes more n (omega (arith, le)))
    ∙ ap (inside_if (slice_get scopes n)) (same_within k scopes more (outer_of (slice_get scopes n) n) (omega (arith, outer_le (slice_get scopes n) n, le)))

pub env_front : (scopes more : List Scope) (n : ℕ) → n ≤ length scopes → env_at (scopes ++ more) n ≡ env_at scopes n
unfolding env_at
env_front scopes more n le = same_within n scopes more n le

pub grown : (scopes after : List Scope) (s : Scope) → after ≡ scopes ++ s ∷ [] → Grows scopes after
grown scopes after s e = record {
  longer = omega (arith, ap length e, length-append scopes (s ∷ []));
  same = λ n le. ap (λ l. env_at l n) e ∙ env_front scopes (s ∷ []) n le;
}

pub entered : (scopes after : List Scope) (level : Level) (back around number : ℕ) → after ≡ scopes ++ record { level = level; back = back } ∷ []
    → back ≡ length scopes - around → around ≤ length scopes → number ≡ length after → env_at after number ≡ inside level (env_at scopes around)
entered scopes after level back around number e b le is =
    let s : Scope = record { level = level; back = back } in
    let n : number ≡ suc (length scopes) = omega (arith, is, ap length e, length-append scopes (s ∷ [])) in
    let o : length scopes - back ≡ around = omega (arith, b, le) in
    ap (λ l. env_at l number) e
    ∙ ap (env_at (scopes ++ s ∷ [])) n
    ∙ env_step (scopes ++ s ∷ []) (length scopes)
    ∙ ap (λ x. inside_if x (env_at (scopes ++ s ∷ []) (outer_of x (length scopes)))) (get_seam scopes s [])
    ∙ ap (λ k. inside level (env_at (scopes ++ s ∷ []) k)) o
    ∙ ap (inside level) (env_front scopes (s ∷ []) around le)

-- a scope that there is, and one that there is not

env_above : (scopes : List Scope) (at : ℕ) → 0 < at
    → env_at scopes at ≡ inside_if (slice_get scopes (at - 1)) (env_at scopes (outer_of (slice_get scopes (at - 1)) (at - 1)))
env_above scopes zero lt = absurd (omega (arith, lt))
env_above scopes (suc n) lt =
    let e : n ≡ suc n - 1 = omega arith in
    subst (λ k. env_at scopes (suc n) ≡ inside_if (slice_get scopes k) (env_at scopes (outer_of (slice_get scopes k) k))) e (env_step scopes n)

pub env_past : (scopes : List Scope) (at : ℕ) → 0 < at → slice_get scopes (at - 1) ≡ None → env_at scopes at ≡ in_procedure
env_past scopes at lt e = env_above scopes at lt ∙ ap (λ s. inside_if s (env_at scopes (outer_of s (at - 1)))) e

pub env_in : (scopes : List Scope) (at : ℕ) (s : Scope) (outer : ℕ) → 0 < at → slice_get scopes (at - 1) ≡ Some s → outer ≡ at - 1 - s.back
    → env_at scopes at ≡ inside s.level (env_at scopes outer)
env_in scopes at s outer lt e o =
    env_above scopes at lt
    ∙ ap (λ x. inside_if x (env_at scopes (outer_of x (at - 1)))) e
    ∙ ap (λ k. inside s.level (env_at scopes k)) (sym o)

pub env_zero : (scopes : List Scope) (at : ℕ) → at ≤ 0 → env_at scopes at ≡ in_procedure
env_zero scopes zero le = env_none scopes
env_zero scopes (suc n) le = absurd (omega (arith, le))

-- nothing lies in a procedure
pub no_end : (E : Env) (k : ℕ) → E ≡ in_procedure → 0 ≡ end_at E.ends k
no_end E k e = sym (ap (λ (F : Env). end_at F.ends k) e)

no_offset_there : (p : Point) → 0 ≡ offset_of (in_procedure.points p)
no_offset_there (Start n) = refl
no_offset_there (After n) = refl
no_offset_there (At l) = refl
no_offset_there Leave = refl

pub no_offset : (E : Env) (p : Point) → E ≡ in_procedure → 0 ≡ offset_of (E.points p)
no_offset E p e = no_offset_there p ∙ sym (ap (λ (F : Env). offset_of (F.points p)) e)
