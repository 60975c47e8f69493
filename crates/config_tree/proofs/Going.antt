-- The entries of one export, from one scope outward.
use Rattle.std.proofs.Common.{◌≡◌, ℕ, suc, List, [], ◌∷◌, ◌++◌, map, Option, Some, None, Result, Ok, Err, OnOk, refl, sym, ap, ◌∙◌, append-nil, append_assoc}
use Rattle.config_rules.specs.declared.tree.Outgoing.{Outgoing}
use Rattle.config_rules.specs.declared.tree.Tree.{Tree}
use Rattle.config_rules.specs.Exporters.{Step, Stays, Goes, Leaves, goes_on, reach}
use Rattle.config_tree.specs.Going.{entry_at, next_of, step_of, entries_from}

module _ (t : Tree) (g : Outgoing) where
  pub no_more : (most : ℕ) → most ≡ 0 → (old : List Outgoing) → old ≡ old ++ entries_from most t g
  unfolding reach
  no_more most e old = sym (append-nil old) ∙ ap (λ n. old ++ entries_from n t g) (sym e)

  abbrev beyond : (n : ℕ) → Step → List Outgoing
  beyond n s = map (entry_at g.exporter) (goes_on s (λ b. reach n t b))

  ended : (n : ℕ) (s : Step) → None ≡ next_of g.exporter s → [] ≡ beyond n s
  unfolding goes_on
  ended n Stays h = refl
  ended n (Goes b) h = cc
  ended n Leaves h = refl

  gone_on : (n : ℕ) (s : Step) (next : Outgoing) → Some next ≡ next_of g.exporter s → entries_from n t next ≡ beyond n s
  unfolding goes_on
  gone_on n Stays next h = cc
  gone_on n (Goes b) next h = ap (λ (o : Outgoing). entries_from n t o) (same next (entry_at g.exporter b) h)
    where
      or_else : Outgoing → Option Outgoing → Outgoing
      or_else d None = d
      or_else d (Some x) = x

      same : (x y : Outgoing) → Some x ≡ Some y → x ≡ y
      same x y e = ap (or_else x) e
  gone_on n Leaves next h = cc

  with_beyond : (n : ℕ) → entries_from (suc n) t g ≡ g ∷ beyond n (step_of t g)
  unfolding reach
  with_beyond n = refl

  -- one entry more, and the end
  pub last_one : (most n : ℕ) → most ≡ suc n → (old new : List Outgoing) → new ≡ old ++ g ∷ [] → None ≡ next_of g.exporter (step_of t g) → new ≡ old ++ entries_from most t g
  last_one most n e old new grown h =
      grown ∙ ap (λ l. old ++ g ∷ l) (ended n (step_of t g) h) ∙ ap (λ l. old ++ l) (sym (with_beyond n)) ∙ ap (λ k. old ++ entries_from k t g) (sym e)

  -- one entry more, and those outside
  pub one_before : (most n : ℕ) → most ≡ suc n → (old now new : List Outgoing) (next : Outgoing) → now ≡ old ++ g ∷ [] → new ≡ now ++ entries_from n t next
      → Some next ≡ next_of g.exporter (step_of t g) → new ≡ old ++ entries_from most t g
  one_before most n e old now new next grown rest h =
      rest ∙ ap (λ l. l ++ entries_from n t next) grown ∙ append_assoc old (g ∷ []) (entries_from n t next)
      ∙ ap (λ l. old ++ g ∷ l) (gone_on n (step_of t g) next h) ∙ ap (λ l. old ++ l) (sym (with_beyond n)) ∙ ap (λ k. old ++ entries_from k t g) (sym e)

pub on_ok : {X E : Type 0} (r : Result X E) (P Q : Type 0) → (P → Q) → OnOk r P → OnOk r Q
on_ok (Ok x) P Q f h = f h
on_ok (Err e) P Q f h = tt
