-- Declarations one after the other.
use Rattle.std.proofs.Common.{◌≡◌, ◌+◌, ℕ, List, [], ◌∷◌, map, length, Ok, Err, refl, sym, ap, ◌∙◌, subst, append_assoc, length-append, arith}
use Rattle.syntax_trees.specs.Syntax as s
use Rattle.check_rules.specs.Around.{Around}
use Rattle.check_rules.specs.Programs.{Declared, all_declared, before_others, declaration, signals_of, offers_of, told}
use Rattle.check_rules.specs.Steps.{State, Checked, Fault, and_then}
use Rattle.check_programs.specs.Again.{next_rule}
use Rattle.check_programs.specs.Found.{Found, all_found, behind, found_in, nothing_found, procedures_of, with_one}
use Rattle.check_programs.proofs.FoundLaws.{append_nil, found_like}

-- what is still to come, behind what is found
unfoldable pub rest : Around → Found → List s.Declaration → State → Checked (Found × State)
rest a f ds σ = and_then (all_declared a (f.procedures + 1) (length f.signals) ds σ) (λ r. Ok (behind f (found_in r.0), r.1))

abbrev after_found : Found → Checked (List Declared × State) → Checked (Found × State)
after_found f p = and_then p (λ r. Ok (behind f (found_in r.0), r.1))

none_before : (n : ℕ) → n ≡ 0 + n
none_before n = omega arith

from_nothing : (p : Checked (List Declared × State)) → and_then p (λ r. Ok (found_in r.0, r.1)) ≡ after_found nothing_found p
from_nothing (Ok r) = ap (λ f. Ok (f, r.1)) (found_like _ _ _ _ _ _ _ _ refl (none_before (procedures_of r.0)) refl refl)
from_nothing (Err e) = refl

pub rest_begin : (a : Around) (ds : List s.Declaration) (σ : State) → all_found a ds σ ≡ rest a nothing_found ds σ
unfolding rest
rest_begin a ds σ = from_nothing (all_declared a 1 0 ds σ)

pub rest_end : (a : Around) (f : Found) (σ : State) → rest a f [] σ ≡ Ok (f, σ)
unfolding rest all_declared procedures_of signals_of offers_of
rest_end a f σ = ap (λ g. Ok (g, σ)) (found_like _ _ _ _ _ _ _ _ (append_nil f.heads) (add_none f.procedures) (append_nil f.signals) (append_nil f.offers))
  where
    add_none : (n : ℕ) → n + 0 ≡ n
    add_none n = omega arith

one_more : (f : Found) (d : Declared) (ds : List Declared) → behind f (found_in (d ∷ ds)) ≡ behind (with_one f d) (found_in ds)
unfolding procedures_of signals_of offers_of
one_more f d ds = found_like _ _ _ _ _ _ _ _
    (sym (append_assoc f.heads (d.head ∷ []) (map (λ (x : Declared). x.head) ds))) (sums f.procedures d.procedures (procedures_of ds))
    (sym (append_assoc f.signals d.signals (signals_of ds))) (sym (append_assoc f.offers d.offers (offers_of ds)))
  where
    sums : (x y z : ℕ) → x + (y + z) ≡ (x + y) + z
    sums x y z = omega arith

behind_one : (f : Found) (d : Declared) (p : Checked (List Declared × State))
    → after_found f (and_then p (λ q. Ok (d ∷ q.0, q.1))) ≡ after_found (with_one f d) p
behind_one f d (Ok q) = ap (λ g. Ok (g, q.1)) (one_more f d q.0)
behind_one f d (Err e) = refl

module _ (a : Around) (f : Found) (ds : List s.Declaration) where
  -- behind one declaration
  onward : Checked (Found × State) → Checked (Found × State)
  unfolding rest
  onward (Ok r) = rest a r.0 ds r.1
  onward (Err e) = Err e

  abbrev go_on : Checked (Declared × State) → Checked (List Declared × State)
  go_on p = and_then p (λ r. and_then (all_declared a (f.procedures + 1 + r.0.procedures) (length f.signals + length r.0.signals) ds r.1) (λ q. Ok (r.0 ∷ q.0, q.1)))

  numbers : (d : Declared) (σ : State) → all_declared a (f.procedures + 1 + d.procedures) (length f.signals + length d.signals) ds σ
      ≡ all_declared a ((with_one f d).procedures + 1) (length (with_one f d).signals) ds σ
  numbers d σ =
      ap (λ n. all_declared a n (length f.signals + length d.signals) ds σ) (turned f.procedures d.procedures)
      ∙ ap (λ n. all_declared a (f.procedures + d.procedures + 1) n ds σ) (sym (length-append f.signals d.signals))
    where
      turned : (x y : ℕ) → x + 1 + y ≡ x + y + 1
      turned x y = omega arith

  abbrev IsFault : Checked (Found × State) → Type 0
  IsFault (Ok r) = ⊥
  IsFault (Err e) = Unit {0}

  turn_by : (p : Checked (Declared × State)) (again : Unit {0} → Checked (Declared × State)) (x : Found × State)
      → and_then p (λ r. Ok (with_one f r.0, r.1)) ≡ Ok x → after_found f (go_on (told p again)) ≡ onward (Ok x)
  unfolding onward rest
  turn_by (Ok r) again x e =
      ap (λ q. after_found f (and_then q (λ q. Ok (r.0 ∷ q.0, q.1)))) (numbers r.0 r.1)
      ∙ behind_one f r.0 (all_declared a ((with_one f r.0).procedures + 1) (length (with_one f r.0).signals) ds r.1)
      ∙ ap onward e
  turn_by (Err g) again x e = absurd (subst IsFault e tt)

  pub turn : (d : s.Declaration) (σ : State) (x : Found × State) → next_rule a f d σ ≡ Ok x → rest a f (d ∷ ds) σ ≡ rest a x.0 ds x.1
  unfolding rest onward all_declared
  turn d σ x e = turn_by (declaration (f.procedures + 1) (length f.signals) a d σ) _ x e

  fault_by : (p : Checked (Declared × State)) (e : Fault) → p ≡ Err e → after_found f (go_on p) ≡ Err e
  fault_by p e h = ap (λ q. after_found f (go_on q)) h

  pub fault_here : (d : s.Declaration) (σ : State) (e : Fault)
      → before_others (λ (x : s.Declaration). x.names) (declaration (f.procedures + 1) (length f.signals)) a d ds σ ≡ Err e → rest a f (d ∷ ds) σ ≡ Err e
  unfolding rest all_declared
  fault_here d σ e h = fault_by (before_others (λ (x : s.Declaration). x.names) (declaration (f.procedures + 1) (length f.signals)) a d ds σ) e h
