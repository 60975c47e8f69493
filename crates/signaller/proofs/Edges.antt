-- The ends of the ranges.
use Rattle.std.proofs.Common.{◌≡◌, ℕ, ◌+◌, ◌*◌, ◌<◌, ◌≤◌, ⊎_elim, List, [], ◌∷◌, ◌++◌, length, get_or, sym, ap, subst, ◌∙◌, arith}
use Rattle.std.specs.Prelude.{Contains}
use Rattle.std.specs.List.Sorted.{IsPermutation, IsNonDecreasing}
use Rattle.std.proofs.lemmas.Bool.{cases_lt}
use Rattle.std.proofs.lemmas.List.{length-append}
use Rattle.std.proofs.lemmas.List.Elements.{Contains-append_left, Contains-push}
use Rattle.std.proofs.lemmas.List.Sorted.{Contains-permutation, length_permutation}
use Rattle.code_forms.specs.declared.module_code.Phrase.{Phrase}
use Rattle.signaller.specs.Sweep.{AreEdges}
use Rattle.signaller.proofs.Sweeping.{same_default}

-- the ends of the first so many
pub record EdgesOf (table : List Phrase) (n : ℕ) (edges : List ℕ) : Type 0 where
  pub ends : (k : ℕ) (d : Phrase) → k < n → Contains edges (get_or table k d).from × Contains edges (get_or table k d).to
  pub count : length edges ≡ 2 * n

pub edges_none : (table : List Phrase) (edges : List ℕ) → edges ≡ [] → EdgesOf table 0 edges
edges_none table edges e = record { ends = λ k d l. absurd (omega arith); count = ap length e }

pub edges_more : (table : List Phrase) (n : ℕ) (p : Phrase) (edges one two : List ℕ) → p ≡ get_or table n p → n < length table → one ≡ edges ++ p.from ∷ [] → two ≡ one ++ p.to ∷ []
    → EdgesOf table n edges → EdgesOf table (n + 1) two
edges_more table n p edges one two is h a b e =
    let old : (x : ℕ) → Contains edges x → Contains two x = λ x c.
    subst (λ (l : List ℕ). Contains l x) (sym b) (Contains-append_left one (p.to ∷ []) x (subst (λ (l : List ℕ). Contains l x) (sym a) (Contains-append_left edges (p.from ∷ []) x c))) in
    let from : Contains two p.from = subst (λ (l : List ℕ). Contains l p.from) (sym b) (Contains-append_left one (p.to ∷ []) p.from (subst (λ (l : List ℕ). Contains l p.from) (sym a) (Contains-push edges p.from))) in
    let to : Contains two p.to = subst (λ (l : List ℕ). Contains l p.to) (sym b) (Contains-push one p.to) in
    record {
      ends = λ k d l. ⊎_elim
          (λ (m : k < n). let c = e.ends k d m in (old (get_or table k d).from c.0, old (get_or table k d).to c.1))
          (λ (m : n ≤ k). let i : n ≡ k = omega arith in
          let q : p ≡ get_or table k d = is ∙ (ap (λ j. get_or table j p) i ∙ same_default table k p d (omega arith)) in
          subst (λ (r : Phrase). Contains two r.from × Contains two r.to) q (from, to))
          (cases_lt k n);
      count = (let c = e.count in let x = ap length a ∙ length-append edges (p.from ∷ []) in let y = ap length b ∙ length-append one (p.to ∷ []) in omega (arith, c, x, y));
    }

pub edges_sorted : (table : List Phrase) (n : ℕ) (edges sorted : List ℕ) → EdgesOf table n edges → length table ≤ n → n ≤ length table → IsPermutation edges sorted → IsNonDecreasing sorted → AreEdges table sorted
edges_sorted table n edges sorted e low high p rises = record {
  sorted = rises;
  ends = λ k d l. (let c = e.ends k d (omega arith) in
      (Contains-permutation edges sorted (get_or table k d).from p c.0, Contains-permutation edges sorted (get_or table k d).to p c.1));
  count = (let c = e.count in let s = length_permutation edges sorted p in omega (arith, c, s));
}
