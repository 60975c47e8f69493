-- The turns of a loop that writes parts: what is written so far is the spelling of the parts so far.
use Rattle.std.proofs.Common.{◌≡◌, ℕ, ◌+◌, ◌<◌, List, [], ◌∷◌, ◌++◌, length, take, drop, get_or, None, refl, sym, ap, ◌∙◌, append_assoc}
use Rattle.std.proofs.lemmas.List.{append-nil, take-append-drop}
use Rattle.file_forms.specs.Written.{Written, appended}
use Rattle.file_forms.proofs.WrittenLaws.{appended_nothing, appended_both, appended_full}
use Rattle.object_writers.specs.Spelling.{spell_all}
use Rattle.object_writers.proofs.Lists.{take_more}

module _ {A : Type 0} (s : A → List ℕ) where
  pub spell_append : (xs ys : List A) → spell_all s (xs ++ ys) ≡ spell_all s xs ++ spell_all s ys
  unfolding spell_all
  spell_append [] ys = refl
  spell_append (x ∷ xs) ys = ap (λ (t : List ℕ). s x ++ t) (spell_append xs ys) ∙ sym (append_assoc (s x) (spell_all s xs) (spell_all s ys))

  spell_one : (x : A) → spell_all s (x ∷ []) ≡ s x
  unfolding spell_all
  spell_one x = append-nil (s x)

  pub none_yet : (start : Written) (all : List A) → start ≡ appended start (spell_all s (take 0 all))
  unfolding spell_all
  none_yet start all = appended_nothing start

  pub one_more : (start out new : Written) (all : List A) (i : ℕ) (x : A) → i < length all → x ≡ get_or all i x → out ≡ appended start (spell_all s (take i all))
      → new ≡ appended out (s x) → new ≡ appended start (spell_all s (take (i + 1) all))
  one_more start out new all i x less is so more =
      appended_both start out new (spell_all s (take i all)) (s x) so more
      ∙ ap (λ (t : List ℕ). appended start t)
      (ap (λ (t : List ℕ). spell_all s (take i all) ++ t) (sym (spell_one x)) ∙ sym (spell_append (take i all) (x ∷ []))
      ∙ ap (λ y. spell_all s (take i all ++ y ∷ [])) is ∙ ap (λ xs. spell_all s xs) (sym (take_more all i x less)))

  -- where the bytes are too many, those of the parts left change nothing
  pub full_already : (start out : Written) (all : List A) (i : ℕ) → out ≡ appended start (spell_all s (take i all)) → out ≡ None → out ≡ appended start (spell_all s all)
  full_already start out all i so full =
      appended_both start out out (spell_all s (take i all)) (spell_all s (drop i all)) so (appended_full out (spell_all s (drop i all)) full)
      ∙ ap (λ (t : List ℕ). appended start t) (sym (spell_append (take i all) (drop i all)) ∙ ap (λ xs. spell_all s xs) (take-append-drop i all))
