-- The turns of a loop that writes a list: what is written so far is the spelling of the elements so far.
use Rattle.std.proofs.Common.{◌≡◌, ℕ, ◌+◌, ◌<◌, List, [], ◌∷◌, ◌++◌, length, take, drop, get_or, add-one, None, sym, ap, ◌∙◌}
use Rattle.std.proofs.lemmas.List.{take-append-drop}
use Rattle.std.proofs.Math.Seq.{take-suc}
use Rattle.file_forms.specs.Forms.{Form, spell_each}
use Rattle.file_forms.specs.Written.{Written, appended}
use Rattle.file_forms.proofs.WrittenLaws.{appended_nothing, appended_both, appended_full}
use Rattle.face_rules.proofs.WriteLaws.{spell-append, spell-push}

module _ {A : Type 0} (each : List A → Form A) where
  pub none_yet : (start : Written) (all : List A) → start ≡ appended start (spell_each each [] (take 0 all))
  unfolding spell_each
  none_yet start all = appended_nothing start

  take-more : (all : List A) (i : ℕ) (d : A) → i < length all → take (i + 1) all ≡ take i all ++ get_or all i d ∷ []
  take-more all i d less = rw add-one (take-suc all i d less)

  pub one_more : (start out new : Written) (all : List A) (i : ℕ) (d : A) → i < length all → out ≡ appended start (spell_each each [] (take i all))
      → new ≡ appended out ((each (take i all)).spell (get_or all i d)) → new ≡ appended start (spell_each each [] (take (i + 1) all))
  one_more start out new all i d less so more =
      appended_both start out new (spell_each each [] (take i all)) ((each (take i all)).spell (get_or all i d)) so more
      ∙ ap (λ (t : List ℕ). appended start t) (sym (spell-push each (take i all) (get_or all i d)) ∙ ap (λ xs. spell_each each [] xs) (sym (take-more all i d less)))

  -- where the bytes are too many, those of the elements left change nothing
  pub full_already : (start out : Written) (all : List A) (i : ℕ) → out ≡ appended start (spell_each each [] (take i all)) → out ≡ None → out ≡ appended start (spell_each each [] all)
  full_already start out all i so full =
      appended_both start out out (spell_each each [] (take i all)) (spell_each each ([] ++ take i all) (drop i all)) so (appended_full out _ full)
      ∙ ap (λ (t : List ℕ). appended start t) (sym (spell-append each [] (take i all) (drop i all)) ∙ ap (λ xs. spell_each each [] xs) (take-append-drop i all))
