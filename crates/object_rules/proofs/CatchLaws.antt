-- The laws of labels, arms and catch phrases in files.
use Rattle.std.proofs.Common.{◌≡◌, ℕ, zero, suc, ◌≤◌, true, List, Some, refl, ap, arith}
use Rattle.std.specs.Prelude.{◌==◌, length, slice_get}
use Rattle.std.proofs.lemmas.Bool.Decides.{nat_tests}
use Rattle.mesa_base.specs.declared.file_fault.Field.TheVariants as field
use Rattle.code_forms.specs.declared.module_code.CodeLink.{CodeLink}
use Rattle.code_forms.specs.declared.module_code.CodeSignal.{CodeSignal}
use Rattle.code_forms.specs.declared.module_code.Label.{Label}
use Rattle.code_forms.specs.declared.module_code.Label.TheVariants as l
use Rattle.file_forms.specs.Forms.{Form, number, always, pair, ruled, list, choose, at_least, between}
use Rattle.file_forms.specs.Lawful.{Lawful}
use Rattle.file_forms.proofs.Fields.{number_law, always_law}
use Rattle.file_forms.proofs.Pairs.{pair_law, led_law}
use Rattle.file_forms.proofs.Made.{ruled_law, built_law, variant_law, choose_law}
use Rattle.file_forms.proofs.Lists.{list_law}
use Rattle.object_rules.specs.Numbers.{u16, u32, number_where, is_below}
use Rattle.object_rules.specs.CatchForms.{label_tag, of_own, of_link, is_signal_link, own_label, link_label, label_at, label, arm_of, arm_parts, arm, phrase_of, phrase_parts, phrase}
use Rattle.object_rules.proofs.NumberLaws.{number_where_law}

own_forth : (x : Label) (n : ℕ) → of_own x ≡ Some n → x ≡ l.Own n
own_forth l.Any n e = absurd cc
own_forth l.Unwind n e = absurd cc
own_forth (l.Own k) n e = cc
own_forth (l.Link k) n e = absurd cc
own_forth l.BoundsFault n e = absurd cc
own_forth l.ZeroDivisor n e = absurd cc

link_forth : (x : Label) (n : ℕ) → of_link x ≡ Some n → x ≡ l.Link n
link_forth l.Any n e = absurd cc
link_forth l.Unwind n e = absurd cc
link_forth (l.Own k) n e = absurd cc
link_forth (l.Link k) n e = cc
link_forth l.BoundsFault n e = absurd cc
link_forth l.ZeroDivisor n e = absurd cc

own_tag : (signals : List CodeSignal) (x : Label) → (own_label signals).fits x → label_tag x ≡ 3
unfolding own_label
own_tag signals l.Any fits = absurd fits
own_tag signals l.Unwind fits = absurd fits
own_tag signals (l.Own k) fits = refl
own_tag signals (l.Link k) fits = absurd fits
own_tag signals l.BoundsFault fits = absurd fits
own_tag signals l.ZeroDivisor fits = absurd fits

link_tag : (links : List CodeLink) (x : Label) → (link_label links).fits x → label_tag x ≡ 4
unfolding link_label
link_tag links l.Any fits = absurd fits
link_tag links l.Unwind fits = absurd fits
link_tag links (l.Own k) fits = absurd fits
link_tag links (l.Link k) fits = refl
link_tag links l.BoundsFault fits = absurd fits
link_tag links l.ZeroDivisor fits = absurd fits

module _ (signals : List CodeSignal) (links : List CodeLink) where
  own_law : Lawful (own_label signals)
  unfolding own_label
  own_law = variant_law l.Own (number_where 4 (is_below (length signals))) (number_where_law 4 (is_below (length signals))) of_own (λ n fits. refl) own_forth

  link_law : Lawful (link_label links)
  unfolding link_label
  link_law =
      variant_law l.Link (number_where 4 (λ n. is_signal_link (slice_get links n))) (number_where_law 4 (λ n. is_signal_link (slice_get links n))) of_link (λ n fits. refl) link_forth

  abbrev from_five : ℕ → Form Label
  from_five tag = choose (tag == 5) (always l.BoundsFault) (always l.ZeroDivisor)

  abbrev from_four : ℕ → Form Label
  from_four tag = choose (tag == 4) (link_label links) (from_five tag)

  abbrev from_three : ℕ → Form Label
  from_three tag = choose (tag == 3) (own_label signals) (from_four tag)

  abbrev from_two : ℕ → Form Label
  from_two tag = choose (tag == 2) (always l.Unwind) (from_three tag)

  label_at_law : (tag : ℕ) → Lawful (label_at signals links tag)
  unfolding label_at
  label_at_law tag =
      choose_law (tag == 1) (always l.Any) (from_two tag) (λ _. always_law l.Any) (λ _.
      choose_law (tag == 2) (always l.Unwind) (from_three tag) (λ _. always_law l.Unwind) (λ _.
      choose_law (tag == 3) (own_label signals) (from_four tag) (λ _. own_law) (λ _.
      choose_law (tag == 4) (link_label links) (from_five tag) (λ _. link_law) (λ _.
      choose_law (tag == 5) (always l.BoundsFault) (always l.ZeroDivisor) (λ _. always_law l.BoundsFault) (λ _. always_law l.ZeroDivisor)))))

  below_seven : (n : ℕ) → between 1 6 n ≡ true → n ≤ 6
  below_seven n e = grind (arith, nat_tests)

  told : (tag : ℕ) (x : Label) → between 1 6 tag ≡ true → (label_at signals links tag).fits x → label_tag x ≡ tag
  unfolding label_at
  told zero x few fits = absurd cc
  told (suc zero) x few fits = ap label_tag fits
  told (suc (suc zero)) x few fits = ap label_tag fits
  told (suc (suc (suc zero))) x few fits = own_tag signals x fits
  told (suc (suc (suc (suc zero)))) x few fits = link_tag links x fits
  told (suc (suc (suc (suc (suc zero))))) x few fits = ap label_tag fits
  told (suc (suc (suc (suc (suc (suc zero)))))) x few fits = ap label_tag fits
  told (suc (suc (suc (suc (suc (suc (suc n))))))) x few fits =
      let least : suc (suc (suc (suc (suc (suc (suc n)))))) ≤ 6 = below_seven (suc (suc (suc (suc (suc (suc (suc n))))))) few in absurd (omega (arith, least))

  pub label_law : Lawful (label signals links)
  unfolding label
  label_law =
      led_law label_tag (ruled (number 1) (between 1 6) field.Kind) (label_at signals links) (ruled_law (number 1) (between 1 6) field.Kind (number_law 1))
      (λ tag _. label_at_law tag) (λ tag x few fits. told tag x few.1 fits)

  pub arm_law : Lawful (arm signals links)
  unfolding arm
  arm_law =
      built_law arm_of (pair (list (at_least 1) (λ _. label signals links)) (λ _. pair u16 (λ _. pair u16 (λ _. pair u32 (λ _. u32)))))
      (pair_law (list (at_least 1) (λ _. label signals links)) (λ _. pair u16 (λ _. pair u16 (λ _. pair u32 (λ _. u32)))) (list_law (λ _. label signals links) (λ _. label_law) (at_least 1)) (λ _ _.
      pair_law u16 (λ _. pair u16 (λ _. pair u32 (λ _. u32))) (number_law 2) (λ _ _.
      pair_law u16 (λ _. pair u32 (λ _. u32)) (number_law 2) (λ _ _.
      pair_law u32 (λ _. u32) (number_law 4) (λ _ _.
      number_law 4)))))
      arm_parts (λ p fits. refl) (λ x. refl)

  pub phrase_law : Lawful (phrase signals links)
  unfolding phrase
  phrase_law =
      built_law phrase_of (pair u32 (λ _. pair u32 (λ _. list (at_least 1) (λ _. arm signals links))))
      (pair_law u32 (λ _. pair u32 (λ _. list (at_least 1) (λ _. arm signals links))) (number_law 4) (λ _ _.
      pair_law u32 (λ _. list (at_least 1) (λ _. arm signals links)) (number_law 4) (λ _ _.
      list_law (λ _. arm signals links) (λ _. arm_law) (at_least 1))))
      phrase_parts (λ p fits. refl) (λ x. refl)
