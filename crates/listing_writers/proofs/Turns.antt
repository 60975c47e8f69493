-- The turns of a loop that writes texts: what is written so far is the texts so far.
use Rattle.std.proofs.Common.{◌≡◌, ℕ, zero, suc, ◌+◌, ◌<◌, List, [], ◌∷◌, ◌++◌, length, map, flat_map, take, get_or, refl, sym, ap, ◌∙◌, append_assoc, arith}
use Rattle.std.proofs.lemmas.List.{append-nil, length-map, length-take-le, map-append, take_more}
use Rattle.std.proofs.lemmas.Grind.{flat_map-append}
use Rattle.listing_rules.specs.Lines.{between}
use Rattle.listing_writers.specs.Marks.{mark_before}

-- ---- parts one behind the other

module _ {A : Type 0} (s : A → List ℕ) where
  pub none_yet : (start : List ℕ) (all : List A) → start ≡ start ++ flat_map s (take 0 all)
  none_yet start all = sym (append-nil start)

  one_more : (all : List A) (i : ℕ) (x : A) → i < length all → x ≡ get_or all i x → flat_map s (take i all) ++ s x ≡ flat_map s (take (i + 1) all)
  one_more all i x less is =
      ap (λ (y : A). flat_map s (take i all) ++ s y) is
      ∙ ap (λ (t : List ℕ). flat_map s (take i all) ++ t) (sym (append-nil (s (get_or all i x))))
      ∙ sym (flat_map-append s (take i all) (get_or all i x ∷ []))
      ∙ ap (λ (xs : List A). flat_map s xs) (sym (take_more all i x less))

  pub each_more : (start out new : List ℕ) (all : List A) (i : ℕ) (x : A) → i < length all → x ≡ get_or all i x
      → out ≡ start ++ flat_map s (take i all) → new ≡ out ++ s x → new ≡ start ++ flat_map s (take (i + 1) all)
  each_more start out new all i x less is so more =
      more ∙ ap (λ (t : List ℕ). t ++ s x) so ∙ append_assoc start (flat_map s (take i all)) (s x)
      ∙ ap (λ (t : List ℕ). start ++ t) (one_more all i x less is)

-- ---- parts with a mark between them

no_mark : (mark : List ℕ) (at : ℕ) → at ≡ 0 → mark_before mark at ≡ []
unfolding mark_before
no_mark mark zero none = refl
no_mark mark (suc at) none = absurd (omega (arith, none))

some_mark : (mark : List ℕ) (at : ℕ) → 0 < at → mark_before mark at ≡ mark
unfolding mark_before
some_mark mark zero some = absurd (omega (arith, some))
some_mark mark (suc at) some = refl

pub unmarked : (out mark : List ℕ) (at : ℕ) → at ≡ 0 → out ≡ out ++ mark_before mark at
unmarked out mark at none = sym (append-nil out) ∙ ap (λ (t : List ℕ). out ++ t) (sym (no_mark mark at none))

pub marked : (out mark : List ℕ) (at : ℕ) → 0 < at → out ++ mark ≡ out ++ mark_before mark at
marked out mark at some = ap (λ (t : List ℕ). out ++ t) (sym (some_mark mark at some))

-- each with the mark before it
abbrev behind : List ℕ → List (List ℕ) → List ℕ
behind mark texts = flat_map (λ other. mark ++ other) texts

one_behind : (mark : List ℕ) (texts : List (List ℕ)) (last : List ℕ) → behind mark (texts ++ last ∷ []) ≡ behind mark texts ++ (mark ++ last)
one_behind mark texts last =
    flat_map-append (λ (other : List ℕ). mark ++ other) texts (last ∷ []) ∙ ap (λ (t : List ℕ). behind mark texts ++ t) (append-nil (mark ++ last))

last_text : (mark : List ℕ) (texts : List (List ℕ)) (last : List ℕ)
    → between mark (texts ++ last ∷ []) ≡ between mark texts ++ (mark_before mark (length texts) ++ last)
unfolding between
last_text mark [] last = append-nil last ∙ ap (λ (t : List ℕ). t ++ last) (sym (no_mark mark 0 refl))
last_text mark (text ∷ more) last =
    ap (λ (t : List ℕ). text ++ t) (one_behind mark more last)
    ∙ sym (append_assoc text (behind mark more) (mark ++ last))
    ∙ ap (λ (t : List ℕ). (text ++ behind mark more) ++ (t ++ last)) (sym (some_mark mark (length (text ∷ more)) (omega arith)))

module _ {A : Type 0} (s : A → List ℕ) (mark : List ℕ) where
  pub first_yet : (start : List ℕ) (all : List A) → start ≡ start ++ between mark (map s (take 0 all))
  unfolding between
  first_yet start all = sym (append-nil start)

  next_part : (all : List A) (i : ℕ) (x : A) → i < length all → x ≡ get_or all i x
      → between mark (map s (take i all)) ++ (mark_before mark i ++ s x) ≡ between mark (map s (take (i + 1) all))
  next_part all i x less is =
      let count : length (map s (take i all)) ≡ i = length-map (take i all) s ∙ length-take-le i all (omega arith) in
      ap (λ (y : A). between mark (map s (take i all)) ++ (mark_before mark i ++ s y)) is
      ∙ ap (λ (n : ℕ). between mark (map s (take i all)) ++ (mark_before mark n ++ s (get_or all i x))) (sym count)
      ∙ sym (last_text mark (map s (take i all)) (s (get_or all i x)))
      ∙ ap (λ (ts : List (List ℕ)). between mark ts) (sym (map-append s (take i all) (get_or all i x ∷ [])))
      ∙ ap (λ (xs : List A). between mark (map s xs)) (sym (take_more all i x less))

  pub between_more : (start out mid new : List ℕ) (all : List A) (i : ℕ) (x : A) → i < length all → x ≡ get_or all i x
      → out ≡ start ++ between mark (map s (take i all)) → mid ≡ out ++ mark_before mark i → new ≡ mid ++ s x
      → new ≡ start ++ between mark (map s (take (i + 1) all))
  between_more start out mid new all i x less is so first second =
      second ∙ ap (λ (t : List ℕ). t ++ s x) first ∙ append_assoc out (mark_before mark i) (s x)
      ∙ ap (λ (t : List ℕ). t ++ (mark_before mark i ++ s x)) so
      ∙ append_assoc start (between mark (map s (take i all))) (mark_before mark i ++ s x)
      ∙ ap (λ (t : List ℕ). start ++ t) (next_part all i x less is)
