-- A test of each label of an arm, one after the other.
use Rattle.std.proofs.Common.{◌≡◌, ◌<◌, ◌≤◌, ◌+◌, ℕ, Bool, true, false, List, ◌∷◌, map, drop, length, get_or, refl, sym, ap, ◌∙◌}
use Rattle.std.specs.Prelude.{◌&&◌}
use Rattle.std.proofs.lemmas.List.{drop_more, drop_all}
use Rattle.check_rules.specs.Around.{ArmLabel, ForAny, ForUnwind, ForSignal, all_resumable, all_give, all_like}
use Rattle.check_rules.specs.Parts.{same_fields}
use Rattle.interface_records.specs.PlainTypes.{PlainField, PlainItem}
use Rattle.check_state.specs.declared.around.ArmLabel.{ArmLabel as Label}
use Rattle.check_state.specs.Views.{arm_label}
use Rattle.check_jumps.specs.Arms.{is_resumable, gives, is_like}

pub at_drop : {A : Type 0} (all : List A) (i : ℕ) (x : A) → i < length all → x ≡ get_or all i x → drop i all ≡ x ∷ drop (i + 1) all
at_drop all i x inside here = drop_more all i x inside ∙ ap (λ y. y ∷ drop (i + 1) all) (sym here)

and_and : (a b c : Bool) → (a && (b && c)) ≡ ((a && b) && c)
and_and true b c = refl
and_and false b c = refl

resumable : (l : ArmLabel) (ls : List ArmLabel) → all_resumable (l ∷ ls) ≡ (is_resumable l && all_resumable ls)
unfolding all_resumable
resumable ForAny ls = refl
resumable ForUnwind ls = refl
resumable (ForSignal r i) ls = refl

pub resumable_at : (all : List Label) (i : ℕ) (x : Label) → i < length all → x ≡ get_or all i x
    → all_resumable (map arm_label (drop i all)) ≡ (is_resumable (arm_label x) && all_resumable (map arm_label (drop (i + 1) all)))
resumable_at all i x inside here = ap (λ ls. all_resumable (map arm_label ls)) (at_drop all i x inside here) ∙ resumable (arm_label x) (map arm_label (drop (i + 1) all))

pub resumable_out : (all : List Label) (i : ℕ) → length all ≤ i → all_resumable (map arm_label (drop i all)) ≡ true
unfolding all_resumable
resumable_out all i outside = ap (λ ls. all_resumable (map arm_label ls)) (drop_all i all outside)

giving : (fs : List PlainField) (l : ArmLabel) (ls : List ArmLabel) → all_give fs (l ∷ ls) ≡ (gives fs l && all_give fs ls)
unfolding all_give
giving fs ForAny ls = refl
giving fs ForUnwind ls = refl
giving fs (ForSignal r i) ls = refl

pub giving_at : (fs : List PlainField) (all : List Label) (i : ℕ) (x : Label) → i < length all → x ≡ get_or all i x
    → all_give fs (map arm_label (drop i all)) ≡ (gives fs (arm_label x) && all_give fs (map arm_label (drop (i + 1) all)))
giving_at fs all i x inside here = ap (λ ls. all_give fs (map arm_label ls)) (at_drop all i x inside here) ∙ giving fs (arm_label x) (map arm_label (drop (i + 1) all))

pub giving_out : (fs : List PlainField) (all : List Label) (i : ℕ) → length all ≤ i → all_give fs (map arm_label (drop i all)) ≡ true
unfolding all_give
giving_out fs all i outside = ap (λ ls. all_give fs (map arm_label ls)) (drop_all i all outside)

alike : (h : PlainItem) (l : ArmLabel) (ls : List ArmLabel) → all_like h (l ∷ ls) ≡ (is_like h l && all_like h ls)
unfolding all_like
alike h ForAny ls = refl
alike h ForUnwind ls = refl
alike h (ForSignal r j) ls = and_and (same_fields j.takes h.takes) (same_fields j.gives h.gives) (all_like h ls)

pub alike_at : (h : PlainItem) (all : List Label) (i : ℕ) (x : Label) → i < length all → x ≡ get_or all i x
    → all_like h (map arm_label (drop i all)) ≡ (is_like h (arm_label x) && all_like h (map arm_label (drop (i + 1) all)))
alike_at h all i x inside here = ap (λ ls. all_like h (map arm_label ls)) (at_drop all i x inside here) ∙ alike h (arm_label x) (map arm_label (drop (i + 1) all))

pub alike_out : (h : PlainItem) (all : List Label) (i : ℕ) → length all ≤ i → all_like h (map arm_label (drop i all)) ≡ true
unfolding all_like
alike_out h all i outside = ap (λ ls. all_like h (map arm_label ls)) (drop_all i all outside)
