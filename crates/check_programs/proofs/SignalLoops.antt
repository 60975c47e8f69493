-- Signals one after the other: what their names mean, and what they offer.
use Rattle.std.proofs.Common.{◌≡◌, ◌<◌, ◌≤◌, ◌+◌, ℕ, List, [], ◌∷◌, ◌++◌, map, drop, length, get_or, refl, sym, ap, ◌∙◌, append_assoc, arith}
use Rattle.std.specs.Prelude.{Bool, true, false, min, nat_le}
use Rattle.std.proofs.lemmas.List.{drop_all, drop_more}
use Rattle.mesa_base.specs.declared.identifier.Identifier.{Identifier}
use Rattle.mesa_types.specs.declared.faces.Item.{Item}
use Rattle.check_rules.specs.Meanings.{Signal}
use Rattle.check_rules.specs.Names.{each_means, coming}
use Rattle.interface_records.specs.PlainTypes.{PlainItem, plain_item}
use Rattle.check_rules.specs.Programs.{Offer, procedure_offer, signal_meanings, signal_offers}
use Rattle.check_rules.specs.Steps.{State}
use Rattle.check_rules.specs.Typed.{OwnSignal}
use Rattle.check_statement_lists.specs.check_jumps.proofs.Tests.{at_drop}
use Rattle.check_programs.proofs.FoundLaws.{append_nil}

is_below : (a n : ℕ) → true ≡ nat_le a n → a ≤ n
is_below a n e = grind arith

is_above : (a b n : ℕ) → false ≡ nat_le a n → min a b ≤ n → b ≤ n
is_above a b n e h = grind arith

-- what names are still to mean
abbrev pub to_mean : List Identifier → List Item → ℕ → ℕ → State → State
to_mean names items i n σ = each_means (drop i names) (signal_meanings n (map plain_item (drop i items))) σ

pub mean_at : (names : List Identifier) (items : List Item) (i n : ℕ) (x : Identifier) (h d : Item) (σ : State)
    → i < length names → x ≡ get_or names i x → i < length items → h ≡ get_or items i d
    → to_mean names items i n σ ≡ to_mean names items (i + 1) (n + 1) (coming x.name (Signal (OwnSignal n) (plain_item h)) σ)
unfolding each_means signal_meanings
mean_at names items i n x h d σ inside here among item =
    ap (λ xs. each_means xs (signal_meanings n (map plain_item (drop i items))) σ) (at_drop names i x inside here)
    ∙ ap (λ is. each_means (x ∷ drop (i + 1) names) (signal_meanings n (map plain_item is)) σ) (drop_more items i d among ∙ ap (λ g. g ∷ drop (i + 1) items) (sym item))

pub mean_out : (names : List Identifier) (items : List Item) (i n : ℕ) (σ : State) → min (length names) (length items) ≤ i → to_mean names items i n σ ≡ σ
unfolding each_means signal_meanings
mean_out names items i n σ outside = by_test (nat_le (length names) i) refl
  where
    names_out : length names ≤ i → to_mean names items i n σ ≡ σ
    names_out h = ap (λ xs. each_means xs (signal_meanings n (map plain_item (drop i items))) σ) (drop_all i names h)

    none : (xs : List Identifier) → each_means xs [] σ ≡ σ
    none [] = refl
    none (x ∷ xs) = refl

    items_out : length items ≤ i → to_mean names items i n σ ≡ σ
    items_out h = ap (λ is. each_means (drop i names) (signal_meanings n (map plain_item is)) σ) (drop_all i items h) ∙ none (drop i names)

    by_test : (t : Bool) → t ≡ nat_le (length names) i → to_mean names items i n σ ≡ σ
    by_test true e = names_out (is_below (length names) i e)
    by_test false e = items_out (is_above (length names) (length items) i e outside)

-- what is offered, and what is still to be offered
abbrev pub to_offer : List Offer → List Identifier → List Item → ℕ → ℕ → List Offer
to_offer done names items i n = done ++ signal_offers n (drop i names) (map plain_item (drop i items))

pub offer_at : (done : List Offer) (names : List Identifier) (items : List Item) (i n : ℕ) (x : Identifier) (h d : Item)
    → i < length names → x ≡ get_or names i x → i < length items → h ≡ get_or items i d
    → to_offer done names items i n ≡ to_offer (done ++ procedure_offer n (plain_item h) x ∷ []) names items (i + 1) (n + 1)
unfolding signal_offers
offer_at done names items i n x h d inside here among item =
    ap (λ xs. done ++ signal_offers n xs (map plain_item (drop i items))) (at_drop names i x inside here)
    ∙ ap (λ is. done ++ signal_offers n (x ∷ drop (i + 1) names) (map plain_item is)) (drop_more items i d among ∙ ap (λ g. g ∷ drop (i + 1) items) (sym item))
    ∙ sym (append_assoc done (procedure_offer n (plain_item h) x ∷ []) (signal_offers (n + 1) (drop (i + 1) names) (map plain_item (drop (i + 1) items))))

pub offer_out : (done : List Offer) (names : List Identifier) (items : List Item) (i n : ℕ) → min (length names) (length items) ≤ i
    → to_offer done names items i n ≡ done
unfolding signal_offers
offer_out done names items i n outside = ap (λ os. done ++ os) (by_test (nat_le (length names) i) refl) ∙ append_nil done
  where
    no_names : (is : List PlainItem) → signal_offers n [] is ≡ []
    no_names [] = refl
    no_names (i ∷ is) = refl

    no_items : (xs : List Identifier) → signal_offers n xs [] ≡ []
    no_items [] = refl
    no_items (x ∷ xs) = refl

    by_test : (t : Bool) → t ≡ nat_le (length names) i → signal_offers n (drop i names) (map plain_item (drop i items)) ≡ []
    by_test true e = ap (λ xs. signal_offers n xs (map plain_item (drop i items))) (drop_all i names (is_below (length names) i e)) ∙ no_names (map plain_item (drop i items))
    by_test false e = ap (λ is. signal_offers n (drop i names) (map plain_item is)) (drop_all i items (is_above (length names) (length items) i e outside)) ∙ no_items (drop i names)
