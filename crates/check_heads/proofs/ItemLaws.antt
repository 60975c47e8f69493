-- Names with their meanings, one after the other.
use Rattle.std.proofs.Common.{◌≡◌, ◌<◌, ◌≤◌, ◌+◌, ℕ, List, [], ◌∷◌, ◌++◌, map, take, drop, length, get_or, Ok, refl, sym, ap, ◌∙◌}
use Rattle.std.proofs.lemmas.List.{drop_all, take_more, take_all, map-append}
use Rattle.mesa_base.specs.declared.identifier.Identifier.{Identifier}
use Rattle.mesa_types.specs.declared.faces.Item.{Item}
use Rattle.mesa_types.specs.declared.faces.ItemKind.{ItemKind}
use Rattle.check_rules.specs.Definitions.{item_meaning}
use Rattle.check_rules.specs.Meanings.{Meaning}
use Rattle.check_rules.specs.Names.{coming, each_means, settle, shown}
use Rattle.interface_records.specs.PlainTypes.{plain_item}
use Rattle.check_rules.specs.Programs.{Heading, named_item}
use Rattle.check_rules.specs.Steps.{State, and_then}
use Rattle.check_heads.specs.Forms.{item_names, items}
use Rattle.check_jumps.proofs.Tests.{at_drop}

map_map : {A B C : Type 0} (f : A → B) (g : B → C) (xs : List A) → map g (map f xs) ≡ map (λ x. g (f x)) xs
map_map f g [] = refl
map_map f g (x ∷ xs) = ap (λ ys. g (f x) ∷ ys) (map_map f g xs)

module _ {B : Type 0} (f : Identifier → B) (g : B → Meaning) where
  -- these names mean what is made of them
  unfoldable pub all_mean : List Identifier → State → State
  all_mean xs σ = each_means xs (map g (map f xs)) σ

  pub mean_at : (all : List Identifier) (i : ℕ) (x : Identifier) (σ : State) → i < length all → x ≡ get_or all i x
      → all_mean (drop i all) σ ≡ all_mean (drop (i + 1) all) (coming x.name (g (f x)) σ)
  unfolding all_mean each_means
  mean_at all i x σ inside here = ap (λ xs. each_means xs (map g (map f xs)) σ) (at_drop all i x inside here)

  pub mean_out : (all : List Identifier) (i : ℕ) (σ : State) → length all ≤ i → all_mean (drop i all) σ ≡ σ
  unfolding all_mean each_means
  mean_out all i σ outside = ap (λ xs. each_means xs (map g (map f xs)) σ) (drop_all i all outside)

  pub settled : (xs : List Identifier) (σ : State) → settle xs (map g (map f xs)) σ ≡ Ok (tt, shown (all_mean xs σ))
  unfolding all_mean settle
  settled xs σ = refl

-- ---- one more of those that are made

pub map_more : {A B C : Type 0} (f : A → B) (view : C → B) (all : List A) (done : List C) (i : ℕ) (x : A) (y : C) → i < length all → x ≡ get_or all i x
    → map view done ≡ map f (take i all) → view y ≡ f x → map view (done ++ y ∷ []) ≡ map f (take (i + 1) all)
map_more f view all done i x y inside here so_far one =
    map-append view done (y ∷ [])
    ∙ ap (λ ys. ys ++ view y ∷ []) so_far
    ∙ ap (λ b. map f (take i all) ++ b ∷ []) one
    ∙ sym (map-append f (take i all) (x ∷ []))
    ∙ ap (map f) (ap (λ z. take i all ++ z ∷ []) here ∙ sym (take_more all i x inside))

pub map_done : {A B C : Type 0} (f : A → B) (view : C → B) (all : List A) (done : List C) (i : ℕ) → length all ≤ i
    → map view done ≡ map f (take i all) → map view done ≡ map f all
map_done f view all done i outside so_far = so_far ∙ ap (map f) (take_all i all outside)

-- all items are made, and their names are shown
pub items_end : (kind : ItemKind) (h : Heading) (xs : List Identifier) (done : List Item) (i : ℕ) (σ τ υ : State) → length xs ≤ i
    → map plain_item done ≡ map (named_item kind h) (take i xs)
    → all_mean (named_item kind h) (item_meaning kind) xs σ ≡ all_mean (named_item kind h) (item_meaning kind) (drop i xs) τ → υ ≡ shown τ
    → item_names kind xs h σ ≡ Ok (map plain_item done, υ)
unfolding item_names
items_end kind h xs done i σ τ υ outside made means seen =
    ap (λ m. and_then m (λ r. Ok (items kind h xs, r.1))) (settled (named_item kind h) (item_meaning kind) xs σ)
    ∙ ap (λ s. Ok (items kind h xs, shown s)) (means ∙ mean_out (named_item kind h) (item_meaning kind) xs i τ outside)
    ∙ ap (λ s. Ok (items kind h xs, s)) (sym seen)
    ∙ ap (λ is. Ok (is, υ)) (sym (map_done (named_item kind h) plain_item xs done i outside made))

-- one item more
pub item_more : (kind : ItemKind) (h : Heading) (xs : List Identifier) (i : ℕ) (x : Identifier) (σ τ υ : State) → i < length xs → x ≡ get_or xs i x
    → all_mean (named_item kind h) (item_meaning kind) xs σ ≡ all_mean (named_item kind h) (item_meaning kind) (drop i xs) τ
    → υ ≡ coming x.name (item_meaning kind (named_item kind h x)) τ
    → all_mean (named_item kind h) (item_meaning kind) xs σ ≡ all_mean (named_item kind h) (item_meaning kind) (drop (i + 1) xs) υ
item_more kind h xs i x σ τ υ inside here means e =
    means ∙ mean_at (named_item kind h) (item_meaning kind) xs i x τ inside here
    ∙ ap (all_mean (named_item kind h) (item_meaning kind) (drop (i + 1) xs)) (sym e)

-- one thing more that is made of a name
pub put_more : {A B C : Type 0} (f : A → B) (view : C → B) (all : List A) (done more : List C) (i : ℕ) (x : A) (y : C) → i < length all → x ≡ get_or all i x
    → map view done ≡ map f (take i all) → more ≡ done ++ y ∷ [] → view y ≡ f x → map view more ≡ map f (take (i + 1) all)
put_more f view all done more i x y inside here so_far put one = ap (map view) put ∙ map_more f view all done i x y inside here so_far one
