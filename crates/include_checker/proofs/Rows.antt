-- What a text names, once each, is found as in the whole list of what it names.
use Rattle.std.proofs.Common.{◌≡◌, ℕ, zero, suc, ◌+◌, ◌<◌, ◌≤◌, Bool, true, false, not, ◌&&◌, cond, List, [], ◌∷◌, ◌++◌, map, Option, None, Some, length, find, take, drop, get_or, nat_eq, nat_lt, bytes_eq, codes, refl, sym, ap, ◌∙◌, subst, arith}
use Rattle.std.specs.List.{position, prefix_len, filter_map, cons_option, AllZip}
use Rattle.std.proofs.lemmas.Bool.{both_ways, eqb-true, ltb-true}
use Rattle.std.proofs.lemmas.List.{append-nil, length-map, map-append, take_more, take_all, drop_more, drop_all}
use Rattle.std.proofs.lemmas.List.Elements.{AllZip-push, length_all_zip}
use Rattle.std.proofs.lemmas.Option.{none-some, same_Some, cond_some}
use Rattle.syntax_trees.specs.declared.syntax.DirectoryItem.{DirectoryItem}
use Rattle.include_rules.specs.declared.entries.TextEntry.{TextEntry}
use Rattle.include_rules.specs.Naming.{from_texts, number_of, named, naming, named_by, is_left}
use Rattle.include_rules.specs.Plans.{most_texts}
use Rattle.include_checker.specs.Graphs.{IsGraph, LooksAs}
use Rattle.include_checker.specs.Named.{number_in, number_of_item, rows_of, FindsAs, Adds}

-- ---- a number that stands before is not found behind

skipped : (p : ℕ → Bool) (xs ys : List ℕ) (k : ℕ) → p k ≡ false → find p (xs ++ ys) ≡ find p (xs ++ k ∷ ys)
skipped p [] ys k fails = sym (ap (λ b. cond b (Some k) (find p ys)) fails)
skipped p (x ∷ xs) ys k fails = ap (λ o. cond (p x) (Some x) o) (skipped p xs ys k fails)

pub twice : (p : ℕ → Bool) (xs ys : List ℕ) (k : ℕ) → is_left xs k ≡ false → find p (xs ++ ys) ≡ find p (xs ++ k ∷ ys)
unfolding is_left
twice p [] ys k there = absurd (both_ways true there refl)
twice p (x ∷ xs) ys k there =
    let here : nat_eq x k ≡ true → find p (x ∷ xs ++ ys) ≡ find p (x ∷ xs ++ k ∷ ys) = λ e.
    let passes : (b : Bool) → p x ≡ b → cond b (Some x) (find p (xs ++ ys)) ≡ cond b (Some x) (find p (xs ++ k ∷ ys)) = λ b.
    elim b as (λ b. p x ≡ b → cond b (Some x) (find p (xs ++ ys)) ≡ cond b (Some x) (find p (xs ++ k ∷ ys))) [
      | true ↦ λ yes. refl
      | false ↦ λ fails. skipped p xs ys k (ap p (sym (eqb-true x k e)) ∙ fails)
    ] in
    passes (p x) refl in
    let by : (b : Bool) → nat_eq x k ≡ b → (not b && is_left xs k) ≡ false → find p (x ∷ xs ++ ys) ≡ find p (x ∷ xs ++ k ∷ ys) = λ b.
    elim b as (λ b. nat_eq x k ≡ b → (not b && is_left xs k) ≡ false → find p (x ∷ xs ++ ys) ≡ find p (x ∷ xs ++ k ∷ ys)) [
      | true ↦ λ same behind. here same
      | false ↦ λ other behind. ap (λ o. cond (p x) (Some x) o) (twice p xs ys k behind)
    ] in
    by (nat_eq x k) refl there

pub stands : (row seen : List ℕ) (number : Option ℕ) (k : ℕ) → seen ≡ row → number ≡ Some k → is_left seen k ≡ false → Adds row row number
stands row seen number k same is there =
    let P : Option ℕ → Type 0 = λ o. Adds row row o in
    let Q : List ℕ → Type 0 = λ t. is_left t k ≡ false in
    let it : Adds row row (Some k) = record { before = λ rest. record { found = λ p. twice p row rest k (subst Q same there) } } in
    subst P (sym is) it

-- ---- the row of a DIRECTORY

pub row_more : (f : DirectoryItem → Option ℕ) (row new : List ℕ) (items : List DirectoryItem) (at : ℕ) (item d : DirectoryItem) (number : Option ℕ) (all : List ℕ)
    → at < length items → item ≡ get_or items at d → number ≡ f item → Adds row new number → FindsAs (row ++ filter_map f (drop at items)) all
    → FindsAs (new ++ filter_map f (drop (at + 1) items)) all
row_more f row new items at item d number all below here is adds so_far =
    let rest = filter_map f (drop (at + 1) items) in
    let next : cons_option number rest ≡ filter_map f (drop at items) =
    ap (λ o. cons_option o rest) (is ∙ ap f here) ∙ ap (filter_map f) (sym (drop_more items at d below)) in
    record { found = λ p. (adds.before rest).found p ∙ ap (λ ns. find p (row ++ ns)) next ∙ so_far.found p }

pub row_ends : (f : DirectoryItem → Option ℕ) (row : List ℕ) (items : List DirectoryItem) (at : ℕ) (all : List ℕ) → length items ≤ at
    → FindsAs (row ++ filter_map f (drop at items)) all → FindsAs row all
row_ends f row items at all past so_far =
    let none : row ≡ row ++ filter_map f (drop at items) = sym (append-nil row) ∙ ap (λ ds. row ++ filter_map f ds) (sym (drop_all at items past)) in
    record { found = λ p. ap (find p) none ∙ so_far.found p }

pub row_begins : (row all : List ℕ) → row ≡ [] → FindsAs (row ++ all) all
row_begins row all is = record { found = λ p. ap (λ r. find p (r ++ all)) is }

-- ---- by the bases of the texts

prefix_len-map : {X Y : Type 0} (p : Y → Bool) (f : X → Y) (xs : List X) → prefix_len p (map f xs) ≡ prefix_len (λ x. p (f x)) xs
prefix_len-map p f [] = refl
prefix_len-map p f (x ∷ xs) = ap (λ n. cond (p (f x)) (1 + n) 0) (prefix_len-map p f xs)

abbrev within : ℕ → ℕ → Option ℕ
within n m = cond (nat_lt n m) (Some n) None

position-map : {X Y : Type 0} (p : Y → Bool) (f : X → Y) (xs : List X) → position p (map f xs) ≡ position (λ x. p (f x)) xs
position-map p f xs =
    ap (λ n. within n (length (map f xs))) (prefix_len-map (λ y. not (p y)) f xs) ∙ ap (within (prefix_len (λ x. not (p (f x))) xs)) (length-map xs f)

abbrev bases_of : List TextEntry → List (List ℕ)
bases_of texts = map (λ (t : TextEntry). t.base) texts

pub names_alike : (texts : List TextEntry) (ds : List DirectoryItem) → filter_map (number_of_item (bases_of texts)) ds ≡ filter_map (number_of texts) (from_texts ds)
unfolding from_texts
names_alike texts [] = refl
names_alike texts (d ∷ ds) =
    let rest = names_alike texts ds in
    let bases = bases_of texts in
    let numbers = filter_map (number_of_item bases) ds in
    elim (bytes_eq d.name.name (codes "IODefs")) as
    (λ b. cons_option (cond b None (number_in bases d.file)) numbers ≡ filter_map (number_of texts) (cond b (from_texts ds) (d.file ∷ from_texts ds))) [
      | true ↦ rest
      | false ↦ ap (λ o. cons_option o numbers) (position-map (λ b. bytes_eq b d.file) (λ (t : TextEntry). t.base) texts) ∙ ap (cons_option (number_of texts d.file)) rest
    ]

-- ---- each is the number of a text

position_below : {X : Type 0} (p : X → Bool) (xs : List X) (i : ℕ) → position p xs ≡ Some i → i < length xs
position_below p xs i is =
    let n = prefix_len (λ x. not (p x)) xs in
    let parts = cond_some (nat_lt n (length xs)) n i is in
    let P : ℕ → Type 0 = λ k. k < length xs in
    subst P parts.1 (ltb-true n (length xs) parts.0)

one_below : (texts : List TextEntry) (p : ℕ → Bool) (rest : List ℕ) (j : ℕ) (o : Option ℕ) (base : List ℕ) → number_of texts base ≡ o
    → (find p rest ≡ Some j → j < length texts) → find p (cons_option o rest) ≡ Some j → j < length texts
one_below texts p rest j None base is behind = behind
one_below texts p rest j (Some i) base is behind =
    elim (p i) as (λ b. cond b (Some i) (find p rest) ≡ Some j → j < length texts) [
      | true ↦ λ same.
          let P : ℕ → Type 0 = λ n. n < length texts in
          subst P (same_Some i j same) (position_below (λ (t : TextEntry). bytes_eq t.base base) texts i is)
      | false ↦ behind
    ]

of_texts : (texts : List TextEntry) (p : ℕ → Bool) (bases : List (List ℕ)) (j : ℕ) → find p (filter_map (number_of texts) bases) ≡ Some j → j < length texts
of_texts texts p [] j is = absurd (none-some j is)
of_texts texts p (base ∷ bases) j is = one_below texts p (filter_map (number_of texts) bases) j (number_of texts base) base refl (of_texts texts p bases j) is

some_text : (texts some : List TextEntry) (p : ℕ → Bool) (k j : ℕ) → find p (named_by (map (named texts) some) k) ≡ Some j → j < length texts
unfolding named_by
some_text texts [] p k j is = absurd (none-some j is)
some_text texts (t ∷ some) p zero j is = of_texts texts p (from_texts t.module.directory) j is
some_text texts (t ∷ some) p (suc k) j is = some_text texts some p k j is

-- ---- all rows

at_each : (names others : List (List ℕ)) (p : ℕ → Bool) (k : ℕ) → AllZip FindsAs names others → find p (named_by names k) ≡ find p (named_by others k)
unfolding named_by
at_each [] [] p k are = refl
at_each [] (s ∷ others) p k are = absurd are
at_each (r ∷ names) [] p k are = absurd are
at_each (r ∷ names) (s ∷ others) p zero are = are.0.found p
at_each (r ∷ names) (s ∷ others) p (suc k) are = at_each names others p k are.1

rows_alike : (texts some : List TextEntry) → rows_of (bases_of texts) some ≡ map (named texts) some
rows_alike texts [] = refl
rows_alike texts (t ∷ some) = ap (λ r. r ∷ rows_of (bases_of texts) some) (names_alike texts t.module.directory) ∙ ap (λ rs. named texts t ∷ rs) (rows_alike texts some)

pub rows_more : (bases names more : List (List ℕ)) (texts : List TextEntry) (at : ℕ) (text d : TextEntry) (row : List ℕ) (directory : List DirectoryItem)
    → at < length texts → text ≡ get_or texts at d → directory ≡ text.module.directory → more ≡ names ++ row ∷ []
    → FindsAs row (filter_map (number_of_item bases) directory)
    → AllZip FindsAs names (rows_of bases (take at texts)) → AllZip FindsAs more (rows_of bases (take (at + 1) texts))
rows_more bases names more texts at text d row directory below here its is finds so_far =
    let f : TextEntry → List ℕ = λ t. filter_map (number_of_item bases) t.module.directory in
    let all : map f (take at texts) ++ f text ∷ [] ≡ map f (take (at + 1) texts) =
    ap (λ t. map f (take at texts) ++ f t ∷ []) here ∙ sym (map-append f (take at texts) (get_or texts at d ∷ [])) ∙ ap (map f) (sym (take_more texts at d below)) in
    let P : List (List ℕ) → Type 0 = λ rs. AllZip FindsAs rs (map f (take (at + 1) texts)) in
    let Q : List (List ℕ) → Type 0 = λ rs. AllZip FindsAs (names ++ row ∷ []) rs in
    let R : List DirectoryItem → Type 0 = λ ds. FindsAs row (filter_map (number_of_item bases) ds) in
    subst P (sym is) (subst Q all (AllZip-push FindsAs names (map f (take at texts)) row (f text) so_far (subst R its finds)))

pub rows_end : (bases names : List (List ℕ)) (texts : List TextEntry) (at : ℕ) → length texts ≤ at → AllZip FindsAs names (rows_of bases (take at texts))
    → AllZip FindsAs names (rows_of bases texts)
rows_end bases names texts at past so_far =
    let P : List TextEntry → Type 0 = λ ts. AllZip FindsAs names (rows_of bases ts) in
    subst P (take_all at texts past) so_far

pub rows_begin : (bases names : List (List ℕ)) → names ≡ [] → AllZip FindsAs names (rows_of bases [])
rows_begin bases names is = let P : List (List ℕ) → Type 0 = λ rs. AllZip FindsAs rs [] in subst P (sym is) tt

pub looks_as_naming : (texts seen again : List TextEntry) (bases names : List (List ℕ)) → seen ≡ texts → again ≡ texts → bases ≡ bases_of seen
    → AllZip FindsAs names (rows_of bases again) → LooksAs names (naming texts)
looks_as_naming texts seen again bases names same too is are =
    let P : List (List ℕ) → Type 0 = λ rs. AllZip FindsAs names rs in
    let rows : rows_of bases again ≡ naming texts = ap (λ ts. rows_of bases ts) too ∙ ap (λ bs. rows_of bs texts) (is ∙ ap bases_of same) ∙ rows_alike texts texts in
    let all = subst P rows are in
    record {
      as_long = length_all_zip FindsAs names (naming texts) all;
      same_left = λ taken k. at_each names (naming texts) (is_left taken) k all;
    }

pub is_graph : (texts : List TextEntry) (names : List (List ℕ)) → length texts ≤ most_texts → LooksAs names (naming texts) → IsGraph names
is_graph texts names few looks =
    let long : length names ≡ length texts = looks.as_long ∙ length-map texts (named texts) in
    record {
      few = omega (arith, long);
      within = λ taken k j is. omega (arith, long, some_text texts texts (is_left taken) k j (sym (looks.same_left taken k) ∙ is));
    }
