-- The index has under each key the first two of all who offer its item.
use Rattle.std.proofs.Common.{◌≡◌, ℕ, Bool, true, false, not, ◌&&◌, ◌||◌, List, [], ◌∷◌, ◌++◌, map, filter, flat_map, nat_eq, bytes_eq, Option, Some, None, slice_get, refl, sym, ap, ◌∙◌, append-nil, append_assoc, if◌then◌else◌}
use Rattle.mesa_types.specs.declared.faces.Export.{Export}
use Rattle.mesa_types.specs.declared.faces.Pair.{Pair}
use Rattle.object_files.specs.declared.image.Image.{Image}
use Rattle.object_files.specs.declared.image.Offer.{Offer}
use Rattle.config_rules.specs.Exporters.{is_named, is_given}
use Rattle.config_rules.specs.Resolves.{given_for}
use Rattle.loader_rules.specs.Exporters.{Offered, export_of, offered_as, offered_by, all_offered}
use Rattle.loader_rules.specs.Parts.{Part, number, instances_before, parts_behind}
use Rattle.loader_rules.proofs.Parting.{flat_parts}
use Rattle.link_tables.specs.declared.key.EntryKey.{EntryKey}
use Rattle.load_checks.specs.Givers.{Giver, Firsts, first_two, noted, giver_of, is_under, givers, offered_at}
use Rattle.load_checks.specs.Index.{noted_in, giver_by, fits, noted_pairs, noted_offered, noted_offers}
use Rattle.load_checks.specs.Turns.{after}

two_noted : (gs : List Giver) (g : Giver) → first_two (gs ++ g ∷ []) ≡ noted (first_two gs) g
two_noted [] g = refl
two_noted (a ∷ []) g = refl
two_noted (a ∷ b ∷ gs) g = refl

-- ---- the pairs of an export

by_pairs : (k : EntryKey) (o : Offered) (ps : List Pair) (seen : Bool) (f : Firsts)
    → noted_pairs k o ps seen f ≡ noted_in (fits k o && (not seen && is_given k.item o.gives.face ps)) f (giver_by o (given_for k.item o.gives.face ps))
unfolding is_given given_for
by_pairs k o [] seen f = none (fits k o) seen
  where
    none : (a b : Bool) → f ≡ noted_in (a && (not b && false)) f (giver_by o 0)
    none false b = refl
    none true true = refl
    none true false = refl
by_pairs k o (p ∷ ps) seen f =
    by (is_given k.item o.gives.face ps) (given_for k.item o.gives.face ps) (fits k o) seen (is_named k.item (slice_get o.gives.face.items p.item)) (λ b g. noted_pairs k o ps b g)
    (λ b g. by_pairs k o ps b g)
  where
    by : (later : Bool) (m : ℕ) (fit s here : Bool) (rest : Bool → Firsts → Firsts) → ((b : Bool) (g : Firsts) → rest b g ≡ noted_in (fit && (not b && later)) g (giver_by o m))
        → rest (s || here) (noted_in (fit && (not s && here)) f (giver_by o p.number)) ≡ noted_in (fit && (not s && (here || later))) f (giver_by o (if here then p.number else m))
    by later m false s here rest again = again (s || here) f
    by later m true true here rest again = again true f
    by later m true false true rest again = again true (noted f (giver_by o p.number))
    by later m true false false rest again = again false f

regrouped : (a b c : Bool) → (a && c) && (true && b) ≡ (a && b) && c
regrouped false b c = refl
regrouped true true true = refl
regrouped true true false = refl
regrouped true false true = refl
regrouped true false false = refl

by_export : (k : EntryKey) (o : Offered) (f : Firsts) → noted_pairs k o o.gives.given false f ≡ noted_in (is_under k o) f (giver_of k.item o)
by_export k o f =
    by_pairs k o o.gives.given false f
    ∙ ap (λ b. noted_in b f (giver_of k.item o)) (regrouped (bytes_eq o.record_name k.face) (is_given k.item o.gives.face o.gives.given) (nat_eq o.gives.face.stamp k.stamp))

-- ---- export by export

givers_append : (k : EntryKey) (xs ys : List Offered) → givers k (xs ++ ys) ≡ givers k xs ++ givers k ys
givers_append k [] ys = refl
givers_append k (x ∷ xs) ys = by (is_under k x) (givers_append k xs ys)
  where
    by : (b : Bool) → givers k (xs ++ ys) ≡ givers k xs ++ givers k ys
        → map (giver_of k.item) (if b then x ∷ filter (is_under k) (xs ++ ys) else filter (is_under k) (xs ++ ys)) ≡ map (giver_of k.item) (if b then x ∷ filter (is_under k) xs else filter (is_under k) xs) ++ givers k ys
    by true h = ap (λ l. giver_of k.item x ∷ l) h
    by false h = h

one_more : (k : EntryKey) (o : Offered) (all : List Offered) → noted_in (is_under k o) (first_two (givers k all)) (giver_of k.item o) ≡ first_two (givers k (all ++ o ∷ []))
one_more k o all = by (is_under k o) ∙ ap first_two (sym (givers_append k all (o ∷ [])))
  where
    by : (b : Bool) → noted_in b (first_two (givers k all)) (giver_of k.item o) ≡ first_two (givers k all ++ map (giver_of k.item) (if b then o ∷ [] else []))
    by true = sym (two_noted (givers k all) (giver_of k.item o))
    by false = ap first_two (sym (append-nil (givers k all)))

by_offered : (k : EntryKey) (os all : List Offered) → noted_offered k os (first_two (givers k all)) ≡ first_two (givers k (all ++ os))
by_offered k [] all = ap (λ l. first_two (givers k l)) (sym (append-nil all))
by_offered k (o ∷ os) all =
    ap (noted_offered k os) (by_export k o (first_two (givers k all)) ∙ one_more k o all)
    ∙ by_offered k os (all ++ o ∷ [])
    ∙ ap (λ l. first_two (givers k l)) (append_assoc all (o ∷ []) os)

-- ---- entry by entry, and image by image

by_offers : (k : EntryKey) (n b : ℕ) (i : Image) (os : List Offer) (all : List Offered)
    → noted_offers k n b i os (first_two (givers k all)) ≡ first_two (givers k (all ++ flat_map (λ (o : Offer). offered_at n b i o (export_of i o)) os))
by_offers k n b i [] all = ap (λ l. first_two (givers k l)) (sym (append-nil all))
by_offers k n b i (o ∷ os) all =
    let here = offered_at n b i o (export_of i o) in
    ap (noted_offers k n b i os) (by_offered k here all)
    ∙ by_offers k n b i os (all ++ here)
    ∙ ap (λ l. first_two (givers k l)) (append_assoc all here (flat_map (λ (o : Offer). offered_at n b i o (export_of i o)) os))

same_offered : (p : Part) (o : Offer) (x : Option Export) → offered_at (number p) (instances_before p) p.image o x ≡ offered_as p o x
same_offered p o None = refl
same_offered p o (Some x) = refl

offered_after : (p : Part) → all_offered p.before ++ offered_by p ≡ all_offered (after p)
unfolding all_offered parts_behind
offered_after p = sym (flat_parts offered_by p.before (p.image ∷ []) ∙ ap (λ l. all_offered p.before ++ l) (append-nil (offered_by p)))

-- what is noted of the next image
pub holds_more : (k : EntryKey) (p : Part) (n b : ℕ) → n ≡ number p → b ≡ instances_before p
    → noted_offers k n b p.image p.image.offered (first_two (givers k (all_offered p.before))) ≡ first_two (givers k (all_offered (after p)))
holds_more k p n b is_number is_before =
    (λ j. noted_offers k (is_number j) (is_before j) p.image p.image.offered (first_two (givers k (all_offered p.before))))
    ∙ by_offers k (number p) (instances_before p) p.image p.image.offered (all_offered p.before)
    ∙ (λ j. first_two (givers k (all_offered p.before ++ flat_map (λ (o : Offer). same_offered p o (export_of p.image o) j) p.image.offered)))
    ∙ ap (λ l. first_two (givers k l)) (offered_after p)
