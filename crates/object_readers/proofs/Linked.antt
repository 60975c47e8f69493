-- One used item more, and the items of one import more.
use Rattle.std.proofs.Common.{◌≡◌, refl, ℕ, ◌+◌, ◌<◌, ◌≤◌, List, [], ◌∷◌, ◌++◌, length, map, take, get_or, Option, Some, None, sym, ap, ◌∙◌, append-nil, append_assoc}
use Rattle.std.specs.Prelude.{slice_get}
use Rattle.std.proofs.lemmas.List.{map-append, take_all, take_more}
use Rattle.mesa_types.specs.declared.faces.Import.{Import}
use Rattle.mesa_types.specs.declared.faces.Item.{Item}
use Rattle.mesa_types.specs.Links.{items_used, links_of}
use Rattle.code_forms.specs.declared.module_code.CodeLink.{CodeLink}
use Rattle.object_readers.specs.Rows.{items_at}
use Rattle.object_rules.specs.Parts.{link_code}

pub used_first : (items : List Item) (n : ℕ) (ns : List ℕ) (o : Option Item) → slice_get items n ≡ o → items_used items (n ∷ ns) ≡ items_at o ++ items_used items ns
unfolding items_used
used_first items n ns None e = rw e refl
used_first items n ns (Some i) e = rw e refl

at_none : (items is : List Item) → is ++ items_used items [] ≡ items_used items [] ++ is
unfolding items_used
at_none items is = append-nil is

used_more : (items : List Item) (ns : List ℕ) (n : ℕ) → items_used items (ns ++ n ∷ []) ≡ items_used items ns ++ items_at (slice_get items n)
used_more items [] n = used_first items n [] (slice_get items n) refl ∙ at_none items (items_at (slice_get items n))
used_more items (m ∷ ms) n =
    used_first items m (ms ++ n ∷ []) (slice_get items m) refl ∙ ap (λ l. items_at (slice_get items m) ++ l) (used_more items ms n)
    ∙ sym (append_assoc (items_at (slice_get items m)) (items_used items ms) (items_at (slice_get items n)))
    ∙ ap (λ l. l ++ items_at (slice_get items n)) (sym (used_first items m ms (slice_get items m) refl))

longer : (old now new : List CodeLink) (xs ys : List Item) → now ≡ old ++ map link_code xs → new ≡ now ++ map link_code ys → new ≡ old ++ map link_code (xs ++ ys)
longer old now new xs ys before grown =
    grown ∙ ap (λ l. l ++ map link_code ys) before ∙ append_assoc old (map link_code xs) (map link_code ys)
    ∙ ap (λ l. old ++ l) (sym (map-append link_code xs ys))

-- one used item more
pub one_more : (items : List Item) (used : List ℕ) (i d : ℕ) (o : Option Item) (old now new : List CodeLink) → i < length used → o ≡ slice_get items (get_or used i d)
    → new ≡ now ++ map link_code (items_at o) → now ≡ old ++ map link_code (items_used items (take i used))
    → new ≡ old ++ map link_code (items_used items (take (i + 1) used))
one_more items used i d o old now new less item grown before =
    let n = get_or used i d in
    longer old now new (items_used items (take i used)) (items_at (slice_get items n)) before (grown ∙ ap (λ k. now ++ map link_code (items_at k)) item)
    ∙ ap (λ l. old ++ map link_code l) (sym (used_more items (take i used) n))
    ∙ ap (λ l. old ++ map link_code (items_used items l)) (sym (take_more used i d less))

pub none_yet : (items : List Item) (old : List CodeLink) → old ≡ old ++ map link_code (items_used items [])
unfolding items_used
none_yet items old = sym (append-nil old)

pub used_whole : (items : List Item) (used own : List ℕ) → used ≡ own → (i : ℕ) (old now : List CodeLink) → length used ≤ i
    → now ≡ old ++ map link_code (items_used items (take i used)) → now ≡ old ++ map link_code (items_used items own)
used_whole items used own same i old now l h = h ∙ ap (λ (x : List ℕ). old ++ map link_code (items_used items x)) (take_all i used l ∙ same)

-- one import more

links_more : (ms : List Import) (m : Import) → links_of (ms ++ m ∷ []) ≡ links_of ms ++ items_used m.face.items m.used
unfolding links_of
links_more [] m = append-nil (items_used m.face.items m.used)
links_more (x ∷ ms) m =
    ap (λ l. items_used x.face.items x.used ++ l) (links_more ms m) ∙ sym (append_assoc (items_used x.face.items x.used) (links_of ms) (items_used m.face.items m.used))

pub no_import : [] ≡ map link_code (links_of [])
unfolding links_of
no_import = refl

pub import_more : (imports : List Import) (i : ℕ) (m : Import) (now new : List CodeLink) → i < length imports → get_or imports i m ≡ m
    → new ≡ now ++ map link_code (items_used m.face.items m.used) → now ≡ map link_code (links_of (take i imports))
    → new ≡ map link_code (links_of (take (i + 1) imports))
import_more imports i m now new less is grown before =
    longer [] now new (links_of (take i imports)) (items_used m.face.items m.used) before grown
    ∙ ap (map link_code) (sym (links_more (take i imports) m))
    ∙ ap (λ l. map link_code (links_of l)) (ap (λ k. take i imports ++ k ∷ []) (sym is) ∙ sym (take_more imports i m less))

pub import_whole : (imports : List Import) (i : ℕ) (now : List CodeLink) → length imports ≤ i → now ≡ map link_code (links_of (take i imports))
    → now ≡ map link_code (links_of imports)
import_whole imports i now l h = h ∙ ap (λ x. map link_code (links_of x)) (take_all i imports l)
