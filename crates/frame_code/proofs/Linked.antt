-- One used item more, and the items of one import more.
use Rattle.std.proofs.Common.{◌≡◌, refl, ℕ, ◌+◌, ◌<◌, ◌≤◌, ⊎_elim, List, [], ◌∷◌, ◌++◌, length, map, take, get_or, All, Some, None, sym, ap, subst, ◌∙◌, append-nil, append_assoc}
use Rattle.std.specs.Prelude.{slice_get}
use Rattle.std.proofs.lemmas.List.{map-append, take_all, take_more}
use Rattle.std.proofs.lemmas.Option.{slice_get_cases, slice_get-get_or}
use Rattle.mesa_types.specs.declared.faces.Import.{Import}
use Rattle.mesa_types.specs.declared.faces.Item.{Item}
use Rattle.mesa_types.specs.Links.{items_used, links_of}
use Rattle.mesa_types.specs.Sound.{HeadIn, FaceIn, ImportIn}
use Rattle.code_forms.specs.declared.module_code.CodeLink.{CodeLink}
use Rattle.code_rules.specs.Modules.{link_code}
use Rattle.code_blocks.proofs.Linking.{used_first}

used_none : (items : List Item) (n : ℕ) (ns : List ℕ) → slice_get items n ≡ None → items_used items (n ∷ ns) ≡ items_used items ns
unfolding items_used
used_none items n ns e = rw e refl

items_more : (items : List Item) (ns : List ℕ) (n : ℕ) (x : Item) → slice_get items n ≡ Some x → items_used items (ns ++ n ∷ []) ≡ items_used items ns ++ x ∷ []
unfolding items_used
items_more items [] n x e = used_first items n [] x e
items_more items (m ∷ ms) n x e = ⊎_elim
    (λ y. used_first items m (ms ++ n ∷ []) y.0 y.2 ∙ ap (λ l. y.0 ∷ l) (items_more items ms n x e) ∙ ap (λ l. l ++ x ∷ []) (sym (used_first items m ms y.0 y.2)))
    (λ y. used_none items m (ms ++ n ∷ []) y.1 ∙ items_more items ms n x e ∙ ap (λ l. l ++ x ∷ []) (sym (used_none items m ms y.1)))
    (slice_get_cases items m).1

longer : (old now new : List CodeLink) (xs ys : List Item) → now ≡ old ++ map link_code xs → new ≡ now ++ map link_code ys → new ≡ old ++ map link_code (xs ++ ys)
longer old now new xs ys before grown =
    grown ∙ ap (λ l. l ++ map link_code ys) before ∙ append_assoc old (map link_code xs) (map link_code ys)
    ∙ ap (λ l. old ++ l) (sym (map-append link_code xs ys))

-- one used item more
pub one_more : (items : List Item) (used : List ℕ) (i d : ℕ) (x : Item) (old now new : List CodeLink) → i < length used → get_or used i d < length items
    → get_or items (get_or used i d) x ≡ x → new ≡ now ++ link_code x ∷ [] → now ≡ old ++ map link_code (items_used items (take i used))
    → new ≡ old ++ map link_code (items_used items (take (i + 1) used))
one_more items used i d x old now new less there item grown before =
    let n = get_or used i d in
    longer old now new (items_used items (take i used)) (x ∷ []) before grown
    ∙ ap (λ l. old ++ map link_code l) (sym (items_more items (take i used) n x (slice_get-get_or items n x there ∙ ap Some item)))
    ∙ ap (λ l. old ++ map link_code (items_used items l)) (sym (take_more used i d less))

pub none_yet : (items : List Item) (old : List CodeLink) → old ≡ old ++ map link_code (items_used items [])
unfolding items_used
none_yet items old = sym (append-nil old)

pub used_whole : (m : Import) (items : List Item) (used : List ℕ) → items ≡ m.face.items → used ≡ m.used → (i : ℕ) (old now : List CodeLink) → length used ≤ i
    → now ≡ old ++ map link_code (items_used items (take i used)) → now ≡ old ++ map link_code (items_used m.face.items m.used)
used_whole m items used same own i old now l h =
    h ∙ ap (λ (x : List ℕ). old ++ map link_code (items_used items x)) (take_all i used l ∙ own)
    ∙ ap (λ (x : List Item). old ++ map link_code (items_used x m.used)) same

-- the numbers of the used items of an import are in range, and their heads are sound

pub within : (m : Import) (items : List Item) (used : List ℕ) → items ≡ m.face.items → used ≡ m.used → ImportIn m
    → (i : ℕ) → i < length used → get_or used i 0 < length items
unfolding ImportIn
within m items used same own h i less =
    subst (λ (l : List Item). get_or used i 0 < length l) (sym same)
    (subst (λ (l : List ℕ). (k : ℕ) (d : ℕ) → k < length l → get_or l k d < length m.face.items) (sym own) h.2 i 0 less)

pub head_at : (m : Import) (items : List Item) (n : ℕ) (x : Item) → items ≡ m.face.items → ImportIn m → n < length items → x ≡ get_or items n x → HeadIn x
unfolding ImportIn FaceIn
head_at m items n x same h less is =
    let heads : All HeadIn items = subst (λ (l : List Item). All HeadIn l) (sym same) h.0 in
    subst HeadIn (sym is) (heads n x less)

-- one import more

links_more : (ms : List Import) (m : Import) → links_of (ms ++ m ∷ []) ≡ links_of ms ++ items_used m.face.items m.used
unfolding links_of
links_more [] m = append-nil (items_used m.face.items m.used)
links_more (x ∷ ms) m =
    ap (λ l. items_used x.face.items x.used ++ l) (links_more ms m) ∙ sym (append_assoc (items_used x.face.items x.used) (links_of ms) (items_used m.face.items m.used))

pub no_import : [] ≡ map link_code (links_of [])
unfolding links_of
no_import = refl

pub import_more : (imports : List Import) (i : ℕ) (m : Import) (now new : List CodeLink) → i < length imports → get_or imports i m ≡ m
    → new ≡ now ++ map link_code (items_used m.face.items m.used) → now ≡ map link_code (links_of (take i imports))
    → new ≡ map link_code (links_of (take (i + 1) imports))
import_more imports i m now new less is grown before =
    longer [] now new (links_of (take i imports)) (items_used m.face.items m.used) before grown
    ∙ ap (map link_code) (sym (links_more (take i imports) m))
    ∙ ap (λ l. map link_code (links_of l)) (ap (λ k. take i imports ++ k ∷ []) (sym is) ∙ sym (take_more imports i m less))

pub import_there : (imports : List Import) (i : ℕ) (m : Import) → All ImportIn imports → i < length imports → m ≡ get_or imports i m → ImportIn m
import_there imports i m sound less is = subst ImportIn (sym is) (sound i m less)

pub import_whole : (imports : List Import) (i : ℕ) (now : List CodeLink) → length imports ≤ i → now ≡ map link_code (links_of (take i imports))
    → now ≡ map link_code (links_of imports)
import_whole imports i now l h = h ∙ ap (λ (x : List Import). map link_code (links_of x)) (take_all i imports l)
