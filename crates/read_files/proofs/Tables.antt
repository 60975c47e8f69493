-- Elements whose form is told by their number; and what a module needs, by its links.
use Rattle.std.proofs.Common.{◌≡◌, ℕ, zero, suc, ◌+◌, ◌<◌, ◌≤◌, List, [], ◌∷◌, ◌++◌, length, map, Some, None, slice_get, refl, sym, ap, subst, ◌∙◌, arith}
use Rattle.std.specs.Prelude.{flat_map, option_map}
use Rattle.std.proofs.lemmas.List.{length-append, map-append}
use Rattle.std.proofs.lemmas.Option.{none-some, same_Some, slice_get-map}
use Rattle.mesa_types.specs.Links.{items_used, links_of}
use Rattle.mesa_types.specs.declared.faces.Import.{Import}
use Rattle.mesa_types.specs.declared.faces.Item.{Item}
use Rattle.interface_records.specs.declared.wanted.Wanted.{Wanted as Entry}
use Rattle.code_forms.specs.declared.module_code.CodeLink.{CodeLink}
use Rattle.file_forms.specs.Forms.{Form, FitEach}
use Rattle.object_rules.specs.ImageForms.{needed_of, needed_by_import}
use Rattle.object_rules.specs.Parts.{link_code, link_codes}

none_added : (n : ℕ) → n + 0 ≡ n
none_added n = omega arith

numbered_from : {A : Type 0} (f : ℕ → Form A) (before all : List A) → FitEach (λ b. f (length b)) before all → (k : ℕ) (a : A) → slice_get all k ≡ Some a → (f (length before + k)).fits a
unfolding FitEach
numbered_from f before [] h k a e = absurd (none-some a e)
numbered_from f before (x ∷ all) h zero a e = subst (λ n. (f n).fits a) (sym (none_added (length before))) (subst (f (length before)).fits (same_Some x a e) h.0)
numbered_from f before (x ∷ all) h (suc k) a e =
    let longer : length (before ++ x ∷ []) + k ≡ length before + suc k = omega (arith, length-append before (x ∷ [])) in
    subst (λ n. (f n).fits a) longer (numbered_from f (before ++ x ∷ []) all h.1 k a e)

none_before : (n : ℕ) → 0 + n ≡ n
none_before n = omega arith

pub numbered : {A : Type 0} (f : ℕ → Form A) (all : List A) → FitEach (λ b. f (length b)) [] all → (k : ℕ) (a : A) → slice_get all k ≡ Some a → (f k).fits a
numbered f all h k a e = subst (λ n. (f n).fits a) (none_before k) (numbered_from f [] all h k a e)

pub none_past : {A : Type 0} (xs : List A) (k : ℕ) → slice_get xs k ≡ None → length xs ≤ k
none_past [] k e = omega arith
none_past (x ∷ xs) zero e = absurd cc
none_past (x ∷ xs) (suc k) e = let h = none_past xs k e in omega (arith, h)

pub get_there : {A : Type 0} (xs : List A) (k : ℕ) → k < length xs → (x : A) × (slice_get xs k ≡ Some x)
get_there [] k less = absurd (omega (arith, less))
get_there (x ∷ xs) zero less = (x, refl)
get_there (x ∷ xs) (suc k) less = get_there xs k (omega (arith, less))

-- ---- what is needed, by the links

abbrev pub item_needed : Entry → Item
item_needed e = e.item

each_item : (i : Import) (is : List Item) → map item_needed (map (needed_of i.face) is) ≡ is
each_item i [] = refl
each_item i (x ∷ is) = ap (λ ys. x ∷ ys) (each_item i is)

pub needed_items : (imports : List Import) → map item_needed (flat_map needed_by_import imports) ≡ links_of imports
unfolding links_of
needed_items [] = refl
needed_items (i ∷ imports) =
    map-append item_needed (needed_by_import i) (flat_map needed_by_import imports)
    ∙ (ap (λ xs. xs ++ map item_needed (flat_map needed_by_import imports)) (each_item i (items_used i.face.items i.used))
    ∙ ap (λ xs. items_used i.face.items i.used ++ xs) (needed_items imports))

-- the link of a number is that of what is needed under it
pub link_needed : (imports : List Import) (links : List CodeLink) → links ≡ link_codes imports → (k : ℕ)
    → slice_get links k ≡ option_map link_code (option_map item_needed (slice_get (flat_map needed_by_import imports) k))
link_needed imports links is k =
    ap (λ ls. slice_get ls k) is ∙ slice_get-map link_code (links_of imports) k
    ∙ ap (λ ls. option_map link_code (slice_get ls k)) (sym (needed_items imports))
    ∙ ap (option_map link_code) (slice_get-map item_needed (flat_map needed_by_import imports) k)
