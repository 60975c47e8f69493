-- Which texts have a stale object, file by file and text by text.
use Rattle.std.proofs.Common.{◌≡◌, ℕ, ◌+◌, ◌<◌, ◌≤◌, Bool, true, false, cond, List, [], ◌∷◌, ◌++◌, map, filter, Option, None, Some, length, drop, get_or, bytes_eq, refl, sym, ap, ◌∙◌, arith}
use Rattle.std.specs.List.{list_any, range_with_len}
use Rattle.std.specs.Option.{option_or}
use Rattle.std.specs.Prelude.{◌||◌}
use Rattle.std.proofs.lemmas.List.{map-id, append-nil, drop_more, drop_all}
use Rattle.std.proofs.lemmas.List.Elements.{filter-append}
use Rattle.std.proofs.lemmas.List.Folds.{list_any-append}
use Rattle.std.proofs.lemmas.List.FromFn.{map-range_with_len_more}
use Rattle.mesa_types.specs.declared.faces.Export.{Export}
use Rattle.mesa_types.specs.declared.faces.Face.{Face}
use Rattle.mesa_types.specs.declared.faces.Import.{Import}
use Rattle.mesa_types.specs.declared.faces.Shape.{Shape}
use Rattle.include_rules.specs.Stale.{Faced, OfInterface, OfObject, faced, faces_of, stamp_of}
use Rattle.include_rules.specs.declared.entries.FileEntry.{FileEntry}
use Rattle.include_checker.specs.Stamps.{stamp_under}

-- ---- the stamp of the first interface of a name

one_file : (f : Faced) (fs : List Faced) (name : List ℕ) → stamp_of (f ∷ fs) name ≡ option_or (stamp_under f name) (stamp_of fs name)
unfolding stamp_of
one_file (OfInterface f) fs name = elim (bytes_eq f.name name) as (λ b. cond b (Some f.stamp) (stamp_of fs name) ≡ option_or (cond b (Some f.stamp) None) (stamp_of fs name)) [ true ↦ refl | false ↦ refl ]
one_file (OfObject text faces) fs name = refl

at_file : (files : List FileEntry) (at : ℕ) (d : FileEntry) (name : List ℕ) → at < length files
    → stamp_of (map faced (drop at files)) name ≡ option_or (stamp_under (faced (get_or files at d)) name) (stamp_of (map faced (drop (at + 1) files)) name)
at_file files at d name below =
    ap (λ fs. stamp_of (map faced fs) name) (drop_more files at d below) ∙ one_file (faced (get_or files at d)) (map faced (drop (at + 1) files)) name

pub stamp_here : (files : List FileEntry) (at : ℕ) (file d : FileEntry) (name : List ℕ) (found : Option ℕ) (stamp : ℕ) (all : Option ℕ) → at < length files
    → file ≡ get_or files at d → found ≡ stamp_under (faced file) name → found ≡ Some stamp → stamp_of (map faced (drop at files)) name ≡ all → Some stamp ≡ all
stamp_here files at file d name found stamp all below here is some so_far =
    let under : Some stamp ≡ stamp_under (faced (get_or files at d)) name = sym some ∙ is ∙ ap (λ f. stamp_under (faced f) name) here in
    ap (λ o. option_or o (stamp_of (map faced (drop (at + 1) files)) name)) under ∙ sym (at_file files at d name below) ∙ so_far

pub stamp_behind : (files : List FileEntry) (at : ℕ) (file d : FileEntry) (name : List ℕ) (found all : Option ℕ) → at < length files
    → file ≡ get_or files at d → found ≡ stamp_under (faced file) name → found ≡ None → stamp_of (map faced (drop at files)) name ≡ all
    → stamp_of (map faced (drop (at + 1) files)) name ≡ all
stamp_behind files at file d name found all below here is none so_far =
    let under : None ≡ stamp_under (faced (get_or files at d)) name = sym none ∙ is ∙ ap (λ f. stamp_under (faced f) name) here in
    ap (λ o. option_or o (stamp_of (map faced (drop (at + 1) files)) name)) under ∙ sym (at_file files at d name below) ∙ so_far

pub no_stamp : (files : List FileEntry) (at : ℕ) (name : List ℕ) (all : Option ℕ) → length files ≤ at → stamp_of (map faced (drop at files)) name ≡ all → None ≡ all
unfolding stamp_of
no_stamp files at name all past so_far = ap (λ fs. stamp_of (map faced fs) name) (sym (drop_all at files past)) ∙ so_far

-- ---- faces and files

pub list_any-map : {X Y : Type 0} (p : Y → Bool) (f : X → Y) (xs : List X) → list_any p (map f xs) ≡ list_any (λ x. p (f x)) xs
list_any-map p f [] = refl
list_any-map p f (x ∷ xs) = ap (λ b. p (f x) || b) (list_any-map p f xs)

-- a face of an import or of an export
pub some_face : (p : Face → Bool) (s : Shape)
    → (list_any (λ (m : Import). p m.face) s.imports || list_any (λ (x : Export). p x.face) s.exports) ≡ list_any p (faces_of s)
some_face p s =
    ap (λ b. b || list_any (λ (x : Export). p x.face) s.exports) (sym (list_any-map p (λ (m : Import). m.face) s.imports))
    ∙ ap (λ b. list_any p (map (λ (m : Import). m.face) s.imports) || b) (sym (list_any-map p (λ (x : Export). x.face) s.exports))
    ∙ sym (list_any-append p (map (λ (m : Import). m.face) s.imports) (map (λ (x : Export). x.face) s.exports))

pub by_import : (p : Face → Bool) (s : Shape) (imports : List Import) (b : Bool) → imports ≡ s.imports → b ≡ list_any (λ (m : Import). p m.face) imports → b ≡ true
    → b ≡ list_any p (faces_of s)
by_import p s imports b same is holds =
    let some : true ≡ list_any (λ (m : Import). p m.face) s.imports = sym holds ∙ is ∙ ap (list_any (λ (m : Import). p m.face)) same in
    holds ∙ ap (λ a. a || list_any (λ (x : Export). p x.face) s.exports) some ∙ some_face p s

pub by_export : (p : Face → Bool) (s : Shape) (imports : List Import) (exports : List Export) (b c : Bool) → imports ≡ s.imports → exports ≡ s.exports
    → b ≡ list_any (λ (m : Import). p m.face) imports → c ≡ list_any (λ (x : Export). p x.face) exports → b ≡ false → c ≡ list_any p (faces_of s)
by_export p s imports exports b c same too is its fails =
    let none : false ≡ list_any (λ (m : Import). p m.face) s.imports = sym fails ∙ is ∙ ap (list_any (λ (m : Import). p m.face)) same in
    its ∙ ap (list_any (λ (x : Export). p x.face)) too ∙ ap (λ a. a || list_any (λ (x : Export). p x.face) s.exports) none ∙ some_face p s

-- ---- text by text

one_more : (n : ℕ) → range_with_len 0 (n + 1) ≡ range_with_len 0 n ++ n ∷ []
one_more n = sym (map-id (range_with_len 0 (n + 1))) ∙ map-range_with_len_more (λ k. k) 0 n n (omega arith) ∙ ap (λ ks. ks ++ n ∷ []) (map-id (range_with_len 0 n))

one_kept : (p : ℕ → Bool) (n : ℕ) → filter p (range_with_len 0 (n + 1)) ≡ filter p (range_with_len 0 n) ++ cond (p n) (n ∷ []) []
one_kept p n = ap (filter p) (one_more n) ∙ filter-append p (range_with_len 0 n) (n ∷ [])

pub kept : (p : ℕ → Bool) (numbers more : List ℕ) (n : ℕ) (b : Bool) → b ≡ p n → b ≡ true → more ≡ numbers ++ n ∷ [] → numbers ≡ filter p (range_with_len 0 n)
    → more ≡ filter p (range_with_len 0 (n + 1))
kept p numbers more n b is passes pushed so_far =
    pushed ∙ ap (λ ks. ks ++ n ∷ []) so_far ∙ ap (λ c. filter p (range_with_len 0 n) ++ cond c (n ∷ []) []) (sym passes ∙ is) ∙ sym (one_kept p n)

pub left_out : (p : ℕ → Bool) (numbers : List ℕ) (n : ℕ) (b : Bool) → b ≡ p n → b ≡ false → numbers ≡ filter p (range_with_len 0 n)
    → numbers ≡ filter p (range_with_len 0 (n + 1))
left_out p numbers n b is fails so_far =
    so_far ∙ sym (append-nil (filter p (range_with_len 0 n))) ∙ ap (λ c. filter p (range_with_len 0 n) ++ cond c (n ∷ []) []) (sym fails ∙ is) ∙ sym (one_kept p n)
