-- One turn of a loop more: what is done so far, and then the rest, is all.
use Rattle.std.proofs.Common.{◌≡◌, ℕ, ◌+◌, ◌<◌, ◌≤◌, Bool, true, false, ◌||◌, List, [], ◌∷◌, ◌++◌, length, drop, map, get_or, Option, Some, None, slice_get, refl, sym, ap, ◌∙◌, append-nil, append_assoc}
use denote.Ref.{Bor}
use Rattle.mesa_types.specs.Links.{items_used}
use Rattle.mesa_types.specs.declared.faces.Face.{Face}
use Rattle.mesa_types.specs.declared.faces.Item.{Item}
use Rattle.mesa_types.specs.declared.faces.Pair.{Pair}
use Rattle.interface_records.specs.declared.wanted.Wanted.{Wanted as Entry}
use Rattle.object_files.specs.declared.image.Image.{Image}
use Rattle.object_files.specs.declared.image.Instance.{Instance}
use Rattle.object_files.specs.declared.image.Link.{Link}
use Rattle.config_rules.specs.Exporters.{is_named, is_given}
use Rattle.loader_rules.specs.Exporters.{module_at}
use Rattle.loader_rules.specs.LoadFaults.{faces_linked}
use Rattle.load_checks.specs.declared.exporters.Exporter.{Exporter}
use Rattle.load_checks.specs.Choosing.{Choice, choice_shown, choices_shown, link_by, links_by}
use Rattle.load_checks.specs.Faces.{faces_at, faces_shown, lowered, all_lowered, lowered_in}
use Rattle.load_checks.proofs.Looping.{next, next_shown, none_left, next_got, none_got}

-- ---- the least item with another face

no_links : (cs : List Choice) (least : ℕ) (fs : List Face) → all_lowered cs least fs [] ≡ least
no_links cs least [] = refl
no_links cs least (f ∷ fs) = refl

no_tables : (i : Image) (cs : List Choice) (least : ℕ) (xs : List Instance) → lowered_in i cs least xs [] ≡ least
no_tables i cs least [] = refl
no_tables i cs least (x ∷ xs) = refl

module _ (cs : List Choice) (least : ℕ) (fs : List (Bor Face)) (ls : List Link) (at all : ℕ) (so_far : all_lowered cs least (drop at (faces_shown fs)) (drop at ls) ≡ all) where
  pub link_more : (new : ℕ) (f d : Bor Face) (l : Link) → at < length fs → f ≡ get_or fs at d → Some l ≡ slice_get ls at → new ≡ lowered cs least f.now l
      → all_lowered cs new (drop (at + 1) (faces_shown fs)) (drop (at + 1) ls) ≡ all
  link_more new f d l less is got made =
      ap (λ n. all_lowered cs n (drop (at + 1) (faces_shown fs)) (drop (at + 1) ls)) made
      ∙ (λ j. all_lowered cs least (sym (next_shown (λ (f : Bor Face). f.now) fs at f d less is) j) (sym (next_got ls at l got) j))
      ∙ so_far

  pub link_none : None ≡ slice_get ls at → least ≡ all
  link_none got = sym (ap (λ l. all_lowered cs least (drop at (faces_shown fs)) l) (none_got ls at got) ∙ no_links cs least (drop at (faces_shown fs))) ∙ so_far

module _ (i : Image) (cs : List Choice) (least : ℕ) (xs : List Instance) (tables : List (List Link)) (at all : ℕ) (so_far : lowered_in i cs least (drop at xs) (drop at tables) ≡ all) where
  pub table_more : (new : ℕ) (x d : Instance) (table : List Link) → at < length xs → x ≡ get_or xs at d → Some table ≡ slice_get tables at
      → new ≡ all_lowered cs least (faces_linked (module_at i (Some x))) table → lowered_in i cs new (drop (at + 1) xs) (drop (at + 1) tables) ≡ all
  table_more new x d table less is got made =
      ap (λ n. lowered_in i cs n (drop (at + 1) xs) (drop (at + 1) tables)) made
      ∙ (λ j. lowered_in i cs least (sym (next xs at x d less is) j) (sym (next_got tables at table got) j))
      ∙ so_far

  pub table_none : None ≡ slice_get tables at → least ≡ all
  table_none got = sym (ap (λ l. lowered_in i cs least (drop at xs) l) (none_got tables at got) ∙ no_tables i cs least (drop at xs)) ∙ so_far

-- ---- the faces of links

used_first : (items : List Item) (n : ℕ) (ns : List ℕ) (i : Item) → slice_get items n ≡ Some i → items_used items (n ∷ ns) ≡ i ∷ items_used items ns
unfolding items_used
used_first items n ns i e = rw e refl

used_not : (items : List Item) (n : ℕ) (ns : List ℕ) → slice_get items n ≡ None → items_used items (n ∷ ns) ≡ items_used items ns
unfolding items_used
used_not items n ns e = rw e refl

used_none : (items : List Item) → items_used items [] ≡ []
unfolding items_used
used_none items = refl

module _ (f : Face) where
  pub one_face : (n : ℕ) (i : Item) → Some i ≡ slice_get f.items n → faces_at f (n ∷ []) ≡ f ∷ []
  one_face n i there = ap (map (λ (used : Item). f)) (used_first f.items n [] i (sym there) ∙ ap (λ l. i ∷ l) (used_none f.items))

  pub no_face : (n : ℕ) → None ≡ slice_get f.items n → faces_at f (n ∷ []) ≡ []
  no_face n there = ap (map (λ (used : Item). f)) (used_not f.items n [] (sym there) ∙ used_none f.items)

  by_face : (n : ℕ) (ns : List ℕ) → faces_at f (n ∷ ns) ≡ faces_at f (n ∷ []) ++ faces_at f ns
  by_face n ns = by (slice_get f.items n) refl
    where
      by : (o : Option Item) → slice_get f.items n ≡ o → faces_at f (n ∷ ns) ≡ faces_at f (n ∷ []) ++ faces_at f ns
      by (Some i) q = ap (map (λ (used : Item). f)) (used_first f.items n ns i q) ∙ ap (λ l. l ++ faces_at f ns) (sym (one_face n i (sym q)))
      by None q = ap (map (λ (used : Item). f)) (used_not f.items n ns q) ∙ ap (λ l. l ++ faces_at f ns) (sym (no_face n (sym q)))

  module _ (fs all : List Face) (ns : List ℕ) (at : ℕ) (so_far : fs ++ faces_at f (drop at ns) ≡ all) where
    pub face_more : (new : List Face) (n d : ℕ) → at < length ns → n ≡ get_or ns at d → new ≡ fs ++ faces_at f (n ∷ []) → new ++ faces_at f (drop (at + 1) ns) ≡ all
    face_more new n d less is made =
        ap (λ l. l ++ faces_at f (drop (at + 1) ns)) made
        ∙ append_assoc fs (faces_at f (n ∷ [])) (faces_at f (drop (at + 1) ns))
        ∙ ap (λ l. fs ++ l) (sym (ap (faces_at f) (next ns at n d less is) ∙ by_face n (drop (at + 1) ns)))
        ∙ so_far

    pub face_none : length ns ≤ at → fs ≡ all
    face_none past = sym (ap (λ l. fs ++ map (λ (used : Item). f) l) (ap (items_used f.items) (none_left ns at past) ∙ used_none f.items) ∙ append-nil fs) ∙ so_far

-- ---- an item that is given

module _ (name : List ℕ) (f : Face) (ps : List Pair) (at : ℕ) (all : Bool) (so_far : is_given name f (drop at ps) ≡ all) where
  given_first : (p : Pair) (rest : List Pair) (b : Bool) → is_named name (slice_get f.items p.item) ≡ b → is_given name f (p ∷ rest) ≡ b || is_given name f rest
  unfolding is_given
  given_first p rest b e = ap (λ b. b || is_given name f rest) e

  pub given_here : (p d : Pair) → at < length ps → p ≡ get_or ps at d → is_named name (slice_get f.items p.item) ≡ true → true ≡ all
  given_here p d less is e = sym (ap (is_given name f) (next ps at p d less is) ∙ given_first p (drop (at + 1) ps) true e) ∙ so_far

  pub given_more : (p d : Pair) → at < length ps → p ≡ get_or ps at d → is_named name (slice_get f.items p.item) ≡ false → is_given name f (drop (at + 1) ps) ≡ all
  given_more p d less is e = sym (ap (is_given name f) (next ps at p d less is) ∙ given_first p (drop (at + 1) ps) false e) ∙ so_far

  none_given : is_given name f [] ≡ false
  unfolding is_given
  none_given = refl

  pub given_none : length ps ≤ at → false ≡ all
  given_none past = sym (ap (is_given name f) (none_left ps at past) ∙ none_given) ∙ so_far

-- ---- links

module _ (wanted es : List Entry) (xs : List (Option Exporter)) (at : ℕ) (links all : List Link) (so_far : links ++ links_by wanted (drop at es) (drop at (choices_shown xs)) ≡ all) where
  pub made_more : (e d : Entry) (x b : Option Exporter) (new : List Link) (l : Link) → at < length es → e ≡ get_or es at d → at < length xs → x ≡ get_or xs at b
      → new ≡ links ++ l ∷ [] → l ≡ link_by wanted e (choice_shown x) → new ++ links_by wanted (drop (at + 1) es) (drop (at + 1) (choices_shown xs)) ≡ all
  made_more e d x b new l less is fewer its grown made =
      let rest = links_by wanted (drop (at + 1) es) (drop (at + 1) (choices_shown xs)) in
      (λ j. (grown ∙ ap (λ y. links ++ y ∷ []) made) j ++ rest)
      ∙ append_assoc links (link_by wanted e (choice_shown x) ∷ []) rest
      ∙ (λ j. links ++ links_by wanted (sym (next es at e d less is) j) (sym (next_shown choice_shown xs at x b fewer its) j))
      ∙ so_far
