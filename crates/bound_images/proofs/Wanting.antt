-- The items that an instance uses, each with what it stands for, by the numbers of their links.
use Rattle.std.proofs.Common.{◌≡◌, ℕ, zero, suc, ◌+◌, ◌<◌, ◌⊎◌, inl, inr, Bool, true, false, List, [], ◌∷◌, ◌++◌, length, map, flat_map, All, Contains, Option, Some, None, slice_get, nat_eq, eq-eqb, eqb-true, refl, sym, ap, subst, ◌∙◌, arith, if◌then◌else◌}
use Rattle.std.proofs.lemmas.List.{map-append}
use Rattle.std.proofs.lemmas.Option.{none-some, same_Some}
use Rattle.mesa_types.specs.Links.{items_used, links_of}
use Rattle.mesa_types.specs.declared.faces.Face.{Face}
use Rattle.mesa_types.specs.declared.faces.Import.{Import}
use Rattle.mesa_types.specs.declared.faces.Item.{Item}
use Rattle.code_rules.specs.Links.{rank, link_number}
use Rattle.config_rules.specs.declared.tree.Tree.{Tree}
use Rattle.config_rules.specs.declared.tree.TreeInstance.{TreeInstance}
use Rattle.config_rules.specs.Exporters.{Spot}
use Rattle.config_rules.specs.Resolves.{Want, resolved, want, wants_of}
use Rattle.config_rules.proofs.Members.{Mem, mem_split, flat_mem}
use Rattle.bound_images.proofs.Elements.{get_front, get_behind, get_there}

abbrev pub item_of : Want → Item
item_of w = w.item

-- the imports name no item that is not there
abbrev pub AllThere : List Import → Type 0
AllThere ms = All (λ (m : Import). All (λ n. n < length m.face.items) m.used) ms

module _ (t : Tree) (x : TreeInstance) where
  -- an item that a record of the instance's scope imports
  abbrev pub the_want : List ℕ → Face → Item → Want
  the_want r face i = record { path = x.path; face = face; item = i; answer = resolved t (record { scope = x.scope; record_name = r }) face i.name }

  abbrev wants_by : List ℕ → Face → List ℕ → List Want
  wants_by r face ns = flat_map (λ n. want t x r face (slice_get face.items n)) ns

  -- ---- in all they are of the items of the links, in order

  by_items : (r : List ℕ) (face : Face) (ns : List ℕ) → map item_of (wants_by r face ns) ≡ items_used face.items ns
  unfolding want items_used
  by_items r face [] = refl
  by_items r face (n ∷ ns) = by (slice_get face.items n) refl (by_items r face ns)
    where
      by : (o : Option Item) → slice_get face.items n ≡ o → map item_of (wants_by r face ns) ≡ items_used face.items ns
          → map item_of (wants_by r face (n ∷ ns)) ≡ items_used face.items (n ∷ ns)
      by None e h = rw e h
      by (Some i) e h = rw e (ap (λ l. i ∷ l) h)

  pub are_of_links : (rs : List (List ℕ)) (ms : List Import) → length rs ≡ length ms → map item_of (wants_of t x rs ms) ≡ links_of ms
  unfolding wants_of links_of
  are_of_links [] [] h = refl
  are_of_links [] (m ∷ ms) h = absurd (omega (arith, h))
  are_of_links (r ∷ rs) [] h = absurd (omega (arith, h))
  are_of_links (r ∷ rs) (m ∷ ms) h =
      map-append item_of (wants_by r m.face m.used) (wants_of t x rs ms)
      ∙ ap (λ l. l ++ map item_of (wants_of t x rs ms)) (by_items r m.face m.used)
      ∙ ap (λ l. items_used m.face.items m.used ++ l) (are_of_links rs ms (omega (arith, h)))

  -- ---- a used item has its want at the number of its link

  each_behind : (face : Face) (n : ℕ) (ns : List ℕ) → All (λ k. k < length face.items) (n ∷ ns) → All (λ k. k < length face.items) ns
  each_behind face n ns h k d lt = h (suc k) d (omega (arith, lt))

  first_by : (r : List ℕ) (face : Face) (n : ℕ) (ns : List ℕ) (i : Item) → slice_get face.items n ≡ Some i
      → wants_by r face (n ∷ ns) ≡ the_want r face i ∷ wants_by r face ns
  unfolding want
  first_by r face n ns i e = ap (λ o. want t x r face o ++ wants_by r face ns) e

  as_many : (r : List ℕ) (face : Face) (ns : List ℕ) → All (λ k. k < length face.items) ns → length (wants_by r face ns) ≡ length ns
  as_many r face [] h = refl
  as_many r face (n ∷ ns) h =
      let y = get_there face.items n (h 0 n (omega arith)) in
      ap length (first_by r face n ns y.0 y.1) ∙ ap suc (as_many r face ns (each_behind face n ns h))

  there_by : (r : List ℕ) (face : Face) (ns : List ℕ) (n : ℕ) (i : Item) → All (λ k. k < length face.items) ns → Contains ns n → slice_get face.items n ≡ Some i
      → slice_get (wants_by r face ns) (rank n ns) ≡ Some (the_want r face i)
  there_by r face [] n i h c e = absurd (omega (arith, c.1))
  there_by r face (m ∷ ns) n i h c e =
      let y = get_there face.items m (h 0 m (omega arith)) in
      ap (λ l. slice_get l (rank n (m ∷ ns))) (first_by r face m ns y.0 y.1)
      ∙ by (λ d. there_by r face ns n i (each_behind face m ns h) d e) (nat_eq m n) refl y.0 y.1
    where
      later : Contains (m ∷ ns) n → nat_eq m n ≡ false → Contains ns n
      later (zero, lt, same) differ = cc (sym differ ∙ eq-eqb m n same)
      later (suc k, lt, same) differ = (k, omega (arith, lt), same)

      by : (Contains ns n → slice_get (wants_by r face ns) (rank n ns) ≡ Some (the_want r face i)) → (b : Bool) → nat_eq m n ≡ b → (y : Item)
          → slice_get face.items m ≡ Some y → slice_get (the_want r face y ∷ wants_by r face ns) (if b then 0 else suc (rank n ns)) ≡ Some (the_want r face i)
      by f true is y there = ap (λ z. Some (the_want r face z)) (same_Some y i (sym there ∙ ap (λ k. slice_get face.items k) (eqb-true m n is) ∙ e))
      by f false is y there = f (later c is)

  pub want_there : (rs : List (List ℕ)) (ms : List Import) → AllThere ms → (k n : ℕ) (m : Import) (r : List ℕ) (i : Item) → slice_get ms k ≡ Some m → slice_get rs k ≡ Some r
      → slice_get m.face.items n ≡ Some i → Contains m.used n → slice_get (wants_of t x rs ms) (link_number ms k n) ≡ Some (the_want r m.face i)
  unfolding wants_of
  want_there [] ms h k n m r i em er e u = absurd (none-some r er)
  want_there (s ∷ rs) [] h k n m r i em er e u = absurd (none-some m em)
  want_there (s ∷ rs) (l ∷ ms) h zero n m r i em er e u =
      let one : l ≡ m = same_Some l m em in
      let its : s ≡ r = same_Some s r er in
      get_front (wants_by s l.face l.used) (wants_of t x rs ms) (rank n l.used) (the_want s l.face i)
      (there_by s l.face l.used n i (h 0 l (omega arith)) (subst (λ (q : Import). Contains q.used n) (sym one) u) (subst (λ (q : Import). slice_get q.face.items n ≡ Some i) (sym one) e))
      ∙ (λ j. Some (the_want (its j) (one j).face i))
  want_there (s ∷ rs) (l ∷ ms) h (suc k) n m r i em er e u =
      let ws = wants_by s l.face l.used in
      ap (λ y. slice_get (ws ++ wants_of t x rs ms) (y + link_number ms k n)) (sym (as_many s l.face l.used (h 0 l (omega arith))))
      ∙ (get_behind ws (wants_of t x rs ms) (link_number ms k n)
      ∙ want_there rs ms (λ j d lt. h (suc j) d (omega (arith, lt))) k n m r i em er e u)

  -- ---- each is of an item of an interface that the instance imports, and is resolved where it is imported

  pub record WantOf (ms : List Import) (w : Want) : Type 0 where
    pub import : Import
    pub is : Mem import ms
    pub number : ℕ
    pub there : slice_get import.face.items number ≡ Some w.item
    pub face : w.face ≡ import.face
    pub spot : Spot
    pub resolves : w.answer ≡ resolved t spot w.face w.item.name

  of_item : (r : List ℕ) (m : Import) (n : ℕ) (o : Option Item) → slice_get m.face.items n ≡ o → (w : Want) → Mem w (want t x r m.face o) → WantOf (m ∷ []) w
  unfolding want
  of_item r m n None e w h = absurd h
  of_item r m n (Some i) e w (inl s) =
      subst (WantOf (m ∷ [])) s
      (record { import = m; is = inl refl; number = n; there = e; face = refl; spot = record { scope = x.scope; record_name = r }; resolves = refl })
  of_item r m n (Some i) e w (inr s) = absurd s

  among_more : (ms ns : List Import) (w : Want) (o : WantOf ms w) → Mem o.import ns → WantOf ns w
  among_more ms ns w o m = record {
    import = o.import;
    is = m;
    number = o.number;
    there = o.there;
    face = o.face;
    spot = o.spot;
    resolves = o.resolves;
  }

  first_alone : (m : Import) (ms : List Import) (y : Import) → Mem y (m ∷ []) → Mem y (m ∷ ms)
  first_alone m ms y (inl e) = inl e
  first_alone m ms y (inr e) = absurd e

  pub wants_are : (rs : List (List ℕ)) (ms : List Import) (w : Want) → Mem w (wants_of t x rs ms) → WantOf ms w
  unfolding wants_of
  wants_are [] ms w h = absurd h
  wants_are (r ∷ rs) [] w h = absurd h
  wants_are (r ∷ rs) (m ∷ ms) w h = by (wants_are rs ms w) (mem_split (wants_by r m.face m.used) (wants_of t x rs ms) w h)
    where
      by : (Mem w (wants_of t x rs ms) → WantOf ms w) → Mem w (wants_by r m.face m.used) ⊎ Mem w (wants_of t x rs ms) → WantOf (m ∷ ms) w
      by again (inl d) =
          let q = flat_mem (λ n. want t x r m.face (slice_get m.face.items n)) m.used w d in
          let o = of_item r m q.0 (slice_get m.face.items q.0) refl w q.2 in
          among_more (m ∷ []) (m ∷ ms) w o (first_alone m ms o.import o.is)
      by again (inr d) = let o = again d in among_more ms (m ∷ ms) w o (inr o.is)
