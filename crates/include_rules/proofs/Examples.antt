-- Plans of small texts: what they name, their orders and cycles, and which of their objects are stale.
use Rattle.std.proofs.Common.{◌≡◌, ℕ, zero, suc, ◌<◌, ◌⊎◌, inl, inr, Bool, true, not, ◌&&◌, List, [], ◌∷◌, ◌++◌, length, map, codes, nat_lt, Option, Some, None, is_none, refl, sym, ap, subst, ltb-true, lt-ltb, arith}
use Rattle.std.proofs.lemmas.Bool.{and_from, and_parts, both_ways, cases_eq, not-true}
use Rattle.interface_records.specs.declared.interface.Interface.{Interface as InterfaceRecord}
use Rattle.mesa_types.specs.declared.faces.Export.{Export}
use Rattle.mesa_types.specs.declared.faces.Face.{Face}
use Rattle.mesa_types.specs.declared.faces.Import.{Import}
use Rattle.object_files.specs.declared.object.Object.{Object as ObjectRecord}
use Rattle.syntax_trees.specs.declared.syntax.DirectoryItem.{DirectoryItem}
use Rattle.syntax_trees.specs.declared.syntax.Module.{Module}
use Rattle.include_rules.specs.declared.entries.FileEntry.{FileEntry}
use Rattle.include_rules.specs.declared.entries.FileEntry.TheVariants.{Interface, Object}
use Rattle.include_rules.specs.declared.entries.TextEntry.{TextEntry}
use Rattle.include_rules.specs.declared.plan.PlanFault.TheVariants.{Cycle}
use Rattle.include_rules.specs.Naming.{first_left, from_texts, is_left, named_by, naming}
use Rattle.include_rules.specs.Order.{IsReady, Takes, none, another, IsOrder, IsStuck, IsFirstLeft, begins, goes, IsCycle}
use Rattle.include_rules.specs.Plans.{IsPlan, HasNoPlan, circling}
use Rattle.include_rules.specs.Stale.{faced, stale, stamp_of}

-- ---- what tells, by computing, that a text is the next one, that none can be taken, and which is the first that is left

abbrev below : (ℕ → Bool) → ℕ → Bool
below p zero = true
below p (suc n) = p n && below p n

below_at : (p : ℕ → Bool) (n : ℕ) → below p n ≡ true → (k : ℕ) → k < n → p k ≡ true
below_at p zero h k l = absurd (omega arith)
below_at p (suc n) h k l = by (and_parts (p n) (below p n) h) (below_at p n) (cases_eq k n)
  where
    by : (p n ≡ true) × (below p n ≡ true) → (below p n ≡ true → (j : ℕ) → j < n → p j ≡ true) → (k ≡ n) ⊎ (k ≡ n → ⊥) → p k ≡ true
    by q again (inl e) = subst (λ j. p j ≡ true) (sym e) q.0
    by q again (inr d) = again q.1 k (omega (arith, d))

module _ (names : List (List ℕ)) where
  abbrev can_take : (taken : List ℕ) → ℕ → Bool
  can_take taken k = nat_lt k (length names) && is_left taken k && is_none (first_left names taken k)

  nothing : (o : Option ℕ) → is_none o ≡ true → o ≡ None
  nothing None h = refl
  nothing (Some k) h = cc

  ready : (taken : List ℕ) (k : ℕ) → can_take taken k ≡ true → IsReady names taken k
  ready taken k h =
      let q = and_parts (nat_lt k (length names) && is_left taken k) (is_none (first_left names taken k)) h in
      let r = and_parts (nat_lt k (length names)) (is_left taken k) q.0 in
      record { is_text = ltb-true k (length names) r.0; left = r.1; all_taken = nothing (first_left names taken k) q.1 }

  can : (taken : List ℕ) (k : ℕ) → IsReady names taken k → can_take taken k ≡ true
  can taken k r =
      and_from (nat_lt k (length names) && is_left taken k) (is_none (first_left names taken k))
      (and_from (nat_lt k (length names)) (is_left taken k) (lt-ltb k (length names) r.is_text) r.left) (ap is_none r.all_taken)

  cannot : (taken : List ℕ) (n : ℕ) → below (λ k. not (can_take taken k)) n ≡ true → (k : ℕ) → k < n → IsReady names taken k → ⊥
  cannot taken n h k l r = both_ways (can_take taken k) (not-true (can_take taken k) (below_at _ n h k l)) (can taken k r)

  takes : (taken : List ℕ) (k : ℕ) → Takes names taken → can_take taken k && below (λ j. not (can_take taken j)) k ≡ true → Takes names (taken ++ k ∷ [])
  takes taken k t h =
      let q = and_parts (can_take taken k) (below (λ j. not (can_take taken j)) k) h in
      another taken k t (record { ready = ready taken k q.0; first = cannot taken k q.1 })

  order : (taken : List ℕ) → Takes names taken → below (λ k. not (is_left taken k)) (length names) ≡ true → IsOrder names taken
  order taken t h = record { takes = t; whole = λ k l. not-true (is_left taken k) (below_at _ (length names) h k l) }

  stuck : (taken : List ℕ) → Takes names taken → below (λ k. not (can_take taken k)) (length names) ≡ true → IsStuck names taken
  stuck taken t h = record { takes = t; stuck = λ k r. cannot taken (length names) h k r.is_text r }

  first : (taken : List ℕ) (k : ℕ) → nat_lt k (length names) && is_left taken k && below (λ j. not (is_left taken j)) k ≡ true → IsFirstLeft names taken k
  first taken k h =
      let q = and_parts (nat_lt k (length names) && is_left taken k) (below (λ j. not (is_left taken j)) k) h in
      let r = and_parts (nat_lt k (length names)) (is_left taken k) q.0 in
      record { is_text = ltb-true k (length names) r.0; left = r.1; first = λ j l. not-true (is_left taken j) (below_at _ k q.1 j l) }

-- ---- orders

abbrev one : ℕ → List ℕ
one k = k ∷ []

-- the first two name the third
abbrev two_on_one : List (List ℕ)
two_on_one = one 2 ∷ one 2 ∷ [] ∷ []

order_2_0_1 : IsOrder two_on_one (2 ∷ 0 ∷ 1 ∷ [])
unfolding is_left named_by
order_2_0_1 = order two_on_one (2 ∷ 0 ∷ 1 ∷ []) (takes two_on_one (2 ∷ 0 ∷ []) 1 (takes two_on_one (2 ∷ []) 0 (takes two_on_one [] 2 none refl) refl) refl) refl

-- each names the next
abbrev backwards : List (List ℕ)
backwards = one 1 ∷ one 2 ∷ [] ∷ []

order_2_1_0 : IsOrder backwards (2 ∷ 1 ∷ 0 ∷ [])
unfolding is_left named_by
order_2_1_0 = order backwards (2 ∷ 1 ∷ 0 ∷ []) (takes backwards (2 ∷ 1 ∷ []) 0 (takes backwards (2 ∷ []) 1 (takes backwards [] 2 none refl) refl) refl) refl

no_texts : IsOrder [] []
no_texts = order [] [] none refl

-- ---- cycles

-- a text that names itself
cycle_of_one : IsCycle (one 0 ∷ []) (0 ∷ [])
unfolding is_left named_by
cycle_of_one = record {
  taken = [];
  stuck = stuck (one 0 ∷ []) [] none refl;
  way = [];
  last = 0;
  walks = begins 0 (first (one 0 ∷ []) [] 0 refl);
  again = 0;
  comes_again = refl;
  before = [];
  behind = [];
  is = refl;
  of_way = refl;
}

-- two that name one another
abbrev each_other : List (List ℕ)
each_other = one 1 ∷ one 0 ∷ []

cycle_0_1 : IsCycle each_other (0 ∷ 1 ∷ [])
unfolding is_left named_by
cycle_0_1 = record {
  taken = [];
  stuck = stuck each_other [] none refl;
  way = 0 ∷ [];
  last = 1;
  walks = goes [] 0 1 (begins 0 (first each_other [] 0 refl)) refl refl;
  again = 0;
  comes_again = refl;
  before = [];
  behind = 1 ∷ [];
  is = refl;
  of_way = refl;
}

-- the way comes into the cycle from outside
abbrev into : List (List ℕ)
into = one 1 ∷ one 2 ∷ one 1 ∷ []

cycle_1_2 : IsCycle into (1 ∷ 2 ∷ [])
unfolding is_left named_by
cycle_1_2 = record {
  taken = [];
  stuck = stuck into [] none refl;
  way = 0 ∷ 1 ∷ [];
  last = 2;
  walks = goes (0 ∷ []) 1 2 (goes [] 0 1 (begins 0 (first into [] 0 refl)) refl refl) refl refl;
  again = 1;
  comes_again = refl;
  before = 0 ∷ [];
  behind = 2 ∷ [];
  is = refl;
  of_way = refl;
}

-- the second is taken, so the way passes it over where the first names it, and the third
abbrev beside : List (List ℕ)
beside = (1 ∷ 2 ∷ []) ∷ [] ∷ (1 ∷ 0 ∷ []) ∷ []

cycle_0_2 : IsCycle beside (0 ∷ 2 ∷ [])
unfolding is_left named_by
cycle_0_2 = record {
  taken = 1 ∷ [];
  stuck = stuck beside (1 ∷ []) (takes beside [] 1 none refl) refl;
  way = 0 ∷ [];
  last = 2;
  walks = goes [] 0 2 (begins 0 (first beside (1 ∷ []) 0 refl)) refl refl;
  again = 0;
  comes_again = refl;
  before = [];
  behind = 2 ∷ [];
  is = refl;
  of_way = refl;
}

-- ---- texts and files, whatever else they hold

module _ (m : Module) (d : DirectoryItem) (i : InterfaceRecord) (o : ObjectRecord) where
  abbrev text : (base : List ℕ) → List DirectoryItem → TextEntry
  text base items = record { base = base; «module» = record m { directory = items } }

  abbrev item : (name file : List ℕ) → DirectoryItem
  item name file = record d { name = record (d.name) { name = name }; file = file }

  -- the FROM text counts, and not the name
  names_b : naming (text (codes "A") (item (codes "X") (codes "B") ∷ []) ∷ text (codes "B") [] ∷ []) ≡ one 1 ∷ [] ∷ []
  unfolding from_texts
  names_b = refl

  -- IODefs is built in, although a text has the base that it is said to be from
  passes_over : naming (text (codes "A") (item (codes "IODefs") (codes "B") ∷ []) ∷ text (codes "B") [] ∷ []) ≡ [] ∷ [] ∷ []
  unfolding from_texts
  passes_over = refl

  -- another name for a text of that base is no built-in interface
  passes_none : naming (text (codes "A") (item (codes "X") (codes "IODefs") ∷ []) ∷ text (codes "IODefs") [] ∷ []) ≡ one 1 ∷ [] ∷ []
  unfolding from_texts
  passes_none = refl

  names_itself : naming (text (codes "A") (item (codes "A") (codes "A") ∷ []) ∷ []) ≡ one 0 ∷ []
  unfolding from_texts
  names_itself = refl

  names_twice : naming (text (codes "A") (item (codes "X") (codes "B") ∷ item (codes "Y") (codes "B") ∷ []) ∷ text (codes "B") [] ∷ []) ≡ (1 ∷ 1 ∷ []) ∷ [] ∷ []
  unfolding from_texts
  names_twice = refl

  -- what is no text of the list is none that is named
  names_none : naming (text (codes "A") (item (codes "B") (codes "B") ∷ []) ∷ []) ≡ [] ∷ []
  unfolding from_texts
  names_none = refl

  abbrev a_and_b : List TextEntry
  a_and_b = text (codes "A") (item (codes "B") (codes "B") ∷ []) ∷ text (codes "B") (item (codes "A") (codes "A") ∷ []) ∷ []

  a_and_b_circle : HasNoPlan a_and_b (Cycle (0 ∷ 1 ∷ []))
  unfolding from_texts
  a_and_b_circle = circling (0 ∷ 1 ∷ []) cycle_0_1

  -- ---- what is stale

  abbrev face : (name : List ℕ) (stamp : ℕ) → Face
  face name stamp = record { name = name; stamp = stamp; items = [] }

  abbrev interface : (name : List ℕ) (stamp : ℕ) → FileEntry
  interface name stamp = Interface (record i { face = face name stamp })

  abbrev imports : Face → Import
  imports f = record { face = f; used = [] }

  abbrev exports : Face → Export
  exports f = record { face = f; given = [] }

  abbrev object : (text : ℕ) → (ins outs : List Face) → FileEntry
  object text ins outs = Object text (record o { shape = record { name = codes "A"; imports = map imports ins; exports = map exports outs } })

  abbrev stale_of : (texts : ℕ) → List FileEntry → List ℕ
  stale_of texts files = stale texts (map faced files)

  -- made of this text when the interface B had this stamp
  abbrev made : (text stamp : ℕ) → FileEntry
  made text stamp = object text (face (codes "B") stamp ∷ []) []

  current : stale_of 2 (made 1 5 ∷ interface (codes "B") 5 ∷ []) ≡ []
  unfolding stamp_of
  current = refl

  stale_import : stale_of 2 (made 1 5 ∷ interface (codes "B") 6 ∷ []) ≡ 1 ∷ []
  unfolding stamp_of
  stale_import = refl

  stale_export : stale_of 2 (object 1 [] (face (codes "B") 5 ∷ []) ∷ interface (codes "B") 6 ∷ []) ≡ 1 ∷ []
  unfolding stamp_of
  stale_export = refl

  built_in_is_passed_over : stale_of 2 (object 1 (face (codes "IODefs") 5 ∷ []) [] ∷ interface (codes "IODefs") 6 ∷ []) ≡ []
  unfolding stamp_of
  built_in_is_passed_over = refl

  absent_is_not_other : stale_of 2 (made 1 5 ∷ interface (codes "C") 6 ∷ []) ≡ []
  unfolding stamp_of
  absent_is_not_other = refl

  -- two objects of one text
  second_is_stale : stale_of 2 (made 1 6 ∷ interface (codes "B") 6 ∷ made 1 5 ∷ []) ≡ 1 ∷ []
  unfolding stamp_of
  second_is_stale = refl

  -- two interfaces of one name
  first_counts : stale_of 2 (interface (codes "B") 5 ∷ interface (codes "B") 6 ∷ made 0 5 ∷ made 1 6 ∷ []) ≡ 1 ∷ []
  unfolding stamp_of
  first_counts = refl

  -- ascending, however the files stand, and of texts alone
  ascends : stale_of 3 (made 2 5 ∷ made 0 5 ∷ made 3 5 ∷ interface (codes "B") 6 ∷ []) ≡ 0 ∷ 2 ∷ []
  unfolding stamp_of
  ascends = refl

  -- ---- a whole plan: B is an interface that was changed since A was compiled

  abbrev with_b : List TextEntry
  with_b = text (codes "A") (item (codes "B") (codes "B") ∷ []) ∷ text (codes "B") [] ∷ []

  abbrev since : List FileEntry
  since = interface (codes "B") 6 ∷ made 0 5 ∷ []

  whole_plan : IsPlan with_b since (record { order = 1 ∷ 0 ∷ []; stale = 0 ∷ [] })
  unfolding is_left named_by from_texts stamp_of
  whole_plan = record {
    order = order (naming with_b) (1 ∷ 0 ∷ []) (takes (naming with_b) (1 ∷ []) 0 (takes (naming with_b) [] 1 none refl) refl) refl;
    stale_are = refl;
  }
