-- One pass gives the links of the image: a number that an item has when it is noted stays.
use Rattle.std.proofs.Common.{◌≡◌, ℕ, suc, ◌+◌, ◌<◌, Bool, true, false, ◌||◌, List, [], ◌∷◌, ◌++◌, length, map, filter, flat_map, drop, get_or, Option, Some, None, slice_get, refl, sym, ap, ◌∙◌, append-nil, append_assoc, length-append, arith, if◌then◌else◌}
use Rattle.std.proofs.lemmas.List.{drop_more}
use Rattle.interface_records.specs.declared.wanted.Wanted.{Wanted as Entry}
use Rattle.mesa_types.specs.declared.faces.Face.{Face}
use Rattle.mesa_types.specs.declared.faces.Import.{Import}
use Rattle.mesa_types.specs.declared.faces.Item.{Item}
use Rattle.object_files.specs.declared.image.Link.{Link}
use Rattle.object_files.specs.declared.image.Link.TheVariants.{Wanted}
use Rattle.config_rules.specs.Bindings.{binding_of, bindings_in, bindings_of}
use Rattle.config_rules.specs.Resolves.{Want, want, wants_of, wants_in, wants}
use Rattle.config_rules.specs.declared.tree.Binding.{Binding}
use Rattle.config_rules.specs.declared.tree.Binding.TheVariants.{Left, To as ToNumber}
use Rattle.config_rules.specs.declared.tree.Tree.{Tree}
use Rattle.config_rules.specs.declared.tree.TreeInstance.{TreeInstance}
use Rattle.link_tables.specs.Linked.{same_entry, has_entry, entry_number, noted, entry_of, is_left, left_in, wanted_of, link_by, link_of, links_of}
use Rattle.link_tables.specs.Passes.{entry_at, entries_of, entries_in, Pass, pass, noted_by, bound, bound_by, next_bound, all_bound, Tables, tables, with_table, table_by, all_tables}
use Rattle.link_tables.proofs.Noting.{own_entry, noted_old, noted_new}

-- ---- the loops

bound_append : (bs : List Binding) (p : Pass) (es fs : List Entry) → all_bound bs p (es ++ fs) ≡ all_bound bs (all_bound bs p es) fs
bound_append bs p [] fs = refl
bound_append bs p (e ∷ es) fs = bound_append bs (next_bound bs p e) es fs

pub one_more : (bs : List Binding) (now new all : Pass) (ms : List Import) (i : ℕ) (m : Import) → i < length ms → m ≡ get_or ms i m → new ≡ all_bound bs now (entries_of m)
    → all_bound bs now (entries_in (drop i ms)) ≡ all → all_bound bs new (entries_in (drop (i + 1) ms)) ≡ all
one_more bs now new all ms i m less is grown before =
    ap (λ p. all_bound bs p (entries_in (drop (i + 1) ms))) grown ∙ sym (bound_append bs now (entries_of m) (entries_in (drop (i + 1) ms)))
    ∙ ap (λ l. all_bound bs now (entries_in l)) (ap (λ y. y ∷ drop (i + 1) ms) is ∙ sym (drop_more ms i m less)) ∙ before

-- ---- numbers stay

still_there : (es fs : List Entry) (e : Entry) → has_entry es e ≡ true → has_entry (es ++ fs) e ≡ true
unfolding has_entry
still_there [] fs e h = absurd cc
still_there (x ∷ es) fs e h = by (same_entry x e) h (still_there es fs e)
  where
    by : (b : Bool) → b || has_entry es e ≡ true → (has_entry es e ≡ true → has_entry (es ++ fs) e ≡ true) → b || has_entry (es ++ fs) e ≡ true
    by true g again = refl
    by false g again = again g

number_stays : (es fs : List Entry) (e : Entry) → has_entry es e ≡ true → entry_number (es ++ fs) e ≡ entry_number es e
unfolding has_entry entry_number
number_stays [] fs e h = absurd cc
number_stays (x ∷ es) fs e h = by (same_entry x e) h (number_stays es fs e)
  where
    by : (b : Bool) → b || has_entry es e ≡ true → (has_entry es e ≡ true → entry_number (es ++ fs) e ≡ entry_number es e)
        → (if b then 0 else suc (entry_number (es ++ fs) e)) ≡ (if b then 0 else suc (entry_number es e))
    by true g again = refl
    by false g again = ap suc (again g)

pub noted_stays : (es : List Entry) (fs : List Entry) (e : Entry) → has_entry es e ≡ true → entry_number (noted es fs) e ≡ entry_number es e
unfolding noted
noted_stays es [] e h = refl
noted_stays es (f ∷ fs) e h = by (has_entry es f) (noted_stays es fs e h) (noted_stays (es ++ f ∷ []) fs e (still_there es (f ∷ []) e h) ∙ number_stays es (f ∷ []) e h)
  where
    by : (b : Bool) → entry_number (noted es fs) e ≡ entry_number es e → entry_number (noted (es ++ f ∷ []) fs) e ≡ entry_number es e
        → entry_number (if b then noted es fs else noted (es ++ f ∷ []) fs) e ≡ entry_number es e
    by true old new = old
    by false old new = new

there_behind : (es : List Entry) (e : Entry) → has_entry (es ++ e ∷ []) e ≡ true
unfolding has_entry
there_behind [] e = ap (λ b. b || false) (own_entry e)
there_behind (x ∷ es) e = by (same_entry x e) (there_behind es e)
  where
    by : (b : Bool) → has_entry (es ++ e ∷ []) e ≡ true → b || has_entry (es ++ e ∷ []) e ≡ true
    by true h = refl
    by false h = h

pub noted_is_there : (es : List Entry) (e : Entry) → has_entry (noted es (e ∷ [])) e ≡ true
noted_is_there es e = by (has_entry es e) refl
  where
    by : (b : Bool) → has_entry es e ≡ b → has_entry (noted es (e ∷ [])) e ≡ true
    by true h = ap (λ l. has_entry l e) (noted_old es e h) ∙ h
    by false h = ap (λ l. has_entry l e) (noted_new es e h) ∙ there_behind es e

pub noted_append : (already es fs : List Entry) → noted already (es ++ fs) ≡ noted (noted already es) fs
unfolding noted
noted_append already [] fs = refl
noted_append already (e ∷ es) fs = by (has_entry already e) (noted_append already es fs) (noted_append (already ++ e ∷ []) es fs)
  where
    by : (b : Bool) → noted already (es ++ fs) ≡ noted (noted already es) fs → noted (already ++ e ∷ []) (es ++ fs) ≡ noted (noted (already ++ e ∷ []) es) fs → (if b then noted already (es ++ fs) else noted (already ++ e ∷ []) (es ++ fs)) ≡ noted (if b then noted already es else noted (already ++ e ∷ []) es) fs
    by true old new = old
    by false old new = new

-- ---- the links of one instance

abbrev bind : Want → Binding
bind w = binding_of w.answer

-- what is left of the first items is noted with the first
left_first : (already : List Entry) (w : Want) (ws : List Want) → noted already (left_in (w ∷ ws)) ≡ noted (noted_by already (entry_of w) (binding_of w.answer)) (left_in ws)
unfolding is_left
left_first already w ws = by (binding_of w.answer)
  where
    by : (b : Binding) → noted already (map entry_of (if is_left b then w ∷ filter (λ (v : Want). is_left (binding_of v.answer)) ws else filter (λ (v : Want). is_left (binding_of v.answer)) ws))
        ≡ noted (noted_by already (entry_of w) b) (left_in ws)
    by Left = noted_append already (entry_of w ∷ []) (left_in ws)
    by (ToNumber j n) = refl

link_stays : (already more : List Entry) (e : Entry) (b : Binding) → link_by (noted_by already e b) e b ≡ link_by (noted (noted_by already e b) more) e b
unfolding link_by
link_stays already more e Left = ap Wanted (sym (noted_stays (noted already (e ∷ [])) more e (noted_is_there already e)))
link_stays already more e (ToNumber j n) = refl

seam : {A : Type 0} (before : List A) (x : A) (after : List A) → slice_get (before ++ x ∷ after) (length before) ≡ Some x
seam [] x after = refl
seam (y ∷ before) x after = seam before x after

-- what stands behind so many
next_at : {A : Type 0} (all before : List A) (x : A) (after : List A) (n : ℕ) → all ≡ before ++ x ∷ after → n ≡ length before → slice_get all n ≡ Some x
next_at all before x after n whole number = ap (λ l. slice_get l n) whole ∙ ap (λ k. slice_get (before ++ x ∷ after) k) number ∙ seam before x after

one_longer : {A B : Type 0} (xs : List A) (ys : List B) (x : A) (y : B) → length xs ≡ length ys → length (xs ++ x ∷ []) ≡ length (ys ++ y ∷ [])
one_longer xs ys x y h = omega (arith, h, length-append xs (x ∷ []), length-append ys (y ∷ []))

abbrev final : (already more : List Entry) → List Want → List Entry
final already more ws = noted already (left_in ws ++ more)

final_first : (already more : List Entry) (w : Want) (ws : List Want) → final already more (w ∷ ws) ≡ final (noted_by already (entry_of w) (binding_of w.answer)) more ws
final_first already more w ws =
    noted_append already (left_in (w ∷ ws)) more ∙ ap (λ l. noted l more) (left_first already w ws)
    ∙ sym (noted_append (noted_by already (entry_of w) (binding_of w.answer)) (left_in ws) more)

one_table : (bs before : List Binding) (more : List Entry) (p : Pass) (ws : List Want) → bs ≡ before ++ map bind ws → length p.links ≡ length before
    → all_bound bs p (map entry_of ws) ≡ pass (noted p.wanted (left_in ws)) (p.links ++ map (link_of (final p.wanted more ws)) ws)
unfolding noted
one_table bs before more p [] whole number = ap (λ l. pass p.wanted l) (sym (append-nil p.links))
one_table bs before more p (w ∷ ws) whole number =
    let e = entry_of w in
    let b = binding_of w.answer in
    let behind = noted_by p.wanted e b in
    ap (λ o. all_bound bs (bound_by p e o) (map entry_of ws)) (next_at bs before b (map bind ws) (length p.links) whole number)
    ∙ one_table bs (before ++ b ∷ []) more (bound p e b) ws (whole ∙ sym (append_assoc before (b ∷ []) (map bind ws))) (one_longer p.links before (link_by behind e b) b number)
    ∙ ap (λ l. pass (noted behind (left_in ws)) l)
    (append_assoc p.links (link_by behind e b ∷ []) (map (link_of (final behind more ws)) ws)
    ∙ ap (λ k. p.links ++ k ∷ map (link_of (final behind more ws)) ws) (link_stays p.wanted (left_in ws ++ more) e b)
    ∙ ap (λ f. p.links ++ map (link_of f) (w ∷ ws)) (sym (final_first p.wanted more w ws)))
    ∙ ap (λ l. pass l (p.links ++ map (link_of (final p.wanted more (w ∷ ws))) (w ∷ ws))) (sym (left_first p.wanted w ws))

-- ---- what an instance uses

mapped : {A B : Type 0} (f : A → B) (xs ys : List A) → map f (xs ++ ys) ≡ map f xs ++ map f ys
mapped f [] ys = refl
mapped f (x ∷ xs) ys = ap (λ l. f x ∷ l) (mapped f xs ys)

module _ (t : Tree) where
  entry_wanted : (x : TreeInstance) (r : List ℕ) (f : Face) (o : Option Item) → map entry_of (want t x r f o) ≡ entry_at f o
  unfolding want
  entry_wanted x r f None = refl
  entry_wanted x r f (Some i) = refl

  entries_wanted : (x : TreeInstance) (r : List ℕ) (f : Face) (ns : List ℕ)
      → map entry_of (flat_map (λ n. want t x r f (slice_get f.items n)) ns) ≡ flat_map (λ n. entry_at f (slice_get f.items n)) ns
  entries_wanted x r f [] = refl
  entries_wanted x r f (n ∷ ns) =
      mapped entry_of (want t x r f (slice_get f.items n)) (flat_map (λ m. want t x r f (slice_get f.items m)) ns)
      ∙ (λ j. entry_wanted x r f (slice_get f.items n) j ++ entries_wanted x r f ns j)

  all_wanted : (x : TreeInstance) (rs : List (List ℕ)) (ms : List Import) → length rs ≡ length ms → map entry_of (wants_of t x rs ms) ≡ entries_in ms
  unfolding wants_of
  all_wanted x [] [] h = refl
  all_wanted x [] (m ∷ ms) h = absurd cc
  all_wanted x (r ∷ rs) [] h = absurd cc
  all_wanted x (r ∷ rs) (m ∷ ms) h =
      mapped entry_of (flat_map (λ n. want t x r m.face (slice_get m.face.items n)) m.used) (wants_of t x rs ms)
      ∙ (λ j. entries_wanted x r m.face m.used j ++ all_wanted x rs ms (omega (arith, h)) j)

-- ---- the links of all instances

left_append : (vs ws : List Want) → left_in (vs ++ ws) ≡ left_in vs ++ left_in ws
left_append [] ws = refl
left_append (v ∷ vs) ws = by (is_left (binding_of v.answer)) (left_append vs ws)
  where
    by : (b : Bool) → left_in (vs ++ ws) ≡ left_in vs ++ left_in ws → map entry_of (if b then v ∷ filter (λ (w : Want). is_left (binding_of w.answer)) (vs ++ ws) else filter (λ (w : Want). is_left (binding_of w.answer)) (vs ++ ws))
        ≡ map entry_of (if b then v ∷ filter (λ (w : Want). is_left (binding_of w.answer)) vs else filter (λ (w : Want). is_left (binding_of w.answer)) vs) ++ left_in ws
    by true again = ap (λ l. entry_of v ∷ l) again
    by false again = again

-- each instance has a record for each import
abbrev pub Fitting : List TreeInstance → Type 0
Fitting xs = (j : ℕ) (x : TreeInstance) → slice_get xs j ≡ Some x → length x.imports ≡ length x.shape.imports

module _ (t : Tree) where
  abbrev linked : List Entry → TreeInstance → List Link
  linked f x = map (link_of f) (wants_in t x)

  abbrev wants_among : List TreeInstance → List Want
  wants_among xs = flat_map (wants_in t) xs

  final_more : (already more : List Entry) (vs ws : List Want) → final already more (vs ++ ws) ≡ final already (left_in ws ++ more) vs
  final_more already more vs ws = ap (λ l. noted already (l ++ more)) (left_append vs ws) ∙ ap (noted already) (append_assoc (left_in vs) (left_in ws) more)

  each_table : (bss before : List (List Binding)) (more : List Entry) (ts : Tables) (xs : List TreeInstance) → Fitting xs → bss ≡ before ++ map (bindings_in t) xs → length ts.tables ≡ length before
      → all_tables bss ts xs ≡ tables (noted ts.wanted (left_in (wants_among xs))) (ts.tables ++ map (linked (final ts.wanted more (wants_among xs))) xs)
  unfolding noted
  each_table bss before more ts [] fits whole number = ap (λ l. tables ts.wanted l) (sym (append-nil ts.tables))
  each_table bss before more ts (x ∷ xs) fits whole number =
      let ws = wants_in t x in
      let rest = wants_among xs in
      let behind = noted ts.wanted (left_in ws) in
      let now = linked (final ts.wanted (left_in rest ++ more) ws) x in
      ap (λ o. all_tables bss (table_by ts x o) xs) (next_at bss before (bindings_in t x) (map (bindings_in t) xs) (length ts.tables) whole number)
      ∙ ap (λ l. all_tables bss (with_table ts (all_bound (bindings_in t x) (pass ts.wanted []) l)) xs) (sym (all_wanted t x x.imports x.shape.imports (fits 0 x refl)))
      ∙ ap (λ p. all_tables bss (with_table ts p) xs) (one_table (bindings_in t x) [] (left_in rest ++ more) (pass ts.wanted []) ws refl refl)
      ∙ each_table bss (before ++ bindings_in t x ∷ []) more (tables behind (ts.tables ++ now ∷ [])) xs (λ j y h. fits (suc j) y h)
      (whole ∙ sym (append_assoc before (bindings_in t x ∷ []) (map (bindings_in t) xs))) (one_longer ts.tables before now (bindings_in t x) number)
      ∙ ap (λ l. tables (noted behind (left_in rest)) l)
      (append_assoc ts.tables (now ∷ []) (map (linked (final behind more rest)) xs)
      ∙ ap (λ f. ts.tables ++ now ∷ map (linked f) xs) (sym (noted_append ts.wanted (left_in ws) (left_in rest ++ more)))
      ∙ ap (λ f. ts.tables ++ map (linked f) (x ∷ xs)) (sym (final_more ts.wanted more ws rest)))
      ∙ ap (λ l. tables l (ts.tables ++ map (linked (final ts.wanted more (ws ++ rest))) (x ∷ xs)))
      (sym (noted_append ts.wanted (left_in ws) (left_in rest)) ∙ ap (noted ts.wanted) (sym (left_append ws rest)))

  pub passes_link : Fitting t.instances → all_tables (bindings_of t) (tables [] []) t.instances ≡ tables (wanted_of (wants t)) (map (links_of t) t.instances)
  unfolding wanted_of
  passes_link fits =
      each_table (bindings_of t) [] [] (tables [] []) t.instances fits refl refl
      ∙ ap (λ f. tables (noted [] (left_in (wants t))) (map (linked (noted [] f)) t.instances)) (append-nil (left_in (wants t)))
