-- What an instance wants costs a link and perhaps an entry for each used item.
use Rattle.std.specs.Prelude.{◌≡◌, ℕ, suc, ◌+◌, ◌*◌, ◌≤◌, Bool, true, false, ◌&&◌, nat_le, List, [], ◌∷◌, ◌++◌, length, map, flat_map, filter, drop, All, Option, Some, None, slice_get, if◌then◌else◌}
use Rattle.std.proofs.Common.{arith}
use Rattle.std.specs.List.{list_all}
use Rattle.std.proofs.lemmas.Bool.{and_parts, leb-true}
use Rattle.std.proofs.lemmas.List.Elements.{All-head, All-tail}
use Rattle.mesa_base.specs.declared.limits.TheConstants.{IDENTIFIER_BYTES}
use Rattle.mesa_base.specs.Name.{IsName, begins_with_letter, is_letter_or_digit}
use Rattle.mesa_types.specs.declared.faces.Face.{Face}
use Rattle.mesa_types.specs.declared.faces.Import.{Import}
use Rattle.mesa_types.specs.declared.faces.Item.{Item}
use Rattle.interface_records.specs.Lists.{Ascend}
use Rattle.interface_records.specs.Spelled.{ImportCanBeSpelled}
use Rattle.interface_records.specs.declared.wanted.Wanted.{Wanted as Entry}
use Rattle.config_rules.specs.Bindings.{binding_of}
use Rattle.config_rules.specs.Resolves.{Want, want, wants_of}
use Rattle.config_rules.specs.declared.tree.Binding.{Binding}
use Rattle.config_rules.specs.declared.tree.Binding.TheVariants.{Left, To}
use Rattle.config_rules.specs.declared.tree.Tree.{Tree}
use Rattle.config_rules.specs.declared.tree.TreeInstance.{TreeInstance}
use Rattle.link_tables.specs.Linked.{has_entry, noted, entry_of, is_left, left_in, wanted_of, link_by, link_of}
use Rattle.checking_laws.specs.UsedItems.{used_items}
use Rattle.file_sizes.specs.Sizes.{total, item_size, entry_size, link_size}
use Rattle.image_sizes.proofs.Totals.{total_append, total_map, total_filter, of_some, one_behind, less_behind}

-- a link, and an entry
abbrev pub want_cost : Want → ℕ
want_cost w = 9 + entry_size (entry_of w)

pub short_name : (x : List ℕ) → IsName x → length x ≤ 255
short_name x h =
    let parts = and_parts (begins_with_letter x) (list_all is_letter_or_digit x && nat_le (length x) IDENTIFIER_BYTES) h in
    let rest = and_parts (list_all is_letter_or_digit x) (nat_le (length x) IDENTIFIER_BYTES) parts.1 in
    leb-true (length x) IDENTIFIER_BYTES rest.1

module _ (t : Tree) (x : TreeInstance) where
  one_want : (r : List ℕ) (face : Face) → length face.name ≤ 255 → (o : Option Item) → total want_cost (want t x r face o) ≤ 271 + of_some item_size o
  unfolding want total
  one_want r face short None = omega arith
  one_want r face short (Some i) = omega (arith, short)

  wants_at : (r : List ℕ) (face : Face) → length face.name ≤ 255 → (low : ℕ) (ns : List ℕ) → Ascend low (length face.items) ns
      → total want_cost (flat_map (λ n. want t x r face (slice_get face.items n)) ns) ≤ 271 * length ns + total item_size (drop low face.items)
  unfolding Ascend total
  wants_at r face short low [] h = omega arith
  wants_at r face short low (n ∷ ns) h = omega (
    arith,
    total_append want_cost (want t x r face (slice_get face.items n)) (flat_map (λ n. want t x r face (slice_get face.items n)) ns),
    one_want r face short (slice_get face.items n),
    one_behind item_size n face.items,
    less_behind item_size low n face.items h.0,
    wants_at r face short (suc n) ns h.2,
  )

  pub wants_cost : (rs : List (List ℕ)) (ms : List Import) → All ImportCanBeSpelled ms
      → total want_cost (wants_of t x rs ms) ≤ 271 * used_items ms + total (λ (i : Import). total item_size i.face.items) ms
  unfolding wants_of total used_items
  wants_cost [] ms h = omega arith
  wants_cost (r ∷ rs) [] h = omega arith
  wants_cost (r ∷ rs) (m ∷ ms) h =
      let here = All-head ImportCanBeSpelled m ms h in
      omega (
        arith,
        total_append want_cost (flat_map (λ n. want t x r m.face (slice_get m.face.items n)) m.used) (wants_of t x rs ms),
        wants_at r m.face (short_name m.face.name (here.face).its_name) 0 m.used here.used,
        wants_cost rs ms (All-tail ImportCanBeSpelled m ms h),
      )

-- ---- links, and what is wanted of the loader

one_link : (wanted : List Entry) (e : Entry) (b : Binding) → link_size (link_by wanted e b) ≤ 9
unfolding link_by
one_link wanted e Left = omega arith
one_link wanted e (To j n) = omega arith

pub links_cost : (wanted : List Entry) (ws : List Want) → total link_size (map (link_of wanted) ws) ≤ total (λ (w : Want). 9) ws
unfolding total
links_cost wanted [] = omega arith
links_cost wanted (w ∷ ws) = omega (arith, one_link wanted (entry_of w) (binding_of w.answer), links_cost wanted ws)

noted_cost : (f : Entry → ℕ) (already es : List Entry) → total f (noted already es) ≤ total f already + total f es
unfolding noted total
noted_cost f already [] = omega arith
noted_cost f already (e ∷ es) = by (has_entry already e) (noted_cost f already es) (noted_cost f (already ++ e ∷ []) es) (total_append f already (e ∷ []))
  where
    by : (b : Bool) → total f (noted already es) ≤ total f already + total f es
        → total f (noted (already ++ e ∷ []) es) ≤ total f (already ++ e ∷ []) + total f es → total f (already ++ e ∷ []) ≡ total f already + (f e + 0)
        → total f (if b then noted already es else noted (already ++ e ∷ []) es) ≤ total f already + (f e + total f es)
    by true h k s = omega (arith, h)
    by false h k s = omega (arith, k, s)

pub wanted_cost : (ws : List Want) → total entry_size (wanted_of ws) ≤ total (λ (w : Want). entry_size (entry_of w)) ws
unfolding wanted_of total
wanted_cost ws = omega (
  arith,
  noted_cost entry_size [] (left_in ws),
  total_map entry_size entry_of (filter (λ (w : Want). is_left (binding_of w.answer)) ws),
  total_filter (λ (w : Want). entry_size (entry_of w)) (λ (w : Want). is_left (binding_of w.answer)) ws,
)
