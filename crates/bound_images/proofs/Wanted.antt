-- The entry of an item that is left to the loader is of that very item, and each entry is such a one.
use Rattle.std.proofs.Common.{◌≡◌, false, Some, slice_get, sym, ap, ◌∙◌}
use Rattle.interface_records.specs.declared.wanted.Wanted.{Wanted as Entry}
use Rattle.config_rules.specs.Resolves.{Left, Want, wants, is_bad}
use Rattle.link_tables.specs.Linked.{entry_number, entry_of, wanted_of}
use Rattle.config_rules.proofs.Members.{Mem, mem_get}
use Rattle.bound_images.proofs.Entries.{EntryOf, left_entry, entries_are}
use Rattle.bound_images.proofs.Modules.{World, known, same_item}

pub record EntryFor (W : World) (w : Want) : Type 0 where
  pub entry : Entry
  pub there : slice_get (wanted_of (wants W.tree)) (entry_number (wanted_of (wants W.tree)) (entry_of w)) ≡ Some entry
  pub face : entry.face ≡ w.face.name
  pub stamp : entry.stamp ≡ w.face.stamp
  pub item : entry.item ≡ w.item

all_good : (W : World) (w : Want) → Mem w (wants W.tree) → is_bad w.answer ≡ false
all_good W w m = (known W w m).good

pub entry_is : (W : World) (e : Entry) → Mem e (wanted_of (wants W.tree)) → EntryOf (wants W.tree) e
entry_is W e m = entries_are (wants W.tree) (all_good W) e m

pub entry_for : (W : World) (w : Want) → Mem w (wants W.tree) → w.answer ≡ Left → EntryFor W w
entry_for W w m left =
    let E = left_entry (wants W.tree) w m left in
    let O = entry_is W E.entry (mem_get (wanted_of (wants W.tree)) (entry_number (wanted_of (wants W.tree)) (entry_of w)) E.entry E.there) in
    let V = known W O.want O.is in
    record {
      entry = E.entry;
      there = E.there;
      face = E.same.face;
      stamp = E.same.stamp;
      item =
          sym (ap (λ (e : Entry). e.item) O.its)
          ∙ same_item W w (known W w m) O.want.face V.face (ap (λ (e : Entry). e.face) O.its ∙ E.same.face) (ap (λ (e : Entry). e.stamp) O.its ∙ E.same.stamp)
          V.number O.want.item V.there (ap (λ (e : Entry). e.item.name) O.its ∙ E.same.item);
    }
