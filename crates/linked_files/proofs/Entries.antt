-- What is wanted has its form, and each link that is left to the loader is to an entry like what is needed.
use Rattle.std.proofs.Common.{◌≡◌, ℕ, zero, suc, ◌<◌, true, false, List, [], ◌∷◌, length, map, Some, slice_get, refl, sym, ap, subst, ◌∙◌, bytes_eq, nat_eq}
use Rattle.std.proofs.lemmas.Bool.{and_from, eq-eqb}
use Rattle.std.proofs.lemmas.Option.{none-some, same_Some, slice_get_within}
use Rattle.std.proofs.lemmas.List.Elements.{All-contains}
use Rattle.mesa_types.specs.declared.faces.Face.{Face}
use Rattle.mesa_types.specs.declared.faces.Item.{Item}
use Rattle.interface_records.specs.PlainTypes.{plain_item}
use Rattle.interface_records.specs.Spelled.{ItemCanBeSpelled, ItemsCanBeSpelled, FaceCanBeSpelled, ImportCanBeSpelled}
use Rattle.interface_records.specs.declared.wanted.Wanted.{Wanted as Entry}
use Rattle.interface_records.specs.Faces.{SameSignature}
use Rattle.config_rules.specs.Resolves.{Left, Want, wants, is_bad}
use Rattle.config_rules.proofs.Members.{Mem, mem_get}
use Rattle.spelled_trees.specs.link_tables.specs.Linked.{entry_number, entry_of, wanted_of}
use Rattle.bound_images.proofs.Chosen.{same_names}
use Rattle.bound_images.proofs.Elements.{mem_contains}
use Rattle.bound_images.proofs.Entries.{EntryOf, left_entry, entries_are}
use Rattle.object_rules.specs.ImageForms.{entry, is_wanted, same_signature}
use Rattle.spelled_laws.proofs.FacesFit.{items_fit}
use Rattle.spelled_laws.proofs.Names.{name_fits}
use Rattle.object_rules.proofs.SameTypes.{signature_alike}
use Rattle.linked_files.proofs.Known.{World, shape_spelled, Known, known, same_item}

item_spelled : (is : List Item) → ItemsCanBeSpelled (map plain_item is) → (n : ℕ) (i : Item) → slice_get is n ≡ Some i → ItemCanBeSpelled (plain_item i)
unfolding ItemsCanBeSpelled
item_spelled [] h n i e = absurd (none-some i e)
item_spelled (x ∷ is) h zero i e = subst (λ (y : Item). ItemCanBeSpelled (plain_item y)) (same_Some x i e) h.0
item_spelled (x ∷ is) h (suc n) i e = item_spelled is h.1 n i e

abbrev Spelled : Face → Type 0
Spelled f = FaceCanBeSpelled f.name f.stamp (map plain_item f.items)

face_spelled : (W : World) (w : Want) → Known W w → Spelled w.face
face_spelled W w K =
    let s = shape_spelled W K.instance K.object in
    let i = All-contains ImportCanBeSpelled K.instance.shape.imports K.want.import s.imports (mem_contains K.instance.shape.imports K.want.import K.want.is) in
    subst Spelled (sym K.want.face) i.face

want_fits : (W : World) (w : Want) → Known W w → (entry 2).fits (entry_of w)
unfolding entry
want_fits W w K =
    let f = face_spelled W w K in
    (name_fits w.face.name f.its_name, (f.its_stamp, (items_fit w.item).0 (item_spelled w.face.items f.each K.want.number w.item K.there)))

all_good : (W : World) (w : Want) → Mem w (wants W.tree) → is_bad w.answer ≡ false
all_good W w m = (known W w m).good

entry_is : (W : World) (e : Entry) → Mem e (wanted_of (wants W.tree)) → EntryOf (wants W.tree) e
entry_is W e m = entries_are (wants W.tree) (all_good W) e m

-- each entry has its form
pub entry_fits : (W : World) (e : Entry) → Mem e (wanted_of (wants W.tree)) → (entry 2).fits e
entry_fits W e m = let O = entry_is W e m in subst (entry 2).fits O.its (want_fits W O.want (known W O.want O.is))

-- the entry of an item that is left is like what is needed
pub record LeftTo (W : World) (w : Want) : Type 0 where
  pub there : entry_number (wanted_of (wants W.tree)) (entry_of w) < length (wanted_of (wants W.tree))
  pub alike : is_wanted (Some (entry_of w)) (slice_get (wanted_of (wants W.tree)) (entry_number (wanted_of (wants W.tree)) (entry_of w))) ≡ true

pub left_to : (W : World) (w : Want) → Mem w (wants W.tree) → w.answer ≡ Left → LeftTo W w
left_to W w m left =
    let all = wanted_of (wants W.tree) in
    let n = entry_number (wanted_of (wants W.tree)) (entry_of w) in
    let E = left_entry (wants W.tree) w m left in
    let O = entry_is W E.entry (mem_get all n E.entry E.there) in
    let V = known W O.want O.is in
    let same : E.entry.item ≡ w.item =
    sym (ap (λ (e : Entry). e.item) O.its)
    ∙ same_item W w (known W w m) O.want.face V.face (ap (λ (e : Entry). e.face) O.its ∙ E.same.face) (ap (λ (e : Entry). e.stamp) O.its ∙ E.same.stamp)
    V.want.number O.want.item V.there (ap (λ (e : Entry). e.item.name) O.its ∙ E.same.item) in
    record {
      there = slice_get_within all n E.entry E.there;
      alike = subst (λ o. is_wanted (Some (entry_of w)) o ≡ true) (sym E.there)
          (and_from (bytes_eq E.entry.face w.face.name) _ (same_names E.entry.face w.face.name E.same.face)
          (and_from (nat_eq E.entry.stamp w.face.stamp) _ (eq-eqb E.entry.stamp w.face.stamp E.same.stamp)
          (and_from (bytes_eq E.entry.item.name w.item.name) (same_signature E.entry.item w.item) (same_names E.entry.item.name w.item.name E.same.item)
          (signature_alike E.entry.item w.item (subst (λ (i : Item). SameSignature E.entry.item i) same (refl, refl, refl))))));
    }
