-- What a loaded image wants the host has, where what trees leave to the loader under the name of the built-in interface is that interface's.
use Rattle.std.proofs.Common.{◌≡◌, zero, ◌⊎◌, inl, inr, Bool, true, false, List, [], ◌∷◌, ◌++◌, Contains, Some, slice_get, refl, sym, ap, subst, ◌∙◌, if◌then◌else◌, arith}
use Rattle.std.proofs.lemmas.Slice.Eq.{bytes_eq-Decides}
use Rattle.mesa_types.specs.declared.faces.Face.{Face}
use Rattle.interface_records.specs.Faces.{iodefs}
use Rattle.interface_records.specs.Hosts.{IsHostItem}
use Rattle.interface_records.specs.declared.wanted.Wanted.{Wanted as Entry}
use Rattle.object_files.specs.declared.image.Image.{Image}
use Rattle.agreement_laws.specs.agreement_rules.specs.Stands.{WantsTheHost}
use Rattle.config_rules.proofs.Members.{Mem, mem_get, mem_split, flat_mem}
use Rattle.bound_images.specs.link_tables.specs.Linked.{image_of}
use Rattle.bound_images.proofs.Elements.{get_contains, all_by, map_mem}
use Rattle.bound_images.proofs.Modules.{known}
use Rattle.bound_images.proofs.Wanted.{entry_is}
use Rattle.loader_rules.specs.Wanted.{is_built_in, has_entry, noted, wanted_built_in, still_wanted}
use Rattle.loader_rules.proofs.Lists.{mem_filter}
use Rattle.loaded_runs.specs.Sources.{LeavesBuiltInToHost}
use Rattle.loaded_runs.specs.Together.{Source}
use Rattle.loaded_runs.proofs.Known.{linked_of, linked_images, Loading, world_at}

noted_mem : (already es : List Entry) (e : Entry) → Mem e (noted already es) → Mem e already ⊎ Mem e es
unfolding noted
noted_mem already [] e m = inl m
noted_mem already (x ∷ es) e m = by (λ h. noted_mem already es e h) (λ h. noted_mem (already ++ x ∷ []) es e h) (has_entry already x) m
  where
    later : Mem e already ⊎ Mem e es → Mem e already ⊎ ((x ≡ e) ⊎ Mem e es)
    later (inl h) = inl h
    later (inr h) = inr (inr h)

    with_it : Mem e already ⊎ ((x ≡ e) ⊎ ⊥) → Mem e already ⊎ ((x ≡ e) ⊎ Mem e es)
    with_it (inl h) = inl h
    with_it (inr (inl h)) = inr (inl h)
    with_it (inr (inr h)) = absurd h

    put : Mem e (already ++ x ∷ []) ⊎ Mem e es → Mem e already ⊎ ((x ≡ e) ⊎ Mem e es)
    put (inl h) = with_it (mem_split already (x ∷ []) e h)
    put (inr h) = inr (inr h)

    by : (Mem e (noted already es) → Mem e already ⊎ Mem e es) → (Mem e (noted (already ++ x ∷ []) es) → Mem e (already ++ x ∷ []) ⊎ Mem e es)
        → (b : Bool) → Mem e (if b then noted already es else noted (already ++ x ∷ []) es) → Mem e already ⊎ ((x ≡ e) ⊎ Mem e es)
    by old new true h = later (old h)
    by old new false h = put (new h)

-- an entry that is still wanted is one of the built-in interface that an image wants
still_built_in : (images : List Image) (e : Entry) → Mem e (still_wanted images) → Mem e (wanted_built_in images)
unfolding still_wanted
still_built_in images e m = by (noted_mem [] (wanted_built_in images) e m)
  where
    by : ⊥ ⊎ Mem e (wanted_built_in images) → Mem e (wanted_built_in images)
    by (inl h) = absurd h
    by (inr h) = h

module _ (L : Loading) (leaves : (s : Source) → Mem s L.sources → LeavesBuiltInToHost s.tree) where
  of_source : (s : Source) (m : Mem s L.sources) (e : Entry) → Mem e (linked_of s).wanted → is_built_in e.face ≡ true → IsHostItem e
  unfolding image_of
  of_source s m e among built =
      let W = world_at L s m in
      let O = entry_is W e among in
      let K = known W O.want O.is in
      let name : O.want.face.name ≡ iodefs.face.name = ap (λ (x : Entry). x.face) O.its ∙ (bytes_eq-Decides e.face iodefs.face.name).0 built in
      let stamp : O.want.face.stamp ≡ iodefs.face.stamp = leaves s m K.place O.want K.is O.left name in
      let face : O.want.face ≡ iodefs.face = W.built.agree O.want.face iodefs.face K.face (zero, omega arith, refl) name stamp in
      let c : Contains iodefs.face.items O.want.item =
      get_contains iodefs.face.items K.number O.want.item (subst (λ (f : Face). slice_get f.items K.number ≡ Some O.want.item) face K.there) in
      subst IsHostItem O.its (name, stamp, (c.0, O.want.item, c.1, c.2, (refl, (refl, refl, refl))))

  pub whole : WantsTheHost L.image
  whole = all_by IsHostItem L.image.wanted (λ k e is.
      let f = mem_filter (λ (x : Entry). is_built_in x.face) _ e (still_built_in (linked_images L.sources) e (subst (λ es. Mem e es) L.loaded.joined.wanted (mem_get L.image.wanted k e is))) in
      let i = flat_mem (λ (x : Image). x.wanted) (linked_images L.sources) e f.0 in
      let s = map_mem linked_of L.sources i.0 i.1 in
      of_source s.0 s.1 e (subst (λ (x : Image). Mem e x.wanted) (sym s.2) i.2) f.1)
