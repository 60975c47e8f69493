-- The program of the trees as one is lawful, where the loaded image wants nothing but what the host has.
use Rattle.std.proofs.Common.{◌≡◌, ℕ, zero, suc, ◌+◌, ◌<◌, inl, Bool, true, false, ◌&&◌, List, [], ◌∷◌, length, map, filter, Option, Some, None, slice_get, refl, sym, ap, subst, ◌∙◌, arith}
use Rattle.std.specs.Prelude.{codes}
use Rattle.std.proofs.lemmas.Option.{none-some, same_Some}
use Rattle.std.proofs.lemmas.Slice.Eq.{bytes_eq-Decides}
use Rattle.mesa_types.specs.Links.{item_in, imported, IsUsed}
use Rattle.mesa_types.specs.Sound.{Sound, ExportIn, PairIn, IsGiven}
use Rattle.mesa_types.specs.Types.{types_in}
use Rattle.mesa_types.specs.Typed.{Module}
use Rattle.mesa_types.specs.declared.types.FieldType.{FieldType, roll-FieldType, out-roll-FieldType}
use Rattle.mesa_types.specs.declared.types.TypeTree.{TypeTree}
use Rattle.mesa_types.specs.declared.types.TypeTree.TheOpen.{FieldType-F}
use Rattle.mesa_types.specs.declared.types.TypeTree.TheVariants as v
use Rattle.mesa_types.specs.declared.faces.Export.{Export}
use Rattle.mesa_types.specs.declared.faces.Face.{Face}
use Rattle.mesa_types.specs.declared.faces.Import.{Import}
use Rattle.mesa_types.specs.declared.faces.Item.{Item}
use Rattle.mesa_types.specs.declared.faces.ItemKind.{ItemKind}
use Rattle.mesa_types.specs.declared.faces.ItemKind.TheVariants as kind
use Rattle.mesa_types.specs.declared.faces.Shape.{Shape}
use Rattle.interface_records.specs.Faces.{iodefs}
use Rattle.interface_records.specs.Hosts.{IsHostItem}
use Rattle.object_files.specs.declared.image.Image.{Image}
use Rattle.agreement_laws.specs.agreement_rules.specs.Stands.{WantsTheHost}
use Rattle.source_meaning.specs.Program as source
use Rattle.source_meaning.specs.Program.{Program, host_of, host_target}
use Rattle.source_meaning.specs.Lawful.{host_takes, host_gives, Supplies, StandsFor, LawfulInstance, Lawful}
use Rattle.config_rules.specs.Exporters.{Outlet, outlets, is_given, goes_to, exporters}
use Rattle.config_rules.specs.Resolves.{under, given_for}
use Rattle.config_rules.specs.declared.tree.TreeInstance.{TreeInstance}
use Rattle.config_rules.proofs.Members.{Mem, mem_get, mapped_length, flat_mem}
use Rattle.bound_images.specs.Programs.{given_as, target_by, target, instance_for, program_of}
use Rattle.bound_images.proofs.Chosen.{given_there}
use Rattle.bound_images.proofs.Elements.{all_mem, all_by, get_map, mem_map, map_mem, mem_flat, mem_filter, one_there}
use Rattle.bound_images.proofs.Lawful.{supplied}
use Rattle.bound_images.proofs.Modules as built
use Rattle.bound_images.proofs.Modules.{World, module_for, code_is, Known, known}
use Rattle.loader_rules.specs.Wanted.{still_wanted}
use Rattle.loader_rules.proofs.Wanting.{are_same, still_stands}
use Rattle.loaded_runs.specs.Together.{Source, Place, places, modules_of, instances_before, instance_in, started_in, together}
use Rattle.loaded_runs.proofs.Items.{BoundWithin, BoundBefore, LeftToHost, Comes, ToTree, ToEarlier, ToLoader, comes}
use Rattle.loaded_runs.proofs.Known.{linked_of, linked_images, Loading, joined, program, world}
use Rattle.loaded_runs.proofs.Offering.{export_at_its}
use Rattle.loaded_runs.proofs.Outlets.{outlet_in, outlets_are}
use Rattle.loaded_runs.proofs.Places.{IsPlace, place_mem, place_of, length_about, changed_length, located}
use Rattle.loaded_runs.proofs.Scopes.{spot}
use Rattle.loaded_runs.proofs.Standing.{meant, program_there, code_there, imports_there, in_program}

-- ---- what an item of the built-in interface stands for is of its kind and types

one_type : (name : Option (List ℕ)) (t : TypeTree) → types_in (roll-FieldType (record { name = name; kind = t }) ∷ []) ≡ t ∷ []
one_type name t = ap (λ (f : FieldType-F TypeTree FieldType). f.kind ∷ []) (out-roll-FieldType (record { name = name; kind = t }))

abbrev OfHost : Program → Item → Type 0
OfHost P i = StandsFor P (host_target (host_of i.name)) i

of_host : (P : Program) (n : ℕ) (i : Item) → slice_get iodefs.face.items n ≡ Some i → OfHost P i
unfolding StandsFor host_target host_of host_takes host_gives
of_host P zero i is = subst (OfHost P) (same_Some _ i is) (refl, one_type (Some (codes "c")) v.Character, refl)
of_host P (suc zero) i is = subst (OfHost P) (same_Some _ i is) (refl, one_type (Some (codes "s")) v.String, refl)
of_host P (suc (suc zero)) i is = subst (OfHost P) (same_Some _ i is) (refl, one_type (Some (codes "n")) v.Integer, refl)
of_host P (suc (suc (suc zero))) i is = subst (OfHost P) (same_Some _ i is) (refl, refl, one_type None v.Character)
of_host P (suc (suc (suc (suc zero)))) i is = subst (OfHost P) (same_Some _ i is) (refl, refl, one_type None v.Boolean)
of_host P (suc (suc (suc (suc (suc zero))))) i is = subst (OfHost P) (same_Some _ i is) (refl, refl, refl)
of_host P (suc (suc (suc (suc (suc (suc n)))))) i is = absurd (none-some i is)

as_given : (P : Program) (i : Item) (j q : ℕ) → Supplies P j q i → (k : ItemKind) → i.kind ≡ k → StandsFor P (given_as k j q) i
unfolding given_as StandsFor
as_given P i j q s kind.Procedure e = (e, s)
as_given P i j q s kind.Signal e = ((λ p. absurd (let g : kind.Signal ≡ kind.Procedure = sym e ∙ p in cc)), s)
as_given P i j q s kind.Error e = ((λ p. absurd (let g : kind.Error ≡ kind.Procedure = sym e ∙ p in cc)), s)

module _ (L : Loading) where
  -- ---- what an instance of a tree supplies in its own program, it supplies in the new one

  moved_supply : (p : Place) (I : IsPlace L.sources p) (i q : ℕ) (item : Item) → Supplies (built.program (world L p I)) i q item → Supplies (program L) (instances_before p + i) q item
  unfolding program_of
  moved_supply p I i q item S =
      let W = world L p I in
      let r = get_map (built.meant W) p.source.tree.instances i S.instance S.is_there in
      let code : S.instance.code ≡ (meant L p r.0).code =
      ap (λ (y : source.Instance). y.code) (sym r.2) ∙ (code_is W r.0 (module_for W i r.0 r.1) ∙ sym (code_there L p I i r.0 r.1)) in
      record {
        instance = meant L p r.0;
        given = S.given;
        is_there = program_there L p I i r.0 r.1;
        is_given = subst (λ (m : Module). IsGiven m item.kind q S.given) code S.is_given;
        takes = S.takes;
        gives = S.gives;
      }

  -- ---- an exporter of the new tree supplies the items that it gives

  -- of which tree it is
  record OutletIn (o : Outlet) : Type 0 where
    its : Place
    is_place : IsPlace L.sources its
    own : Outlet
    is : Mem own (outlets its.source.tree)
    same : outlet_in its own ≡ o

  outlet_there : (o : Outlet) → Mem o (outlets (joined L)) → OutletIn o
  outlet_there o m =
      let f = flat_mem (λ (q : Place). map (outlet_in q) (outlets q.source.tree)) (places L.sources) o (subst (λ os. Mem o os) (outlets_are L.sources) m) in
      let g = map_mem (outlet_in f.0) (outlets f.0.source.tree) o f.2 in
      record { its = f.0; is_place = place_of L.sources f.0 f.1; own = g.0; is = g.1; same = g.2 }

  both : (a b : Bool) → a && b ≡ true → (a ≡ true) × (b ≡ true)
  both true b e = (refl, e)
  both false b e = absurd cc

  -- with the item that is wanted, by its name in one interface
  module _ (item : Item) (face : Face) (one : (n : ℕ) (i : Item) → slice_get face.items n ≡ Some i → i.name ≡ item.name → i ≡ item) where
    by_own : (q : Place) (K : IsPlace L.sources q) (o : Outlet) → Mem o (outlets q.source.tree) → is_given item.name o.gives.face o.gives.given ≡ true → o.gives.face ≡ face
        → Supplies (program L) (instances_before q + o.exporter.instance) (given_for item.name o.gives.face o.gives.given) item
    unfolding ExportIn
    by_own q K o m given same =
        let W = world L q K in
        let X = export_at_its q.source.tree o m in
        let M = module_for W o.exporter.instance X.its X.there in
        let G = given_there item.name o.gives.face o.gives.given given in
        let exported : Mem o.gives M.its.exports = subst (λ (s : Shape). Mem o.gives s.exports) (sym M.shape) (mem_get X.its.shape.exports o.exporter.export o.gives X.gives) in
        let sound = all_mem (ExportIn M.its) M.its.exports (W.built.sound X.its.component M.its M.there).exports o.gives exported in
        let pair : PairIn M.its o.gives.face G.pair = all_mem (PairIn M.its o.gives.face) o.gives.given sound.2 G.pair G.is in
        let is : pair.wanted ≡ item =
        one_there o.gives.face.items G.pair.item pair.wanted G.item pair.is_wanted G.there
        ∙ one G.pair.item G.item (subst (λ (f : Face). slice_get f.items G.pair.item ≡ Some G.item) same G.there) G.named in
        record {
          instance = meant L q X.its;
          given = pair.given;
          is_there = program_there L q K o.exporter.instance X.its X.there;
          is_given =
              subst (λ (m : Module). IsGiven m item.kind (given_for item.name o.gives.face o.gives.given) pair.given) (sym (code_there L q K o.exporter.instance X.its X.there))
              (subst (λ (i : Item). IsGiven M.its i.kind (given_for item.name o.gives.face o.gives.given) pair.given) is
              (subst (λ (m : ℕ). IsGiven M.its pair.wanted.kind m pair.given) G.number pair.is_given));
          takes = pair.takes ∙ ap (λ (i : Item). types_in i.takes) is;
          gives = pair.gives ∙ ap (λ (i : Item). types_in i.gives) is;
        }

    by_outlet : (o : Outlet) → Mem o (outlets (joined L)) → is_given item.name o.gives.face o.gives.given ≡ true → o.gives.face ≡ face
        → Supplies (program L) o.exporter.instance (given_for item.name o.gives.face o.gives.given) item
    by_outlet o m given same =
        let R = outlet_there o m in
        let gives : R.own.gives ≡ o.gives = ap (λ (x : Outlet). x.gives) R.same in
        subst (λ (x : Outlet). Supplies (program L) x.exporter.instance (given_for item.name x.gives.face x.gives.given) item) R.same
        (by_own R.its R.is_place R.own R.is (ap (λ (x : Export). is_given item.name x.face x.given) gives ∙ given) (ap (λ (x : Export). x.face) gives ∙ same))

  -- ---- each used item stands for one of its own kind and types

  module _ (host : WantsTheHost L.image) (p : Place) (I : IsPlace L.sources p) (j : ℕ) (x : TreeInstance) (at : slice_get p.source.tree.instances j ≡ Some x) where
    abbrev W : World
    W = world L p I

    module _ (k n : ℕ) (import : Import) (item : Item) (there : slice_get x.shape.imports k ≡ Some import) (its : imported x.shape.imports k n ≡ Some item)
        (used : IsUsed x.shape.imports k n) where
      by_tree : (B : BoundWithin L p I j x at k n import item there its used) → Supplies (program L) (instances_before p + B.instance) B.given item
      by_tree B =
          subst (λ (i : Item). Supplies (program L) (instances_before p + B.instance) B.given i) B.item_is
          (moved_supply p I B.instance B.given B.want.item (supplied W B.want (known W B.want B.is) B.instance B.given B.answer))

      by_before : (B : BoundBefore L p I j x at k n import item there its used)
          → Supplies (program L) B.outlet.exporter.instance (given_for item.name B.outlet.gives.face B.outlet.gives.given) item
      unfolding exporters
      by_before B =
          let K = known W B.want B.is in
          let alone : Mem B.outlet (filter (under import.face) (exporters (joined L) (spot 0 import.face.name) item.name)) = subst (λ os. Mem B.outlet os) (sym B.alone) (inl refl) in
          let f = mem_filter (under import.face) (exporters (joined L) (spot 0 import.face.name) item.name) B.outlet alone in
          let g = mem_filter (λ o. goes_to (joined L) (spot 0 import.face.name) o && is_given item.name o.gives.face o.gives.given) (outlets (joined L)) B.outlet f.0 in
          let h = both (goes_to (joined L) (spot 0 import.face.name) B.outlet) (is_given item.name B.outlet.gives.face B.outlet.gives.given) g.1 in
          by_outlet item import.face (one K) B.outlet g.0 h.1 B.agrees
        where
          one : Known W B.want → (m : ℕ) (i : Item) → slice_get import.face.items m ≡ Some i → i.name ≡ item.name → i ≡ item
          one K m i e named =
              let here : slice_get B.want.face.items m ≡ Some i = subst (λ (f : Face). slice_get f.items m ≡ Some i) (sym B.face_is) e in
              let place : m ≡ K.number = K.names m K.number i B.want.item here K.there (named ∙ ap (λ (y : Item). y.name) (sym B.item_is)) in
              one_there B.want.face.items K.number i B.want.item (subst (λ a. slice_get B.want.face.items a ≡ Some i) place here) K.there ∙ B.item_is

      by_host : (H : LeftToHost L p I j x at k n import item there its used) → OfHost (program L) item
      by_host H =
          let K = known W H.want H.is in
          let images = linked_images L.sources in
          let among = mem_flat (λ (i : Image). i.wanted) images (linked_of p.source) H.entry (mem_map linked_of L.sources p.source (place_mem L.sources p I)) H.entry_there in
          let S = still_stands images H.entry among H.built_in in
          let A = are_same S.its H.entry S.same in
          let wanted : IsHostItem S.its =
          all_mem IsHostItem L.image.wanted host S.its (subst (λ es. Mem S.its es) (sym L.loaded.joined.wanted) (mem_get (still_wanted images) _ S.its S.there)) in
          let name : H.want.face.name ≡ iodefs.face.name = ap (λ (f : Face). f.name) H.face_is ∙ (sym H.face ∙ (bytes_eq-Decides H.entry.face iodefs.face.name).0 H.built_in) in
          let stamp : H.want.face.stamp ≡ iodefs.face.stamp = ap (λ (f : Face). f.stamp) H.face_is ∙ (sym H.stamp ∙ (sym A.stamp ∙ wanted.1)) in
          let face : H.want.face ≡ iodefs.face = W.built.agree H.want.face iodefs.face K.face (zero, omega arith, refl) name stamp in
          subst (OfHost (program L)) H.item_is (of_host (program L) K.number H.want.item (subst (λ (f : Face). slice_get f.items K.number ≡ Some H.want.item) face K.there))

      used_stands : StandsFor (program L) (target (joined L) (instance_in p x) k n) item
      unfolding target_by
      used_stands = by (comes L p I j x at k n import item there its used)
        where
          by : Comes L p I j x at k n import item there its used → StandsFor (program L) (target (joined L) (instance_in p x) k n) item
          by (ToTree B) = subst (λ t. StandsFor (program L) t item) (sym B.stands) (as_given (program L) item (instances_before p + B.instance) B.given (by_tree B) item.kind refl)
          by (ToEarlier B) =
              subst (λ t. StandsFor (program L) t item) (sym B.stands)
              (as_given (program L) item B.outlet.exporter.instance (given_for item.name B.outlet.gives.face B.outlet.gives.given) (by_before B) item.kind refl)
          by (ToLoader H) = subst (λ t. StandsFor (program L) t item) (sym H.stands) (by_host H)

    abbrev AllStand : List Import → Type 0
    AllStand ms = (k n : ℕ) (item : Item) → imported ms k n ≡ Some item → IsUsed ms k n → StandsFor (program L) (target (joined L) (instance_in p x) k n) item

    all_stand : AllStand x.shape.imports
    unfolding imported item_in
    all_stand k n item its used = by (slice_get x.shape.imports k) refl its
      where
        by : (o : Option Import) → slice_get x.shape.imports k ≡ o → item_in o n ≡ Some item → StandsFor (program L) (target (joined L) (instance_in p x) k n) item
        by None e h = absurd (none-some item h)
        by (Some m) e h = used_stands k n m item e its used

    instance_lawful : LawfulInstance (program L) (meant L p x)
    instance_lawful =
        let M = module_for W j x at in
        record {
          sound = subst Sound (sym (code_there L p I j x at)) (W.built.sound x.component M.its M.there);
          links = subst AllStand (sym (imports_there L p I j x at)) all_stand;
        }

  -- ---- the whole

  control_there : (k j : ℕ) → slice_get (joined L).control k ≡ Some j → j < length (program L).instances
  unfolding together program_of
  control_there k j e =
      let r = located (λ (s : Source). s.tree.control) started_in L.sources k j e in
      let own = all_mem (λ i. i < length r.its.source.tree.instances) r.its.source.tree.control (world L r.its r.is_place).built.tree.control r.element (mem_get r.its.source.tree.control r.at r.element r.there) in
      let all = length_about (λ (s : Source). s.tree.instances) L.sources r.its r.is_place in
      let many = changed_length (λ (s : Source). s.tree.instances) instance_in [] L.sources in
      let mapped = mapped_length (instance_for (joined L) (modules_of L.sources)) (joined L).instances in
      let here : instances_before r.its + r.element ≡ j = r.same in
      omega (arith, own, all, many, mapped, here)

  pub whole : WantsTheHost L.image → Lawful (program L)
  unfolding program_of
  whole host = record {
    instances = all_by (LawfulInstance (program L)) (program L).instances (λ j m there.
        let R = in_program L j m there in
        subst (LawfulInstance (program L)) R.same (instance_lawful host R.its R.is_place R.at R.instance R.there));
    control = all_by (λ j. j < length (program L).instances) (joined L).control control_there;
  }
