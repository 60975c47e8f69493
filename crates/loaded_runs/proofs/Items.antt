-- An item that an instance uses: what it stands for in the program of the trees as one, and what its link in the loaded image is bound to.
use Rattle.std.proofs.Common.{◌≡◌, ℕ, ◌+◌, Bool, true, false, ◌&&◌, List, [], ◌∷◌, length, map, filter, flat_map, Contains, bytes_eq, nat_eq, Some, None, is_some, slice_get, refl, sym, ap, subst, ◌∙◌, if◌then◌else◌, arith}
use Rattle.std.specs.Prelude.{option_and_then}
use Rattle.std.proofs.lemmas.Option.{slice_get_within}
use Rattle.std.proofs.lemmas.Slice.Eq.{bytes_eq-Decides}
use Rattle.mesa_types.specs.Links.{item_in, imported, UsedIn, IsUsed}
use Rattle.mesa_types.specs.declared.faces.Export.{Export}
use Rattle.mesa_types.specs.declared.faces.Import.{Import}
use Rattle.mesa_types.specs.declared.faces.Item.{Item}
use Rattle.interface_records.specs.Faces.{iodefs}
use Rattle.interface_records.specs.declared.wanted.Wanted.{Wanted as Entry}
use Rattle.code_rules.specs.Links.{link_number}
use Rattle.object_files.specs.declared.image.Image.{Image}
use Rattle.object_files.specs.declared.image.Link.{Link}
use Rattle.object_files.specs.declared.image.Link.TheVariants.{Wanted, To}
use Rattle.agreement_laws.specs.machine_rules.specs.LookUps.{bound_to}
use Rattle.source_meaning.specs.Program.{Target}
use Rattle.config_rules.specs.Bindings.{binding_of}
use Rattle.config_rules.specs.Exporters.{Spot, Outlet, outside_of, exporters}
use Rattle.config_rules.specs.Resolves.{Resolution, Left, Bound, NoExporter, Twice, OtherInterface, OtherStamp, Want, wants_in, wants, is_bad, under, given_for, chosen, resolved_at, resolved}
use Rattle.config_rules.specs.declared.tree.TreeInstance.{TreeInstance}
use Rattle.config_rules.proofs.Members.{Mem, mem_get, map_get}
use Rattle.bound_images.specs.link_tables.specs.Linked.{outermost_exports, entry_number as own_number, entry_of, link_by, link_of, links_of, image_of}
use Rattle.bound_images.specs.Programs.{target_by, target_at, target_in, target}
use Rattle.bound_images.proofs.Elements.{get_there}
use Rattle.bound_images.proofs.Modules.{World, module_for, all_there, known, among_all}
use Rattle.bound_images.proofs.Standing.{all_wanted}
use Rattle.bound_images.proofs.Wanted.{EntryFor, entry_for}
use Rattle.bound_images.proofs.Wanting.{the_want, want_there}
use Rattle.loader_rules.specs.Exporters.{stamped}
use Rattle.loader_rules.specs.Exporters as loader
use Rattle.loader_rules.specs.Loaded.{link_to, replaced, link_in}
use Rattle.loader_rules.specs.Wanted.{is_built_in, entry_number}
use Rattle.loader_rules.proofs.Faultless.{OneExporter, has_one}
use Rattle.loader_rules.proofs.Parting.{changed_there}
use Rattle.loaded_runs.specs.Together.{Place, scopes_before, instances_before, instance_in}
use Rattle.loaded_runs.proofs.Choosing.{OneGoes, one_goes, not_exported}
use Rattle.loaded_runs.proofs.Known.{linked_of, linked_images, Loading, joined, part_of, is_part, world, tree_is, none_at, instances_alike, links_alike}
use Rattle.loaded_runs.proofs.Linked.{links_to}
use Rattle.loaded_runs.proofs.Looking.{past}
use Rattle.loaded_runs.proofs.Places.{IsPlace, place_mem}
use Rattle.loaded_runs.proofs.Resolving.{shifted, Answers, InTree, OutOfTree, answers}
use Rattle.loaded_runs.proofs.Scopes.{spot, moved}

module _ (L : Loading) (p : Place) (I : IsPlace L.sources p) where
  abbrev W : World
  W = world L p I

  -- an instance of the tree
  module _ (j : ℕ) (x : TreeInstance) (at : slice_get p.source.tree.instances j ≡ Some x) where
    -- an item that it uses
    pub record Using (k n : ℕ) (import : Import) (item : Item) : Type 0 where
      pub record_name : List ℕ
      pub is_there : slice_get (wants_in p.source.tree x) (link_number x.shape.imports k n) ≡ Some (the_want p.source.tree x record_name import.face item)
      pub named : slice_get x.imports k ≡ Some record_name
      pub stands : target (joined L) (instance_in p x) k n ≡ target_by item (resolved (joined L) (moved p (spot x.scope record_name)) import.face item.name)

    pub using_item : (k n : ℕ) (import : Import) (item : Item) → slice_get x.shape.imports k ≡ Some import → imported x.shape.imports k n ≡ Some item → IsUsed x.shape.imports k n
        → Using k n import item
    unfolding imported item_in IsUsed UsedIn target target_in target_at
    using_item k n import item there its used =
        let item_there : slice_get import.face.items n ≡ Some item = ap (λ o. item_in o n) (sym there) ∙ its in
        let is_used : Contains import.used n = subst (λ o. UsedIn o n) there used in
        let r = get_there x.imports k (let h = (W.built.tree.instances j x at).imports in let l = slice_get_within x.shape.imports k import there in omega (arith, h, l)) in
        record {
          record_name = r.0;
          is_there = want_there p.source.tree x x.imports x.shape.imports (all_there W x (module_for W j x at)) k n import r.0 item there r.1 item_there is_used;
          named = r.1;
          stands =
              (λ i. target_in (joined L) (scopes_before p + x.scope) (r.1 i) (there i) n)
              ∙ ap (λ o. target_at (joined L) (moved p (spot x.scope r.0)) import.face o) item_there;
        }

    -- the link in the loaded image
    pub bound_is : (number : ℕ) (w : Want) → slice_get (wants_in p.source.tree x) number ≡ Some w
        → bound_to L.image (instances_before p + j) number ≡ Some (link_in (part_of p) L.image.wanted (link_of (all_wanted W) w))
    unfolding bound_to image_of
    bound_is number w there =
        let tables = L.loaded.joined.links in
        let place : instances_before p + j ≡ length (flat_map (λ (i : Image). i.links) (linked_images p.before)) + j = ap (λ n. n + j) (sym (links_alike p.before)) in
        let its : slice_get L.image.links (instances_before p + j) ≡ Some (map (link_in (part_of p) L.image.wanted) (links_of p.source.tree x)) =
        (λ i. slice_get (tables i) (place i))
        ∙ changed_there (λ (i : Image). i.links) (λ q. map (link_in q L.image.wanted)) (linked_images L.sources) (part_of p) (is_part L.sources p I) j (links_of p.source.tree x)
        (map_get (links_of p.source.tree) p.source.tree.instances j x at) in
        ap (λ o. option_and_then (λ (table : List Link). slice_get table number) o) its
        ∙ map_get (link_in (part_of p) L.image.wanted) (links_of p.source.tree x) number (link_of (all_wanted W) w) (map_get (link_of (all_wanted W)) (wants_in p.source.tree x) number w there)

    -- ---- what the item comes to: bound to an instance, or left to the loader

    module _ (k n : ℕ) (import : Import) (item : Item) (there : slice_get x.shape.imports k ≡ Some import) (its : imported x.shape.imports k n ≡ Some item)
        (used : IsUsed x.shape.imports k n) where
      abbrev number : ℕ
      number = link_number x.shape.imports k n

      abbrev T : Target
      T = target (joined L) (instance_in p x) k n

      -- within its tree
      pub record BoundWithin : Type 0 where
        pub want : Want
        pub is : Mem want (wants p.source.tree)
        pub item_is : want.item ≡ item
        pub instance : ℕ
        pub given : ℕ
        pub answer : want.answer ≡ Bound instance given
        pub stands : T ≡ target_by item (Bound (instances_before p + instance) given)
        pub link : bound_to L.image (instances_before p + j) number ≡ Some (To (instances_before p + instance) given)

      -- to an exporter of a tree before
      pub record BoundBefore : Type 0 where
        pub outlet : Outlet
        pub alone : filter (under import.face) (exporters (joined L) (spot 0 import.face.name) item.name) ≡ outlet ∷ []
        pub stands : T ≡ target_by item (Bound outlet.exporter.instance (given_for item.name outlet.gives.face outlet.gives.given))
        pub link : bound_to L.image (instances_before p + j) number ≡ Some (To outlet.exporter.instance (given_for item.name outlet.gives.face outlet.gives.given))
        pub want : Want
        pub is : Mem want (wants p.source.tree)
        pub item_is : want.item ≡ item
        pub face_is : want.face ≡ import.face
        pub agrees : outlet.gives.face ≡ import.face

      -- to the host
      pub record LeftToHost : Type 0 where
        pub want : Want
        pub is : Mem want (wants p.source.tree)
        pub item_is : want.item ≡ item
        pub face_is : want.face ≡ import.face
        pub entry : Entry
        pub entry_there : Mem entry (linked_of p.source).wanted
        pub built_in : is_built_in entry.face ≡ true
        pub face : entry.face ≡ import.face.name
        pub stamp : entry.stamp ≡ import.face.stamp
        pub entry_item : entry.item ≡ item
        pub stands : T ≡ target_by item Left
        pub link : bound_to L.image (instances_before p + j) number ≡ Some (Wanted (entry_number L.image.wanted entry))

      -- what it comes to
      pub data Comes : Type 0 where
        ToTree : BoundWithin → Comes
        ToEarlier : BoundBefore → Comes
        ToLoader : LeftToHost → Comes

      abbrev U : Using k n import item
      U = using_item k n import item there its used

      abbrev here : Spot
      here = spot x.scope U.record_name

      abbrev w : Want
      w = the_want p.source.tree x U.record_name import.face item

      is_wanted : Mem w (wants p.source.tree)
      is_wanted = among_all p.source.tree j x at number w U.is_there

      its_link : (l : Link) → link_in (part_of p) L.image.wanted (link_of (all_wanted W) w) ≡ l → bound_to L.image (instances_before p + j) number ≡ Some l
      its_link l e = bound_is number w U.is_there ∙ ap Some e

      its_target : (a : Resolution) → resolved (joined L) (moved p here) import.face item.name ≡ a → T ≡ target_by item a
      its_target a e = U.stands ∙ ap (target_by item) e

      within : resolved (joined L) (moved p here) import.face item.name ≡ shifted p w.answer → (w.answer ≡ Left → ⊥) → (a : Resolution) → w.answer ≡ a → is_bad a ≡ false → Comes
      unfolding is_bad link_by binding_of link_in
      within eq not_left Left e g = absurd (not_left e)
      within eq not_left (Bound i q) e g = ToTree (record {
        want = w;
        is = is_wanted;
        item_is = refl;
        instance = i;
        given = q;
        answer = e;
        stands = its_target (Bound (instances_before p + i) q) (eq ∙ ap (shifted p) e);
        link = its_link (To (instances_before p + i) q) (ap (λ a. link_in (part_of p) L.image.wanted (link_by (all_wanted W) (entry_of w) (binding_of a))) e ∙ ap (λ m. To (m + i) q) (instances_alike p.before));
      })
      within eq not_left NoExporter e g = cc
      within eq not_left (Twice i q) e g = cc
      within eq not_left (OtherInterface i) e g = cc
      within eq not_left (OtherStamp s) e g = cc

      -- ---- past the outermost scope of its tree

      module _ (out : List ℕ) (left : w.answer ≡ Left) (out_is : out ≡ import.face.name)
          (own : is_some (outside_of (outermost_exports p.source.tree.scopes) out) ≡ false)
          (eq : resolved (joined L) (moved p here) import.face item.name ≡ resolved_at (joined L) import.face item.name (past out)) where
        abbrev E : EntryFor W w
        E = entry_for W w is_wanted left

        abbrev place : ℕ
        place = own_number (all_wanted W) (entry_of w)

        entry_there : slice_get (linked_of p.source).wanted place ≡ Some E.entry
        unfolding image_of
        entry_there = E.there

        out_face : out ≡ E.entry.face
        out_face = out_is ∙ sym E.face

        left_link : link_of (all_wanted W) w ≡ Wanted place
        unfolding link_by binding_of
        left_link = ap (λ a. link_by (all_wanted W) (entry_of w) (binding_of a)) left

        replaced_link : link_in (part_of p) L.image.wanted (link_of (all_wanted W) w)
            ≡ (if is_built_in E.entry.face then Wanted (entry_number L.image.wanted E.entry)
            else link_to (Wanted place) E.entry.item.name (stamped E.entry (loader.exporters (linked_images p.before) E.entry)))
        unfolding link_in replaced
        replaced_link = ap (link_in (part_of p) L.image.wanted) left_link ∙ ap (replaced (part_of p) L.image.wanted (Wanted place)) entry_there

        abbrev chosen_link : Bool → Link
        chosen_link b = if b then Wanted (entry_number L.image.wanted E.entry) else link_to (Wanted place) E.entry.item.name (stamped E.entry (loader.exporters (linked_images p.before) E.entry))

        past_is : (b : Bool) → is_built_in E.entry.face ≡ b → past out ≡ (if b then None else Some (spot 0 import.face.name))
        past_is true e =
            let s : E.entry.face ≡ iodefs.face.name = (bytes_eq-Decides E.entry.face iodefs.face.name).0 e in
            ap (λ c. if c then None else Some (spot 0 out)) ((bytes_eq-Decides iodefs.face.name out).1 (sym (out_face ∙ s)))
        past_is false e =
            ap (λ c. if c then None else Some (spot 0 out)) (by (bytes_eq iodefs.face.name out) refl) ∙ ap (λ r. Some (spot 0 r)) out_is
          where
            by : (b : Bool) → bytes_eq iodefs.face.name out ≡ b → b ≡ false
            by true f = absurd (
                let s : iodefs.face.name ≡ out = (bytes_eq-Decides iodefs.face.name out).0 f in
                let t : is_built_in E.entry.face ≡ true = (bytes_eq-Decides E.entry.face iodefs.face.name).1 (sym (s ∙ out_face)) in
                let u : true ≡ false = sym t ∙ e in
                cc)
            by false f = refl

        to_host : is_built_in E.entry.face ≡ true → LeftToHost
        unfolding resolved_at
        to_host e = record {
          want = w;
          is = is_wanted;
          item_is = refl;
          face_is = refl;
          entry = E.entry;
          entry_there = mem_get (linked_of p.source).wanted place E.entry entry_there;
          built_in = e;
          face = E.face;
          stamp = E.stamp;
          entry_item = E.item;
          stands = its_target Left (eq ∙ ap (resolved_at (joined L) import.face item.name) (past_is true e));
          link = its_link (Wanted (entry_number L.image.wanted E.entry)) (replaced_link ∙ ap chosen_link e);
        }

        name_is : item.name ≡ E.entry.item.name
        name_is = ap (λ (i : Item). i.name) (sym E.item)

        module _ (e : is_built_in E.entry.face ≡ false) where
          abbrev X : OneExporter (part_of p) place E.entry
          X = has_one (part_of p) (none_at L p I) place E.entry entry_there e

          abbrev O : OneGoes L E.entry p I (mem_get (linked_of p.source).wanted place E.entry entry_there) X.its
          O = one_goes L E.entry p I (mem_get (linked_of p.source).wanted place E.entry entry_there) X.its
              (ap (λ r. is_some (outside_of (outermost_exports p.source.tree.scopes) r)) (sym out_face) ∙ own) X.alone

          abbrev given : ℕ
          given = given_for item.name O.outlet.gives.face O.outlet.gives.given

          abbrev all : List Outlet
          all = exporters (joined L) (spot 0 import.face.name) item.name

          alone_is : filter (under import.face) all ≡ O.outlet ∷ []
          alone_is =
              (λ i. filter (λ o. bytes_eq o.gives.face.name (sym E.face i) && nat_eq o.gives.face.stamp (sym E.stamp i)) (exporters (joined L) (spot 0 (sym E.face i)) (name_is i))) ∙ O.alone

          chosen_is : resolved_at (joined L) import.face item.name (Some (spot 0 import.face.name)) ≡ Bound O.outlet.exporter.instance given
          unfolding resolved_at chosen
          chosen_is = ap (λ l. chosen import.face item.name l all) alone_is

          linked_is : link_to (Wanted place) E.entry.item.name (stamped E.entry (loader.exporters (linked_images p.before) E.entry)) ≡ To O.outlet.exporter.instance given
          unfolding link_to
          linked_is = ap (link_to (Wanted place) E.entry.item.name) X.alone ∙ (λ i. To (sym O.is_offered.0 i) (given_for (sym name_is i) (sym O.is_offered.1 i).face (sym O.is_offered.1 i).given))

          to_before : BoundBefore
          to_before = record {
            outlet = O.outlet;
            alone = alone_is;
            stands = its_target (Bound O.outlet.exporter.instance given) (eq ∙ (ap (resolved_at (joined L) import.face item.name) (past_is false e) ∙ chosen_is));
            link = its_link (To O.outlet.exporter.instance given) (replaced_link ∙ (ap chosen_link e ∙ linked_is));
            want = w;
            is = is_wanted;
            item_is = refl;
            face_is = refl;
            agrees = ap (λ (g : Export). g.face) O.is_offered.1 ∙ X.agrees import.face (links_to W j x at number place w U.is_there left_link);
          }

        beyond : (b : Bool) → is_built_in E.entry.face ≡ b → Comes
        beyond true e = ToLoader (to_host e)
        beyond false e = ToEarlier (to_before e)

      pub comes : Comes
      comes = by (answers L.sources (tree_is L) p I here import.face item.name ((L.outermost p.source mem).scoped j x at))
        where
          mem : Mem p.source L.sources
          mem = place_mem L.sources p I

          by : Answers L.sources p here import.face item.name → Comes
          by (InTree eq not_left) = within eq not_left w.answer refl (known W w is_wanted).good
          by (OutOfTree out left passes eq) =
              let out_is = L.passes p.source mem j k x U.record_name import at U.named there out passes in
              beyond out left out_is (not_exported p.source.tree (L.outermost p.source mem) here out passes) eq (is_built_in (E out left out_is (not_exported p.source.tree (L.outermost p.source mem) here out passes) eq).entry.face) refl
