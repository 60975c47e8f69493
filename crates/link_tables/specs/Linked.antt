-- The image of a tree and of the objects of its components (rule of this project).
use Rattle.std.specs.Prelude.{ℕ, zero, suc, Bool, true, false, ◌&&◌, ◌||◌, List, [], ◌∷◌, ◌++◌, filter, map, flat_map, nat_eq, bytes_eq, if◌then◌else◌}
use Rattle.interface_records.specs.declared.wanted.Wanted.{Wanted as Entry}
use Rattle.object_files.specs.declared.image.Image.{Image}
use Rattle.object_files.specs.declared.image.Instance.{Instance}
use Rattle.object_files.specs.declared.image.Link.{Link}
use Rattle.object_files.specs.declared.image.Link.TheVariants.{Wanted, To}
use Rattle.object_files.specs.declared.image.Offer.{Offer}
use Rattle.object_files.specs.declared.object.Object.{Object}
use Rattle.config_rules.specs.Bindings.{binding_of}
use Rattle.config_rules.specs.Exporters.{Spot, Outlet, outlets, goes_to}
use Rattle.config_rules.specs.Resolves.{Want, wants_in, wants}
use Rattle.config_rules.specs.declared.tree.Binding.{Binding}
use Rattle.config_rules.specs.declared.tree.Binding.TheVariants.{Left, To as ToNumber}
use Rattle.config_rules.specs.declared.tree.RecordPair.{RecordPair}
use Rattle.config_rules.specs.declared.tree.Tree.{Tree}
use Rattle.config_rules.specs.declared.tree.TreeInstance.{TreeInstance}
use Rattle.config_rules.specs.declared.tree.TreeScope.{TreeScope}

-- ---- modules: the components that have an instance

unfoldable pub has_instance : List TreeInstance → (component : ℕ) → Bool
has_instance [] c = false
has_instance (x ∷ xs) c = nat_eq x.component c || has_instance xs c

-- of these, which belong to the components from number `n` on, those whose component has an instance
unfoldable pub kept : {A : Type 0} → List TreeInstance → (n : ℕ) → List A → List A
kept xs n [] = []
kept xs n (a ∷ rest) = if has_instance xs n then a ∷ kept xs (suc n) rest else kept xs (suc n) rest

-- how many of so many components from number `n` on have an instance
unfoldable pub many_kept : List TreeInstance → (n many : ℕ) → ℕ
many_kept xs n zero = 0
many_kept xs n (suc k) = if has_instance xs n then suc (many_kept xs (suc n) k) else many_kept xs (suc n) k

-- the module of a component has its place among those that are kept
abbrev pub module_number : List TreeInstance → (component : ℕ) → ℕ
module_number xs c = many_kept xs 0 c

abbrev pub instance_of : List TreeInstance → TreeInstance → Instance
instance_of xs x = record { path = x.path; «module» = module_number xs x.component }

-- ---- what is wanted of the loader

-- an item is known by its interface's name and stamp and by its own name
abbrev pub same_entry : Entry → Entry → Bool
same_entry a b = bytes_eq a.face b.face && (nat_eq a.stamp b.stamp && bytes_eq a.item.name b.item.name)

unfoldable pub has_entry : List Entry → Entry → Bool
has_entry [] e = false
has_entry (x ∷ xs) e = same_entry x e || has_entry xs e

-- the place at which the item stands
unfoldable pub entry_number : List Entry → Entry → ℕ
entry_number [] e = 0
entry_number (x ∷ xs) e = if same_entry x e then 0 else suc (entry_number xs e)

-- each once, behind those that stand already
unfoldable pub noted : (already : List Entry) → List Entry → List Entry
noted already [] = already
noted already (e ∷ es) = if has_entry already e then noted already es else noted (already ++ e ∷ []) es

abbrev pub entry_of : Want → Entry
entry_of w = record { face = w.face.name; stamp = w.face.stamp; item = w.item }

unfoldable pub is_left : Binding → Bool
is_left Left = true
is_left (ToNumber j n) = false

-- what is left to the loader
abbrev pub left_in : List Want → List Entry
left_in ws = map entry_of (filter (λ (w : Want). is_left (binding_of w.answer)) ws)

-- each once, in the order in which they are wanted first
unfoldable pub wanted_of : List Want → List Entry
wanted_of ws = noted [] (left_in ws)

-- ---- links

unfoldable pub link_by : List Entry → Entry → Binding → Link
link_by wanted e Left = Wanted (entry_number wanted e)
link_by wanted e (ToNumber j n) = To j n

abbrev pub link_of : (wanted : List Entry) → Want → Link
link_of wanted w = link_by wanted (entry_of w) (binding_of w.answer)

abbrev pub links_of : Tree → TreeInstance → List Link
links_of t x = map (link_of (wanted_of (wants t))) (wants_in t x)

-- ---- what is offered

unfoldable pub outermost_exports : List TreeScope → List RecordPair
outermost_exports [] = []
outermost_exports (s ∷ ss) = s.exports

abbrev pub in_outermost : (record_name : List ℕ) → Spot
in_outermost r = record { scope = 0; record_name = r }

abbrev pub offer_of : (record_name : List ℕ) → Outlet → Offer
offer_of r o = record { name = r; instance = o.exporter.instance; export = o.exporter.export }

-- the exports that go to this record of the outermost configuration, in tree order
abbrev pub offered_as : Tree → RecordPair → List Offer
offered_as t r = map (offer_of r.inside) (filter (goes_to t (in_outermost r.inside)) (outlets t))

-- record by record, as the outermost configuration exports them
unfoldable pub offers : Tree → List Offer
offers t = flat_map (offered_as t) (outermost_exports t.scopes)

-- ---- the image

unfoldable pub image_of : Tree → List Object → Image
image_of t objects = record {
  modules = kept t.instances 0 objects;
  wanted = wanted_of (wants t);
  instances = map (instance_of t.instances) t.instances;
  links = map (links_of t) t.instances;
  offered = offers t;
  control = t.control;
}
