-- What a file says of each element of an image.
use Rattle.std.proofs.Common.{◌≡◌, ℕ, zero, suc, ◌<◌, Bool, true, false, not, IsTrue, List, [], ◌∷◌, ◌++◌, length, map, flat_map, take, Some, slice_get, refl, sym, ap, subst, ◌∙◌, append-nil, append_assoc, arith}
use Rattle.std.proofs.lemmas.Bool.{ltb-true}
use Rattle.std.proofs.lemmas.Option.{none-some, same_Some, slice_get_within}
use Rattle.interface_records.specs.declared.wanted.Wanted.{Wanted as Entry}
use Rattle.file_forms.specs.Forms.{Form, FitEach}
use Rattle.object_files.specs.declared.image.Image.{Image}
use Rattle.object_files.specs.declared.image.Instance.{Instance}
use Rattle.object_files.specs.declared.image.Link.{Link}
use Rattle.object_files.specs.declared.image.Offer.{Offer}
use Rattle.object_files.specs.declared.object.Object.{Object}
use Rattle.object_rules.specs.ImageForms.{parts_of_image, entry, path, has_path, instance_form, needed_by, needed_by_import, module_at, link, link_table, link_tables, offer, image_form}
use Rattle.object_rules.specs.ModuleForms.{module_form}
use Rattle.object_rules.specs.Numbers.{number_where, is_below}
use Rattle.object_rules.specs.Parts.{ModulePart, parts_of}
use Rattle.config_rules.proofs.Members.{map_get, mapped_length}
use Rattle.loader_rules.proofs.Lists.{get_there}

-- ---- elements each in a form that those before it may narrow

pub fit_at : {A : Type 0} (each : List A → Form A) (before all : List A) → FitEach each before all → (k : ℕ) (a : A) → slice_get all k ≡ Some a
    → (each (before ++ take k all)).fits a
unfolding FitEach
fit_at each before [] h k a e = absurd (none-some a e)
fit_at each before (b ∷ all) h zero a e = subst (λ l. (each l).fits a) (sym (append-nil before)) (subst (each before).fits (same_Some b a e) h.0)
fit_at each before (b ∷ all) h (suc k) a e =
    subst (λ l. (each l).fits a) (append_assoc before (b ∷ []) (take k all)) (fit_at each (before ++ b ∷ []) all h.1 k a e)

pub fit_by : {A : Type 0} (each : List A → Form A) (before all : List A) → ((k : ℕ) (a : A) → slice_get all k ≡ Some a → (each (before ++ take k all)).fits a)
    → FitEach each before all
unfolding FitEach
fit_by each before [] h = tt
fit_by each before (b ∷ all) h = (
  subst (λ l. (each l).fits b) (append-nil before) (h zero b refl),
  fit_by each (before ++ b ∷ []) all (λ k a e. subst (λ l. (each l).fits a) (sym (append_assoc before (b ∷ []) (take k all))) (h (suc k) a e)),
)

pub taken : {A : Type 0} (all : List A) (k : ℕ) → k < length all → length (take k all) ≡ k
taken [] k less = absurd (omega (arith, less))
taken (a ∷ all) zero less = refl
taken (a ∷ all) (suc k) less = ap suc (taken all k (omega (arith, less)))

-- ---- an image whose form fits

abbrev pub modules_in : Image → List ModulePart
modules_in i = map parts_of i.modules

abbrev pub needed_of : Object → List Entry
needed_of o = flat_map needed_by_import o.shape.imports

module _ (version : ℕ) (i : Image) (h : (image_form version).fits (parts_of_image i)) where
  pub module_fits : (k : ℕ) (m : Object) → slice_get i.modules k ≡ Some m → (module_form version).fits (parts_of m)
  unfolding image_form
  module_fits k m e = fit_at (λ _. module_form version) [] (modules_in i) h.0.1.1 k (parts_of m) (map_get parts_of i.modules k m e)

  pub wanted_fits : (k : ℕ) (e : Entry) → slice_get i.wanted k ≡ Some e → (entry version).fits e
  unfolding image_form
  wanted_fits k e is = fit_at (λ _. entry version) [] i.wanted h.1.0.1.1 k e is

  pub record InstanceFits (k : ℕ) (x : Instance) : Type 0 where
    pub its_path : path.fits x.path
    pub new : has_path (take k i.instances) x.path ≡ false
    pub its_module : x.«module» < length i.modules

  pub instance_fits : (k : ℕ) (x : Instance) → slice_get i.instances k ≡ Some x → InstanceFits k x
  unfolding image_form instance_form
  instance_fits k x e =
      let f = fit_at (instance_form (modules_in i)) [] i.instances h.1.1.0.1.1 k x e in
      let many : length (modules_in i) ≡ length i.modules = mapped_length parts_of i.modules in
      let below : x.«module» < length (modules_in i) = ltb-true x.«module» (length (modules_in i)) f.1.1 in
      record { its_path = f.0.0; new = not_so (has_path (take k i.instances) x.path) f.0.1; its_module = omega (arith, many, below) }
    where
      not_so : (b : Bool) → IsTrue (not b) → b ≡ false
      not_so true t = absurd cc
      not_so false t = refl

  pub tables : length i.links ≡ length i.instances
  unfolding image_form link_tables
  tables = h.1.1.1.0.0

  -- the module of an instance
  pub record ModuleOf (x : Instance) : Type 0 where
    pub its : Object
    pub there : slice_get i.modules x.«module» ≡ Some its
    pub part : module_at (modules_in i) (Some x) ≡ Some (parts_of its)

  pub module_of : (k : ℕ) (x : Instance) → slice_get i.instances k ≡ Some x → ModuleOf x
  module_of k x e =
      let r = get_there i.modules x.«module» (instance_fits k x e).its_module in
      record { its = r.0; there = r.1; part = map_get parts_of i.modules x.«module» r.0 r.1 }

  -- a table has a link for each that the module of its instance needs
  pub record TableFits (x : Instance) (o : Object) (table : List Link) : Type 0 where
    pub many : length table ≡ length (needed_of o)
    pub each : (k : ℕ) (l : Link) → slice_get table k ≡ Some l → (link (modules_in i) i.wanted i.instances (slice_get (needed_of o) k)).fits l

  pub table_fits : (k : ℕ) (x : Instance) (table : List Link) → slice_get i.instances k ≡ Some x → slice_get i.links k ≡ Some table → (M : ModuleOf x) → TableFits x M.its table
  unfolding image_form link_tables link_table
  table_fits k x table at is M =
      let less : k < length i.links = slice_get_within i.links k table is in
      let f = fit_at (λ before. link_table (modules_in i) i.wanted i.instances (needed_by (module_at (modules_in i) (slice_get i.instances (length before))))) [] i.links h.1.1.1.0.1 k table is in
      let needed : needed_by (module_at (modules_in i) (slice_get i.instances (length (take k i.links)))) ≡ needed_of M.its =
      ap (λ n. needed_by (module_at (modules_in i) (slice_get i.instances n))) (taken i.links k less) ∙ (ap (λ o. needed_by (module_at (modules_in i) o)) at ∙ ap needed_by M.part) in
      let g : (link_table (modules_in i) i.wanted i.instances (needed_of M.its)).fits table = subst (λ ns. (link_table (modules_in i) i.wanted i.instances ns).fits table) needed f in
      record {
        many = g.0;
        each = λ n l e.
            subst (λ m. (link (modules_in i) i.wanted i.instances (slice_get (needed_of M.its) m)).fits l) (taken table n (slice_get_within table n l e))
            (fit_at (λ before. link (modules_in i) i.wanted i.instances (slice_get (needed_of M.its) (length before))) [] table g.1 n l e);
      }

  pub offer_fits : (k : ℕ) (o : Offer) → slice_get i.offered k ≡ Some o → (offer (modules_in i) i.instances).fits o
  unfolding image_form
  offer_fits k o e = fit_at (λ _. offer (modules_in i) i.instances) [] i.offered h.1.1.1.1.0.1.1 k o e

  pub started_fits : (k j : ℕ) → slice_get i.control k ≡ Some j → j < length i.instances
  unfolding image_form
  started_fits k j e = ltb-true j (length i.instances) (fit_at (λ _. number_where 4 (is_below (length i.instances))) [] i.control h.1.1.1.1.1.1.1 k j e).1
