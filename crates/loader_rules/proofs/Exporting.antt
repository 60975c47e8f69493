-- What is offered is an export of an instance of an image before, and what it gives for an item is like that item.
use Rattle.std.proofs.Common.{◌≡◌, ℕ, zero, suc, ◌+◌, ◌<◌, ◌⊎◌, inl, inr, Bool, true, false, ◌||◌, List, [], ◌∷◌, ◌++◌, take, bytes_eq, Option, Some, None, slice_get, refl, sym, ap, subst, ◌∙◌, if◌then◌else◌, arith}
use Rattle.std.proofs.lemmas.Bool.{not-true}
use Rattle.std.proofs.lemmas.Option.{none-some, same_Some}
use Rattle.mesa_types.specs.declared.faces.Export.{Export}
use Rattle.mesa_types.specs.declared.faces.Face.{Face}
use Rattle.mesa_types.specs.declared.faces.Import.{Import}
use Rattle.mesa_types.specs.declared.faces.Item.{Item}
use Rattle.mesa_types.specs.declared.faces.Pair.{Pair}
use Rattle.file_forms.specs.Names.{is_among, fresh_name}
use Rattle.face_rules.specs.FaceForms.{item_named, item_names, items, face}
use Rattle.object_files.specs.declared.image.Image.{Image}
use Rattle.object_files.specs.declared.image.Instance.{Instance}
use Rattle.object_files.specs.declared.image.Offer.{Offer}
use Rattle.object_files.specs.declared.object.Object.{Object}
use Rattle.object_rules.specs.ModuleForms.{gives_item, import_form, given, export_form, module_form}
use Rattle.object_rules.specs.Parts.{parts_of}
use Rattle.object_rules.proofs.SameTypes.{bytes_same, bytes_self}
use Rattle.config_rules.specs.Exporters.{is_named, is_given}
use Rattle.config_rules.specs.InOrder.{NamesDiffer}
use Rattle.config_rules.specs.Resolves.{given_for}
use Rattle.config_rules.proofs.Members.{Mem, flat_mem}
use Rattle.loader_rules.specs.Exporters.{module_at, export_at, export_of, Offered, offered_as, offered_by, all_offered}
use Rattle.loader_rules.specs.Parts.{Part, parts_behind, parts, instances_before}
use Rattle.loader_rules.proofs.Fitting.{fit_at}
use Rattle.loader_rules.proofs.Lists.{get_mem}
use Rattle.loader_rules.proofs.Parting.{IsPart}

-- ---- the pair of an export that gives the item

pub record GivenBy (name : List ℕ) (f : Face) (ps : List Pair) : Type 0 where
  pub pair : Pair
  pub is : Mem pair ps
  pub item : Item
  pub there : slice_get f.items pair.item ≡ Some item
  pub named : item.name ≡ name
  pub number : pair.number ≡ given_for name f ps

named_there : (name : List ℕ) (o : Option Item) → is_named name o ≡ true → (i : Item) × (o ≡ Some i) × (i.name ≡ name)
unfolding is_named
named_there name None h = absurd cc
named_there name (Some i) h = (i, refl, bytes_same i.name name h)

pub given_there : (name : List ℕ) (f : Face) (ps : List Pair) → is_given name f ps ≡ true → GivenBy name f ps
unfolding is_given given_for
given_there name f [] h = absurd cc
given_there name f (p ∷ ps) h = by (given_there name f ps) (is_named name (slice_get f.items p.item)) refl h
  where
    by : (is_given name f ps ≡ true → GivenBy name f ps) → (b : Bool) → is_named name (slice_get f.items p.item) ≡ b → b || is_given name f ps ≡ true → GivenBy name f (p ∷ ps)
    by again true e g =
        let q = named_there name (slice_get f.items p.item) e in
        record { pair = p; is = inl refl; item = q.0; there = q.1; named = q.2; number = ap (λ b. if b then p.number else given_for name f ps) (sym e) }
    by again false e g =
        let q = again g in
        record {
          pair = q.pair;
          is = inr q.is;
          item = q.item;
          there = q.there;
          named = q.named;
          number = q.number ∙ ap (λ b. if b then p.number else given_for name f ps) (sym e);
        }

-- ---- no two items of a face in a file have one name

among : (is : List Item) (k : ℕ) (i : Item) (name : List ℕ) → slice_get is k ≡ Some i → i.name ≡ name → is_among (item_names is) name ≡ true
among [] k i name e n = absurd (none-some i e)
among (x ∷ is) zero i name e n = let here : x ≡ i = same_Some x i e in let named : name ≡ x.name = cc in ap (λ b. b || is_among (item_names is) name) (ap (λ m. bytes_eq name m) (sym named) ∙ bytes_self name)
among (x ∷ is) (suc k) i name e n = by (bytes_eq name x.name) (among is k i name e n)
  where
    by : (b : Bool) → is_among (item_names is) name ≡ true → b || is_among (item_names is) name ≡ true
    by true h = refl
    by false h = h

pub taken_there : {A : Type 0} (xs : List A) (a b : ℕ) (x : A) → a < b → slice_get xs a ≡ Some x → slice_get (take b xs) a ≡ Some x
taken_there [] a b x less e = absurd (none-some x e)
taken_there (y ∷ xs) a zero x less e = absurd (omega (arith, less))
taken_there (y ∷ xs) zero (suc b) x less e = e
taken_there (y ∷ xs) (suc a) (suc b) x less e = taken_there xs a b x (omega (arith, less)) e

module _ (version : ℕ) (f : Face) (h : (face version).fits f) where
  one_before : (a b : ℕ) (i j : Item) → slice_get f.items a ≡ Some i → slice_get f.items b ≡ Some j → i.name ≡ j.name → a < b → ⊥
  unfolding face items item_named fresh_name
  one_before a b i j e g same less =
      let fresh = (fit_at (λ before. item_named (fresh_name (item_names before)) version) [] f.items h.1.1.1.1 b j g).1.0.1 in
      let none : is_among (item_names (take b f.items)) j.name ≡ false = not-true (is_among (item_names (take b f.items)) j.name) fresh in
      let some : is_among (item_names (take b f.items)) j.name ≡ true = among (take b f.items) a i j.name (taken_there f.items a b i less e) same in
      cc

  pub names_differ : NamesDiffer f
  names_differ a b i j e g same = by (order a b)
    where
      order : (m n : ℕ) → (m ≡ n) ⊎ ((m < n) ⊎ (n < m))
      order zero zero = inl refl
      order zero (suc n) = inr (inl (omega arith))
      order (suc m) zero = inr (inr (omega arith))
      order (suc m) (suc n) = more (order m n)
        where
          more : (m ≡ n) ⊎ ((m < n) ⊎ (n < m)) → (suc m ≡ suc n) ⊎ ((suc m < suc n) ⊎ (suc n < suc m))
          more (inl e) = inl (ap suc e)
          more (inr (inl l)) = inr (inl (omega (arith, l)))
          more (inr (inr l)) = inr (inr (omega (arith, l)))

      by : (a ≡ b) ⊎ ((a < b) ⊎ (b < a)) → a ≡ b
      by (inl e) = e
      by (inr (inl l)) = absurd (one_before a b i j e g same l)
      by (inr (inr l)) = absurd (one_before b a j i g e (sym same) l)

-- ---- the parts of a module in a file

module _ (version : ℕ) (o : Object) (h : (module_form version).fits (parts_of o)) where
  pub import_fits : (k : ℕ) (m : Import) → slice_get o.shape.imports k ≡ Some m → (face version).fits m.face
  unfolding module_form import_form
  import_fits k m e = (fit_at (λ _. import_form version) [] o.shape.imports h.1.0.1.1 k m e).0

  export_fits : (k : ℕ) (x : Export) → slice_get o.shape.exports k ≡ Some x → (export_form version (parts_of o).signals (parts_of o).procedures).fits x
  unfolding module_form
  export_fits k x e = fit_at (λ _. export_form version (parts_of o).signals (parts_of o).procedures) [] o.shape.exports h.1.1.1.1.1.1.1.1 k x e

  pub export_face_fits : (k : ℕ) (x : Export) → slice_get o.shape.exports k ≡ Some x → (face version).fits x.face
  unfolding export_form
  export_face_fits k x e = (export_fits k x e).0

  pub record Gives (x : Export) (p : Pair) : Type 0 where
    pub few : p.number < 4294967296
    pub alike : gives_item (parts_of o).signals (parts_of o).procedures (slice_get x.face.items p.item) p.number ≡ true

  pub pair_gives : (k : ℕ) (x : Export) → slice_get o.shape.exports k ≡ Some x → (p : Pair) → Mem p x.given → Gives x p
  unfolding export_form given
  pair_gives k x e p m =
      let at = get_mem x.given p m in
      let f = fit_at (given (parts_of o).signals (parts_of o).procedures x.face.items) [] x.given (export_fits k x e).1.1.1 at.0 p at.1 in
      record { few = f.1.0; alike = f.1.1 }

-- ---- what is offered

pub parts_mem : (before images : List Image) (p : Part) → Mem p (parts_behind before images) → IsPart (before ++ images) p
unfolding parts_behind
parts_mem before [] p h = absurd h
parts_mem before (i ∷ is) p (inl e) = subst (λ (q : Part). IsPart (before ++ i ∷ is) q) e (record { behind = is; are = refl })
parts_mem before (i ∷ is) p (inr m) = subst (λ l. IsPart l p) (again before) (parts_mem (before ++ i ∷ []) is p m)
  where
    again : (b : List Image) → (b ++ i ∷ []) ++ is ≡ b ++ i ∷ is
    again [] = refl
    again (x ∷ b) = ap (λ l. x ∷ l) (again b)

pub record Exported (images : List Image) (o : Offered) : Type 0 where
  pub its : Part
  pub is_part : IsPart images its
  pub at : ℕ
  pub instance : Instance
  pub there : slice_get its.image.instances at ≡ Some instance
  pub object : Object
  pub of_module : slice_get its.image.modules instance.«module» ≡ Some object
  pub number : ℕ
  pub exports : slice_get object.shape.exports number ≡ Some o.gives
  pub instance_is : o.instance ≡ instances_before its + at

pub exported : (images : List Image) (o : Offered) → Mem o (all_offered images) → Exported images o
unfolding all_offered
exported images o h =
    let p = flat_mem offered_by (parts images) o h in
    let f = flat_mem (λ (x : Offer). offered_as p.0 x (export_of p.0.image x)) p.0.image.offered o p.2 in
    by p.0 (parts_mem [] images p.0 p.1) f.0 (slice_get p.0.image.instances f.0.instance) refl f.2
  where
    of_module : (p : Part) (I : IsPart images p) (x : Offer) (y : Instance) → slice_get p.image.instances x.instance ≡ Some y → (m : Option Object) → slice_get p.image.modules y.«module» ≡ m
        → Mem o (offered_as p x (export_at m x.export)) → Exported images o
    of_module p I x y e None n h = absurd h
    of_module p I x y e (Some m) n h = last (slice_get m.shape.exports x.export) refl h
      where
        last : (r : Option Export) → slice_get m.shape.exports x.export ≡ r → Mem o (offered_as p x r) → Exported images o
        last None g h = absurd h
        last (Some r) g (inl s) = record {
          its = p;
          is_part = I;
          at = x.instance;
          instance = y;
          there = e;
          object = m;
          of_module = n;
          number = x.export;
          exports = g ∙ ap (λ (q : Offered). Some q.gives) s;
          instance_is = ap (λ (q : Offered). q.instance) (sym s);
        }
        last (Some r) g (inr h) = absurd h

    by : (p : Part) (I : IsPart images p) (x : Offer) (y : Option Instance) → slice_get p.image.instances x.instance ≡ y → Mem o (offered_as p x (export_at (module_at p.image y) x.export)) → Exported images o
    by p I x None e h = absurd h
    by p I x (Some y) e h = of_module p I x y e (slice_get p.image.modules y.«module») refl h
