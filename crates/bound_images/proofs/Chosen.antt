-- What is so of the exporter to which an item is bound.
use Rattle.std.proofs.Common.{◌≡◌, ℕ, suc, ◌+◌, ◌⊎◌, inl, inr, Bool, true, false, ◌&&◌, ◌||◌, List, [], ◌∷◌, filter, bytes_eq, nat_eq, eqb-true, Option, Some, None, slice_get, refl, sym, ap, ◌∙◌, arith, if◌then◌else◌}
use Rattle.std.proofs.lemmas.Slice.Eq.{bytes_eq-Decides}
use Rattle.mesa_types.specs.declared.faces.Export.{Export}
use Rattle.mesa_types.specs.declared.faces.Face.{Face}
use Rattle.mesa_types.specs.declared.faces.Item.{Item}
use Rattle.mesa_types.specs.declared.faces.Pair.{Pair}
use Rattle.config_rules.specs.declared.tree.Tree.{Tree}
use Rattle.config_rules.specs.declared.tree.TreeInstance.{TreeInstance}
use Rattle.config_rules.specs.Exporters.{Spot, Outlet, outlets_of, outlets_from, outlets, is_named, is_given, goes_to, exporters}
use Rattle.config_rules.specs.Resolves.{looked_up, Resolution, Left, Bound, NoExporter, Twice, OtherInterface, OtherStamp, under, given_for, chosen, resolved_at, resolved}
use Rattle.config_rules.proofs.Members.{Mem, mem_split}
use Rattle.bound_images.proofs.Elements.{mem_filter}

pub both_true : (a b : Bool) → a && b ≡ true → (a ≡ true) × (b ≡ true)
both_true true true h = (refl, refl)
both_true true false h = absurd cc
both_true false b h = absurd cc

pub names_same : (xs ys : List ℕ) → bytes_eq xs ys ≡ true → xs ≡ ys
names_same xs ys h = (bytes_eq-Decides xs ys).0 h

pub same_names : (xs ys : List ℕ) → xs ≡ ys → bytes_eq xs ys ≡ true
same_names xs ys h = (bytes_eq-Decides xs ys).1 h

-- ---- one is chosen

record Chose (name : List ℕ) (os : List Outlet) (j q : ℕ) : Type 0 where
  outlet : Outlet
  is : Mem outlet os
  instance : outlet.exporter.instance ≡ j
  number : given_for name outlet.gives.face outlet.gives.given ≡ q

chose : (face : Face) (name : List ℕ) (same all : List Outlet) (j q : ℕ) → chosen face name same all ≡ Bound j q → Chose name same j q
unfolding chosen
chose face name (o ∷ []) all j q h = record { outlet = o; is = inl refl; instance = ap instance_in h; number = ap number_in h }
  where
    instance_in : Resolution → ℕ
    instance_in Left = 0
    instance_in (Bound i n) = i
    instance_in NoExporter = 0
    instance_in (Twice i k) = 0
    instance_in (OtherInterface i) = 0
    instance_in (OtherStamp s) = 0

    number_in : Resolution → ℕ
    number_in Left = 0
    number_in (Bound i n) = n
    number_in NoExporter = 0
    number_in (Twice i k) = 0
    number_in (OtherInterface i) = 0
    number_in (OtherStamp s) = 0
chose face name (o ∷ p ∷ os) all j q h = cc
chose face name [] (o ∷ os) j q h = by (bytes_eq o.gives.face.name face.name) h
  where
    by : (b : Bool) → (if b then OtherStamp o.gives.face.stamp else OtherInterface o.exporter.instance) ≡ Bound j q → Chose name [] j q
    by true g = cc
    by false g = cc
chose face name [] [] j q h = cc

-- it is an export of that instance under the same interface name and stamp, and gives the item under that number
pub record IsBound (t : Tree) (face : Face) (name : List ℕ) (j q : ℕ) : Type 0 where
  pub outlet : Outlet
  pub is : Mem outlet (outlets t)
  pub instance : outlet.exporter.instance ≡ j
  pub number : given_for name outlet.gives.face outlet.gives.given ≡ q
  pub interface : outlet.gives.face.name ≡ face.name
  pub stamp : outlet.gives.face.stamp ≡ face.stamp
  pub given : is_given name outlet.gives.face outlet.gives.given ≡ true

bound_at : (t : Tree) (face : Face) (name : List ℕ) (o : Option Spot) (j q : ℕ) → resolved_at t face name o ≡ Bound j q → IsBound t face name j q
unfolding resolved_at exporters
bound_at t face name None j q h = cc
bound_at t face name (Some a) j q h =
    let c = chose face name (filter (under face) (exporters t a name)) (exporters t a name) j q h in
    let f = mem_filter (under face) (exporters t a name) c.outlet c.is in
    let g = mem_filter (λ o. goes_to t a o && is_given name o.gives.face o.gives.given) (outlets t) c.outlet f.0 in
    let u = both_true (bytes_eq c.outlet.gives.face.name face.name) (nat_eq c.outlet.gives.face.stamp face.stamp) f.1 in
    let v = both_true (goes_to t a c.outlet) (is_given name c.outlet.gives.face c.outlet.gives.given) g.1 in
    record {
      outlet = c.outlet;
      is = g.0;
      instance = c.instance;
      number = c.number;
      interface = names_same c.outlet.gives.face.name face.name u.0;
      stamp = eqb-true c.outlet.gives.face.stamp face.stamp u.1;
      given = v.1;
    }

pub is_bound : (t : Tree) (a : Spot) (face : Face) (name : List ℕ) (j q : ℕ) → resolved t a face name ≡ Bound j q → IsBound t face name j q
unfolding resolved
is_bound t a face name j q h = bound_at t face name (looked_up t a) j q h

-- ---- the instance of an export

outlet_of : (i n s : ℕ) (rs : List (List ℕ)) (xs : List Export) (o : Outlet) → Mem o (outlets_of i n s rs xs) → (o.exporter.instance ≡ i) × Mem o.gives xs
unfolding outlets_of
outlet_of i n s [] xs o h = absurd h
outlet_of i n s (r ∷ rs) [] o h = absurd h
outlet_of i n s (r ∷ rs) (x ∷ xs) o (inl e) = (ap (λ (p : Outlet). p.exporter.instance) (sym e), inl (ap (λ (p : Outlet). p.gives) e))
outlet_of i n s (r ∷ rs) (x ∷ xs) o (inr m) = let q = outlet_of i (suc n) s rs xs o m in (q.0, inr q.1)

pub record OutletOf (xs : List TreeInstance) (i : ℕ) (o : Outlet) : Type 0 where
  pub place : ℕ
  pub its : TreeInstance
  pub there : slice_get xs place ≡ Some its
  pub number : o.exporter.instance ≡ i + place
  pub gives : Mem o.gives its.shape.exports

pub outlet_from : (i : ℕ) (xs : List TreeInstance) (o : Outlet) → Mem o (outlets_from i xs) → OutletOf xs i o
unfolding outlets_from
outlet_from i [] o h = absurd h
outlet_from i (x ∷ xs) o h = by (outlet_from (suc i) xs o) (mem_split (outlets_of i 0 x.scope x.exports x.shape.exports) (outlets_from (suc i) xs) o h)
  where
    by : (Mem o (outlets_from (suc i) xs) → OutletOf xs (suc i) o) → Mem o (outlets_of i 0 x.scope x.exports x.shape.exports) ⊎ Mem o (outlets_from (suc i) xs) → OutletOf (x ∷ xs) i o
    by again (inl m) =
        let q = outlet_of i 0 x.scope x.exports x.shape.exports o m in
        record { place = 0; its = x; there = refl; number = omega (arith, q.0); gives = q.1 }
    by again (inr m) =
        let q = again m in
        record { place = suc q.place; its = q.its; there = q.there; number = omega (arith, q.number); gives = q.gives }

-- ---- the pair of an export that gives the item

pub record GivenBy (name : List ℕ) (face : Face) (ps : List Pair) : Type 0 where
  pub pair : Pair
  pub is : Mem pair ps
  pub item : Item
  pub there : slice_get face.items pair.item ≡ Some item
  pub named : item.name ≡ name
  pub number : pair.number ≡ given_for name face ps

named_there : (name : List ℕ) (o : Option Item) → is_named name o ≡ true → (i : Item) × (o ≡ Some i) × (i.name ≡ name)
unfolding is_named
named_there name None h = absurd cc
named_there name (Some i) h = (i, refl, names_same i.name name h)

pub given_there : (name : List ℕ) (face : Face) (ps : List Pair) → is_given name face ps ≡ true → GivenBy name face ps
unfolding is_given given_for
given_there name face [] h = absurd cc
given_there name face (p ∷ ps) h = by (given_there name face ps) (is_named name (slice_get face.items p.item)) refl h
  where
    by : (is_given name face ps ≡ true → GivenBy name face ps) → (b : Bool) → is_named name (slice_get face.items p.item) ≡ b → b || is_given name face ps ≡ true → GivenBy name face (p ∷ ps)
    by again true e g =
        let q = named_there name (slice_get face.items p.item) e in
        record { pair = p; is = inl refl; item = q.0; there = q.1; named = q.2; number = ap (λ b. if b then p.number else given_for name face ps) (sym e) }
    by again false e g =
        let q = again g in
        record {
          pair = q.pair;
          is = inr q.is;
          item = q.item;
          there = q.there;
          named = q.named;
          number = q.number ∙ ap (λ b. if b then p.number else given_for name face ps) (sym e);
        }
