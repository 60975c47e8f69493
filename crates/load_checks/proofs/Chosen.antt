-- What the index and a look through what is offered say of the one who is chosen for a wanted item.
use Rattle.std.proofs.Common.{◌≡◌, ◌≢◌, ◌⊎◌, inl, inr, Result, Ok, Err, IfOk, IfErr, subst, Bool, true, false, ◌&&◌, List, [], ◌∷◌, ◌++◌, map, filter, flat_map, bytes_eq, Option, Some, None, refl, sym, ap, ◌∙◌, if◌then◌else◌}
use Rattle.std.proofs.lemmas.Option.{none-some, same_Some}
use Rattle.mesa_types.specs.declared.faces.Export.{Export}
use Rattle.interface_records.specs.declared.wanted.Wanted.{Wanted as Entry}
use Rattle.object_files.specs.declared.image.Image.{Image}
use Rattle.object_files.specs.declared.image.Offer.{Offer}
use Rattle.config_rules.specs.Exporters.{is_given}
use Rattle.mesa_base.specs.declared.out_of_memory.OutOfMemory.{OutOfMemory}
use Rattle.loader_rules.specs.declared.fault.LoadFault.{LoadFault}
use Rattle.loader_rules.specs.declared.fault.LoadFault.TheVariants.{Twice, Memory}
use Rattle.loader_rules.specs.Exporters.{Offered, export_of, offered_as, offered_by, all_offered, gives_item, exporters, has_stamp, stamped}
use Rattle.loader_rules.specs.LoadFaults.{item_of}
use Rattle.loader_rules.specs.Parts.{Part, part, parts_behind, number}
use Rattle.loader_rules.specs.Wanted.{is_built_in}
use Rattle.load_checks.specs.declared.exporters.Exporter.{Exporter}
use Rattle.load_checks.specs.Choosing.{Choice, BuiltIn, One, Bad, choice_by, choice_of, first_stamp, missing_by, or_else, stamp_by, stamp_in, stamp_of}
use Rattle.load_checks.specs.Givers.{Giver, Firsts, first_two, giver_of, givers}
use Rattle.load_checks.specs.Keys.{key_of}

-- ---- those under the stamp, by one test

filtered_twice : (p q : Offered → Bool) (xs : List Offered) → filter q (filter p xs) ≡ filter (λ o. p o && q o) xs
filtered_twice p q [] = refl
filtered_twice p q (x ∷ xs) = by (p x) (filtered_twice p q xs)
  where
    by : (b : Bool) → filter q (filter p xs) ≡ filter (λ o. p o && q o) xs
        → filter q (if b then x ∷ filter p xs else filter p xs) ≡ (if b && q x then x ∷ filter (λ o. p o && q o) xs else filter (λ o. p o && q o) xs)
    by true h = ap (λ l. if q x then x ∷ l else l) h
    by false h = h

under_are : (before : List Image) (e : Entry) → givers (key_of e) (all_offered before) ≡ map (giver_of e.item.name) (stamped e (exporters before e))
unfolding exporters
under_are before e = ap (map (giver_of e.item.name)) (sym (filtered_twice (gives_item e) (has_stamp e) (all_offered before)))

-- ---- by the first two of those

abbrev pub two : Giver → Option Giver → Firsts
two g x = Some (g, x)

same_two : (g h : Giver) (x y : Option Giver) → two g x ≡ two h y → (g ≡ h) × (x ≡ y)
same_two g h x y q =
    let a : Giver × Option Giver = (g, x) in
    let b : Giver × Option Giver = (h, y) in
    let r : a ≡ b = same_Some a b q in
    (ap (λ z. z.0) r, ap (λ z. z.1) r)

some_two : (g : Giver) (x : Option Giver) → None ≡ two g x → ⊥
some_two g x q = let a : Giver × Option Giver = (g, x) in none-some a q

module _ (p : Part) (e : Entry) (all : List Offered) where
  none_by : (l : List Offered) → None ≡ first_two (map (giver_of e.item.name) l) → choice_by p e l all ≡ Bad (missing_by (number p) e (stamp_of all))
  none_by [] h = refl
  none_by (o ∷ []) h = absurd (some_two (giver_of e.item.name o) None h)
  none_by (o ∷ s ∷ os) h = absurd (some_two (giver_of e.item.name o) (Some (giver_of e.item.name s)) h)

  one_by : (l : List Offered) (g : Giver) → two g None ≡ first_two (map (giver_of e.item.name) l) → choice_by p e l all ≡ One g
  one_by [] g h = absurd (some_two g None (sym h))
  one_by (o ∷ []) g h = ap One (sym (same_two g (giver_of e.item.name o) None None h).0)
  one_by (o ∷ s ∷ os) g h = absurd (none-some (giver_of e.item.name s) (same_two g (giver_of e.item.name o) None (Some (giver_of e.item.name s)) h).1)

  two_by : (l : List Offered) (g s : Giver) → two g (Some s) ≡ first_two (map (giver_of e.item.name) l) → choice_by p e l all ≡ Bad (Twice (number p) (item_of e) g.path s.path)
  two_by [] g s h = absurd (some_two g (Some s) (sym h))
  two_by (o ∷ []) g s h = absurd (none-some s (sym (same_two g (giver_of e.item.name o) (Some s) None h).1))
  two_by (o ∷ t ∷ os) g s h =
      let q = same_two g (giver_of e.item.name o) (Some s) (Some (giver_of e.item.name t)) h in
      let second : s ≡ giver_of e.item.name t = same_Some s (giver_of e.item.name t) q.1 in
      λ j. Bad (Twice (number p) (item_of e) ((sym q.0 j).path) ((sym second j).path))

module _ (p : Part) (e : Entry) (other : is_built_in e.face ≡ false) where
  among : choice_of p e ≡ choice_by p e (stamped e (exporters p.before e)) (exporters p.before e)
  unfolding choice_of
  among = ap (λ b. if b then BuiltIn else choice_by p e (stamped e (exporters p.before e)) (exporters p.before e)) other

  pub none_is : None ≡ first_two (givers (key_of e) (all_offered p.before)) → choice_of p e ≡ Bad (missing_by (number p) e (stamp_of (exporters p.before e)))
  none_is h = among ∙ none_by p e (exporters p.before e) (stamped e (exporters p.before e)) (h ∙ ap first_two (under_are p.before e))

  pub one_is : (g : Giver) → two g None ≡ first_two (givers (key_of e) (all_offered p.before)) → choice_of p e ≡ One g
  one_is g h = among ∙ one_by p e (exporters p.before e) (stamped e (exporters p.before e)) g (h ∙ ap first_two (under_are p.before e))

  pub two_is : (g s : Giver) → two g (Some s) ≡ first_two (givers (key_of e) (all_offered p.before)) → choice_of p e ≡ Bad (Twice (number p) (item_of e) g.path s.path)
  two_is g s h = among ∙ two_by p e (exporters p.before e) (stamped e (exporters p.before e)) g s (h ∙ ap first_two (under_are p.before e))

pub built_in_is : (p : Part) (e : Entry) → is_built_in e.face ≡ true → choice_of p e ≡ BuiltIn
unfolding choice_of
built_in_is p e its = ap (λ b. if b then BuiltIn else choice_by p e (stamped e (exporters p.before e)) (exporters p.before e)) its

-- ---- the stamp of the first who offers an item of the name

stamp_append : (xs ys : List Offered) → stamp_of (xs ++ ys) ≡ or_else (stamp_of xs) (stamp_of ys)
stamp_append [] ys = refl
stamp_append (x ∷ xs) ys = refl

filter_append : (test : Offered → Bool) (xs ys : List Offered) → filter test (xs ++ ys) ≡ filter test xs ++ filter test ys
filter_append test [] ys = refl
filter_append test (x ∷ xs) ys = by (test x) (filter_append test xs ys)
  where
    by : (b : Bool) → filter test (xs ++ ys) ≡ filter test xs ++ filter test ys
        → (if b then x ∷ filter test (xs ++ ys) else filter test (xs ++ ys)) ≡ (if b then x ∷ filter test xs else filter test xs) ++ filter test ys
    by true h = ap (λ l. x ∷ l) h
    by false h = h

stamps_append : (e : Entry) (xs ys : List Offered) → stamp_of (filter (gives_item e) (xs ++ ys)) ≡ or_else (stamp_of (filter (gives_item e) xs)) (stamp_of (filter (gives_item e) ys))
stamps_append e xs ys = ap stamp_of (filter_append (gives_item e) xs ys) ∙ stamp_append (filter (gives_item e) xs) (filter (gives_item e) ys)

stamp_here : (p : Part) (e : Entry) (o : Offer) (x : Option Export) → stamp_by e o.name x ≡ stamp_of (filter (gives_item e) (offered_as p o x))
unfolding stamp_by
stamp_here p e o None = refl
stamp_here p e o (Some x) = by (bytes_eq o.name e.face && is_given e.item.name x.face x.given)
  where
    by : (b : Bool) → (if b then Some x.face.stamp else None) ≡ stamp_of (if b then offered_as p o (Some x) else [])
    by true = refl
    by false = refl

stamp_there : (p : Part) (e : Entry) (os : List Offer) → stamp_in p.image e os ≡ stamp_of (filter (gives_item e) (flat_map (λ (o : Offer). offered_as p o (export_of p.image o)) os))
stamp_there p e [] = refl
stamp_there p e (o ∷ os) =
    (λ j. or_else (stamp_here p e o (export_of p.image o) j) (stamp_there p e os j))
    ∙ sym (stamps_append e (offered_as p o (export_of p.image o)) (flat_map (λ (o : Offer). offered_as p o (export_of p.image o)) os))

stamps_behind : (e : Entry) (before is : List Image) → first_stamp e is ≡ stamp_of (filter (gives_item e) (flat_map offered_by (parts_behind before is)))
unfolding parts_behind
stamps_behind e before [] = refl
stamps_behind e before (i ∷ is) =
    (λ j. or_else (stamp_there (part before i) e i.offered j) (stamps_behind e (before ++ i ∷ []) is j))
    ∙ sym (stamps_append e (offered_by (part before i)) (flat_map offered_by (parts_behind (before ++ i ∷ []) is)))

pub first_stamp_is : (before : List Image) (e : Entry) → first_stamp e before ≡ stamp_of (exporters before e)
unfolding exporters all_offered
first_stamp_is before e = stamps_behind e [] before

-- ---- a fault that is passed on

pub bad_by : (C : Choice) (r : Result (Option Exporter) LoadFault) (m : Result LoadFault OutOfMemory) (x : LoadFault) → C ≡ Bad x → IfOk m (λ f. f ≡ x)
    → (r ≡ Err Memory) ⊎ ((f : LoadFault) × (m ≡ Ok f) × (r ≡ Err f)) → IfErr r (λ e. e ≢ Memory → C ≡ Bad e)
bad_by C r m x is h (inl q) = along q
  where
    none : Memory ≢ Memory → C ≡ Bad Memory
    none never = absurd (never refl)

    along : r ≡ Err Memory → IfErr r (λ e. e ≢ Memory → C ≡ Bad e)
    along q = subst (λ (z : Result (Option Exporter) LoadFault). IfErr z (λ e. e ≢ Memory → C ≡ Bad e)) (sym q) none
bad_by C r m x is h (inr (f, made, q)) =
    subst (λ (z : Result (Option Exporter) LoadFault). IfErr z (λ e. e ≢ Memory → C ≡ Bad e)) (sym q)
    (λ other. is ∙ ap Bad (sym (its (subst (λ (z : Result LoadFault OutOfMemory). IfOk z (λ g. g ≡ x)) made h))))
  where
    its : f ≡ x → f ≡ x
    its z = z
