-- An image that its form fits is in order, where its modules are whole.
use Rattle.std.proofs.Common.{◌≡◌, ℕ, zero, suc, ◌<◌, ◌≤◌, true, List, [], ◌∷◌, length, map, Option, Some, None, slice_get, refl, sym, ap, subst, ◌∙◌, arith}
use Rattle.std.specs.Prelude.{All, ◌&&◌, nat_lt, nat_eq, bytes_eq, flat_map, option_map, option_and_then, IsSomeAnd, MatchOption}
use Rattle.std.specs.List.{sum}
use Rattle.std.proofs.lemmas.Bool.{and_parts, leb-true, ltb-true, eqb-true}
use Rattle.std.proofs.lemmas.List.{length-map}
use Rattle.std.proofs.lemmas.Option.{slice_get-map, slice_get_past, slice_get_within}
use Rattle.mesa_base.specs.declared.limits.TheConstants.{INSTANCES}
use Rattle.mesa_types.specs.Types as types
use Rattle.mesa_types.specs.Types.{Measure, measure_step, field_step, types_in, words_of_fields}
use Rattle.mesa_types.specs.declared.faces.Item.{Item}
use Rattle.mesa_types.specs.declared.faces.ItemKind.{ItemKind}
use Rattle.mesa_types.specs.declared.faces.ItemKind.TheVariants as item
use Rattle.mesa_types.specs.declared.types.FieldType.{FieldType, out-FieldType, roll-out-FieldType}
use Rattle.mesa_types.specs.declared.types.TypeTree.TheFolds.{fold-FieldType, fold-roll-FieldType}
use Rattle.code_forms.specs.declared.module_code.CodeKind.{CodeKind}
use Rattle.code_forms.specs.declared.module_code.CodeKind.TheVariants.{Procedure, Signal, Error}
use Rattle.code_forms.specs.declared.module_code.CodeLink.{CodeLink}
use Rattle.code_forms.specs.declared.module_code.CodeProcedure.{CodeProcedure}
use Rattle.code_forms.specs.declared.module_code.CodeSignal.{CodeSignal}
use Rattle.code_forms.specs.declared.module_code.ModuleCode.{ModuleCode}
use Rattle.interface_records.specs.declared.wanted.Wanted.{Wanted as Entry}
use Rattle.object_files.specs.declared.image.Image.{Image}
use Rattle.object_files.specs.declared.image.Instance.{Instance}
use Rattle.object_files.specs.declared.image.Link.{Link}
use Rattle.object_files.specs.declared.image.Link.TheVariants.{Wanted, To}
use Rattle.object_files.specs.declared.object.Object.{Object}
use Rattle.machine_ready.specs.machine_rules.specs.LookUps.{module_number, code_in, code_of, procedure_of, called, signal_of, link_of, bound_to}
use Rattle.machine_ready.specs.machine_activations.specs.Links.{IsLike, IsOfInstance}
use Rattle.machine_ready.specs.Order.{code_kind, IsBoundAlike}
use Rattle.object_rules.specs.declared.limits.TheConstants.{IMAGE_MODULES}
use Rattle.object_rules.specs.ImageForms.{instance_form, needed_by_import, needed_by, module_at, same_signature, is_wanted, is_given, wanted_link, bound_link, link, link_table, link_tables, image_form}
use Rattle.object_rules.specs.ModuleForms.{gives_as, has_sizes, is_of_kind, procedure_gives, signal_gives}
use Rattle.object_rules.specs.Numbers.{number_where, is_below}
use Rattle.object_rules.specs.Parts.{ModulePart, procedure_part, parts_of, kind_code, link_code, IsWhole}
use Rattle.object_rules.proofs.AllFit.{all_fit, there}
use Rattle.read_files.specs.Laws.{ImagesThatFitAreInOrder}
use Rattle.object_rules.proofs.SameTypes.{signature_same}
use Rattle.read_files.proofs.Tables.{numbered, none_past, get_there, item_needed, link_needed}

-- ---- words by types

abbrev field_words : FieldType → ℕ
field_words = fold-FieldType Measure ℕ measure_step field_step

one_field : (f : FieldType) → field_words f ≡ types.words_of (out-FieldType f).kind
one_field f = ap field_words (sym (roll-out-FieldType f)) ∙ fold-roll-FieldType Measure ℕ measure_step field_step (out-FieldType f)

words_by_types : (fs : List FieldType) → map field_words fs ≡ map types.words_of (types_in fs)
words_by_types [] = refl
words_by_types (f ∷ fs) = ap (λ n. n ∷ map field_words fs) (one_field f) ∙ ap (λ ns. types.words_of (out-FieldType f).kind ∷ ns) (words_by_types fs)

pub same_words : (fs gs : List FieldType) → types_in fs ≡ types_in gs → words_of_fields fs ≡ words_of_fields gs
same_words fs gs e = ap sum (words_by_types fs ∙ (ap (map types.words_of) e ∙ sym (words_by_types gs)))

kinds_agree : (k : ItemKind) → kind_code k ≡ code_kind k
kinds_agree item.Procedure = refl
kinds_agree item.Signal = refl
kinds_agree item.Error = refl

-- ---- a wanted entry

entry_alike : (needed : Entry) (wanted : List Entry) (n : ℕ) (o : Option Entry) → slice_get wanted n ≡ o → is_wanted (Some needed) o ≡ true
    → IsSomeAnd o (λ (w : Entry). IsLike (link_code needed.item) (code_kind w.item.kind) (words_of_fields w.item.takes) (words_of_fields w.item.gives))
entry_alike needed wanted n None is e = absurd cc
entry_alike needed wanted n (Some w) is e =
    let a = and_parts (bytes_eq w.face needed.face) _ e in
    let b = and_parts (nat_eq w.stamp needed.stamp) _ a.1 in
    let c = and_parts (bytes_eq w.item.name needed.item.name) (same_signature w.item needed.item) b.1 in
    let s = signature_same w.item needed.item c.1 in (
      kinds_agree needed.item.kind ∙ ap code_kind (sym s.0),
      same_words needed.item.takes w.item.takes (sym s.1),
      same_words needed.item.gives w.item.gives (sym s.2),
    )

-- ---- what a module gives

sizes : (i : Item) (args results : ℕ) → has_sizes i args results ≡ true → (words_of_fields i.takes ≡ args) × (words_of_fields i.gives ≡ results)
sizes i args results e =
    let p = and_parts (nat_eq args (words_of_fields i.takes)) (nat_eq results (words_of_fields i.gives)) e in
    (sym (eqb-true args (words_of_fields i.takes) p.0), sym (eqb-true results (words_of_fields i.gives) p.1))

signal_kind : (k : CodeKind) → is_of_kind item.Signal k ≡ true → k ≡ Signal
signal_kind Procedure e = absurd cc
signal_kind Signal e = refl
signal_kind Error e = absurd cc

error_kind : (k : CodeKind) → is_of_kind item.Error k ≡ true → k ≡ Error
error_kind Procedure e = absurd cc
error_kind Signal e = absurd cc
error_kind Error e = refl

module _ (image : Image) where
  abbrev modules : List ModulePart
  modules = map parts_of image.modules

  code_at : (j : ℕ) (x : Instance) (o : Object) → slice_get image.instances j ≡ Some x → slice_get image.modules x.module ≡ Some o → code_of image j ≡ Some o.code
  unfolding code_of module_number code_in
  code_at j x o e m =
      ap (λ q. option_and_then (code_in image) (option_map (λ (i : Instance). i.module) q)) e ∙ ap (option_map (λ (y : Object). y.code)) m

  module_is : (j : ℕ) (x : Instance) (o : Object) → slice_get image.instances j ≡ Some x → slice_get image.modules x.module ≡ Some o
      → module_at modules (slice_get image.instances j) ≡ Some (parts_of o)
  module_is j x o e m = ap (module_at modules) e ∙ (slice_get-map parts_of image.modules x.module ∙ ap (option_map parts_of) m)

  procedure_there : (j : ℕ) (c : ModuleCode) → code_of image j ≡ Some c → (n : ℕ) → procedure_of image j n ≡ slice_get c.procedures n
  unfolding procedure_of
  procedure_there j c e n = ap (option_and_then (λ (m : ModuleCode). slice_get m.procedures n)) e

  signal_there : (j : ℕ) (c : ModuleCode) → code_of image j ≡ Some c → (n : ℕ) → signal_of image j n ≡ slice_get c.signals n
  unfolding signal_of
  signal_there j c e n = ap (option_and_then (λ (m : ModuleCode). slice_get m.signals n)) e

  procedure_like : (i : Item) (o : Option CodeProcedure) → i.kind ≡ item.Procedure → procedure_gives i (option_map procedure_part o) ≡ true
      → IsSomeAnd o (λ (p : CodeProcedure). IsLike (link_code i) Procedure p.args p.results)
  procedure_like i None k e = absurd cc
  procedure_like i (Some p) k e = let s = sizes i p.args p.results e in (ap kind_code k, s.0, s.1)

  signal_like : (i : Item) (o : Option CodeSignal) → i.kind ≡ item.Signal → signal_gives i o ≡ true → IsSomeAnd o (λ (s : CodeSignal). IsLike (link_code i) s.kind s.args s.results)
  signal_like i None k e = absurd cc
  signal_like i (Some s) k e =
      let p = and_parts (is_of_kind i.kind s.kind) (has_sizes i s.args s.results) e in
      let z = sizes i s.args s.results p.1 in
      (ap kind_code k ∙ sym (signal_kind s.kind (subst (λ a. is_of_kind a s.kind ≡ true) k p.0)), z.0, z.1)

  error_like : (i : Item) (o : Option CodeSignal) → i.kind ≡ item.Error → signal_gives i o ≡ true → IsSomeAnd o (λ (s : CodeSignal). IsLike (link_code i) s.kind s.args s.results)
  error_like i None k e = absurd cc
  error_like i (Some s) k e =
      let p = and_parts (is_of_kind i.kind s.kind) (has_sizes i s.args s.results) e in
      let z = sizes i s.args s.results p.1 in
      (ap kind_code k ∙ sym (error_kind s.kind (subst (λ a. is_of_kind a s.kind ≡ true) k p.0)), z.0, z.1)

  called_like : (i : Item) (j : ℕ) (o : Object) → code_of image j ≡ Some o.code → (n : ℕ) → i.kind ≡ item.Procedure
      → nat_lt 0 n && procedure_gives i (slice_get (map procedure_part o.code.procedures) n) ≡ true
      → IsSomeAnd (called image j n) (λ (p : CodeProcedure). IsLike (link_code i) Procedure p.args p.results)
  unfolding called
  called_like i j o c zero k e = absurd cc
  called_like i j o c (suc n) k e =
      let given = (and_parts (nat_lt 0 (suc n)) (procedure_gives i (slice_get (map procedure_part o.code.procedures) (suc n))) e).1 in
      subst (λ q. IsSomeAnd q (λ (p : CodeProcedure). IsLike (link_code i) Procedure p.args p.results)) (sym (procedure_there j o.code c (suc n)))
      (procedure_like i (slice_get o.code.procedures (suc n)) k
      (subst (λ q. procedure_gives i q ≡ true) (slice_get-map procedure_part o.code.procedures (suc n)) given))

  given_by : (k : ItemKind) (i : Item) (j : ℕ) (o : Object) → code_of image j ≡ Some o.code → (n : ℕ) → i.kind ≡ k
      → gives_as k (parts_of o).signals (parts_of o).procedures i n ≡ true → IsOfInstance image (link_code i) (kind_code k) j n
  given_by item.Procedure i j o c n k e = called_like i j o c n k e
  given_by item.Signal i j o c n k e =
      subst (λ q. IsSomeAnd q (λ (s : CodeSignal). IsLike (link_code i) s.kind s.args s.results)) (sym (signal_there j o.code c n)) (signal_like i (slice_get o.code.signals n) k e)
  given_by item.Error i j o c n k e =
      subst (λ q. IsSomeAnd q (λ (s : CodeSignal). IsLike (link_code i) s.kind s.args s.results)) (sym (signal_there j o.code c n)) (error_like i (slice_get o.code.signals n) k e)

  given_at : (needed : Entry) (j n : ℕ) (x : Option Instance) → slice_get image.instances j ≡ x → is_given (Some needed) (module_at modules x) n ≡ true
      → IsOfInstance image (link_code needed.item) (link_code needed.item).kind j n
  given_at needed j n None is e = absurd cc
  given_at needed j n (Some x) is e = by (slice_get image.modules x.module) refl (subst (λ q. is_given (Some needed) q n ≡ true) (slice_get-map parts_of image.modules x.module) e)
    where
      by : (o : Option Object) → slice_get image.modules x.module ≡ o → is_given (Some needed) (option_map parts_of o) n ≡ true
          → IsOfInstance image (link_code needed.item) (link_code needed.item).kind j n
      by None m e = absurd cc
      by (Some o) m e = given_by needed.item.kind needed.item j o (code_at j x o is m) n refl e

  -- ---- a link

  link_alike : (needed : Entry) (to : Link) → (link modules image.wanted image.instances (Some needed)).fits to → IsBoundAlike image (link_code needed.item) to
  unfolding link wanted_link bound_link
  link_alike needed (Wanted n) h = entry_alike needed image.wanted n (slice_get image.wanted n) refl h.1.1
  link_alike needed (To j n) h = given_at needed j n (slice_get image.instances j) refl h.1.1.1

  abbrev InOrder : Option CodeLink → Option Link → Type 0
  InOrder l to = MatchOption l (to ≡ None) (λ l. IsSomeAnd to (IsBoundAlike image l))

  abbrev table_at : ℕ → List Entry
  table_at j = needed_by (module_at modules (slice_get image.instances j))

  link_there : (needed : List Entry) (table : List Link) → (link_table modules image.wanted image.instances needed).fits table → (k : ℕ) (q : Option Entry) → slice_get needed k ≡ q
      → InOrder (option_map link_code (option_map item_needed q)) (slice_get table k)
  unfolding link_table
  link_there needed table h k None e = slice_get_past table k (let past = none_past needed k e in let long : length table ≡ length needed = h.0 in omega (arith, past, long))
  link_there needed table h k (Some n) e =
      let less = slice_get_within needed k n e in
      let long : length table ≡ length needed = h.0 in
      let t = get_there table k (omega (arith, less, long)) in
      let fits = numbered (λ b. link modules image.wanted image.instances (slice_get needed b)) table h.1 k t.0 t.1 in
      subst (λ o. IsSomeAnd o (IsBoundAlike image (link_code n.item))) (sym t.1)
      (link_alike n t.0 (subst (λ o. (link modules image.wanted image.instances o).fits t.0) e fits))

  module _ (tables : (link_tables modules image.wanted image.instances).fits image.links) (in_range : All (λ (i : Instance). i.module < length image.modules) image.instances)
      (whole : All IsWhole image.modules) where
    bound_is : (j k : ℕ) (o : Option (List Link)) → slice_get image.links j ≡ o → bound_to image j k ≡ option_and_then (λ (table : List Link). slice_get table k) o
    unfolding bound_to
    bound_is j k o e = ap (option_and_then (λ (table : List Link). slice_get table k)) e

    link_at : (j k : ℕ) (o : Option ModuleCode) → code_of image j ≡ o → link_of image j k ≡ option_and_then (λ (m : ModuleCode). slice_get m.links k) o
    unfolding link_of
    link_at j k o e = ap (option_and_then (λ (m : ModuleCode). slice_get m.links k)) e

    as_many : length image.links ≡ length image.instances
    unfolding link_tables
    as_many = tables.0

    table_fits : (j : ℕ) (table : List Link) → slice_get image.links j ≡ Some table → (link_table modules image.wanted image.instances (table_at j)).fits table
    unfolding link_tables
    table_fits j table e = numbered (λ n. link_table modules image.wanted image.instances (needed_by (module_at modules (slice_get image.instances n)))) image.links tables.1 j table e

    no_code : (j : ℕ) → slice_get image.instances j ≡ None → code_of image j ≡ None
    unfolding code_of module_number
    no_code j e = ap (λ q. option_and_then (code_in image) (option_map (λ (i : Instance). i.module) q)) e

    links_past : (j k : ℕ) → slice_get image.instances j ≡ None → InOrder (link_of image j k) (bound_to image j k)
    links_past j k e =
        let past = none_past image.instances j e in
        let beyond : slice_get image.links j ≡ None = slice_get_past image.links j (omega (arith, past, as_many)) in
        subst (λ l. InOrder l (bound_to image j k)) (sym (link_at j k None (no_code j e))) (bound_is j k None beyond)

    links_there : (j k : ℕ) (x : Instance) → slice_get image.instances j ≡ Some x → InOrder (link_of image j k) (bound_to image j k)
    links_there j k x e =
        let less = slice_get_within image.instances j x e in
        let t = get_there image.links j (omega (arith, less, as_many)) in
        let o = get_there image.modules x.module (there (λ (i : Instance). i.module < length image.modules) image.instances j x in_range e) in
        let w = there IsWhole image.modules x.module o.0 whole o.1 in
        let fits = subst (λ m. (link_table modules image.wanted image.instances (needed_by m)).fits t.0) (module_is j x o.0 e o.1) (table_fits j t.0 t.1) in
        let needed = flat_map needed_by_import o.0.shape.imports in
        let link_is : link_of image j k ≡ option_map link_code (option_map item_needed (slice_get needed k)) =
        link_at j k (Some o.0.code) (code_at j x o.0 e o.1) ∙ link_needed o.0.shape.imports o.0.code.links w.links k in
        subst (λ l. InOrder l (bound_to image j k)) (sym link_is)
        (subst (λ b. InOrder (option_map link_code (option_map item_needed (slice_get needed k))) b) (sym (bound_is j k (Some t.0) t.1)) (link_there needed t.0 fits k (slice_get needed k) refl))

    links_in_order : (j k : ℕ) → InOrder (link_of image j k) (bound_to image j k)
    links_in_order j k = by (slice_get image.instances j) refl
      where
        by : (o : Option Instance) → slice_get image.instances j ≡ o → InOrder (link_of image j k) (bound_to image j k)
        by None e = links_past j k e
        by (Some x) e = links_there j k x e

-- ---- the whole

module_there : (image : Image) (before : List Instance) (x : Instance) → (instance_form (map parts_of image.modules) before).fits x → x.module < length image.modules
unfolding instance_form
module_there image before x h =
    let less : x.module < length (map parts_of image.modules) = ltb-true x.module (length (map parts_of image.modules)) h.1.1 in
    omega (arith, less, length-map image.modules parts_of)

pub images_are_in_order : ImagesThatFitAreInOrder
unfolding image_form
images_are_in_order version image h whole =
    let in_range = all_fit (λ (i : Instance). i.module < length image.modules) (instance_form (map parts_of image.modules)) (module_there image) [] image.instances h.1.1.0.1.1 in
    let many : length (map parts_of image.modules) ≤ 65534 = leb-true (length (map parts_of image.modules)) IMAGE_MODULES h.0.0.1 in
    record {
      few_modules = omega (arith, many, length-map image.modules parts_of);
      few_instances = leb-true (length image.instances) INSTANCES h.1.1.0.0.1;
      modules = in_range;
      tables = as_many image h.1.1.1.0 in_range whole;
      links = links_in_order image h.1.1.1.0 in_range whole;
      control = all_fit (λ j. j < length image.instances) (λ _. number_where 4 (is_below (length image.instances))) (λ _ j f. ltb-true j (length image.instances) f.1) [] image.control h.1.1.1.1.1.1.1;
    }
