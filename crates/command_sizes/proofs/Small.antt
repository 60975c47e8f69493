-- Where the size sum is small no file is too large.
use Rattle.std.proofs.Common.{◌≡◌, ℕ, zero, suc, ◌+◌, ◌<◌, ◌≤◌, List, [], ◌∷◌, ◌++◌, length, map, All, Some, refl, sym, subst, arith}
use Rattle.std.specs.Prelude.{slice_get}
use Rattle.std.specs.List.{AllZip}
use Rattle.std.proofs.lemmas.List.Elements.{All-nil, All-cons, All-head, All-tail, All-append}
use Rattle.std.proofs.lemmas.Option.{none-some, same_Some, slice_get_within}
use Rattle.mesa_base.specs.Outside.{Files}
use Rattle.mesa_base.specs.declared.limits.TheConstants.{FILE_BYTES}
use Rattle.mesa_types.specs.Typed.{Module}
use Rattle.mesa_types.specs.declared.faces.Shape.{Shape}
use Rattle.interface_records.specs.Spelled.{ShapeCanBeSpelled}
use Rattle.object_files.specs.declared.object.Object.{Object}
use Rattle.object_writers.specs.ObjectBytes.{object_file as object_bytes, image_file as image_bytes}
use Rattle.config_rules.specs.declared.tree.TreeInstance.{TreeInstance}
use Rattle.link_tables.specs.Linked.{image_of}
use Rattle.bound_images.specs.Programs.{shape_of}
use Rattle.bound_images.proofs.Elements.{all_by}
use Rattle.command_rules.specs.linked_programs.specs.Objects.{AreObjectsOf}
use Rattle.file_sizes.specs.Sizes.{object_size}
use Rattle.object_sizes.specs.TextSizes.{shape_cost}
use Rattle.image_sizes.specs.Laws.{ComponentsAreShort, ShapesCanBeSpelled}
use Rattle.image_sizes.specs.Trees.{size_sum}
use Rattle.command_rules.specs.Comes.{Made, each_holding, targets_of}
use Rattle.command_rules.specs.Configurations.{Configured, source_in}
use Rattle.command_rules.specs.Exercise.{chain}
use Rattle.command_rules.specs.Forms.{Source, Compile, Define, Bind, Run, Go, image_file, object_file, OfConfig, Show, Upgrade, Exercise, Plan, Survey}
use Rattle.exercise_texts.specs.Files.{exercise_files}
use Rattle.command_rules.specs.Passes.{Has, Trail}
use Rattle.command_rules.specs.Writing.{Target, holding, OfObject, OfImage, IsSmall, size_of}
use Rattle.command_laws.proofs.Came.{same_value}
use Rattle.command_sizes.specs.Grounds.{Grounds}
use Rattle.command_sizes.specs.Laws.{FilesAreSmall, ObjectsAreSmall}
use Rattle.command_sizes.specs.Sum.{HasGoSum, HasSize, HasSum, most}
use Rattle.command_sizes.proofs.Configuring.{IsFrom, IsKnown}
use Rattle.command_sizes.proofs.Known.{from_file, knows}
use Rattle.command_sizes.proofs.Parts.{part}
use Rattle.command_sizes.proofs.Short.{IsShort, short, image_long, object_long}

-- an object to each file
held_small : (bases : List (List ℕ)) (os : List Object) → All (λ (o : Object). length (object_bytes o) ≤ FILE_BYTES) os → All IsSmall (each_holding bases os)
unfolding each_holding
held_small [] os h = All-nil IsSmall
held_small (b ∷ bases) [] h = All-nil IsSmall
held_small (b ∷ bases) (o ∷ os) h =
    All-cons IsSmall (holding (object_file b) (OfObject o)) (each_holding bases os)
    (All-head (λ (x : Object). length (object_bytes x) ≤ FILE_BYTES) o os h)
    (held_small bases os (All-tail (λ (x : Object). length (object_bytes x) ≤ FILE_BYTES) o os h))

there : (ms : List Module) (k : ℕ) → k < length ms → (m : Module) × (slice_get ms k ≡ Some m)
there [] k l = absurd (omega (arith, l))
there (m ∷ ms) zero l = (m, refl)
there (m ∷ ms) (suc k) l = there ms k (omega (arith, l))

of_shape : (ms : List Module) (k : ℕ) (s : Shape) → slice_get (map shape_of ms) k ≡ Some s → (m : Module) × (slice_get ms k ≡ Some m) × (shape_of m ≡ s)
of_shape [] k s e = absurd (none-some s e)
of_shape (m ∷ ms) zero s e = (m, refl, same_Some (shape_of m) s e)
of_shape (m ∷ ms) (suc k) s e = of_shape ms k s e

within : (long size sum : ℕ) → long ≤ size + 1000 → size ≤ sum → sum ≤ 200000000 → long ≤ 536870912
within long size sum a b c = omega (arith, a, b, c)

module _ (grounds : Grounds) (files : Files) where
  -- each component's module is short by its text's size
  shorts : (bases : List (List ℕ)) (ms : List Module) (sizes : List ℕ) → AllZip (IsFrom files) bases ms → AllZip (HasSize files) bases sizes → AllZip IsShort ms sizes
  shorts [] [] [] h k = tt
  shorts [] [] (s ∷ sizes) h k = absurd k
  shorts [] (m ∷ ms) sizes h k = absurd h
  shorts (b ∷ bases) [] sizes h k = absurd h
  shorts (b ∷ bases) (m ∷ ms) [] h k = absurd k
  shorts (b ∷ bases) (m ∷ ms) (s ∷ sizes) h k =
      (short grounds.texts grounds.sizes files b m s (from_file grounds files b m h.0) k.0, shorts bases ms sizes h.1 k.1)

  at_place : (ms : List Module) (sizes : List ℕ) → AllZip IsShort ms sizes → (k : ℕ) (m : Module) → slice_get ms k ≡ Some m
      → (s : ℕ) × (slice_get sizes k ≡ Some s) × IsShort m s
  at_place [] sizes h k m e = absurd (none-some m e)
  at_place (n ∷ ms) [] h k m e = absurd h
  at_place (n ∷ ms) (s ∷ sizes) h zero m e = (s, refl, subst (λ x. IsShort x s) (same_Some n m e) h.0)
  at_place (n ∷ ms) (s ∷ sizes) h (suc k) m e = at_place ms sizes h.1 k m e

  module _ (c : Configured) (its : IsKnown files c) (sum : ℕ) (h : HasSum files c sum) (few : sum ≤ most) (objects : List Object)
      (are : AreObjectsOf c.modules objects) where
    fits : AllZip IsShort c.modules h.sizes
    fits = shorts c.bases c.modules h.sizes its.modules h.their

    summed : size_sum c.tree h.sizes ≤ 200000000
    summed = let e = h.is in omega (arith, e, few)

    of_object : (k : ℕ) (o : Object) → slice_get objects k ≡ Some o → (s : ℕ) × (slice_get h.sizes k ≡ Some s) × (object_size o ≤ s + 1000)
    of_object k o e =
        let m = there c.modules k (let l = slice_get_within objects k o e in omega (arith, l, are.as_many)) in
        let s = at_place c.modules h.sizes fits k m.0 m.1 in
        (s.0, s.1, (s.2).objects o (are.each k m.0 o m.1 e))

    -- the component of an instance
    of_instance : (j : ℕ) (x : TreeInstance) → slice_get c.tree.instances j ≡ Some x
        → (s : ℕ) × (slice_get h.sizes x.component ≡ Some s) × (shape_cost x.shape ≤ s + 1000) × ShapeCanBeSpelled x.shape
    of_instance j x e =
        let m = of_shape c.modules x.component x.shape (its.shapes.tree.instances j x e).its in
        let s = at_place c.modules h.sizes fits x.component m.0 m.1 in
        (s.0, s.1, subst (λ (y : Shape). shape_cost y ≤ s.0 + 1000) m.2 (s.2).instances, subst ShapeCanBeSpelled m.2 (s.2).can.shape)

    all_spelled : ShapesCanBeSpelled c.tree
    all_spelled = all_by (λ (x : TreeInstance). ShapeCanBeSpelled x.shape) c.tree.instances (λ j x e. (of_instance j x e).3)

    all_short : ComponentsAreShort c.tree h.sizes objects
    all_short = record {
      objects_short = of_object;
      instances_short = all_by (λ (x : TreeInstance). (s : ℕ) × (slice_get h.sizes x.component ≡ Some s) × (shape_cost x.shape ≤ s + 1000)) c.tree.instances
          (λ j x e. let i = of_instance j x e in (i.0, i.1, i.2));
    }

    object_small : (k : ℕ) (o : Object) → slice_get objects k ≡ Some o → length (object_bytes o) ≤ FILE_BYTES
    object_small k o e =
        let s = of_object k o e in
        within (length (object_bytes o)) s.0 (size_sum c.tree h.sizes) (let long = object_long grounds.sizes o in let less = s.2 in omega (arith, long, less))
        (part c.tree h.sizes k s.0 s.1) summed

    image_small : length (image_bytes (image_of c.tree objects)) ≤ FILE_BYTES
    image_small =
        subst (λ n. n ≤ FILE_BYTES) (sym (image_long grounds.sizes (image_of c.tree objects)))
        (grounds.sizes.short_images c.tree h.sizes objects its.short all_spelled its.shapes.tree.few all_short summed)

    all_small : (file : List ℕ) → All IsSmall (each_holding c.bases objects ++ holding file (OfImage (image_of c.tree objects)) ∷ [])
    all_small file =
        All-append IsSmall (each_holding c.bases objects) (holding file (OfImage (image_of c.tree objects)) ∷ [])
        (held_small c.bases objects (all_by (λ (o : Object). length (object_bytes o) ≤ FILE_BYTES) objects object_small))
        (All-cons IsSmall (holding file (OfImage (image_of c.tree objects))) [] image_small (All-nil IsSmall))

-- ---- compile

module _ (grounds : Grounds) where
  pub objects_are_small : ObjectsAreSmall
  objects_are_small base files targets size it h =
      let made = from_file grounds files base it.1 (record { trail = it.0; comes = it.3 }) in
      let less = (short grounds.texts grounds.sizes files base it.1 size made h).objects it.2 it.4 in
      let long = object_long grounds.sizes it.2 in
      let few : length (object_bytes it.2) ≤ size + 1000 = omega (arith, less, long) in
      subst (All (λ (t : Target). size_of t.value ≤ size + 1000)) (sym it.5)
      (All-cons (λ (t : Target). size_of t.value ≤ size + 1000) (holding (object_file base) (OfObject it.2)) [] few (All-nil (λ (t : Target). size_of t.value ≤ size + 1000)))

  weaker : (size : ℕ) → size ≤ 200000000 → (targets : List Target) → All (λ (t : Target). size_of t.value ≤ size + 1000) targets → All IsSmall targets
  weaker size few targets h k d less = let long = h k d less in within _ size size long (omega arith) few

  -- ---- go

  -- the sum is that of the very value that was configured
  sum_for : (source : Source) (base : List ℕ) (files : Files) (t u : Trail) (c d : Configured) (sum : ℕ) → (source_in source base).comes (Some files) t (Has c)
      → (source_in source base).comes (Some files) u (Has d) → HasSum files d sum → HasSum files c sum
  sum_for source base files t u c d sum x y h =
      subst (λ (k : Configured). HasSum files k sum)
      (same_value (source_in source base) files d c (grounds.exact.sources source base) (record { trail = u; comes = y }) (record { trail = t; comes = x })) h

  made_small : (source : Source) (base : List ℕ) (files : Files) (trail : Trail) (m : Made source base (Some files) trail) (sum : ℕ)
      → HasSum files m.configured sum → sum ≤ most → All IsSmall (targets_of base m)
  made_small source base files trail m sum h few =
      all_small grounds files m.configured (knows grounds source base files trail m.configured m.comes) sum h few m.objects m.their (image_file base)

  go_small : (source : Source) (base : List ℕ) (files : Files) (targets : List Target) (sum : ℕ) (trail : Trail) (m : Made source base (Some files) trail)
      → targets ≡ targets_of base m → HasGoSum source base files sum → sum ≤ most → All IsSmall targets
  go_small source base files targets sum trail m is h few =
      subst (All IsSmall) (sym is) (made_small source base files trail m sum (sum_for source base files trail h.0 m.configured h.1 sum m.comes h.2 h.3) few)

  pub files_are_small : FilesAreSmall
  files_are_small (Compile base) files targets sum it h few = weaker sum few targets (objects_are_small base files targets sum it h)
  files_are_small (Define base stamp) files targets sum it h few = absurd h
  files_are_small (Bind base) files targets sum it h few = absurd h
  files_are_small (Run bases turns) files targets sum it h few = absurd h
  files_are_small (Go source base turns) files targets sum it h few = go_small source base files targets sum it.0 it.1 it.2 h few
  files_are_small (Show kind base) files targets sum it h few = absurd h
  files_are_small (Upgrade kind base) files targets sum it h few = absurd h
  files_are_small (Exercise links turns) files targets sum it h few = go_small OfConfig chain (exercise_files links) targets sum it.0 it.1 it.2 h few
  files_are_small (Plan bases) files targets sum it h few = absurd h
  files_are_small (Survey base) files targets sum it h few = absurd h
