-- What is so of a configuration that comes of files: its modules come of the files of its bases, and its tree is one of their shapes and is short.
use Rattle.std.proofs.Common.{◌≡◌, ℕ, List, [], ◌∷◌, length, map, Some, Ok, Err, sym, ◌∙◌, subst, inl, inr}
use Rattle.std.specs.Prelude.{MatchResult}
use Rattle.std.specs.List.{AllZip}
use Rattle.std.proofs.lemmas.List.{length-map}
use Rattle.std.proofs.lemmas.List.Elements.{All-weaker}
use Rattle.std.proofs.lemmas.Slice.Zip.{AllZip-long}
use Rattle.mesa_base.specs.Name.{IsName}
use Rattle.mesa_base.specs.Outside.{Files}
use Rattle.mesa_types.specs.Typed.{Module}
use Rattle.mesa_types.specs.declared.faces.Shape.{Shape}
use Rattle.cmesa_grammar.specs.Syntax.{Config}
use Rattle.config_rules.specs.Components.{components}
use Rattle.config_rules.specs.Through.{Answer}
use Rattle.config_rules.specs.Tree.{made, modules_with, Agreed, IsTree, IsSingle, single_tree, first_place}
use Rattle.config_rules.specs.declared.fault.TreeCause.TheVariants.{InterfaceDiffers}
use Rattle.config_rules.specs.declared.fault.TreeFault.TheVariants.{At}
use Rattle.config_rules.specs.declared.tree.Component.{Component}
use Rattle.config_rules.specs.declared.tree.Tree.{Tree}
use Rattle.config_rules.specs.declared.tree.TreeInstance.{TreeInstance}
use Rattle.config_rules.proofs.Answers.{err_ok, ok_same}
use Rattle.bound_images.specs.Programs.{shape_of}
use Rattle.command_rules.specs.linked_programs.specs.Laws.{IsOfShapes}
use Rattle.command_rules.specs.linked_programs.specs.Modules.{shapes_of}
use Rattle.spelled_trees.specs.Names.{HasNames}
use Rattle.spelled_trees.specs.Paths.{PathCanBeSpelled, PathsAndRecords}
use Rattle.image_sizes.specs.Trees.{TreeIsShort}
use Rattle.tree_sizes.specs.Laws.{IsNamedPath, TreeIsNamed}
use Rattle.command_rules.specs.Case.{Case, Absent}
use Rattle.command_rules.specs.Configurations.{Configured, Configures, configured, Grows, grown, bases_of, component_in, config_in, configuration_of, single_of, source_in, tree_in}
use Rattle.command_rules.specs.Forms.{Source, OfModule, OfConfig, config_file, module_file}
use Rattle.command_rules.specs.Modules.{module_in}
use Rattle.command_rules.specs.Passes.{Has, Trail, Pass, FromFile, held, Follows, went, given, each}
use Rattle.command_laws.proofs.Came.{Came}
use Rattle.command_sizes.specs.Grounds.{OfTrees}
use Rattle.command_sizes.proofs.Reading.{has_is}

-- ---- trees

named_so : (t : Tree) → PathsAndRecords t → TreeIsNamed t
named_so t h = record {
  paths = All-weaker (λ (x : TreeInstance). PathCanBeSpelled x.path) (λ (x : TreeInstance). IsNamedPath x.path)
      (λ x p. record { few = p.few; names = p.names }) t.instances h.paths;
  records = h.records;
}

-- a tree without a fault is one that was made
module _ (c : Config) (shapes : List Shape) (t : Tree) where
  was_made : IsTree c shapes (Ok t) → made (modules_with (components c) shapes) c.outermost ≡ Ok t
  unfolding IsTree
  was_made h = by (made (modules_with (components c) shapes) c.outermost) h
    where
      by : (a : Answer Tree) → MatchResult a (λ tree. Agreed (components c) shapes tree (Ok t)) (λ fault. Ok t ≡ Err fault) → a ≡ Ok t
      by (Err fault) k = absurd (err_ok fault t (sym k))
      by (Ok tree) (inl k) = sym k.1
      by (Ok tree) (inr k) = absurd (err_ok (At InterfaceDiffers k.1.place) t (sym k.4))

  tree_short : OfTrees → HasNames c → IsTree c shapes (Ok t) → TreeIsShort t
  tree_short law n h = law.short (modules_with (components c) shapes) c.outermost t (was_made h) (named_so t (law.spelled c shapes t n h))

single_is : (s : Shape) (t : Tree) → IsSingle s (Ok t) → t ≡ single_tree s
unfolding IsSingle
single_is s t (inl h) = ok_same t (single_tree s) h.1
single_is s t (inr h) = absurd (err_ok (At InterfaceDiffers first_place) t (sym h.1))

single_short : OfTrees → (s : Shape) (t : Tree) → IsName s.name → IsSingle s (Ok t) → TreeIsShort t
single_short law s t n h =
    let e = single_is s t h in
    subst TreeIsShort (sym e) (law.single_short s (subst TreeIsNamed e (named_so t (law.single_spelled s t n h))))

-- ---- passes

-- a module comes of the file of this base
abbrev pub IsFrom : Files → List ℕ → Module → Type 0
IsFrom files base m = Came (module_in (module_file base)) files (Has m)

pub record IsKnown (files : Files) (c : Configured) : Type 0 where
  pub modules : AllZip (IsFrom files) c.bases c.modules
  pub shapes : IsOfShapes (shapes_of c.modules) c.tree
  pub short : TreeIsShort c.tree

module _ (law : OfTrees) (files : Files) where
  grown_so : (file : List ℕ) (R : Answer Tree → Type 0) (t : Tree) → Grows file R (Has t) → R (Ok t)
  grown_so file R t (grown _ h) = h

  last_so : {A : Type 0} (p : Pass Case A) (t v : Tree) (u : Trail) → Follows p (λ _. given t) (Some files) u (Has v) → v ≡ t
  last_so p t v _ (went a b c _ first last) = has_is v t last.1

  tree_so : (file : List ℕ) (R : Answer Tree → Type 0) (u : Trail) (t : Tree) → (tree_in file R).comes (Some files) u (Has t) → R (Ok t)
  unfolding tree_in
  tree_so file R _ t (went a b v _ first rest) = subst (λ x. R (Ok x)) (sym (last_so _ v t b rest)) (grown_so file R v first.1)

  -- ---- one module alone

  module _ (base : List ℕ) (m : Module) (came : IsFrom files base m) (name : IsName m.name) where
    alone : Tree → Configured
    alone t = record { tree = t; bases = base ∷ []; modules = m ∷ [] }

    alone_known : (t : Tree) → IsSingle (shape_of m) (Ok t) → IsKnown files (alone t)
    unfolding alone
    alone_known t h = record { modules = (came, tt); shapes = law.single_shape (shape_of m) t h; short = single_short law (shape_of m) t name h }

    single_known : (u : Trail) (c : Configured) → (single_of base m).comes (Some files) u (Has c) → IsKnown files c
    unfolding single_of alone
    single_known _ c (went a b t _ first last) =
        subst (IsKnown files) (sym (has_is c (alone t) last.1)) (alone_known t (tree_so (module_file base) (IsSingle (shape_of m)) a t first))

  -- ---- a configuration

  module _ (x : Component) (xs : List Component) (m : Module) (came : IsFrom files x.file m) where
    more_from : (v : Trail) (ms : List Module)
        → ((k : Trail) (ns : List Module) → (each component_in xs).comes (Some files) k (Has ns) → AllZip (IsFrom files) (map (λ (y : Component). y.file) xs) ns)
        → Follows (each component_in xs) (λ ns. given (m ∷ ns)) (Some files) v (Has ms) → AllZip (IsFrom files) (x.file ∷ map (λ (y : Component). y.file) xs) ms
    more_from _ ms again (went k l ns _ more last) =
        subst (AllZip (IsFrom files) (x.file ∷ map (λ (y : Component). y.file) xs)) (sym (has_is ms (m ∷ ns) last.1)) (came, again k ns more)

  each_from : (xs : List Component) (u : Trail) (ms : List Module) → (each component_in xs).comes (Some files) u (Has ms)
      → AllZip (IsFrom files) (map (λ (x : Component). x.file) xs) ms
  unfolding each
  each_from [] u ms h = subst (AllZip (IsFrom files) []) (sym (has_is ms [] h.1)) tt
  each_from (x ∷ xs) _ ms (went a b m _ first rest) =
      more_from x xs m (record { trail = a; comes = first }) b ms (λ k ns more. each_from xs k ns more) rest

  module _ (c : Config) (names : HasNames c) where
    whole : (ms : List Module) → Tree → Configured
    whole ms t = record { tree = t; bases = bases_of c; modules = ms }

    as_many : (ms : List Module) → AllZip (IsFrom files) (bases_of c) ms → length (shapes_of ms) ≡ length (components c)
    as_many ms all = length-map ms shape_of ∙ AllZip-long (IsFrom files) (bases_of c) ms all ∙ length-map (components c) (λ (x : Component). x.file)

    whole_known : (ms : List Module) (t : Tree) → AllZip (IsFrom files) (bases_of c) ms → IsTree c (map shape_of ms) (Ok t) → IsKnown files (whole ms t)
    unfolding whole
    whole_known ms t all h = record { modules = all; shapes = law.shapes c (shapes_of ms) t (as_many ms all) h; short = tree_short c (shapes_of ms) t law names h }

    behind_known : (file : List ℕ) (ms : List Module) (u : Trail) (k : Configured) → AllZip (IsFrom files) (bases_of c) ms
        → Follows (tree_in file (IsTree c (map shape_of ms))) (λ t. given (whole ms t)) (Some files) u (Has k) → IsKnown files k
    behind_known file ms _ k all (went a b t _ first last) =
        subst (IsKnown files) (sym (has_is k (whole ms t) last.1)) (whole_known ms t all (tree_so file (IsTree c (map shape_of ms)) a t first))

    configuration_known : (file : List ℕ) (u : Trail) (k : Configured) → (configuration_of file c).comes (Some files) u (Has k) → IsKnown files k
    unfolding configuration_of whole
    configuration_known file _ k (went a b ms _ first rest) = behind_known file ms b k (each_from (components c) a ms first) rest

  configured_so : (file bytes : List ℕ) (c : Config) → Configures file bytes (Has c) → HasNames c
  configured_so file bytes _ (configured tokens x has parses none) = law.names bytes tokens x has parses

  config_named : (file : List ℕ) (u : Trail) (c : Config) → FromFile file (Absent file) (Configures file) (Some files) u (Has c) → HasNames c
  config_named file _ c (held bytes _ is h) = configured_so file bytes c h

  config_so : (file : List ℕ) (u : Trail) (c : Config) → (config_in file).comes (Some files) u (Has c) → HasNames c
  unfolding config_in
  config_so file u c h = config_named file u c h

  module _ (named : (base : List ℕ) (m : Module) → IsFrom files base m → IsName m.name) where
    pub known : (source : Source) (base : List ℕ) (u : Trail) (c : Configured) → (source_in source base).comes (Some files) u (Has c) → IsKnown files c
    unfolding source_in
    known OfModule base _ c (went a b m _ first rest) =
        let came : IsFrom files base m = record { trail = a; comes = first } in single_known base m came (named base m came) b c rest
    known OfConfig base _ c (went a b k _ first rest) = configuration_known k (config_so (config_file base) a k first) (config_file base) b c rest
