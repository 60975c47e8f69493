-- Each pass is exact.
use Rattle.std.proofs.Common.{ap, refl, ◌≡◌, ℕ, List, [], ◌∷◌, map, Option, Some, None}
use Rattle.syntax_trees.specs.PlainSyntax.{syntax}
use Rattle.mesa_types.specs.Typed.{Module}
use Rattle.interface_records.specs.Faces.{iodefs}
use Rattle.cmesa_grammar.specs.Syntax.{Config}
use Rattle.config_rules.specs.Components.{components}
use Rattle.config_rules.specs.Through as through
use Rattle.config_rules.specs.Tree.{IsTree, IsSingle}
use Rattle.config_rules.specs.declared.tree.Tree.{Tree}
use Rattle.command_rules.specs.bound_images.specs.Programs.{shape_of}
use Rattle.command_rules.specs.checked_texts.specs.Asked.{asks}
use Rattle.command_rules.specs.checked_texts.specs.declared.purpose.Purpose.{Purpose}
use Rattle.command_rules.specs.checked_texts.specs.declared.purpose.Purpose.TheVariants.{Program, Interface}
use Rattle.command_rules.specs.checked_texts.specs.Laws.{TextsBeginOnce, TextsHaveOneTree, ProgramsComeToOne, DefinitionsComeToOne}
use Rattle.depth_laws.specs.Laws.{DepthsDoNotMatter, SurveysAreOne}
use Rattle.include_rules.specs.Laws.{PlansComeOnce}
use Rattle.command_rules.specs.linked_programs.specs.Laws.{TreesAreOne, SinglesAreOne}
use Rattle.command_rules.specs.Binding.{object_of, objects_of, binding_of, bound_in}
use Rattle.object_rules.specs.ImageForms.{ImagePart}
use Rattle.loader_rules.specs.Laws.{LoadsAreAlike, LoadsComeOnce}
use Rattle.command_rules.specs.Case.{Absent, Refused}
use Rattle.command_rules.specs.declared.trouble.Trouble.TheVariants.{Load}
use Rattle.command_rules.specs.Configurations.{config_in, source_in, tree_in, single_of, bases_of, component_in, modules_of, configuration_of, Grows, Binds, Configures}
use Rattle.command_rules.specs.Forms.{Source, OfModule, OfConfig, module_file, config_file, interface_file, object_file, image_file}
use Rattle.command_rules.specs.Loading.{Joins, faulty_file, images_in, runnable_in}
use Rattle.command_rules.specs.Modules as m
use Rattle.command_rules.specs.Modules.{interface_for, interfaces_for, Begun, begun_for, module_in, interface_in, definitions_of, Checks, Defines, Decodes, Begins}
use Rattle.command_rules.specs.Objects.{HoldsObject, HoldsImage, object_in, image_in, shape_in}
use Rattle.command_rules.specs.Passes.{IsExact, Stops, decided, each}
use Rattle.command_rules.proofs.PassLaws.{One, decided_exact, given_exact, from_file_exact, and_then_exact, each_exact}
use Rattle.command_laws.specs.Laws.{PassesAreExact}
use Rattle.command_laws.proofs.Holding.{listing_exact, values_alike}
use Rattle.command_laws.proofs.Alike.{same_fault}
use Rattle.command_laws.proofs.Planning.{plan_exact}
use Rattle.command_laws.proofs.Surveying.{survey_exact}
use Rattle.command_laws.proofs.Parts.{decodes_one, object_one, image_one, begins_one, checks_one, defines_one, configures_one, grows_one, binds_one}

interface_exact : (asked : Option (List ℕ)) → IsExact (interface_for asked)
unfolding interface_for
interface_exact None = given_exact iodefs
interface_exact (Some base) = from_file_exact (interface_file base) (Absent (interface_file base)) (Decodes (interface_file base)) (decodes_one (interface_file base))

config_exact : (file : List ℕ) → IsExact (config_in file)
unfolding config_in
config_exact file = from_file_exact file (Absent file) (Configures file) (configures_one file)

tree_exact : (file : List ℕ) (is_tree : through.Answer Tree → Type 0) → ((a b : through.Answer Tree) → is_tree a → is_tree b → a ≡ b)
    → IsExact (tree_in file is_tree)
unfolding tree_in
tree_exact file is_tree one =
    and_then_exact (decided (Grows file is_tree)) _ (decided_exact (Grows file is_tree) (grows_one file is_tree one)) (λ t.
    and_then_exact (decided (Binds file t)) _ (decided_exact (Binds file t) (binds_one file t)) (λ _.
    given_exact t))

object_exact : (file : List ℕ) → IsExact (object_in file)
unfolding object_in
object_exact file = from_file_exact file (Absent file) (HoldsObject file) (object_one file)

image_exact : (file : List ℕ) → IsExact (image_in file)
unfolding image_in
image_exact file = from_file_exact file (Absent file) (HoldsImage file) (image_one file)

module _ (begin : TextsBeginOnce) (programs : ProgramsComeToOne) (definitions : DefinitionsComeToOne) (trees : TreesAreOne) (singles : SinglesAreOne)
    (parse : TextsHaveOneTree) (orders : PlansComeOnce) (depths : DepthsDoNotMatter) (surveys : SurveysAreOne) (loads : LoadsComeOnce) (alike : LoadsAreAlike) where
  begun_exact : (file : List ℕ) (purpose : Purpose) → IsExact (begun_for file purpose)
  begun_exact file purpose = from_file_exact file (Absent file) (Begins file purpose) (begins_one begin file purpose)

  interfaces_exact : (b : Begun) → IsExact (interfaces_for b)
  interfaces_exact b = each_exact interface_for interface_exact (asks (syntax b.1))

  program_exact : (file : List ℕ) (b : Begun) → IsExact (m.program_of file b)
  unfolding m.program_of
  program_exact file b =
      and_then_exact (interfaces_for b) _ (interfaces_exact b) (λ all. decided_exact (Checks file b.0 all) (checks_one programs file b.0 all))

  module_exact : (file : List ℕ) → IsExact (module_in file)
  unfolding module_in
  module_exact file = and_then_exact (begun_for file Program) (m.program_of file) (begun_exact file Program) (program_exact file)

  definition_exact : (file : List ℕ) (stamp : ℕ) (b : Begun) → IsExact (definitions_of file stamp b)
  unfolding definitions_of
  definition_exact file stamp b =
      and_then_exact (interfaces_for b) _ (interfaces_exact b) (λ all. decided_exact (Defines file stamp b.0 all) (defines_one definitions file stamp b.0 all))

  interface_in_exact : (file : List ℕ) (stamp : ℕ) → IsExact (interface_in file stamp)
  unfolding interface_in
  interface_in_exact file stamp =
      and_then_exact (begun_for file (Interface stamp)) (definitions_of file stamp) (begun_exact file (Interface stamp)) (definition_exact file stamp)

  configured_exact : (file : List ℕ) (k : Config) → IsExact (configuration_of file k)
  unfolding configuration_of
  configured_exact file k =
      and_then_exact (modules_of k) _ (each_exact component_in (λ x. module_exact (module_file x.file)) (components k)) (λ modules.
      and_then_exact (tree_in file (IsTree k (map shape_of modules))) _ (tree_exact file (IsTree k (map shape_of modules)) (trees k (map shape_of modules))) (λ t.
      given_exact (record { tree = t; bases = bases_of k; modules = modules })))

  single_exact : (base : List ℕ) (x : Module) → IsExact (single_of base x)
  unfolding single_of
  single_exact base x =
      and_then_exact (tree_in (module_file base) (IsSingle (shape_of x))) _ (tree_exact (module_file base) (IsSingle (shape_of x)) (singles (shape_of x))) (λ t.
      given_exact (record { tree = t; bases = base ∷ []; modules = x ∷ [] }))

  source_exact : (source : Source) (base : List ℕ) → IsExact (source_in source base)
  unfolding source_in
  source_exact OfModule base = and_then_exact (module_in (module_file base)) (single_of base) (module_exact (module_file base)) (single_exact base)
  source_exact OfConfig base =
      and_then_exact (config_in (config_file base)) (configuration_of (config_file base)) (config_exact (config_file base)) (configured_exact (config_file base))

  binding_exact : (file : List ℕ) (k : Config) → IsExact (binding_of file k)
  unfolding binding_of
  binding_exact file k =
      and_then_exact (objects_of k) _ (each_exact object_of (λ x. object_exact (object_file x.file)) (components k)) (λ parts.
      and_then_exact (tree_in file (IsTree k (map shape_in parts))) _ (tree_exact file (IsTree k (map shape_in parts)) (trees k (map shape_in parts))) (λ t.
      given_exact (record { tree = t; parts = parts })))

  -- several images are loaded as one, or have one first fault, and never both
  joins_one : (bases : List (List ℕ)) (parts : List ImagePart) → One (Joins bases parts)
  joins_one bases _ o r (Joins.alone p) (Joins.alone _) = refl
  joins_one bases _ o r (Joins.joined p q parts xs image a l) (Joins.joined _ _ _ ys other b m) = refl
  joins_one bases _ o r (Joins.joined p q parts xs image a l) (Joins.not_joined _ _ _ ys why b f) =
      absurd (loads.not_both xs image why l (same_fault alike (p ∷ q ∷ parts) ys xs b a why f))
  joins_one bases _ o r (Joins.not_joined p q parts xs why a f) (Joins.joined _ _ _ ys image b m) =
      absurd (loads.not_both ys image why m (same_fault alike (p ∷ q ∷ parts) xs ys a b why f))
  joins_one bases _ o r (Joins.not_joined p q parts xs why a f) (Joins.not_joined _ _ _ ys other b g) =
      ap (λ w. Stops (Refused (faulty_file bases w) (Load w))) (loads.one_fault ys why other (same_fault alike (p ∷ q ∷ parts) xs ys a b why f) g)

  runnable_exact : (bases : List (List ℕ)) → IsExact (runnable_in bases)
  unfolding runnable_in images_in
  runnable_exact bases =
      and_then_exact (each (λ base. image_in (image_file base)) bases) (λ parts. decided (Joins bases parts))
      (each_exact (λ base. image_in (image_file base)) (λ base. image_exact (image_file base)) bases)
      (λ parts. decided_exact (Joins bases parts) (joins_one bases parts))

  bound_exact : (base : List ℕ) → IsExact (bound_in base)
  unfolding bound_in
  bound_exact base =
      and_then_exact (config_in (config_file base)) (binding_of (config_file base)) (config_exact (config_file base)) (binding_exact (config_file base))

  pub passes_are_exact : PassesAreExact
  passes_are_exact = record {
    interfaces = interface_exact;
    modules = module_exact;
    definitions = interface_in_exact;
    configurations = config_exact;
    objects = object_exact;
    images = image_exact;
    bound = bound_exact;
    sources = source_exact;
    listings = listing_exact;
    plans = plan_exact parse orders;
    surveys = survey_exact depths surveys;
    runs = runnable_exact;
    values = values_alike;
  }
