-- The laws of the crates below that these laws stand on.
use Rattle.command_rules.specs.checked_texts.specs.Laws.{ReadModulesCanBeKept, TextsBeginOnce}
use Rattle.spelled_laws.specs.Laws.{BuiltInFits, InterfacesFit}
use Rattle.spelled_trees.specs.Laws.{ParsedNamesAreNames, SinglesCanBeSpelled, TreesCanBeSpelled}
use Rattle.command_rules.specs.linked_programs.specs.Laws.{SinglesAreOfTheirShape, TreesAreOfTheirShapes}
use Rattle.file_sizes.specs.Laws.{ImagesAreSized, ObjectsAreSized}
use Rattle.object_sizes.specs.Laws.{InstancesAreShort, ObjectsAreShort}
use Rattle.image_sizes.specs.Laws.{LinkedImagesAreShort}
use Rattle.tree_sizes.specs.Laws.{MadeTreesAreShort, SinglesAreShort}
use Rattle.command_laws.specs.Laws.{PassesAreExact}

-- of texts and of the interfaces that are read for them
pub record OfTexts : Type 0 where
  pub begin : TextsBeginOnce
  pub kept : ReadModulesCanBeKept
  pub fit : InterfacesFit
  pub built_in : BuiltInFits

-- of configurations and their trees
pub record OfTrees : Type 0 where
  pub names : ParsedNamesAreNames
  pub spelled : TreesCanBeSpelled
  pub single_spelled : SinglesCanBeSpelled
  pub shapes : TreesAreOfTheirShapes
  pub single_shape : SinglesAreOfTheirShape
  pub short : MadeTreesAreShort
  pub single_short : SinglesAreShort

-- of the sizes of objects and images
pub record OfSizes : Type 0 where
  pub objects : ObjectsAreSized
  pub images : ImagesAreSized
  pub short_objects : ObjectsAreShort
  pub short_instances : InstancesAreShort
  pub short_images : LinkedImagesAreShort

pub record Grounds : Type 0 where
  pub texts : OfTexts
  pub trees : OfTrees
  pub sizes : OfSizes
  pub exact : PassesAreExact
