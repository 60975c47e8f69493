-- The types of version 2 are those of version 1 and more, so what fits in either version fits in version 2.
use Rattle.object_rules.proofs.Versions.{module_grows}
use Rattle.linked_objects.specs.Laws.{VersionsFitTheSecond}

pub versions_fit_the_second : VersionsFitTheSecond
versions_fit_the_second version m h = (module_grows version).fits m h
