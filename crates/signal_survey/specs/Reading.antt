-- How an instance reads the links of labels.
use Rattle.std.specs.Prelude.{ℕ, List}
use Rattle.code_forms.specs.declared.module_code.CodeLink.{CodeLink}
use Rattle.object_files.specs.declared.image.Link.{Link}
use Rattle.signaller.specs.declared.search.Links.{Links}
use Rattle.machine_rules.specs.LookUps.{signals_bound}

-- by its module's links and what they are bound to
abbrev pub reads : (instance : ℕ) → List CodeLink → List Link → Links
reads instance links table = record { instance = instance; signals = signals_bound links table }
