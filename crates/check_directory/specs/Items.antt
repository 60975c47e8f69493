-- One item of a DIRECTORY.
use Rattle.std.specs.Prelude.{ℕ, List, None, bytes_eq, not}
use Rattle.syntax_trees.specs.declared.syntax.DirectoryItem.{DirectoryItem}
use Rattle.check_scopes.specs.Scopes.{has}
use Rattle.check_rules.specs.Directory.{entries, first_entry, using}
use Rattle.interface_records.specs.PlainTypes.{PlainInterface}
use Rattle.check_rules.specs.Steps.{Checked, and_then, only}
use Rattle.check_rules.specs.declared.fault.Cause.TheVariants.{UnknownName, TwiceDeclared}

-- it has its interface's name, which none before it has, and names what is in it
abbrev pub fits : List (List ℕ) → DirectoryItem → PlainInterface → Checked (Unit {0})
fits before d i =
    and_then (only (bytes_eq d.name.name i.name) UnknownName d.name.place) (λ _.
    and_then (only (not (has d.name.name before)) TwiceDeclared d.name.place) (λ _.
    using (first_entry (entries None i)) d.used))
