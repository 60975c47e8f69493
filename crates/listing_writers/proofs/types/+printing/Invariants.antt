use Rattle.std.proofs.Common.{◌≡◌, ◌++◌, map, take}
use Rattle.std.specs.Prelude.{codes}
use Rattle.listing_rules.specs.Lines.{between}
use Rattle.listing_rules.specs.Types.{field_text}
use Rattle.listing_writers.proofs.types.+printing.Given as goal

abbrev pub invariant-put_fields-fields : goal.invariant-put_fields-fields
invariant-put_fields-fields l = l.out ≡ l.initial.out ++ between (codes ", ") (map field_text (take l.i l.fields))
