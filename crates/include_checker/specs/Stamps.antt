-- The stamp of an interface of a name.
use Rattle.std.specs.Prelude.{ℕ, List, bytes_eq, Option, None, Some, if◌then◌else◌}
use Rattle.include_rules.specs.Stale.{Faced, OfInterface, OfObject}

-- where a file is one
abbrev pub stamp_under : Faced → (name : List ℕ) → Option ℕ
stamp_under (OfInterface f) name = if bytes_eq f.name name then Some f.stamp else None
stamp_under (OfObject text fs) name = None
