use Rattle.std.proofs.Common.{◌≡◌, ◌+◌, ◌++◌, drop}
use Rattle.code_trees.specs.LinkTables.{count_links, tables_from}
use Rattle.code_trees.proofs.links.Links.new.Given as goal

abbrev pub invariant-loop-import : goal.invariant-loop-import
invariant-loop-import l =
    (l.tables ++ tables_from l.links (drop l.import-index l.imports) ≡ tables_from 0 l.imports)
    × (l.links + count_links (drop l.import-index l.imports) ≡ count_links l.imports)
