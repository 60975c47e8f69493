use Rattle.std.proofs.Common.{◌≡◌, ◌++◌, map, take}
use Rattle.link_tables.specs.Gathered.{offer_by}
use Rattle.link_tables.proofs.offers.put_exporters.Given as goal

abbrev pub invariant-loop-exporter : goal.invariant-loop-exporter
invariant-loop-exporter l = l.offers ≡ l.initial.offers ++ map (offer_by l.record_name) (take l.exporter-index l.exporters)
