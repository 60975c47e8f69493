-- The list under the record has one exporter more.
use Rattle.std.proofs.Common.{◌≡◌, [], ◌++◌, List, ℕ, Some, bytes_eq, sym, ap, ◌∙◌, rules}
use Rattle.std.specs.Map.{update}
use Rattle.check_scopes.specs.Scopes.{with_name}
use Rattle.check_scopes.specs.Shows.{listed, indexed}
use Rattle.check_scopes.proofs.Indexes.{indexed-updated}
use Rattle.config_rules.specs.declared.tree.Exporter.{Exporter}
use Rattle.link_tables.specs.Gathered.{taken, TakesIn}
use Rattle.link_tables.proofs.Gathering.{list_in, taking, on_ok}
use Rattle.link_tables.proofs.offers.note.Goals as goal

pub returns-in-Some : goal.returns-in-Some
unfolding listed indexed
returns-in-Some c = λ r.
    let old = c.args.index.now.index in
    let new = c.get_mut.follows.lender c.push.new.self in
    let es = c.in-Some.exporters.now in
    let key = c.in_ok-key.key in
    taking (indexed old) (indexed new) key.items c.args.exporter es (ap list_in (sym c.in-Some.ensures.value))
    (indexed-updated key old new (Some c.push.new.self) ((c.get_mut.follows.holds c.push.new.self).3 (search rules))
    ∙ ap (λ (l : List Exporter). update bytes_eq (indexed old) key.items (Some l)) c.in_ok-push.ensures.ok) r
    ∙ ap (λ (n : List ℕ). list_in (indexed old r) ++ taken (bytes_eq r n) c.args.exporter) (c.in_ok-key.ensures.items ∙ c.bytes.ensures)

pub returns : goal.returns
unfolding listed indexed
returns c =
    on_ok c.declare.result _ (TakesIn c.args.index.now c.declare.new.self c.args.record_name.now c.args.exporter)
    (λ h r.
    let old = c.args.index.now.index in
    let none : [] ≡ list_in (indexed old c.in_ok-key.key.items) = ap list_in c.in_default.ensures.value in
    taking (indexed old) (listed c.declare.new.self) c.args.record_name.now c.args.exporter []
    (ap (λ (n : List ℕ). list_in (indexed old n)) (sym (c.in_ok-key.ensures.items ∙ c.bytes.ensures)) ∙ sym none)
    (h ∙ (λ j. with_name (c.bytes-2.ensures j) (c.in_ok-of.ensures j) (indexed (c.get_mut.follows.holds-at-none j)))) r)
    c.declare.ensures.ok
