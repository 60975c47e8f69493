-- Each turn moves one name; in the end none is left.
use Rattle.std.proofs.Common.{sym, ◌∙◌}
use Rattle.check_scopes.specs.Shows.{listed, indexed}
use Rattle.check_scopes.proofs.Indexes.{indexed-moved, indexed-empty, none_left}
use Rattle.check_scopes.proofs.index.Index.declare_all.Goals as goal

pub loop-name-preserved-in_ok-insert : goal.loop-name-preserved-in_ok-insert
loop-name-preserved-in_ok-insert g c =
    indexed-moved c.in-Some.name c.loop-name.rest c.pop_first.new.self c.loop-name.self.index c.insert.new.self c.in-Some.meaning
    c.in-Some.ensures.value c.in-Some.ensures.updates c.in_ok-insert.ensures.updates
    ∙ c.loop-name.invariant

pub loop-name-preserved : goal.loop-name-preserved
loop-name-preserved g c =
    indexed-moved c.in-Some.name c.loop-name.rest c.pop_first.new.self c.loop-name.self.index c.insert.new.self c.in-Some.meaning
    c.in-Some.ensures.value c.in-Some.ensures.updates c.in_ok-insert.ensures.updates
    ∙ c.loop-name.invariant

pub returns : goal.returns
unfolding listed
returns g c =
    sym (indexed-empty c.loop-name.rest (indexed c.loop-name.self.index) (none_left c.loop-name.rest.entries c.in_default.ensures.variant.1))
    ∙ c.loop-name.invariant
