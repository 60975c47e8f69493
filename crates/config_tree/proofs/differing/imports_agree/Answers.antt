use Rattle.std.proofs.Common.{true}
use Rattle.mesa_types.specs.declared.faces.Import.{Import}
use Rattle.config_tree.proofs.Noting.{one_noted, one_refused, all_noted}
use Rattle.config_tree.proofs.differing.imports_agree.Goals as goal

pub returns-then-not-branch : goal.returns-then-not-branch
returns-then-not-branch c =
    one_refused (λ (m : Import). m.face) c.args.seen.now.entries c.loop-import.seen.entries c.args.imports.now c.loop-import.import-index c.agrees.new.seen.entries c.import-item.result c.import-item.result
    c.in_ok-agrees.field-0 c.if-not-branch.true c.loop-import-test.true c.import-item.is c.loop-import.invariant c.in_ok-agrees.ensures

pub loop-import-preserved : goal.loop-import-preserved
loop-import-preserved c =
    one_noted (λ (m : Import). m.face) c.args.seen.now.entries c.loop-import.seen.entries c.args.imports.now c.loop-import.import-index c.agrees.new.seen.entries c.import-item.result c.import-item.result
    c.in_ok-agrees.field-0 true c.if-not-branch.false c.loop-import-test.true c.import-item.is c.loop-import.invariant c.in_ok-agrees.ensures

pub returns : goal.returns
returns c = all_noted (λ (m : Import). m.face) c.args.seen.now.entries c.loop-import.seen.entries c.args.imports.now c.loop-import.import-index c.loop-import-test.false c.loop-import.invariant
