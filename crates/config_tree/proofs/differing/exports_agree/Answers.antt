use Rattle.std.proofs.Common.{true}
use Rattle.mesa_types.specs.declared.faces.Export.{Export}
use Rattle.config_tree.proofs.Noting.{one_noted, one_refused, all_noted}
use Rattle.config_tree.proofs.differing.exports_agree.Goals as goal

pub returns-then-not-branch : goal.returns-then-not-branch
returns-then-not-branch c =
    one_refused (λ (x : Export). x.face) c.args.seen.now.entries c.loop-export.seen.entries c.args.exports.now c.loop-export.export-index c.agrees.new.seen.entries c.export-item.result c.export-item.result
    c.in_ok-agrees.field-0 c.if-not-branch.true c.loop-export-test.true c.export-item.is c.loop-export.invariant c.in_ok-agrees.ensures

pub loop-export-preserved : goal.loop-export-preserved
loop-export-preserved c =
    one_noted (λ (x : Export). x.face) c.args.seen.now.entries c.loop-export.seen.entries c.args.exports.now c.loop-export.export-index c.agrees.new.seen.entries c.export-item.result c.export-item.result
    c.in_ok-agrees.field-0 true c.if-not-branch.false c.loop-export-test.true c.export-item.is c.loop-export.invariant c.in_ok-agrees.ensures

pub returns : goal.returns
returns c = all_noted (λ (x : Export). x.face) c.args.seen.now.entries c.loop-export.seen.entries c.args.exports.now c.loop-export.export-index c.loop-export-test.false c.loop-export.invariant
