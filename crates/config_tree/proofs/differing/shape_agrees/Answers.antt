use Rattle.std.proofs.Common.{map, ap}
use Rattle.mesa_types.specs.declared.faces.Export.{Export}
use Rattle.mesa_types.specs.declared.faces.Import.{Import}
use Rattle.config_tree.proofs.NotedShapes.{both_noted, first_refused}
use Rattle.config_tree.proofs.differing.shape_agrees.Goals as goal

pub returns-in_ok-exports_agree : goal.returns-in_ok-exports_agree
returns-in_ok-exports_agree c =
    let s = c.args.shape.now in
    both_noted c.args.seen.now.entries c.imports_agree.new.seen.entries c.exports_agree.new.seen.entries (map (λ (m : Import). m.face) c.as_slice.result.now)
    (map (λ (x : Export). x.face) c.as_slice-then-branch.result.now) (map (λ (m : Import). m.face) s.imports) (map (λ (x : Export). x.face) s.exports) c.in_ok-imports_agree.field-0
    c.in_ok-exports_agree.field-0 (ap (λ l. map (λ (m : Import). m.face) l) c.as_slice.ensures) (ap (λ l. map (λ (x : Export). x.face) l) c.as_slice-then-branch.ensures) c.if-branch.true
    c.in_ok-imports_agree.ensures c.in_ok-exports_agree.ensures

pub returns-else-branch : goal.returns-else-branch
returns-else-branch c =
    let s = c.args.shape.now in
    first_refused c.args.seen.now.entries c.imports_agree.new.seen.entries c.imports_agree.new.seen.entries (map (λ (m : Import). m.face) c.as_slice.result.now)
    (map (λ (m : Import). m.face) s.imports) (map (λ (x : Export). x.face) s.exports) c.in_ok-imports_agree.field-0 (ap (λ l. map (λ (m : Import). m.face) l) c.as_slice.ensures)
    c.if-branch.false c.in_ok-imports_agree.ensures
