use Rattle.std.proofs.Common.{List, flat_map}
use Rattle.code_forms.specs.declared.module_code.ModuleCode.{ModuleCode}
use Rattle.mesa_types.specs.declared.faces.Export.{Export}
use Rattle.mesa_types.specs.declared.faces.Import.{Import}
use Rattle.listing_rules.specs.Code.{code_lines}
use Rattle.listing_rules.specs.Objects.{object_line, import_lines, export_lines}
use Rattle.listing_writers.proofs.Chains.{then_four, of_value, of_last}
use Rattle.listing_writers.proofs.objects.ObjectListed.put.Goals as goal

pub returns : goal.returns
returns c =
    let o = c.args.self.now in
    then_four c.put_each-2.result c.args.out.now c.put_head.new.out c.put_each.new.out c.put_code.new.out c.put_each-2.new.out
    (object_line o.shape.name) (flat_map import_lines o.shape.imports) (code_lines o.code) (flat_map export_lines o.shape.exports)
    c.in_ok-put_head.ensures
    (of_value (λ (xs : List Import). flat_map import_lines xs) c.put_head.new.out c.put_each.new.out c.as_slice.result.now o.shape.imports c.as_slice.ensures c.in_ok-put_each.ensures)
    (of_value (λ (m : ModuleCode). code_lines m) c.put_each.new.out c.put_code.new.out c.code.result.now o.code c.code.ensures.same c.in_ok-put_code.ensures)
    (of_last c.put_each-2.result (λ (xs : List Export). flat_map export_lines xs) c.put_code.new.out c.put_each-2.new.out c.as_slice-2.result.now o.shape.exports c.as_slice-2.ensures c.put_each-2.ensures)
