use Rattle.std.proofs.Common.{ap, ◌∙◌}
use Rattle.code_forms.specs.declared.module_code.ModuleCode.{ModuleCode}
use Rattle.file_forms.specs.Names.{name}
use Rattle.file_forms.specs.Written.{appended}
use Rattle.object_writers.specs.CodeBytes.{signal_bytes, text_bytes, procedure_bytes}
use Rattle.object_writers.specs.ObjectBytes.{import_bytes, export_bytes}
use Rattle.object_writers.specs.Spelling.{spell_list, u16_bytes}
use Rattle.object_writers.proofs.Chains.{of_list, of_last, then_seven}
use Rattle.object_writers.proofs.modules.ObjectPut.put.Goals as goal

pub returns : goal.returns
returns c =
    let o = c.args.self.now in
    let same = c.code-code.ensures.same in
    then_seven c.put_list-5.result c.args.out.now c.name.new.self c.put_list.new.out c.u16.new.self c.put_list-2.new.out c.put_list-3.new.out c.put_list-4.new.out c.put_list-5.new.out
    (name.spell o.shape.name) (spell_list import_bytes o.shape.imports) (u16_bytes o.code.global_words) (spell_list signal_bytes o.code.signals)
    (spell_list text_bytes o.code.strings) (spell_list procedure_bytes o.code.procedures) (spell_list export_bytes o.shape.exports)
    c.in_ok-name.ensures
    (of_list import_bytes c.name.new.self c.put_list.new.out c.as_slice.result.now o.shape.imports c.as_slice.ensures c.in_ok-put_list.ensures)
    (c.in_ok-u16.ensures ∙ ap (λ (m : ModuleCode). appended c.put_list.new.out (u16_bytes m.global_words)) same)
    (of_list signal_bytes c.u16.new.self c.put_list-2.new.out c.as_slice-2.result.now o.code.signals (c.as_slice-2.ensures ∙ ap (λ (m : ModuleCode). m.signals) same) c.in_ok-put_list-2.ensures)
    (of_list text_bytes c.put_list-2.new.out c.put_list-3.new.out c.as_slice-3.result.now o.code.strings (c.as_slice-3.ensures ∙ ap (λ (m : ModuleCode). m.strings) same) c.in_ok-put_list-3.ensures)
    (of_list procedure_bytes c.put_list-3.new.out c.put_list-4.new.out c.as_slice-4.result.now o.code.procedures (c.as_slice-4.ensures ∙ ap (λ (m : ModuleCode). m.procedures) same) c.in_ok-put_list-4.ensures)
    (of_last c.put_list-5.result export_bytes c.put_list-4.new.out c.put_list-5.new.out c.as_slice-5.result.now o.shape.exports c.as_slice-5.ensures c.put_list-5.ensures)
