use Rattle.std.proofs.Common.{ap, ◌∙◌}
use Rattle.file_forms.specs.Names.{name}
use Rattle.file_forms.specs.Written.{appended}
use Rattle.object_writers.specs.CodeBytes.{code_bytes, phrase_bytes}
use Rattle.object_writers.specs.Spelling.{spell_list, u16_bytes, u32_bytes}
use Rattle.object_writers.proofs.Chains.{of_last, then_seven}
use Rattle.object_writers.proofs.procedures.CodeProcedurePut.put.Goals as goal

pub returns : goal.returns
returns c =
    let p = c.args.self.now in
    then_seven c.put_list.result c.args.out.now c.name.new.self c.u16.new.self c.u16-2.new.self c.u16-3.new.self c.u32.new.self c.put_code.new.out c.put_list.new.out
    (name.spell p.name) (u16_bytes p.args) (u16_bytes p.results) (u16_bytes p.frame) (u32_bytes p.depth) (code_bytes p.code) (spell_list phrase_bytes p.phrases)
    c.in_ok-name.ensures c.in_ok-u16.ensures c.in_ok-u16-2.ensures c.in_ok-u16-3.ensures c.in_ok-u32.ensures
    (c.in_ok-put_code.ensures ∙ ap (λ code. appended c.u32.new.self (code_bytes code)) c.as_slice.ensures)
    (of_last c.put_list.result phrase_bytes c.put_code.new.out c.put_list.new.out c.as_slice-2.result.now p.phrases c.as_slice-2.ensures c.put_list.ensures)
