use Rattle.std.proofs.Common.{Some, ap, sym, ◌∙◌}
use Rattle.std.proofs.lemmas.Option.{slice_get_within, get_or_from_slice_get}
use Rattle.machine_signals.proofs.InImage.{has_code, procedure_read}
use Rattle.machine_signals.proofs.lookups.procedure_at.Goals as goal

pub code_of-code-requires : goal.code_of-code-requires
code_of-code-requires c = has_code c.args.image.now c.args.instance c.args.number c.requires

pub bounds-as_slice-number : goal.bounds-as_slice-number
bounds-as_slice-number c =
    let p = procedure_read c.args.image.now c.args.instance c.args.number c.code_of-code.result.now c.as_slice.result.now c.requires c.code_of-code.ensures c.as_slice.ensures in
    slice_get_within c.as_slice.result.now c.args.number p.0 p.1

pub returns : goal.returns
returns c =
    let p = procedure_read c.args.image.now c.args.instance c.args.number c.code_of-code.result.now c.as_slice.result.now c.requires c.code_of-code.ensures c.as_slice.ensures in
    p.2 ∙ ap Some (sym (c.index-as_slice-number.is ∙ get_or_from_slice_get c.as_slice.result.now c.args.number p.0 c.index-as_slice-number.result p.1))
